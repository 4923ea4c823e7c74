use mathlib.Core.Path.{◌≡◌, refl, ap, ◌∙◌}
use Prim.Native.Nat.{◌-◌}
use native.Mathlib.Omega.{arith}
use Rattle.tables.specs.declared.Path.{Path}
use Rattle.tables.specs.State.{machine64, down, next_entry}
use Rattle.tables.proofs.Names.{bounds}
use Rattle.tables.proofs.Paths.{descend-on, descend-end}
use Rattle.tables.proofs.path_to.Goals as goal
use Rattle.tables.proofs.path_to.Goals.{After-step_down-w}

-- the next path is one level down by its entry
lower : (c : After-step_down-w)
    → c.step_down-w.result ≡ down (machine64 c.args.m.sizes) c.loop-l.w (next_entry (machine64 c.args.m.sizes) c.args.pool.now c.args.page c.loop-l.w)
lower c = let l : c.loop-l.l ≡ c.loop-l.w.level = omega arith in cc

pub loop-l-preserved : goal.loop-l-preserved
loop-l-preserved c =
    let a = c.args in
    let M = machine64 a.m.sizes in
    let w = c.loop-l.w in
    let h = next_entry M a.pool.now a.page w in
    let e = lower (goal.at.loop-l-preserved c).After-step_down-w in
    let l = ap (λ (x : Path). x.level) e in (
      omega (arith, l),
      grind (arith, bounds),
      descend-on M a.pool.now a.page (w.level - a.level) (c.step_down-w.result.level - a.level) w (omega (arith, l)) e ∙ c.loop-l.invariant.2,
    )

pub returns : goal.returns
returns c =
    let a = c.args in
    let w = c.loop-l.w in
    descend-end (machine64 a.m.sizes) a.pool.now a.page (w.level - a.level) w (omega arith) ∙ c.loop-l.invariant.2

pub returns-2 : goal.returns-2
returns-2 c =
    let a = c.args in
    let M = machine64 a.m.sizes in
    let w = c.loop-l.w in
    let e = lower (goal.at.returns-2 c).After-step_down-w in
    let l = ap (λ (x : Path). x.level) e in
    descend-end M a.pool.now a.page 0 _ refl
    ∙ descend-on M a.pool.now a.page (w.level - a.level) 0 w (omega (arith, l)) e ∙ c.loop-l.invariant.2
