use mathlib.Core.Path.{◌≡◌, ap, ◌∙◌}
use Prim.Native.Nat.{ℕ}
use native.Mathlib.Omega.{arith}
use Rattle.paging.specs.Layout.{tables64, get}
use Rattle.tables.specs.State.{machine64, shadow_of}
use Rattle.tables.specs.Steps.{settled_at, spot}
use Rattle.tables.proofs.Names.{bounds}
use Rattle.tables.proofs.Fills.{agreeing-named, settle-end, settle-on, settle-cut}
use Rattle.tables.proofs.settle.Goals as goal

pub returns-in_default : goal.returns-in_default
returns-in_default c =
    let a = c.args in
    let l = c.loop-missing in
    settle-cut (machine64 a.m.sizes) a.words.now a.page l.missing l.table l.frame (shadow_of l.pool l.records) (omega arith)
    (c.entry_at-h.ensures ∙ ap (get tables64 l.pool l.table) c.index_of-i.ensures) c.guest_entry-e.ensures c.in_default.ensures
    c.index_of-i.ensures c.cut_entry.ensures
    ∙ l.invariant.1

pub loop-missing-preserved : goal.loop-missing-preserved
loop-missing-preserved c =
    let a = c.args in
    let l = c.loop-missing in (
      record {
        missing = omega arith;
        table = agreeing-named (machine64 a.m.sizes) l.records c.entry_at-h.result c.guest_entry-e.result c.in-Some.u c.in-Some.ensures;
        frame = grind (arith, bounds);
      },
      settle-on (machine64 a.m.sizes) a.words.now a.page l.missing l.table l.frame (shadow_of l.pool l.records) (omega arith)
          (c.entry_at-h.ensures ∙ ap (get tables64 l.pool l.table) c.index_of-i.ensures) c.guest_entry-e.ensures c.in-Some.ensures
          c.frame_of.ensures
          ∙ l.invariant.1,
    )

pub returns : goal.returns
returns c =
    let a = c.args in
    let l = c.loop-missing in
    let done : 0 ≡ l.missing = omega arith in
    ap (λ (m : ℕ). settled_at (spot m l.table l.frame) (shadow_of l.pool l.records)) done
    ∙ settle-end (machine64 a.m.sizes) a.words.now a.page l.missing l.table l.frame (shadow_of l.pool l.records) (omega arith)
    ∙ l.invariant.1
