use Rattle.std.proofs.Common.{rules, Ok, Err}
use mathlib.Core.Path.{◌≡◌, sym, ap, ap₂, ◌∙◌}
use mathlib.Core.List.{List}
use Prim.Native.Nat.{ℕ, ◌-◌}
use native.Mathlib.Omega.{arith}
use Rattle.paging.specs.Walk.{Step}
use Rattle.paging.specs.declared.Walk.{Walk}
use Rattle.paging.specs.declared.Stop.{Stop}
use Rattle.paging.specs.declared.Stop.TheVariants.{Absent, Beyond, Complete}
use Rattle.paging.specs.Layout.{tables64, get, put, index, with_a}
use Rattle.paging.proofs.Indices.{index_small}
use Rattle.paging.proofs.Steps.{Goes, goes, completed}
use Rattle.guest.specs.GuestWalk.{guest_walk, by_step, walk_from, walk_guest}
use Rattle.guest.proofs.Walks.{walk_step, walk_end}
use Rattle.guest.proofs.walk_guest.Goals as goal
use Rattle.guest.proofs.walk_guest.Goals.{After-step}

-- the walk stands at the level of this turn
level_is : (c : After-step) → c.loop-level.level - 1 ≡ c.loop-level.w.level
level_is c = omega (arith, c.loop-level.invariant.0)

-- the word that is read is the entry that the walk has come to
at_entry : (c : After-step) → let l = c.loop-level in
    c.entry_at-e.result ≡ get tables64 l.words l.w.frame.0 (index tables64 c.args.page l.w.level)
at_entry c = c.entry_at-e.ensures ∙ ap (get tables64 c.loop-level.words c.loop-level.w.frame.0) (c.index_of-i.ensures ∙ ap (index tables64 c.args.page) (level_is c))

-- where the walk goes on to
gone : (c : After-step) (w' : Walk) → c.step.result ≡ Ok w'
    → Goes tables64 c.args.frames c.loop-level.w c.entry_at-e.result w'
gone c w' q = goes tables64 c.args.frames c.loop-level.w c.entry_at-e.result w' (sym c.step.ensures ∙ q)

-- the walk ends at its entry
ended : (c : After-step) (r : Step) → c.step.result ≡ r → let l = c.loop-level in let a = c.args in
    by_step l.words l.last l.w (λ w'. walk_from tables64 a.frames a.page (l.w.level - 1) (put tables64 l.words l.w.frame.0 (index tables64 a.page l.w.level) (with_a c.entry_at-e.result)) l.w.frame w') r
    ≡ walk_guest tables64 a.frames a.page a.words.now a.cr3
ended c r q =
    let a = c.args in
    let l = c.loop-level in
    walk_step tables64 a.frames a.page l.words l.last l.w l.w.level (l.w.level - 1) (omega (arith, l.invariant.0, c.loop-level-test.true)) (at_entry c) (sym c.step.ensures ∙ q)
    ∙ l.invariant.4

pub entry_at-e-requires : goal.entry_at-e-requires
entry_at-e-requires c = let l = c.loop-level in (l.invariant.2, omega (arith, c.index_of-i.ensures, index_small tables64 c.args.page (l.level - 1)))

-- at a level above 0 a walk is not complete
pub returns-in_err-next : goal.returns-in_err-next
returns-in_err-next c =
    let here = (goal.at.returns-in_err-next c).After-step in
    let q : c.from_residual.result ≡ Err c.in_err-next.field-0.0 = search rules in
    ap (guest_walk c.loop-level.words) q ∙ stopped here c.in_err-next.field-0.0 c.in_err-next.was
  where
    stopped : (c : After-step) (s : Stop) → c.step.result ≡ Err s → guest_walk c.loop-level.words (Err s) ≡ walk_guest tables64 c.args.frames c.args.page c.args.words.now c.args.cr3
    stopped c Absent q = ended c (Err Absent) q
    stopped c Beyond q = ended c (Err Beyond) q
    stopped c Complete q = absurd (omega (arith, completed tables64 c.args.frames c.loop-level.w c.entry_at-e.result (sym c.step.ensures ∙ q), c.loop-level.invariant.0, c.loop-level-test.true))

pub write_entry-requires : goal.write_entry-requires
write_entry-requires c = let l = c.loop-level in (l.invariant.2, omega (arith, c.index_of-i.ensures, index_small tables64 c.args.page (l.level - 1)))

pub loop-level-preserved : goal.loop-level-preserved
loop-level-preserved c =
    let here = (goal.at.loop-level-preserved c).After-step in
    let q = c.in_ok-next.was in
    let a = c.args in
    let l = c.loop-level in
    let w' = c.in_ok-next.next in
    let g = gone here w' q in
    let level = ap (λ (w : Walk). w.level) g.is in
    let i = c.index_of-i.ensures ∙ ap (index tables64 a.page) (level_is here) in (
      omega (arith, level, l.invariant.0, g.partial),
      omega (arith, level, l.invariant.1),
      omega (arith, ap (λ (w : Walk). w.frame.0) g.is, g.inside, c.requires.0),
      c.write_entry.auto.words ∙ l.invariant.3,
      ap (λ (x : List ℕ). walk_from tables64 a.frames a.page w'.level x l.w.frame w')
          (c.write_entry.ensures ∙ ap₂ (put tables64 l.words l.w.frame.0) i c.set_accessed.ensures)
          ∙ walk_step tables64 a.frames a.page l.words l.last l.w l.w.level w'.level (omega (arith, level, g.partial)) (at_entry here) (sym c.step.ensures ∙ q)
          ∙ l.invariant.4,
    )

pub returns : goal.returns
returns c =
    let a = c.args in
    let l = c.loop-level in
    walk_end tables64 a.frames a.page l.words l.last l.w l.w.level (omega (arith, l.invariant.0, c.loop-level-test.false, l.auto.level)) ∙ l.invariant.4
