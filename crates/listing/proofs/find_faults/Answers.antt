use Rattle.std.proofs.Common.{arith, ◌≡◌, ◌∙◌, ap, sym, get_or, ℕ, take, drop, ◌*◌, ◌+◌, ◌-◌}
use Rattle.std.proofs.lemmas.List.{get_or-take, get_or-drop, length-take, length-drop}
use Rattle.paging.specs.Layout.{tables64}
use Rattle.held.specs.FollowCode.{step_in}
use Rattle.listing.specs.CollectCode.{with_step}
use Rattle.listing.proofs.Stopping.{found_none, found_more, found_same, found_all}
use Rattle.listing.proofs.find_faults.Goals as goal
use Rattle.listing.proofs.find_faults.Goals.{then-byte-eq1, else-byte-eq1}

pub loop-j-init : goal.loop-j-init
loop-j-init c = found_none _ _ _ _

pub loop-j-preserved : goal.loop-j-preserved
loop-j-preserved c =
    let a = c.args in
    let j = c.loop-j.j in
    let here : get_or (take (40 * a.at.frames - 8 * a.at.frames) (drop (8 * a.at.frames) a.work.now)) j 0 ≡ get_or a.work.now (8 * a.at.frames + j) 0 =
    get_or-take _ _ j 0 (omega (arith, c.loop-j-test.true, length-take {A = ℕ})) ∙ get_or-drop (8 * a.at.frames) a.work.now j 0 in
    elim c.if-byte-eq1.branch [
      | then-byte-eq1 w ↦
          found_more a.at.frames a.at.page a.words.now a.work.now _ _ j c.loop-j.invariant (sym here ∙ w.if-byte-eq1.true) (w.faults-is ∙ w.with-faults.ensures ∙ ap (with_step c.loop-j.faults) (w.next.ensures ∙ ap (step_in tables64 a.at.frames a.at.page a.words.now) w.walk_at-w.ensures))
      | else-byte-eq1 w ↦ rw w.faults-is (found_same a.at.frames a.at.page a.words.now a.work.now _ j c.loop-j.invariant (λ m. w.if-byte-eq1.false (here ∙ m)))
    ]

pub returns : goal.returns
returns c =
    let a = c.args in
    let done : c.loop-j.j ≡ 32 * a.at.frames = omega (arith, length-take {A = ℕ}, length-drop {A = ℕ}) in
    found_all a.at.frames a.at.page a.words.now a.work.now _ _ c.loop-j.invariant done
