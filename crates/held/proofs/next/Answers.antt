-- The entry of the walk's level lies in the words; a complete walk reads none.
use mathlib.Core.Path.{◌∙◌, sym, ap}
use Prim.Native.Nat.{ℕ, ◌+◌, ◌*◌}
use native.Mathlib.Omega.{arith}
use lib.ListN.{get_or}
use Rattle.paging.specs.Layout.{tables64, frame_words, get}
use Rattle.paging.specs.Walk.{step}
use Rattle.paging.proofs.Steps.{step_complete}
use Rattle.paging.proofs.Indices.{index_small}
use Rattle.held.specs.FollowCode.{step_in}
use Rattle.held.proofs.next.Goals as goal

pub returns-then-level-eq0 : goal.returns-then-level-eq0
unfolding step_in
returns-then-level-eq0 c =
    let a = c.args in
    c.step.ensures ∙ step_complete tables64 a.at.frames a.w 0 c.if-level-eq0.true ∙ sym (step_complete tables64 a.at.frames a.w _ c.if-level-eq0.true)

pub overflow_add-i : goal.overflow_add-i
overflow_add-i c = let a = c.args in omega (arith, c.index_of.ensures, index_small tables64 a.at.page a.w.level)

pub offset_bounds-words-i : goal.offset_bounds-words-i
offset_bounds-words-i c = let a = c.args in omega (arith, c.index_of.ensures, index_small tables64 a.at.page a.w.level)

pub bounds-words-i : goal.bounds-words-i
bounds-words-i c = let a = c.args in omega (arith, c.index_of.ensures, index_small tables64 a.at.page a.w.level)

pub returns : goal.returns
unfolding step_in get
returns c =
    let a = c.args in
    c.step-2.ensures
    ∙ ap (λ (i : ℕ). step tables64 a.at.frames a.w (get_or a.words.now (frame_words * a.w.frame.0 + i) 0)) c.index_of.ensures
