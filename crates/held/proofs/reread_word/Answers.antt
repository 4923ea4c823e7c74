use mathlib.Core.Path.{◌≡◌, sym, ◌∙◌, ap}
use Prim.Native.Nat.{suc, ◌-◌}
use native.Mathlib.Omega.{arith}
use Rattle.held.specs.FollowCode.{reread_word}
use Rattle.held.proofs.Follows.{reread-turn, reread_done}
use Rattle.paging.specs.Layout.{tables64}
use Rattle.held.proofs.reread_word.Goals as goal

pub loop-level-preserved : goal.loop-level-preserved
loop-level-preserved c =
    let a = c.args in
    let l = c.loop-level.level in
    let one : l ≡ suc (l - 1) = omega arith in
    ap (reread_word tables64 a.at.frames a.at.page a.words.now a.a (l - 1)) c.reread_at.ensures
    ∙ sym (reread-turn tables64 a.at.frames a.at.page a.words.now a.a l (l - 1) c.loop-level.work one) ∙ c.loop-level.invariant

pub returns : goal.returns
returns c =
    let a = c.args in
    let none : c.loop-level.level ≡ 0 = omega arith in
    sym (reread_done tables64 a.at.frames a.at.page a.words.now a.a c.loop-level.work) ∙ (rw none at c.loop-level.invariant)
