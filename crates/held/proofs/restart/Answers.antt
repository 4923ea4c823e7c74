-- The part that is filled is what `cleared` writes.
use mathlib.Core.Path.{◌∙◌, ap₂}
use Prim.Native.Nat.{ℕ}
use native.Mathlib.Omega.{arith}
use mathlib.Core.List.{List}
use Rattle.paging.specs.declared.Walk.{Walk}
use Rattle.paging.specs.Layout.{tables64}
use Rattle.held.specs.FollowCode.{followed, restarted}
use Rattle.held.proofs.Clears.{filled}
use Rattle.held.proofs.restart.Goals as goal

pub returns : goal.returns
unfolding restarted
returns c =
    let a = c.args in
    c.follow.ensures
    ∙ ap₂ (λ (w : Walk) (l : List ℕ). followed tables64 a.at.frames a.at.page a.words.now w l) c.start.ensures (filled a.from _ a.work.now _ (omega (arith, c.requires.0.bytes)) (c.fill.ensures.after (λ y h. h)))
