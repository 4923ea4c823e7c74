-- What is left to follow says the same at every turn; the level falls.
use mathlib.Core.Path.{◌≡◌}
use lib.ListN.{length}
use Rattle.held.specs.Work.{HasByte}
use Rattle.held.specs.FollowCode.{followed}
use Rattle.paging.specs.Layout.{tables64}
use Rattle.held.proofs.follow.Given as goal

abbrev pub invariant-loop-work : goal.invariant-loop-work
invariant-loop-work l =
    HasByte l.at.frames l.w × (length l.work ≡ length l.initial.work) × (followed tables64 l.at.frames l.at.page l.words l.w l.work ≡ followed tables64 l.at.frames l.at.page l.words l.initial.w l.initial.work)

abbrev pub decreases-loop-work : goal.decreases-loop-work
decreases-loop-work l = l.w.level
