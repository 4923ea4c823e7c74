-- The walks with rights below `rights` have been read again.
use mathlib.Core.Path.{◌≡◌}
use Rattle.paging.specs.Numbers.{each}
use Rattle.held.specs.FollowCode.{walk_of, reread}
use Rattle.paging.specs.Layout.{tables64}
use Rattle.held.proofs.reread_all.Given as goal

abbrev pub invariant-loop-rights : goal.invariant-loop-rights
invariant-loop-rights l = l.work ≡ each l.rights (λ r. reread tables64 l.at.frames l.at.page l.words (walk_of l.level l.f r)) l.initial.work
