-- What is left, the levels from `level` down, says the same at every turn.
use mathlib.Core.Path.{◌≡◌}
use Rattle.held.specs.FollowCode.{reread_word}
use Rattle.paging.specs.Layout.{tables64}
use Rattle.held.proofs.reread_word.Given as goal

abbrev pub invariant-loop-level : goal.invariant-loop-level
invariant-loop-level l =
    reread_word tables64 l.at.frames l.at.page l.words l.a l.level l.work ≡ reread_word tables64 l.at.frames l.at.page l.words l.a 4 l.initial.work
