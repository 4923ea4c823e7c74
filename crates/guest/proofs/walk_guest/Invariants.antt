-- What is left of the walk says the same at every entry.
use mathlib.Core.Path.{◌≡◌}
use Prim.Native.Nat.{◌≤◌, ◌<◌, ◌^◌, ◌+◌}
use lib.ListN.{length}
use Rattle.paging.specs.Layout.{tables64}
use Rattle.guest.specs.GuestWalk.{walk_from, walk_guest}
use Rattle.guest.proofs.walk_guest.Given as goal

abbrev pub invariant-loop-level : goal.invariant-loop-level
invariant-loop-level l =
    (l.w.level + 1 ≡ l.level) × (l.w.level ≤ 4) × (l.w.frame.0 < 2 ^ 40) × (length l.words ≡ length l.initial.words)
    × (walk_from tables64 l.frames l.page l.w.level l.words l.last l.w ≡ walk_guest tables64 l.frames l.page l.initial.words l.initial.last)
