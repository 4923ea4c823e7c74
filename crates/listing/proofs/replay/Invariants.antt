-- After as many events the words, the CR3 and the bytes are those of the first ones.
use mathlib.Core.Path.{◌≡◌}
use Prim.Native.Nat.{◌<◌}
use Rattle.listing.specs.ReplayCode.{replay_of, replayed}
use Rattle.listing.proofs.replay.Given as goal

abbrev pub invariant-loop-e : goal.invariant-loop-e
invariant-loop-e l =
    (l.cr3 < l.at.frames) × (replay_of l.cr3 l.words l.work ≡ replayed l.at.frames l.p l.at.page l.fn.events l.e-index (replay_of l.start l.initial.words l.initial.work))
