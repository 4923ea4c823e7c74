-- The slots below k are done.
use Rattle.std.proofs.Common.{◌≡◌}
use Rattle.paging.specs.Numbers.{each}
use Rattle.slots.specs.Slots.{flushed}
use Rattle.slots.proofs.flush.Given as goal

abbrev pub invariant-loop-k : goal.invariant-loop-k
invariant-loop-k l = l.slots ≡ each l.k (flushed l.p l.page) l.initial.slots
