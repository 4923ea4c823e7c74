-- The slots below this one are done.
use Rattle.std.proofs.Common.{◌≡◌}
use Rattle.paging.specs.Numbers.{each}
use Rattle.slots.specs.Slots.{emptied}
use Rattle.slots.proofs.empty_slots.Given as goal

abbrev pub invariant-loop-slot : goal.invariant-loop-slot
invariant-loop-slot l = l.slots ≡ each l.slot (emptied l.p) l.initial.slots
