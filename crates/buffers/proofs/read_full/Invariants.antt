-- What is read lies in the buffer, and each turn reads at least one byte more.
use Rattle.std.proofs.Common.{◌-◌, ◌≤◌, length}
use Rattle.buffers.proofs.read_full.Given as goal

abbrev pub invariant-loop-at : goal.invariant-loop-at
invariant-loop-at g l = l.at ≤ length l.to

abbrev pub decreases-loop-at : goal.decreases-loop-at
decreases-loop-at g l = length l.to - l.at
