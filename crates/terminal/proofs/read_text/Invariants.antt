-- Each turn reads at least one byte more, and what is read lies in the buffer.
use Rattle.std.proofs.Common.{length, ◌-◌, ◌≤◌}
use Rattle.terminal.proofs.read_text.Given as goal

abbrev pub invariant-loop-at : goal.invariant-loop-at
invariant-loop-at g l = l.at ≤ length l.text

abbrev pub decreases-loop-at : goal.decreases-loop-at
decreases-loop-at g l = length l.initial.text - l.at
