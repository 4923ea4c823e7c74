-- At every turn the numbers that are left, after those in the buffer, give what all of them gave at the start.
use Rattle.std.proofs.Common.{◌*◌}
use Rattle.sections.specs.Sections.{width, in_range}
use Rattle.sections.proofs.Numbers.{Turned}
use Rattle.sections.proofs.read_numbers.Given as goal

abbrev pub invariant-loop-i : goal.invariant-loop-i
invariant-loop-i l =
    Turned (in_range l.which l.limits.frames l.limits.processors) l.text l.initial.buffer l.initial.c.at (l.count * width l.which) l.buffer l.i l.c
