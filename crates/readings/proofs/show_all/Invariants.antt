-- Each turn takes a case off the rest, its `=` at least.
use Rattle.std.proofs.Common.{length}
use Rattle.readings.proofs.show_all.Given as goal

abbrev pub decreases-loop-eq : goal.decreases-loop-eq
decreases-loop-eq g l = length l.rest
