-- In one pass: the faults of the bytes before the j-th are found.
use Rattle.listing.proofs.Stopping.{Found}
use Rattle.listing.proofs.find_faults.Given as goal

abbrev pub invariant-loop-j : goal.invariant-loop-j
invariant-loop-j l = Found l.at.frames l.at.page l.words l.work l.faults l.j
