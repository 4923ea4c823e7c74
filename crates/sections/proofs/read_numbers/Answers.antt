-- The numbers of a section stand in front of the buffer, or the first fault is told.
use Rattle.std.proofs.Common.{sym}
use Rattle.std.proofs.lemmas.Result.{err_from_is_err_and}
use Rattle.sections.proofs.Numbers.{turn_bad, turn-out, turn_more, turn_end}
use Rattle.sections.proofs.read_numbers.Goals as goal

pub returns-in_err-number : goal.returns-in_err-number
returns-in_err-number c =
    let p = err_from_is_err_and c.from_residual.result c.from_residual.ensures.1 in
    rw (p.1, p.2) (turn_bad c.loop-i.invariant (rw c.width.ensures at c.loop-i-test.true) c.in_err-number.ensures)

pub returns-then-not-in_range : goal.returns-then-not-in_range
returns-then-not-in_range c =
    rw c.out_of_range.ensures (turn-out c.loop-i.invariant (rw c.width.ensures at c.loop-i-test.true) c.in_ok-number.ensures (sym c.if-not-in_range.ensures))

pub loop-i-preserved : goal.loop-i-preserved
loop-i-preserved c = turn_more c.loop-i.invariant (rw c.width.ensures at c.loop-i-test.true) c.in_ok-number.ensures (sym c.if-not-in_range.ensures)

pub returns : goal.returns
returns c = turn_end c.loop-i.invariant (rw c.width.ensures at c.loop-i-test.false)
