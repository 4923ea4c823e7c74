-- The question's line, then the lines of its outcomes.
use Rattle.std.proofs.Common.{arith}
use Rattle.render.proofs.Writes.{puts_append}
use Rattle.render.proofs.Printer.put_question.Goals as goal

pub returns : goal.returns
returns c =
    let first = c.put_line.ensures in
    let rest = c.put_outcomes.ensures in
    (puts_append first.0 rest.0, omega (arith, first.1, rest.1))
