-- After the last section stands the end, past the blanks.
use Rattle.std.proofs.Common.{arith, ap}
use Rattle.cursor.specs.declared.Cursor.{Cursor}
use Rattle.cursor.proofs.DigitRuns.{here_inside}
use Rattle.puzzle.proofs.test_end.Goals as goal

pub returns : goal.returns
returns c =
    let e = c.skip_from-end.ensures in
    omega (arith, ap (λ (k : Cursor). k.at) e, here_inside c.args.text.now c.args.last.at e c.requires.inside)
