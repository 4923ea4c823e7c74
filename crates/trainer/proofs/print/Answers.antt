-- A buffer of another length is refused; else all is written from its first byte on.
use Rattle.std.proofs.Common.{rules}
use Rattle.trainer.proofs.Wholes.{call_by, fits_output}
use Rattle.trainer.proofs.print.Goals as goal

pub returns : goal.returns
returns c =
    let s = c.new-printer.ensures in
    call_by c.print.ensures s.0 s.2 (search rules) (fits_output _ c.in_ok-unless.ensures)
