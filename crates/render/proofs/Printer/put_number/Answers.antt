-- The space, then the digits; there are at most twenty of them.
use Rattle.std.proofs.Common.{arith}
use Rattle.render.proofs.Writes.{puts_append}
use Rattle.render.proofs.Digits.{length_word}
use Rattle.render.proofs.Printer.put_number.Goals as goal

pub put_digits-requires : goal.put_digits-requires
put_digits-requires c = omega (arith, c.put.ensures.at, c.put.ensures.long, c.requires, length_word c.args.n (omega arith))

pub returns : goal.returns
returns c = (puts_append c.put.ensures c.put_digits.ensures, omega (arith, c.put.ensures.at, c.put_digits.ensures.at, length_word c.args.n (omega arith)))
