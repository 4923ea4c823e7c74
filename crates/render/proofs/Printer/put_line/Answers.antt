-- The letter, each number, the line feed.
use Rattle.std.proofs.Common.{sym, arith}
use Rattle.render.proofs.Writes.{puts_append, puts_as, owes_all, owes_put, owes_last}
use Rattle.render.proofs.Lines.{number_more, number_end}
use Rattle.render.proofs.Printer.put_line.Goals as goal

pub loop-n-init : goal.loop-n-init
loop-n-init c = (owes_all _ _, omega arith)

pub loop-n-preserved : goal.loop-n-preserved
loop-n-preserved c =
    let l = c.loop-n in
    (owes_put (number_more c.args.ns.now l.n-index (omega arith)) l.invariant.0 c.put_number.ensures.0, omega (arith, c.put_number.ensures.1))

pub returns : goal.returns
returns c =
    let l = c.loop-n in
    let feed = puts_as (sym (number_end c.args.ns.now l.n-index (omega arith))) c.put-2.ensures in
    (puts_append c.put.ensures (owes_last l.invariant.0 feed), omega (arith, l.invariant.1, c.put.ensures.at, c.put-2.ensures.at))
