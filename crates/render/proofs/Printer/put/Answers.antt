use Rattle.std.proofs.Common.{refl}
use Rattle.std.proofs.Math.ListN.{length-set}
use Rattle.render.specs.WrittenCode.{written}
use Rattle.render.proofs.Printer.put.Goals as goal

pub returns : goal.returns
unfolding written
returns c =
    let s = c.args.self.now in
    record { same = refl; long = length-set s.out.now s.at c.args.byte; at = refl; wrote = refl }
