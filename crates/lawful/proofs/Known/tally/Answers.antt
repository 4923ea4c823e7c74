use Rattle.lawful.proofs.Tallies.{tally_zero}
use Rattle.lawful.proofs.Known.tally.Goals as goal

pub loop-t-init : goal.loop-t-init
loop-t-init c = let s = c.args.self.now in tally_zero s.m.sizes s.m.sized s.pool.now
