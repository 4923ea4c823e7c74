use Rattle.paging.proofs.Bits.{set-bit}
use Rattle.paging.proofs.set_dirty.Goals as goal

-- src/lib.rt:111:1
pub returns : goal.returns
returns c = set-bit c.args.e 6
