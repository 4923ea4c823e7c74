use Rattle.paging.proofs.Bits.{set-bit}
use Rattle.paging.proofs.set_accessed.Goals as goal

-- src/lib.rt:105:1
pub returns : goal.returns
returns c = set-bit c.args.e 5
