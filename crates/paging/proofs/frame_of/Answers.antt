use Rattle.paging.specs.Layout.{frame_of}
use lib.Bits.{and_mask}
use Prim.Native.Nat.{◌/◌, ◌^◌}
use Rattle.paging.proofs.frame_of.Goals as goal

-- src/lib.rt:82:1
pub returns : goal.returns
unfolding frame_of
returns c = and_mask (c.args.e / 2 ^ 12) 40
