use Rattle.paging.specs.Layout.{page_of}
use lib.Bits.{and_mask}
use Prim.Native.Nat.{◌/◌, ◌^◌}
use Rattle.paging.proofs.page_of.Goals as goal

-- src/lib.rt:51:1
pub returns : goal.returns
unfolding page_of
returns c = and_mask (c.args.a / 2 ^ 12) 36
