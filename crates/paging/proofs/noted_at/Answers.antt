-- The mask keeps the remainder, which is below 4096.
use Prim.Native.Nat.{◌/◌, ◌^◌}
use native.Mathlib.Omega.{arith}
use lib.Bits.{bit_xor, and_mask}
use Rattle.paging.proofs.noted_at.Goals as goal

pub returns : goal.returns
returns c = let e = and_mask (bit_xor c.args.f (c.args.f / 2 ^ 12)) 12 in (e, omega (arith, e))
