-- Shifts, masks and ors of a word, as sums of powers. Each law is over the place.
use mathlib.Core.Path.{◌≡◌, ◌∙◌, sym, ap, ap₂}
use Prim.Native.Nat.{ℕ, ◌+◌, ◌-◌, ◌*◌, ◌/◌, ◌%◌, ◌^◌, ◌≤◌, ◌<◌, max}
use native.Mathlib.Nat.{add_comm, mod-lt}
use native.Mathlib.Omega.{arith}
use lib.Bits.{bit_or, bit_xor, and_mask, or_shifted_r, or_block, or_step, or_zero_r, xor_add_and}
use lib.Pow.{pow_pos, shl_exact, split}
use Rattle.paging.specs.Layout.{with_bit}

-- a field of j bits put in at place k, above what is there
pub put_field : {o acc : ℕ} (x j k : ℕ) → o ≡ acc → acc < 2 ^ k → x < 2 ^ j → j + k ≤ 64
    → bit_or o (x * 2 ^ k % 2 ^ 64) ≡ acc + x * 2 ^ k
put_field {o} {acc} x j k e ha hx hj =
    ap₂ bit_or e (shl_exact j k 64 hx hj) ∙ or_shifted_r x k acc ha ∙ add_comm (x * 2 ^ k) acc

set_low : (q : ℕ) → bit_or q 1 ≡ q + (1 - q % 2)
set_low q = or_step q 1 ∙ ap (λ (x : ℕ). x * 2 + max (q % 2) 1) (or_zero_r (q / 2)) ∙ omega arith

pub set-bit : (e k : ℕ) → bit_or e (2 ^ k) ≡ with_bit k e
unfolding with_bit
set-bit e k =
    ap₂ bit_or (sym (split e k)) (omega arith)
    ∙ or_block k (e / 2 ^ k) 1 (e % 2 ^ k) 0 (mod-lt e (pow_pos k)) (pow_pos k)
    ∙ ap₂ (λ (x y : ℕ). x * 2 ^ k + y) (set_low (e / 2 ^ k)) (or_zero_r (e % 2 ^ k))
    ∙ omega (arith, split e k)

-- a bit turned over
pub flip_bit : (b : ℕ) → b < 2 → bit_xor b 1 ≡ 1 - b
flip_bit b h = omega (arith, xor_add_and b 1, and_mask b 1)
