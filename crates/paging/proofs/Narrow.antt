-- A trial: 32-bit tables as a second layout, and that it is sound. "Entry i of frame f is half i mod 2 of word 512×f + i/2."
use mathlib.Core.Path.{◌≡◌, refl}
use mathlib.Core.Logic.{inl, inr}
use Prim.Native.Nat.{ℕ, zero, suc, ◌+◌, ◌-◌, ◌*◌, ◌/◌, ◌%◌, ◌^◌, ◌<◌}
use native.Mathlib.Omega.{arith}
use lib.Dec.{ltb}
use Rattle.paging.specs.Layout.{Layout, frame_words, bit, frame_of, compose, with_bit}
use Rattle.paging.specs.Sound.{Flag, Sound}

-- a half of a word, and a word with another half
abbrev pub half : ℕ → ℕ → ℕ
half zero w = w % 2 ^ 32
half (suc k) w = w / 2 ^ 32 % 2 ^ 32

abbrev pub with_half : ℕ → ℕ → ℕ → ℕ
with_half zero w e = w / 2 ^ 32 * 2 ^ 32 + e
with_half (suc k) w e = w % 2 ^ 32 + e * 2 ^ 32

abbrev pub tables32 : Layout
tables32 = record {
  levels = 2;
  index_bits = 10;
  frame_bits = 20;
  entry_bits = 32;
  nx = λ e. 0;
  nx_alone = 0;
  place = λ f i. frame_words * f + i / 2;
  part = λ i w. half (i % 2) w;
  join = λ i w e. with_half (i % 2) w e;
  fetch_adds = 0;
  allowed = λ a. ltb a (2 ^ 32);
}

found : (k w e : ℕ) → e < 2 ^ 32 → half k (with_half k w e) ≡ e
found zero w e h = omega arith
found (suc k) w e h = omega arith

other : (k l w e : ℕ) → k < 2 → l < 2 → (k ≡ l → ⊥) → e < 2 ^ 32 → half l (with_half k w e) ≡ half l w
other zero zero w e hk hl ne h = absurd (ne refl)
other zero (suc l) w e hk hl ne h = omega arith
other (suc k) zero w e hk hl ne h = omega arith
other (suc k) (suc l) w e hk hl ne h = absurd (ne (omega arith))

half_small : (k w : ℕ) → half k w < 2 ^ 32
half_small zero w = omega arith
half_small (suc k) w = omega arith

half_zero : (k : ℕ) → half k 0 ≡ 0
half_zero zero = refl
half_zero (suc k) = refl

small_a : (e : ℕ) → e < 2 ^ 32 → with_bit 5 e < 2 ^ 32
unfolding with_bit
small_a e h = omega arith

small_d : (e : ℕ) → e < 2 ^ 32 → with_bit 6 e < 2 ^ 32
unfolding with_bit
small_d e h = omega arith

with_bit_small : (k e : ℕ) → Flag k → e < 2 ^ 32 → with_bit k e < 2 ^ 32
with_bit_small k e (inl a) h = rw a (small_a e h)
with_bit_small k e (inr d) h = rw d (small_d e h)

bit_small : (e k : ℕ) → bit e k < 2
bit_small e k = omega arith

sum-frame : (a b d f x : ℕ) → a < 2 → b < 2 → d < 2 → f < 2 ^ 20 → (1 + 2 * a + 4 * b + 32 + 64 * d + 2 ^ 12 * f + x * 0) / 2 ^ 12 % 2 ^ 20 ≡ f
sum-frame a b d f x ha hb hd hf = omega arith

one_less : (b : ℕ) → b ≡ 1 → 0 ≡ 1 - b
one_less b h = omega arith

pub tables32_sound : Sound tables32
unfolding compose frame_of
tables32_sound = record {
  some_level = omega arith;
  few_levels = omega arith;
  in_frame = λ f i h. omega arith;
  joined = λ i w e h. found (i % 2) w e h;
  beside = λ f i j w e hi hj ne same h. other (i % 2) (j % 2) w e (omega arith) (omega arith) (λ q. ne (omega arith)) h;
  bit_set = λ k i w flag. found (i % 2) w (with_bit k (half (i % 2) w)) (with_bit_small k (half (i % 2) w) flag (half_small (i % 2) w));
  bit_beside = λ k f i j w flag hi hj ne same.
      other (i % 2) (j % 2) w (with_bit k (half (i % 2) w)) (omega arith) (omega arith) (λ q. ne (omega arith)) (with_bit_small k (half (i % 2) w) flag (half_small (i % 2) w));
  zero_part = λ i. half_zero (i % 2);
  nx_alike = λ {e} {d} a. refl;
  composed_frame = λ r d f hd hf. sum-frame (bit r 0) (bit r 1) d f (1 - bit r 2) (bit_small r 0) (bit_small r 1) hd hf;
  composed_nx = λ r d f hd hf x. one_less (bit r 2) (x refl);
  nx_high = λ x. omega arith;
}
