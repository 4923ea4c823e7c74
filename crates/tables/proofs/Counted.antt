-- How many of the numbers below n pass: a filtered range counts them as `count` does.
use mathlib.Core.Path.{◌≡◌, refl, ap}
use mathlib.Core.Bool.{Bool, true, false, cond}
use mathlib.Core.List.{List, ◌∷◌}
use Prim.Native.Nat.{ℕ, zero, suc, ◌+◌}
use native.Mathlib.Omega.{arith}
use lib.ListN.{length}
use Rattle.std.specs.List.{filter, range_with_len}
use Rattle.paging.specs.Numbers.{count}
use Rattle.paging.proofs.Counts.{sum_none, sum_more}

module _ (f : ℕ → Bool) where
  counted_from : (n i : ℕ) → length (filter f (range_with_len i n)) + count i f ≡ count (i + n) f
  counted_from zero i = let same : count i f ≡ count (i + 0) f = ap (λ (k : ℕ). count k f) (omega arith) in omega (arith, same)
  counted_from (suc n) i = go (f i) refl (counted_from n (i + 1))
    where
      xs : List ℕ
      xs = filter f (range_with_len (i + 1) n)

      go : (b : Bool) → f i ≡ b → length xs + count (i + 1) f ≡ count (i + 1 + n) f → length (cond (f i) (i ∷ xs) xs) + count i f ≡ count (i + suc n) f
      go true e h =
          let one : ◌≡◌ {A = ℕ} (cond (f i) 1 0) 1 = ap {B = ℕ} (λ (b : Bool). cond b 1 0) e in
          let far : count (i + 1 + n) f ≡ count (i + suc n) f = ap (λ (k : ℕ). count k f) (omega arith) in
          rw e (omega (arith, h, sum_more i (λ k. cond (f k) 1 0), one, far))
      go false e h =
          let none : ◌≡◌ {A = ℕ} (cond (f i) 1 0) 0 = ap {B = ℕ} (λ (b : Bool). cond b 1 0) e in
          let far : count (i + 1 + n) f ≡ count (i + suc n) f = ap (λ (k : ℕ). count k f) (omega arith) in
          rw e (omega (arith, h, sum_more i (λ k. cond (f k) 1 0), none, far))

  pub counted : (n : ℕ) → length (filter f (range_with_len 0 n)) ≡ count n f
  counted n =
      let h : length (filter f (range_with_len 0 n)) + count 0 f ≡ count (0 + n) f = counted_from n 0 in
      let z : count (0 + n) f ≡ count n f = ap (λ (k : ℕ). count k f) (omega arith) in
      omega (arith, h, z, sum_none (λ k. cond (f k) 1 0))
