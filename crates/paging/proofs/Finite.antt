-- A test that antt computes at each number below a bound, and what it says of each.
use mathlib.Core.Bool.{Bool, true, ◌&&◌}
use Prim.Native.Nat.{ℕ, zero, suc, ◌<◌}
use native.Mathlib.Nat.{le_of_suc-le-suc, not-suc-le-zero}
use lib.Dec.{T}
use Rattle.paging.proofs.Tests.{and_l, and_r}

-- f holds at 0 .. m - 1
abbrev pub below : ℕ → (ℕ → Bool) → Bool
below zero f = true
below (suc m) f = f zero && below m (λ k. f (suc k))

pub at-below : (m : ℕ) (f : ℕ → Bool) → T (below m f) → (k : ℕ) → k < m → T (f k)
at-below zero f t k h = absurd (not-suc-le-zero h)
at-below (suc m) f t zero h = and_l (f zero) (below m (λ k. f (suc k))) t
at-below (suc m) f t (suc k) h =
    at-below m (λ k. f (suc k)) (and_r (f zero) (below m (λ k. f (suc k))) t) k (le_of_suc-le-suc h)

pub at_below₂ : (m : ℕ) (f : ℕ → ℕ → Bool) → T (below m (λ a. below m (f a))) → (a b : ℕ) → a < m → b < m → T (f a b)
at_below₂ m f t a b ha hb = at-below m (f a) (at-below m (λ a. below m (f a)) t a ha) b hb
