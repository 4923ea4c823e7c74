-- A loop that tests all numbers below n, one after the other: how it starts, a turn of it, and its two ends.
use mathlib.Core.Path.{◌≡◌, sym, ap, ◌∙◌}
use mathlib.Core.Bool.{Bool, true, false}
use Prim.Native.Nat.{ℕ, ◌+◌, ◌≤◌, ◌<◌}
use native.Mathlib.Omega.{arith}
use Rattle.paging.specs.Numbers.{all}
use Rattle.paging.proofs.Numbers.{all_none, all_more, all_fails}

-- the numbers below i have passed
pub record Passed (f : ℕ → Bool) (n i : ℕ) : Type 0 where
  pub within : i ≤ n
  pub below : all i f ≡ true

module _ {f : ℕ → Bool} {n : ℕ} where
  pub passed_none : Passed f n 0
  passed_none = record { within = omega arith; below = all_none f }

  module _ {i : ℕ} (passed : Passed f n i) where
    pub passed_more : i < n → f i ≡ true → Passed f n (i + 1)
    passed_more h e = record { within = omega arith; below = all_more f i passed.below e }

    pub passed_stop : i < n → f i ≡ false → false ≡ all n f
    passed_stop h e = sym (all_fails f n i h e)

    pub passed-all : n ≤ i → true ≡ all n f
    passed-all h = let q : i ≡ n = omega (arith, passed.within) in sym passed.below ∙ ap (λ (k : ℕ). all k f) q
