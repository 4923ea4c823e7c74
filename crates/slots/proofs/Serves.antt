-- A search that answers the first number below n that passes, or that none does, says what `first` says.
use Rattle.std.proofs.Common.{◌≡◌, Bool, true, false, ℕ, zero, suc, ◌+◌, ◌<◌, ◌≤◌, Option, Some, None, MatchOption, refl, sym, ◌∙◌, arith}
use mathlib.Core.Logic.{⊎_elim}
use native.Mathlib.Nat.{eq-or-lt_of_le}
use Rattle.paging.specs.Numbers.{first_from, first}
use Rattle.paging.proofs.Counts.{first-here, first_on, first_none}

module _ (f : ℕ → Bool) where
  none_from : (n i : ℕ) → ((j : ℕ) → i ≤ j → j < i + n → f j ≡ false) → i + n ≡ first_from i n f
  none_from zero i h = omega (arith, first_none f i 0 refl)
  none_from (suc n) i h =
      let rest = none_from n (i + 1) (λ j lo hi. h j (omega arith) (omega arith)) in
      omega (arith, rest, first_on f i (suc n) n refl (h i (omega arith) (omega arith)))

  some_from : (n i k : ℕ) → i ≤ k → k < i + n → f k ≡ true → ((j : ℕ) → i ≤ j → j < k → f j ≡ false) → k ≡ first_from i n f
  some_from zero i k lo hi e h = absurd (omega arith)
  some_from (suc n) i k lo hi e h =
      ⊎_elim
      (λ (same : i ≡ k). sym same ∙ first-here f i (suc n) n refl (rw same e))
      (λ (l : i < k). some_from n (i + 1) k (omega arith) (omega arith) e (λ j a b. h j (omega arith) b) ∙ first_on f i (suc n) n refl (h i (omega arith) l))
      (eq-or-lt_of_le lo)

  pub first_is : (n : ℕ) (r : Option ℕ)
      → MatchOption r ((k : ℕ) → 0 ≤ k → k < n → f k ≡ false) (λ i. (0 ≤ i) × (i < n) × (f i ≡ true) × ((k : ℕ) → 0 ≤ k → k < i → f k ≡ false))
      → MatchOption r (n ≤ first n f) (λ i. (i < n) × (i ≡ first n f))
  first_is n None h = omega (arith, none_from n 0 (λ j lo hi. h j lo (omega arith)))
  first_is n (Some i) h = (h.1, some_from n 0 i (omega arith) (omega (arith, h.1)) h.2 h.3)
