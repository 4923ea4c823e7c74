-- Tests and counts: a test passes at all numbers if it passes at each, and a count over pairs is 1 exactly if one pair
-- passes and any two that pass are equal.
use mathlib.Core.Path.{◌≡◌, refl, ap, ◌∙◌}
use mathlib.Core.Bool.{Bool, true, false, cond}
use mathlib.Core.Logic.{⊎_elim}
use Prim.Native.Nat.{ℕ, zero, suc, ◌+◌, ◌≤◌, ◌<◌}
use native.Mathlib.Nat.{eq-or-lt_of_le}
use native.Mathlib.Decide.{dec_lt}
use native.Mathlib.Omega.{arith}
use Rattle.paging.specs.Numbers.{all, sum, count}
use Rattle.tables.proofs.Takes.{count-some}

pub all_i : (f : ℕ → Bool) (n : ℕ) → ((i : ℕ) → i < n → f i ≡ true) → all n f ≡ true
unfolding all
all_i f zero h = refl
all_i f (suc n) h = simp (all_i f n (λ i l. h i (omega arith)), h n (omega arith))

-- ---- sums

module _ (f : ℕ → ℕ) where
  sum-some : (n : ℕ) → 0 < sum n f → (k : ℕ) × (k < n) × (0 < f k)
  unfolding sum
  sum-some zero h = absurd (omega arith)
  sum-some (suc n) h = go (f n) refl (sum-some n)
    where
      go : (m : ℕ) → f n ≡ m → (0 < sum n f → (k : ℕ) × (k < n) × (0 < f k)) → (k : ℕ) × (k < suc n) × (0 < f k)
      go zero e more = let r = more (omega arith) in (r.0, omega (arith, r.1), r.2)
      go (suc m) e more = (n, omega arith, omega arith)

  sum-at : (n i : ℕ) → i < n → f i ≤ sum n f
  unfolding sum
  sum-at zero i h = absurd (omega arith)
  sum-at (suc n) i h =
      ⊎_elim
      (λ (q : i ≡ n). let e = ap f q in omega arith)
      (λ (l : i < n). let r = sum-at n i l in omega arith)
      (eq-or-lt_of_le (omega arith))

  sum-two : (n i j : ℕ) → i < j → j < n → f i + f j ≤ sum n f
  unfolding sum
  sum-two zero i j h k = absurd (omega arith)
  sum-two (suc n) i j h k =
      ⊎_elim
      (λ (q : j ≡ n). let e = ap f q in let r = sum-at n i (omega arith) in omega arith)
      (λ (l : j < n). let r = sum-two n i j h l in omega arith)
      (eq-or-lt_of_le (omega arith))

  sum_zero : (n : ℕ) → ((i : ℕ) → i < n → f i ≡ 0) → sum n f ≡ 0
  unfolding sum
  sum_zero zero h = refl
  sum_zero (suc n) h = omega (arith, sum_zero n (λ i l. h i (omega arith)), h n (omega arith))

  sum_one : (n k : ℕ) → k < n → f k ≡ 1 → ((i : ℕ) → i < n → (i ≡ k → ⊥) → f i ≡ 0) → sum n f ≡ 1
  unfolding sum
  sum_one zero k l e h = absurd (omega arith)
  sum_one (suc n) k l e h =
      ⊎_elim
      (λ (q : k ≡ n). let a = ap f q in let r = sum_zero n (λ i m. h i (omega arith) (λ s. omega arith)) in omega arith)
      (λ (m : k < n). let r = sum_one n k m e (λ i x. h i (omega arith)) in let z = h n (omega arith) (λ s. omega arith) in omega arith)
      (eq-or-lt_of_le (omega arith))

  -- in a sum of 1 two numbers that add to it are one
  sum_same : (n i j : ℕ) → sum n f ≡ 1 → i < n → j < n → 0 < f i → 0 < f j → i ≡ j
  sum_same n i j e hi hj a b = go (dec_lt i j) (dec_lt j i)
    where
      go : Dec (i < j) → Dec (j < i) → i ≡ j
      go (yes m) d = let r = sum-two n i j m hj in absurd (omega arith)
      go (no x) (yes m) = let r = sum-two n j i m hi in absurd (omega arith)
      go (no x) (no y) = omega arith

-- ---- counts

module _ (f : ℕ → Bool) where
  told : (k : ℕ) → f k ≡ true → ◌≡◌ {A = ℕ} (cond (f k) 1 0) 1
  told k e = ap {B = ℕ} (λ (b : Bool). cond b 1 0) e

  count_at : (n k : ℕ) → k < n → f k ≡ true → 0 < count n f
  count_at n k h e = omega (arith, sum-at (λ i. cond (f i) 1 0) n k h, told k e)

  count-one : (n k : ℕ) → k < n → f k ≡ true → ((i : ℕ) → i < n → f i ≡ true → i ≡ k) → count n f ≡ 1
  count-one n k h e same = sum_one (λ i. cond (f i) 1 0) n k h (told k e) (λ i l ne. off i (f i) refl (λ q. ne (same i l q)))
    where
      off : (i : ℕ) (b : Bool) → f i ≡ b → (f i ≡ true → ⊥) → ◌≡◌ {A = ℕ} (cond b 1 0) 0
      off i true q none = absurd (none q)
      off i false q none = refl

-- ---- over pairs

module _ (F : ℕ → ℕ → Bool) (m n : ℕ) where
  abbrev pub pairs : ℕ
  pairs = sum m (λ t. count n (F t))

  pub pairs-some : pairs ≡ 1 → (t : ℕ) × (i : ℕ) × (t < m) × (i < n) × (F t i ≡ true)
  pairs-some e =
      let (t, h, k) = sum-some (λ t. count n (F t)) m (omega arith) in
      let (i, l, q) = count-some (F t) n k in
      (t, i, h, l, q)

  module _ (e : pairs ≡ 1) (t i t' i' : ℕ) (ht : t < m) (hi : i < n) (ht' : t' < m) (hi' : i' < n) (q : F t i ≡ true) (q' : F t' i' ≡ true) where
    same_row : t ≡ t'
    same_row = sum_same (λ t. count n (F t)) m t t' e ht ht' (count_at (F t) n i hi q) (count_at (F t') n i' hi' q')

    pub pairs-same : (t ≡ t') × (i ≡ i')
    pairs-same =
        let r : F t i' ≡ true = ap (λ (x : ℕ). F x i') same_row ∙ q' in
        let a = count_at (F t) n i hi q in
        let one : count n (F t) ≡ 1 = omega (arith, sum-at (λ t. count n (F t)) m t ht) in
        (same_row, sum_same (λ k. cond (F t k) 1 0) n i i' one hi hi' (omega (arith, told (F t) i q)) (omega (arith, told (F t) i' r)))

  pub pairs-one : (t i : ℕ) → t < m → i < n → F t i ≡ true
      → ((t' i' : ℕ) → t' < m → i' < n → F t' i' ≡ true → (t' ≡ t) × (i' ≡ i)) → pairs ≡ 1
  pairs-one t i ht hi q same =
      sum_one (λ t. count n (F t)) m t ht
      (count-one (F t) n i hi q (λ k l r. (same t k ht l r).1))
      (λ v l ne. none v (count n (F v)) refl (λ h. let (k, a, b) = count-some (F v) n h in ne (same v k l a b).0))
    where
      none : (v c : ℕ) → count n (F v) ≡ c → (0 < count n (F v) → ⊥) → c ≡ 0
      none v zero r no_more = refl
      none v (suc c) r no_more = absurd (no_more (omega arith))
