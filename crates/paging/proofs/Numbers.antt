-- Laws of the bounded tests: one turn of a loop more, a failing number, what a passed test says of each, and the first
-- number that passes.
use mathlib.Core.Path.{◌≡◌, refl, sym, ap, ap₂, ◌∙◌}
use mathlib.Core.Logic.{◌⊎◌, inl, inr, ⊎_elim}
use mathlib.Core.List.{List, [], ◌∷◌}
use mathlib.Core.Bool.{Bool, true, false, cond, ◌&&◌, ◌||◌, and-false}
use Prim.Native.Nat.{ℕ, zero, suc, ◌+◌, ◌≤◌, ◌<◌}
use native.Mathlib.Nat.{eq-or-lt_of_le}
use native.Mathlib.Numerals.{add-one}
use native.Mathlib.Decide.{ℕ_discrete}
use native.Mathlib.Omega.{arith}
use lib.Dec.{T, leb}
use lib.ListN.{length, get_or, set}
use borrow.Author.Tests.{leb-true}
use Rattle.paging.specs.Numbers.{all, some, first_from, first, each, tab, is_between}
use Rattle.paging.proofs.Tests.{and_l, and_r, or_l, or_r, or_cases, T_true, true_T, both}

module _ (f : ℕ → Bool) where
  pub all_none : all 0 f ≡ true
  unfolding all
  all_none = refl

  pub all_more : (n : ℕ) → all n f ≡ true → f n ≡ true → all (n + 1) f ≡ true
  unfolding all
  all_more n h k = rw (add-one n) (simp (h, k))

  pub all_fails : (n i : ℕ) → i < n → f i ≡ false → all n f ≡ false
  unfolding all
  all_fails zero i h e = absurd (omega arith)
  all_fails (suc n) i h e = go (ℕ_discrete i n) (all_fails n i)
    where
      go : Dec (i ≡ n) → (i < n → f i ≡ false → all n f ≡ false) → (all n f && f n) ≡ false
      go (yes p) ih = rw (rw p at e) (and-false (all n f))
      go (no p) ih = simp (ih (omega arith) e)

  pub all-at : (n : ℕ) → all n f ≡ true → (i : ℕ) → i < n → f i ≡ true
  unfolding all
  all-at zero h i lt = absurd (omega arith)
  all-at (suc n) h i lt = go (ℕ_discrete i n) (all-at n (T_true _ (and_l (all n f) _ (true_T _ h))) i)
    where
      go : Dec (i ≡ n) → (i < n → f i ≡ true) → f i ≡ true
      go (yes p) ih = rw p (T_true _ (and_r (all n f) _ (true_T _ h)))
      go (no p) ih = ih (omega arith)

  pub all_same : (g : ℕ → Bool) (n : ℕ) → ((i : ℕ) → i < n → f i ≡ g i) → all n f ≡ all n g
  unfolding all
  all_same g zero h = refl
  all_same g (suc n) h = ap₂ ◌&&◌ (all_same g n (λ i lt. h i (omega arith))) (h n (omega arith))

  -- ---- some

  pub some_none : some 0 f ≡ false
  unfolding some
  some_none = refl

  pub some_more : (n : ℕ) → some n f ≡ false → f n ≡ false → some (n + 1) f ≡ false
  unfolding some
  some_more n h k = rw (add-one n) (simp (h, k))

  pub some_i : (n i : ℕ) → i < n → f i ≡ true → some n f ≡ true
  unfolding some
  some_i zero i h e = absurd (omega arith)
  some_i (suc n) i h e = T_true _ (go (ℕ_discrete i n) (some_i n i))
    where
      go : Dec (i ≡ n) → (i < n → f i ≡ true → some n f ≡ true) → T (some n f || f n)
      go (yes p) ih = or_r (some n f) (f n) (true_T _ (rw p at e))
      go (no p) ih = or_l (some n f) (f n) (true_T _ (ih (omega arith) e))

  pub some_e : (n : ℕ) → some n f ≡ true → (i : ℕ) × (i < n) × (f i ≡ true)
  unfolding some
  some_e zero e = let z : true ≡ false = sym e in absurd (true_T false (sym z))
  some_e (suc n) e = go (or_cases (some n f) (f n) (true_T _ e)) (some_e n)
    where
      go : T (some n f) ⊎ T (f n) → (some n f ≡ true → (i : ℕ) × (i < n) × (f i ≡ true)) → (i : ℕ) × (i < suc n) × (f i ≡ true)
      go (inl t) ih = let (i, h, k) = ih (T_true _ t) in (i, omega arith, k)
      go (inr t) ih = (n, omega arith, T_true _ t)

  -- ---- first

  first_le : (n i k : ℕ) → i ≤ k → k < i + n → f k ≡ true → first_from i n f ≤ k
  unfolding first_from
  first_le zero i k lo hi e = absurd (omega arith)
  first_le (suc n) i k lo hi e = go (f i) refl (first_le n (i + 1) k)
    where
      go : (b : Bool) → f i ≡ b → (i + 1 ≤ k → k < i + 1 + n → f k ≡ true → first_from (i + 1) n f ≤ k) → cond b i (first_from (i + 1) n f) ≤ k
      go true q more = lo
      go false q more =
          ⊎_elim
          (λ (same : i ≡ k). let z : true ≡ false = sym e ∙ ap f (sym same) ∙ q in let z : ◌≡◌ {A = ℕ} 0 1 = cc in absurd (omega arith))
          (λ (l : i < k). more (omega arith) (omega arith) e)
          (eq-or-lt_of_le lo)

  pub first_passes : (n i : ℕ) → first_from i n f < i + n → f (first_from i n f) ≡ true
  unfolding first_from
  first_passes zero i h = absurd (omega arith)
  first_passes (suc n) i h = go (f i) refl h (first_passes n (i + 1))
    where
      go : (b : Bool) → f i ≡ b → cond b i (first_from (i + 1) n f) < i + suc n → (first_from (i + 1) n f < i + 1 + n → f (first_from (i + 1) n f) ≡ true)
          → f (cond b i (first_from (i + 1) n f)) ≡ true
      go true q h more = q
      go false q h more = more (omega arith)

-- where a number passes, the first that does is found
pub first_found : (n : ℕ) (f : ℕ → Bool) (k : ℕ) → k < n → f k ≡ true → (first n f < n) × (f (first n f) ≡ true)
first_found n f k h e = let l = first_le f n 0 k (omega arith) (omega arith) e in (omega arith, first_passes f n 0 (omega arith))

module _ {A : Type 0} where
  pub tab-length : (n : ℕ) (f : ℕ → A) → length (tab n f) ≡ n
  unfolding tab
  tab-length zero f = refl
  tab-length (suc n) f = omega (arith, tab-length n (λ k. f (suc k)))

  pub tab-at : (n : ℕ) (f : ℕ → A) (k : ℕ) (d : A) → k < n → get_or (tab n f) k d ≡ f k
  unfolding tab
  tab-at zero f k d h = absurd (omega arith)
  tab-at (suc n) f zero d h = refl
  tab-at (suc n) f (suc k) d h = tab-at n (λ k. f (suc k)) k d (omega arith)

module _ {A : Type 0} (f : ℕ → A → A) (x : A) where
  pub each_none : each 0 f x ≡ x
  unfolding each
  each_none = refl

  pub each_more : (n : ℕ) → each (n + 1) f x ≡ f n (each n f x)
  unfolding each
  each_more n = rw (add-one n)

-- a 0 that is written reads 0, also past the end
pub set_zero : (xs : List ℕ) (k : ℕ) → get_or (set xs k 0) k 0 ≡ 0
set_zero [] k = refl
set_zero (x ∷ xs) zero = refl
set_zero (x ∷ xs) (suc k) = set_zero xs k

pub between : (lo hi x : ℕ) → is_between lo hi x ≡ true → (lo ≤ x) × (x ≤ hi)
between lo hi x e = let h = both (leb lo x) (leb x hi) e in (leb-true lo x h.0, leb-true x hi h.1)
