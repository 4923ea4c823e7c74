-- One number further: sums and searches. Each law turns what a loop has done into what it has done next.
use mathlib.Core.Path.{◌≡◌, refl, sym, ap, ap₂, ◌∙◌}
use mathlib.Core.Bool.{Bool, true, false, cond}
use mathlib.Core.Logic.{◌⊎◌, ⊎_elim}
use Prim.Native.Nat.{ℕ, zero, suc, ◌+◌, ◌≤◌}
use native.Mathlib.Numerals.{add-one}
use native.Mathlib.Omega.{arith}
use Rattle.paging.specs.Numbers.{sum, count, first_from}

-- the sum first, so that the cases know their types
pub by_cases : {A B C : Type 0} → A ⊎ B → (A → C) → (B → C) → C
by_cases s f g = ⊎_elim f g s

pub sum_none : (f : ℕ → ℕ) → 0 ≡ sum 0 f
unfolding sum
sum_none f = refl

pub sum_more : (i : ℕ) (f : ℕ → ℕ) → sum i f + f i ≡ sum (i + 1) f
unfolding sum
sum_more i f = rw add-one

-- a number counts, or does not
pub count_hit : (i : ℕ) (f : ℕ → Bool) {s : ℕ} → s ≡ count i f → f i ≡ true → s + 1 ≡ count (i + 1) f
count_hit i f e h = ap₂ ◌+◌ e (ap (λ (b : Bool). cond b 1 0) (sym h)) ∙ sum_more i (λ k. cond (f k) 1 0)

pub count_miss : (i : ℕ) (f : ℕ → Bool) {s : ℕ} → s ≡ count i f → f i ≡ false → s ≡ count (i + 1) f
count_miss i f e h = omega (arith, e, ap {B = ℕ} (λ (b : Bool). cond b 1 0) h, sum_more i (λ k. cond (f k) 1 0))

pub count_small : (n : ℕ) (f : ℕ → Bool) → count n f ≤ n
unfolding sum
count_small zero f = omega arith
count_small (suc n) f = one (f n) (count_small n f)
  where
    one : (b : Bool) → count n f ≤ n → sum n (λ k. cond (f k) 1 0) + cond b 1 0 ≤ suc n
    one true r = omega arith
    one false r = omega arith

-- a search over what is left says the same until it ends
module _ (f : ℕ → Bool) (i n : ℕ) where
  pub first-here : (m : ℕ) → n ≡ suc m → f i ≡ true → i ≡ first_from i n f
  unfolding first_from
  first-here m q h = sym (ap (λ (k : ℕ). first_from i k f) q ∙ ap (λ (b : Bool). cond b i (first_from (i + 1) m f)) h)

  pub first_on : (m : ℕ) → n ≡ suc m → f i ≡ false → first_from (i + 1) m f ≡ first_from i n f
  unfolding first_from
  first_on m q h = sym (ap (λ (k : ℕ). first_from i k f) q ∙ ap (λ (b : Bool). cond b i (first_from (i + 1) m f)) h)

  pub first_none : n ≡ 0 → i ≡ first_from i n f
  unfolding first_from
  first_none q = sym (ap (λ (k : ℕ). first_from i k f) q)
