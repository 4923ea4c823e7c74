-- The digits of a number: those of a tenth and one more; at most twenty of a number below 2^64.
use mathlib.Core.Path.{◌≡◌, refl, ap, ◌∙◌}
use mathlib.Core.Bool.{cond}
use mathlib.Core.List.{List, [], ◌∷◌, ◌++◌}
use Prim.Native.Nat.{ℕ, zero, suc, ◌+◌, ◌/◌, ◌%◌, ◌^◌, ◌≤◌, ◌<◌}
use native.Mathlib.Omega.{arith}
use native.Mathlib.Decide.{dec_lt}
use native.Mathlib.Nat.{pow-suc}
use lib.Dec.{ltb}
use lib.ListN.{length, length-append}
use borrow.Author.Tests.{lt-ltb, le-ltb}
use Rattle.cursor.specs.Text.{digits_in, digits_of}

-- more steps than the number do not matter
steps_same : (s t n : ℕ) → n ≤ s → n ≤ t → digits_in s n ≡ digits_in t n
unfolding digits_in
steps_same zero zero n h k = refl
steps_same zero (suc t) n h k = simp (lt-ltb n 10 (omega arith))
steps_same (suc s) zero n h k = simp (lt-ltb n 10 (omega arith))
steps_same (suc s) (suc t) n h k =
    ap (λ (l : List ℕ). cond (ltb n 10) ((48 + n) ∷ []) (l ++ (48 + n % 10) ∷ [])) (steps_same s t (n / 10) (omega arith) (omega arith))

pub digits_small : (n : ℕ) → n < 10 → digits_of n ≡ (48 + n) ∷ []
unfolding digits_in
digits_small zero h = refl
digits_small (suc n) h = simp (lt-ltb (suc n) 10 h)

pub digits_more : (n : ℕ) → 10 ≤ n → digits_of n ≡ digits_of (n / 10) ++ (48 + n % 10) ∷ []
unfolding digits_in
digits_more zero h = absurd (omega arith)
digits_more (suc n) h =
    let e = steps_same n (suc n / 10) (suc n / 10) (omega arith) (omega arith) in
    simp (le-ltb (suc n) 10 h) (ap (λ (l : List ℕ). l ++ (48 + suc n % 10) ∷ []) e)

pub length_more : (n : ℕ) → 10 ≤ n → length (digits_of n) ≡ length (digits_of (n / 10)) + 1
length_more n h = ap length (digits_more n h) ∙ length-append (digits_of (n / 10)) _

-- below 10 ^ k, and at least 1
some_left : (k m : ℕ) → m < 10 ^ k → 1 ≤ m → 0 < k
some_left zero m h l = absurd (omega arith)
some_left (suc k) m h l = omega arith

pub length_few : (k n : ℕ) → 0 < k → n < 10 ^ k → length (digits_of n) ≤ k
length_few zero n some h = absurd (omega arith)
length_few (suc k) n some h = go (dec_lt n 10) (length_few k (n / 10))
  where
    go : Dec (n < 10) → (0 < k → n / 10 < 10 ^ k → length (digits_of (n / 10)) ≤ k) → length (digits_of n) ≤ suc k
    go (yes l) ih = omega (arith, ap length (digits_small n l))
    go (no l) ih =
        let less : n / 10 < 10 ^ k = omega (arith, pow-suc 10 k) in
        omega (arith, length_more n (omega arith), ih (some_left k (n / 10) less (omega arith)) less)

pub length_word : (n : ℕ) → n < 2 ^ 64 → length (digits_of n) ≤ 20
length_word n h = length_few 20 n (omega arith) (omega arith)
