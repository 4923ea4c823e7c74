-- What was written is read: the digits of a number are one run without a leading zero, so where they follow they are the next number.
use mathlib.Core.Path.{◌≡◌, refl, ap, ap₂, ◌∙◌}
use mathlib.Core.Bool.{Bool, true, false, cond, ◌||◌}
use mathlib.Core.List.{List, [], ◌∷◌, ◌++◌}
use Prim.Native.Nat.{ℕ, zero, suc, ◌+◌, ◌/◌, ◌%◌, ◌^◌, ◌≤◌, ◌<◌}
use native.Mathlib.Nat.{le_refl}
use native.Mathlib.Omega.{arith}
use lib.Dec.{eqb, ltb}
use lib.ListN.{length, drop, get_or, length-append, get_or-append}
use borrow.Author.Tests.{lt-ltb, ne_eqb, ltb-true, ltb-false}
use Rattle.std.specs.Prelude.{Ok, Err}
use Rattle.cursor.specs.Text.{line_at, cursor_at, blanks, past_blanks, is_digit, run, value_of, digits_in, digits_of, leading_zero, is_number, next_at}
use Rattle.cursor.proofs.DigitRuns.{digit_yes}
use Rattle.cursor.proofs.Decimals.{value_digits}

abbrev AllDigits : List ℕ → Type 0
AllDigits [] = Unit {0}
AllDigits (x ∷ xs) = (48 ≤ x) × (x ≤ 57) × AllDigits xs

-- no digit follows
abbrev pub Stops : List ℕ → Type 0
Stops [] = Unit {0}
Stops (x ∷ xs) = is_digit x ≡ false

all_append : (xs ys : List ℕ) → AllDigits xs → AllDigits ys → AllDigits (xs ++ ys)
all_append [] ys a b = b
all_append (x ∷ xs) ys a b = (a.0, a.1, all_append xs ys a.2 b)

-- the last digit, after those of a tenth
abbrev last_of : ℕ → ℕ → Bool → List ℕ
last_of steps n b = cond b ((48 + n) ∷ []) (digits_in steps (n / 10) ++ (48 + n % 10) ∷ [])

all_if : (steps n : ℕ) (b : Bool) → ltb n 10 ≡ b → AllDigits (digits_in steps (n / 10)) → AllDigits (last_of steps n b)
all_if steps n true e a = let h = ltb-true n 10 e in (omega arith, omega arith, tt)
all_if steps n false e a = all_append (digits_in steps (n / 10)) _ a (omega arith, omega arith, tt)

all_in : (steps n : ℕ) → n ≤ steps → AllDigits (digits_in steps n)
unfolding digits_in
all_in zero n h = (omega arith, omega arith, tt)
all_in (suc steps) n h = all_if steps n (ltb n 10) refl (all_in steps (n / 10) (omega arith))

run_digits : (ds rest : List ℕ) → AllDigits ds → Stops rest → run (ds ++ rest) ≡ ds
unfolding run
run_digits [] [] a s = refl
run_digits [] (x ∷ xs) a s = simp s
run_digits (d ∷ ds) rest a s = simp (digit_yes d a.0 a.1) (ap (λ (l : List ℕ). d ∷ l) (run_digits ds rest a.2 s))

some_if : (steps n : ℕ) (b : Bool) → 0 < length (last_of steps n b)
some_if steps n true = omega arith
some_if steps n false = omega (arith, length-append (digits_in steps (n / 10)) ((48 + n % 10) ∷ []))

some_in : (steps n : ℕ) → 0 < length (digits_in steps n)
unfolding digits_in
some_in zero n = omega arith
some_in (suc steps) n = some_if steps n (ltb n 10)

-- the first digit of a number that is not 0
first_if : (steps n : ℕ) (b : Bool) → ltb n 10 ≡ b → 1 ≤ n → (10 ≤ n → 49 ≤ get_or (digits_in steps (n / 10)) 0 0) → 49 ≤ get_or (last_of steps n b) 0 0
first_if steps n true e h ih = omega arith
first_if steps n false e h ih =
    omega (arith, get_or-append (digits_in steps (n / 10)) ((48 + n % 10) ∷ []) 0 0 (some_in steps (n / 10)), ih (ltb-false n 10 e))

first_in : (steps n : ℕ) → n ≤ steps → 1 ≤ n → 49 ≤ get_or (digits_in steps n) 0 0
unfolding digits_in
first_in zero n h k = omega arith
first_in (suc steps) n h k = first_if steps n (ltb n 10) refl k (λ (m : 10 ≤ n). first_in steps (n / 10) (omega arith) (omega arith))

no_zero : (n : ℕ) → leading_zero (digits_of n) ≡ false
unfolding digits_in
no_zero zero = refl
no_zero (suc n) =
    simp (ne_eqb (get_or (digits_of (suc n)) 0 0) 48 (λ (e : get_or (digits_of (suc n)) 0 0 ≡ 48). omega (arith, first_in (suc n) (suc n) (le_refl (suc n)) (omega arith))))

is_number_lem : (n : ℕ) → n < 2 ^ 64 → is_number (digits_of n) ≡ true
is_number_lem n h = simp (lt-ltb 0 (length (digits_of n)) (some_in n n), no_zero n, lt-ltb (value_of (digits_of n)) (2 ^ 64) (omega (arith, value_digits n)))

no_blanks : (ds rest : List ℕ) → 0 < length ds → AllDigits ds → blanks (ds ++ rest) ≡ 0
unfolding blanks
no_blanks [] rest h a = absurd (omega arith)
no_blanks (d ∷ ds) rest h a = simp (ne_eqb d 32 (λ (e : d ≡ 32). omega (arith, a.0)), ne_eqb d 10 (λ (e : d ≡ 10). omega (arith, a.0)))

module _ (text : List ℕ) (at n : ℕ) (rest : List ℕ) where
  -- the digits of n follow at once, or after one blank
  pub at_once : drop at text ≡ digits_of n ++ rest → past_blanks text at ≡ at
  at_once d = omega (arith, ap blanks d ∙ no_blanks (digits_of n) rest (some_in n n) (all_in n n (le_refl n)))

  pub past_one : (b : ℕ) → (eqb b 32 || eqb b 10) ≡ true → drop at text ≡ b ∷ (digits_of n ++ rest) → past_blanks text at ≡ at + 1
  past_one b e d = ap (λ (k : ℕ). at + k) (ap blanks d ∙ one)
    where
      one : blanks (b ∷ (digits_of n ++ rest)) ≡ 1
      one = unfold blanks in simp e (ap (λ (k : ℕ). 1 + k) (no_blanks (digits_of n) rest (some_in n n) (all_in n n (le_refl n))))

  -- WHERE THE DIGITS OF A NUMBER FOLLOW, IT IS THE NEXT NUMBER
  pub next_digits : n < 2 ^ 64 → Stops rest → (k : ℕ) → past_blanks text at ≡ k → drop k text ≡ digits_of n ++ rest
      → next_at text at ≡ Ok (record { value = n; after = cursor_at text (k + length (digits_of n)) })
  next_digits h s k p d =
      let r : run (drop (past_blanks text at) text) ≡ digits_of n =
      ap (λ (j : ℕ). run (drop j text)) p ∙ ap run d ∙ run_digits (digits_of n) rest (all_in n n (le_refl n)) s in
      ap₂ (λ (j : ℕ) (l : List ℕ). cond (is_number l) (Ok (record { value = value_of l; after = cursor_at text (j + length l) })) (Err (record { line = line_at text j }))) p r
      ∙ simp (is_number_lem n h) (ap (λ (v : ℕ). Ok (record { value = v; after = cursor_at text (k + length (digits_of n)) })) (value_digits n))
