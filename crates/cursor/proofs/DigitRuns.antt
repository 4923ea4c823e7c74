-- One byte further: the run of digits that is left, and its value.
use mathlib.Core.Path.{◌≡◌, refl, sym, ap, ap₂, ◌∙◌, subst⁻¹}
use mathlib.Core.Bool.{Bool, true, false, cond, not, ◌&&◌, and-false, false≢true}
use mathlib.Core.List.{List, [], ◌∷◌}
use Prim.Native.Nat.{ℕ, suc, ◌+◌, ◌-◌, ◌*◌, ◌^◌, ◌≤◌, ◌<◌}
use native.Mathlib.Nat.{le_refl, le_trans, add-zero}
use native.Mathlib.Omega.{arith}
use lib.Dec.{ltb}
use lib.ListN.{length, drop, get_or, drop_of_length-le, length-drop}
use lib.Seq.{get_or-drop}
use borrow.Author.Tests.{eq-eqb, ne_eqb, le-leb, lt-leb, lt-ltb, le-ltb, ltb-true}
use Rattle.cursor.specs.declared.Cursor.{Cursor}
use Rattle.cursor.specs.declared.Digits.{Digits}
use Rattle.cursor.specs.declared.NoNumber.{NoNumber}
use Rattle.cursor.specs.declared.Number.{Number}
use Rattle.std.specs.Prelude.{Some, None, Ok, Err}
use Rattle.cursor.specs.Text.{line_at, cursor_at, past_blanks, is_digit, run, value_from, value_of, leading_zero, is_number, next_at}
use Rattle.cursor.specs.CursorCode.{Stands, digits_at}
use Rattle.cursor.proofs.Lines.{left, line_same, blanks_few}

pub digit_yes : (b : ℕ) → 48 ≤ b → b ≤ 57 → is_digit b ≡ true
digit_yes b l h = simp (le-leb 48 b l, le-leb b 57 h)

pub digit_low : (b : ℕ) → b < 48 → is_digit b ≡ false
digit_low b l = simp (lt-leb 48 b l)

pub digit_high : (b : ℕ) → 57 < b → is_digit b ≡ false
digit_high b l = simp (le-leb 48 b (omega arith), lt-leb b 57 l)

module _ (s : List ℕ) (at : ℕ) where
  run_more : at < length s → is_digit (get_or s at 0) ≡ true → run (drop at s) ≡ get_or s at 0 ∷ run (drop (at + 1) s)
  unfolding run
  run_more h e = ap run (left s at h) ∙ simp e

  pub run_stop : at < length s → is_digit (get_or s at 0) ≡ false → run (drop at s) ≡ []
  unfolding run
  run_stop h e = ap run (left s at h) ∙ simp e

  pub run_end : length s ≤ at → run (drop at s) ≡ []
  unfolding run
  run_end h = ap run (drop_of_length-le s h)

  pub value_more : (n : ℕ) → at < length s → is_digit (get_or s at 0) ≡ true
      → value_from (n * 10 + (get_or s at 0 - 48)) (run (drop (at + 1) s)) ≡ value_from n (run (drop at s))
  unfolding value_from
  value_more n h e = sym (ap (value_from n) (run_more h e))

  pub length_more : at < length s → is_digit (get_or s at 0) ≡ true → at + 1 + length (run (drop (at + 1) s)) ≡ at + length (run (drop at s))
  length_more h e = omega (arith, ap length (run_more h e))

-- a number only grows with its digits
pub grows : (n : ℕ) (l : List ℕ) → n ≤ value_from n l
unfolding value_from
grows n [] = le_refl n
grows n (x ∷ xs) = le_trans (omega arith) (grows (n * 10 + (x - 48)) xs)

-- the answer of a run whose value and end are known
module _ (s : List ℕ) (from : ℕ) where
  pub digits_are : (d : Digits) → value_of (run (drop from s)) ≡ d.value → from + length (run (drop from s)) ≡ d.end → d.value < 2 ^ 64 → Some d ≡ digits_at s from
  digits_are d p q h =
      sym (simp (lt-ltb (value_of (run (drop from s))) (2 ^ 64) (omega arith)) (ap₂ (λ (v e : ℕ). Some (record { value = v; end = e })) p q))

  pub digits_big : 2 ^ 64 ≤ value_of (run (drop from s)) → None ≡ digits_at s from
  digits_big h = sym (simp (le-ltb (value_of (run (drop from s))) (2 ^ 64) h))

-- what an answer says of the run
value_cases : (t : Bool) (d k : Digits) → Some d ≡ cond t (Some k) None → (t ≡ true) × (k ≡ d)
value_cases true d k q = (refl, cc)
value_cases false d k q = cc

big_cases : (t : Bool) (k : Digits) → None ≡ cond t (Some k) None → t ≡ false
big_cases true k q = cc
big_cases false k q = refl

module _ (s : List ℕ) (from : ℕ) where
  pub value_told : {d : Digits} → Some d ≡ digits_at s from
      → (ltb (value_of (run (drop from s))) (2 ^ 64) ≡ true) × (value_of (run (drop from s)) ≡ d.value) × (from + length (run (drop from s)) ≡ d.end)
  value_told {d} q =
      let w = value_cases (ltb (value_of (run (drop from s))) (2 ^ 64)) d (record { value = value_of (run (drop from s)); end = from + length (run (drop from s)) }) q in
      (w.0, ap (λ (k : Digits). k.value) w.1, ap (λ (k : Digits). k.end) w.1)

  pub big_told : None ≡ digits_at s from → ltb (value_of (run (drop from s))) (2 ^ 64) ≡ false
  big_told q = big_cases (ltb (value_of (run (drop from s))) (2 ^ 64)) (record { value = value_of (run (drop from s)); end = from + length (run (drop from s)) }) q

line_digit : (s : List ℕ) (at : ℕ) (t : Bool) (x : ℕ) (xs : List ℕ) → at < length s → get_or s at 0 ≡ x → is_digit x ≡ t
    → line_at s (at + 1 + length xs) ≡ line_at s (at + 1) → line_at s (at + length (cond t (x ∷ xs) [])) ≡ line_at s at
line_digit s at true x xs h e d r =
    let m : at + suc (length xs) ≡ at + 1 + length xs = omega arith in
    ap (line_at s) m ∙ r ∙ line_same s at h (λ (z : get_or s at 0 ≡ 10). false≢true (ap is_digit (sym z ∙ e) ∙ d))
line_digit s at false x xs h e d r = ap (line_at s) (add-zero at)

-- a digit is no line feed, so a number stands on one line
line-run : (s l : List ℕ) (at : ℕ) → drop at s ≡ l → line_at s (at + length (run l)) ≡ line_at s at
unfolding run
line-run s [] at e = ap (line_at s) (add-zero at)
line-run s (x ∷ xs) at e =
    let n : length s - at ≡ suc (length xs) = sym (length-drop at s) ∙ ap length e in
    let h : at < length s = omega arith in
    let d : x ∷ xs ≡ get_or s at 0 ∷ drop (at + 1) s = sym e ∙ left s at h in
    line_digit s at (is_digit x) x (run xs) h (cc) refl (line-run s xs (at + 1) (cc))

first_digit : (t : Bool) (x y : ℕ) (xs : List ℕ) → 0 < length (cond t (x ∷ xs) []) → get_or (cond t (x ∷ xs) []) 0 0 ≡ x
first_digit true x y xs h = refl
first_digit false x y xs h = absurd (omega arith)

first_of_run : (l : List ℕ) → 0 < length (run l) → (0 < length l) × (get_or (run l) 0 0 ≡ get_or l 0 0)
unfolding run
first_of_run [] h = absurd (omega arith)
first_of_run (x ∷ xs) h = (omega arith, first_digit (is_digit x) x x (run xs) h)

module _ (s : List ℕ) (at : ℕ) where
  pub first_inside : 0 < length (run (drop at s)) → at < length s
  first_inside h = omega (arith, (first_of_run (drop at s) h).0, length-drop at s)

  first_is : 0 < length (run (drop at s)) → get_or (run (drop at s)) 0 0 ≡ get_or s at 0
  first_is h = (first_of_run (drop at s) h).1 ∙ get_or-drop at s 0 0 ∙ ap (λ (n : ℕ). get_or s n 0) (omega arith)

  pub run_none : length (run (drop at s)) ≡ 0 → is_number (run (drop at s)) ≡ false
  run_none e = simp (le-ltb 0 (length (run (drop at s))) (omega arith))

  pub run_big : ltb (value_of (run (drop at s))) (2 ^ 64) ≡ false → is_number (run (drop at s)) ≡ false
  run_big e = simp (e, and-false)

  pub run_zero : get_or s at 0 ≡ 48 → 1 < length (run (drop at s)) → is_number (run (drop at s)) ≡ false
  run_zero e h =
      simp (eq-eqb (get_or (run (drop at s)) 0 0) 48 (first_is (omega arith) ∙ e), lt-ltb 1 (length (run (drop at s))) h, and-false)

  pub run-one : length (run (drop at s)) ≡ 1 → ltb (value_of (run (drop at s))) (2 ^ 64) ≡ true → is_number (run (drop at s)) ≡ true
  run-one e v = simp (lt-ltb 0 (length (run (drop at s))) (omega arith), le-ltb 1 (length (run (drop at s))) (omega arith), and-false, v)

  pub run_other : (get_or s at 0 ≡ 48 → ⊥) → 0 < length (run (drop at s)) → ltb (value_of (run (drop at s))) (2 ^ 64) ≡ true → is_number (run (drop at s)) ≡ true
  run_other n h v =
      simp (lt-ltb 0 (length (run (drop at s))) h, ne_eqb (get_or (run (drop at s)) 0 0) 48 (λ e. n (sym (first_is h) ∙ e)), v)

-- the answers, from the cursor past the blanks
module _ (s : List ℕ) (at : ℕ) {here : Cursor} (is : here ≡ cursor_at s (past_blanks s at)) where
  pub none_here : is_number (run (drop here.at s)) ≡ false → Err (record { line = here.line }) ≡ next_at s at
  none_here =
      subst⁻¹ (λ (h : Cursor). is_number (run (drop h.at s)) ≡ false → Err (record { line = h.line }) ≡ next_at s at) is (λ n. sym (simp n))

  pub number_here : {v e : ℕ} → is_number (run (drop here.at s)) ≡ true → value_of (run (drop here.at s)) ≡ v → here.at + length (run (drop here.at s)) ≡ e
      → Ok (record { value = v; after = record { at = e; line = here.line } }) ≡ next_at s at
  number_here {v} {e} =
      subst⁻¹ (λ (h : Cursor). is_number (run (drop h.at s)) ≡ true → value_of (run (drop h.at s)) ≡ v → h.at + length (run (drop h.at s)) ≡ e
      → Ok (record { value = v; after = record { at = e; line = h.line } }) ≡ next_at s at) is
      (λ n p q. sym (simp n (ap₂ (λ (w : ℕ) (c : Cursor). Ok (record { value = w; after = c })) p (ap₂ (λ (a l : ℕ). record { at = a; line = l }) q (line-run s (drop (past_blanks s at) s) (past_blanks s at) refl)))))

  pub here_inside : at ≤ length s → here.at ≤ length s
  here_inside h = subst⁻¹ (λ (k : Cursor). k.at ≤ length s) is (omega (arith, blanks_few (drop at s), length-drop at s))

run_if : (t : Bool) (x : ℕ) (xs : List ℕ) (n : ℕ) → length xs ≤ n → length (cond t (x ∷ xs) []) ≤ suc n
run_if true x xs n h = omega arith
run_if false x xs n h = omega arith

run_few : (l : List ℕ) → length (run l) ≤ length l
unfolding run
run_few [] = omega arith
run_few (x ∷ xs) = run_if (is_digit x) x (run xs) (length xs) (run_few xs)

-- what an answer says of the next number
module _ (t : Bool) (m : Number) (f : NoNumber) where
  number_cases : (n : Number) → Ok n ≡ cond t (Ok m) (Err f) → (t ≡ true) × (n ≡ m)
  number_cases n q = elim t as (λ (b : Bool). Ok n ≡ cond b (Ok m) (Err f) → (b ≡ true) × (n ≡ m)) [ true ↦ λ q. (refl, cc) | false ↦ λ q. cc ] q

  bad_cases : (e : NoNumber) → Err e ≡ cond t (Ok m) (Err f) → e ≡ f
  bad_cases e q = elim t as (λ (b : Bool). Err e ≡ cond b (Ok m) (Err f) → e ≡ f) [ true ↦ λ q. cc | false ↦ λ q. cc ] q

module _ (s : List ℕ) (at : ℕ) where
  number_is : {n : Number} → Ok n ≡ next_at s at
      → let here = past_blanks s at in let digits = run (drop here s) in
      (is_number digits ≡ true) × (n ≡ record { value = value_of digits; after = cursor_at s (here + length digits) })
  number_is {n} q = number_cases _ _ _ n q

  pub next-line : {n : Number} → Ok n ≡ next_at s at → n.after.line ≡ line_at s (past_blanks s at)
  next-line q = ap (λ (k : Number). k.after.line) (number_is q).1 ∙ line-run s (drop (past_blanks s at) s) (past_blanks s at) refl

  pub next_small : {n : Number} → Ok n ≡ next_at s at → n.value < 2 ^ 64
  next_small q =
      let digits = run (drop (past_blanks s at) s) in
      let w = number_is q in
      omega (arith, ap (λ (k : Number). k.value) w.1, ltb-true (value_of digits) (2 ^ 64) (last_true (ltb 0 (length digits) && not (leading_zero digits)) (ltb (value_of digits) (2 ^ 64)) w.0))
    where
      last_true : (a b : Bool) → (a && b) ≡ true → b ≡ true
      last_true true b e = e
      last_true false b e = absurd (false≢true e)

  pub bad_line : {e : NoNumber} → Err e ≡ next_at s at → e.line ≡ line_at s (past_blanks s at)
  bad_line {e} q = ap (λ (f : NoNumber). f.line) (bad_cases _ _ _ e q)

  -- the cursor after a number is a cursor of the text
  pub next-stands : {n : Number} → at ≤ length s → Ok n ≡ next_at s at → Stands s n.after
  next-stands h q =
      let here = past_blanks s at in
      subst⁻¹ (λ (k : Number). Stands s k.after) (number_is q).1
      (record { inside = omega (arith, blanks_few (drop at s), length-drop at s, run_few (drop here s), length-drop here s); lined = refl })
