-- One byte further: the blanks that are left, and the line.
use mathlib.Core.Path.{◌≡◌, sym, ap, ◌∙◌}
use mathlib.Core.Bool.{Bool, true, false, cond, ◌||◌}
use mathlib.Core.List.{List, [], ◌∷◌, ◌++◌}
use Prim.Native.Nat.{ℕ, suc, ◌+◌, ◌-◌, ◌≤◌, ◌<◌}
use native.Mathlib.Numerals.{add-one}
use native.Mathlib.Omega.{arith}
use lib.Dec.{eqb}
use lib.ListN.{length, take, drop, get_or, drop_of_length-le, length-take, length-drop}
use lib.Seq.{drop-cons, take-suc, get_or-take, get_or-drop}
use borrow.Author.Tests.{eq-eqb, ne_eqb}
use Rattle.cursor.specs.Text.{feeds, line_at, blanks, past_blanks}

-- the slice `&s[from..]`, byte by byte
abbrev pub rest : List ℕ → ℕ → List ℕ
rest s from = take (length s - from) (drop from s)

module _ (s : List ℕ) (from i : ℕ) where
  pub rest_inside : i < length (rest s from) → from + i < length s
  rest_inside h = omega (arith, length-take (length s - from) (drop from s), length-drop from s)

  pub rest_over : length (rest s from) ≤ i → length s ≤ from + i
  rest_over h = omega (arith, length-take (length s - from) (drop from s), length-drop from s)

  pub rest_byte : i < length (rest s from) → get_or (rest s from) i 0 ≡ get_or s (from + i) 0
  rest_byte h = get_or-take (length s - from) (drop from s) i 0 (omega (arith, length-take (length s - from) (drop from s))) ∙ get_or-drop from s i 0

pub left : (s : List ℕ) (at : ℕ) → at < length s → drop at s ≡ get_or s at 0 ∷ drop (at + 1) s
left s at h = drop-cons s at 0 h ∙ ap (λ (n : ℕ). get_or s at 0 ∷ drop n s) (sym (add-one at))

feeds_append : (a b : List ℕ) → feeds (a ++ b) ≡ feeds a + feeds b
unfolding feeds
feeds_append [] b = omega arith
feeds_append (x ∷ xs) b = omega (arith, feeds_append xs b)

module _ (s : List ℕ) (at : ℕ) (h : at < length s) where
  line_more : line_at s (at + 1) ≡ line_at s at + cond (eqb (get_or s at 0) 10) 1 0
  unfolding feeds
  line_more =
      let e : feeds (take (at + 1) s) ≡ feeds (take at s) + cond (eqb (get_or s at 0) 10) 1 0 =
      ap (λ (n : ℕ). feeds (take n s)) (add-one at) ∙ ap feeds (take-suc s at 0 h) ∙ feeds_append (take at s) (get_or s at 0 ∷ []) ∙ omega arith
      in omega arith

  pub line_feed : get_or s at 0 ≡ 10 → line_at s (at + 1) ≡ line_at s at + 1
  line_feed e = line_more ∙ simp (eq-eqb (get_or s at 0) 10 e)

  pub line_same : (get_or s at 0 ≡ 10 → ⊥) → line_at s (at + 1) ≡ line_at s at
  line_same n = line_more ∙ simp (ne_eqb (get_or s at 0) 10 n) (omega arith)

  pub blank_feed : get_or s at 0 ≡ 10 → past_blanks s (at + 1) ≡ past_blanks s at
  unfolding blanks
  blank_feed e =
      let b : blanks (drop at s) ≡ 1 + blanks (drop (at + 1) s) = ap blanks (left s at h) ∙ simp e in
      omega arith

  pub blank_space : get_or s at 0 ≡ 32 → past_blanks s (at + 1) ≡ past_blanks s at
  unfolding blanks
  blank_space e =
      let b : blanks (drop at s) ≡ 1 + blanks (drop (at + 1) s) = ap blanks (left s at h) ∙ simp e in
      omega arith

  pub blank_none : (get_or s at 0 ≡ 10 → ⊥) → (get_or s at 0 ≡ 32 → ⊥) → past_blanks s at ≡ at
  unfolding blanks
  blank_none n m =
      let b : blanks (drop at s) ≡ 0 = ap blanks (left s at h) ∙ simp (ne_eqb (get_or s at 0) 10 n, ne_eqb (get_or s at 0) 32 m) in
      omega arith

pub blank_end : (s : List ℕ) (at : ℕ) → length s ≤ at → past_blanks s at ≡ at
unfolding blanks
blank_end s at h =
    let b : blanks (drop at s) ≡ 0 = ap blanks (drop_of_length-le s h) in
    omega arith

cond_one : (b : Bool) → cond b 1 0 ≤ 1
cond_one true = omega arith
cond_one false = omega arith

feeds_few : (l : List ℕ) → feeds l ≤ length l
unfolding feeds
feeds_few [] = omega arith
feeds_few (x ∷ xs) = omega (arith, cond_one (eqb x 10), feeds_few xs)

pub line_bound : (s : List ℕ) (at : ℕ) → line_at s at ≤ at + 1
line_bound s at = omega (arith, feeds_few (take at s), length-take at s)

cond_few : (b : Bool) (m n : ℕ) → m ≤ n → cond b (1 + m) 0 ≤ suc n
cond_few true m n h = omega arith
cond_few false m n h = omega arith

pub blanks_few : (l : List ℕ) → blanks l ≤ length l
unfolding blanks
blanks_few [] = omega arith
blanks_few (x ∷ xs) = cond_few (eqb x 32 || eqb x 10) (blanks xs) (length xs) (blanks_few xs)
