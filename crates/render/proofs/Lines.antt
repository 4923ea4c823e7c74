-- One number, or one pair, of a line or of the outcomes: it comes first of what is left to write.
use mathlib.Core.Path.{◌≡◌, refl, sym, ap, ◌∙◌, subst}
use mathlib.Core.List.{List, [], ◌∷◌, ◌++◌}
use Prim.Native.Nat.{ℕ, suc, ◌+◌, ◌*◌, ◌≤◌, ◌<◌}
use native.Mathlib.Numerals.{add-one}
use native.Mathlib.Omega.{arith}
use lib.ListN.{length, drop, get_or, drop_of_length-le}
use lib.Seq.{drop-cons}
use Rattle.cursor.specs.Text.{digits_of, spaced}
use Rattle.render.specs.LinesCode.{pair_line, pair_lines, Mapped, AllMapped}

pub number_more : (ns : List ℕ) (i : ℕ) → i < length ns → spaced (drop i ns) ≡ (32 ∷ digits_of (get_or ns i 0)) ++ spaced (drop (i + 1) ns)
unfolding spaced
number_more ns i h =
    let n : List ℕ = 32 ∷ digits_of (get_or ns i 0) in
    ap spaced (drop-cons ns i 0 h) ∙ ap (λ (k : ℕ). n ++ spaced (drop k ns)) (sym (add-one i))

pub number_end : (ns : List ℕ) (i : ℕ) → length ns ≤ i → spaced (drop i ns) ≡ 10 ∷ []
unfolding spaced
number_end ns i h = ap spaced (drop_of_length-le ns h)

module _ (map : List ℕ) where
  pub pair_more : (addr : ℕ) (pair rest : List ℕ) → length pair ≡ 2
      → pair_lines map addr (pair ++ rest) ≡ pair_line map addr (get_or pair 0 0) (get_or pair 1 0) ++ pair_lines map addr rest
  unfolding pair_lines
  pair_more addr [] rest h = absurd (omega arith)
  pair_more addr (x ∷ []) rest h = absurd (omega arith)
  pair_more addr (x ∷ y ∷ []) rest h = refl
  pair_more addr (x ∷ y ∷ z ∷ ns) rest h = absurd (omega arith)

  pub pair_end : (addr : ℕ) (ns : List ℕ) → length ns < 2 → pair_lines map addr ns ≡ []
  unfolding pair_lines
  pair_end addr [] h = refl
  pair_end addr (x ∷ []) h = refl
  pair_end addr (x ∷ y ∷ ns) h = absurd (omega arith)

  -- what is asked of each pair holds of the first, and of each behind it
  pub mapped_more : (pair rest : List ℕ) → length pair ≡ 2 → AllMapped map (pair ++ rest) → Mapped map (get_or pair 0 0) (get_or pair 1 0) × AllMapped map rest
  mapped_more [] rest h all = absurd (omega arith)
  mapped_more (x ∷ []) rest h all = absurd (omega arith)
  mapped_more (x ∷ y ∷ []) rest h all = (
    all 0 (omega arith),
    λ k l.
        let e : 2 * (k + 1) ≡ suc (suc (2 * k)) = omega arith in
        let d : 2 * (k + 1) + 1 ≡ suc (suc (2 * k + 1)) = omega arith in
        subst (λ (i : ℕ). Mapped map (get_or (x ∷ y ∷ rest) i 0) (get_or rest (2 * k + 1) 0)) e
        (subst (λ (i : ℕ). Mapped map (get_or (x ∷ y ∷ rest) (2 * (k + 1)) 0) (get_or (x ∷ y ∷ rest) i 0)) d (all (k + 1) (omega arith))),
  )
  mapped_more (x ∷ y ∷ z ∷ ns) rest h all = absurd (omega arith)
