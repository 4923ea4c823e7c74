-- A copy: the elements passed are those of the other list.
use mathlib.Core.Path.{◌≡◌, ap, sym, ◌∙◌}
use mathlib.Core.List.{List, [], ◌∷◌, ◌++◌}
use Prim.Native.Nat.{ℕ, ◌+◌, ◌≤◌, ◌<◌}
use native.Mathlib.Numerals.{add-one}
use lib.ListN.{length, take, get_or, set}
use lib.Seq.{take-suc, take-suc-set, take_all}

module _ (l s : List ℕ) (i : ℕ) (e : take i l ≡ take i s) where
  pub copy_more : i < length l → i < length s → take (i + 1) (set l i (get_or s i 0)) ≡ take (i + 1) s
  copy_more h k =
      ap (λ (n : ℕ). take n (set l i (get_or s i 0))) (add-one i)
      ∙ take-suc-set l i (get_or s i 0) h
      ∙ ap (λ (m : List ℕ). m ++ get_or s i 0 ∷ []) e
      ∙ sym (take-suc s i 0 k)
      ∙ ap (λ (n : ℕ). take n s) (sym (add-one i))

  pub copy_all : length l ≤ i → length s ≤ i → l ≡ s
  copy_all h k = sym (take_all i l h) ∙ e ∙ take_all i s k
