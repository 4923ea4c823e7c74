-- What an iterator's chain gives, in the words of specs/: a test of all elements, or of some, is a test of all places, or of some.
use Rattle.std.specs.Prelude.{Some}
use Rattle.std.specs.Option.{option_map}
use Rattle.std.specs.List.{list_all, list_any, position, position_from}
use Rattle.std.proofs.lemmas.Iterator.Adapters.{position_from-zero}
use mathlib.Core.Path.{◌≡◌, refl, sym, ap, ◌∙◌}
use mathlib.Core.Bool.{Bool, true, false, cond, not, ◌&&◌, ◌||◌}
use mathlib.Core.List.{List, [], ◌∷◌}
use Prim.Native.Nat.{ℕ, zero, suc, ◌+◌}
use lib.Dec.{eqb}
use lib.ListN.{length, get_or}
use Rattle.paging.specs.declared.Host.{Host}
use Rattle.paging.specs.Numbers.{all, some}
use Rattle.paging.specs.Frame.{guest, origin_from, origin_of}

all_first : (f : ℕ → Bool) (n : ℕ) → all (suc n) f ≡ (f 0 && all n (λ i. f (suc i)))
unfolding all
all_first f zero = go (f 0)
  where
    go : (b : Bool) → (true && b) ≡ (b && true)
    go true = refl
    go false = refl
all_first f (suc n) = rw (all_first f n) (go (f 0) (all n (λ i. f (suc i))) (f (suc n)))
  where
    go : (a b c : Bool) → ((a && b) && c) ≡ (a && (b && c))
    go true b c = refl
    go false b c = refl

pub all_list : (f : ℕ → Bool) (xs : List ℕ) → list_all f xs ≡ all (length xs) (λ i. f (get_or xs i 0))
unfolding all
all_list f [] = refl
all_list f (x ∷ xs) = ap (λ (b : Bool). f x && b) (all_list f xs) ∙ sym (all_first (λ i. f (get_or (x ∷ xs) i 0)) (length xs))

any_all : (f : ℕ → Bool) (xs : List ℕ) → not (list_any f xs) ≡ list_all (λ x. not (f x)) xs
any_all f [] = refl
any_all f (x ∷ xs) = go (f x) (list_any f xs) ∙ ap (λ (b : Bool). not (f x) && b) (any_all f xs)
  where
    go : (a b : Bool) → not (a || b) ≡ (not a && not b)
    go true b = refl
    go false b = refl

pub none_list : (f : ℕ → Bool) (xs : List ℕ) → not (list_any f xs) ≡ all (length xs) (λ i. not (f (get_or xs i 0)))
none_list f xs = any_all f xs ∙ all_list (λ x. not (f x)) xs

origin_found : (k : ℕ) (map : List ℕ) (h : Host) → option_map guest (position_from (λ f. eqb f h.0) k map) ≡ origin_from k map h
unfolding origin_from
origin_found k [] h = refl
origin_found k (x ∷ xs) h = go (eqb x h.0) (origin_found (k + 1) xs h)
  where
    go : (b : Bool) → option_map guest (position_from (λ f. eqb f h.0) (k + 1) xs) ≡ origin_from (k + 1) xs h
        → option_map guest (cond b (Some k) (position_from (λ f. eqb f h.0) (k + 1) xs)) ≡ cond b (Some (guest k)) (origin_from (k + 1) xs h)
    go true e = refl
    go false e = e

pub origin_position : (map : List ℕ) (h : Host) → option_map guest (position (λ f. eqb f h.0) map) ≡ origin_of map h
origin_position map h = ap (option_map guest) (position_from-zero (λ f. eqb f h.0) map) ∙ origin_found 0 map h
