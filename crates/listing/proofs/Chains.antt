-- What a chain over numbered bytes gives, in the words of specs/.
use mathlib.Core.Path.{◌≡◌, refl, sym, ◌∙◌, ap}
use mathlib.Core.Bool.{Bool, true, false}
use mathlib.Core.List.{List, []}
use Prim.Native.Nat.{ℕ, zero, suc, ◌+◌, ◌*◌, ◌<◌}
use native.Mathlib.Omega.{arith}
use lib.Dec.{ltb}
use borrow.Author.Tests.{ltb-true}
use lib.ListN.{length, get_or, take, drop}
use Rattle.std.specs.Bool.{MatchBool}
use Rattle.std.specs.List.{enumerate_from, HoldsAt, AllWithin}
use Rattle.std.proofs.lemmas.List.FromFn.{get_or-enumerate_from, length-enumerate_from}
use Rattle.std.specs.Simd.{first_chunks}
use Rattle.std.proofs.lemmas.List.{drop-drop, get_or-take, get_or-drop}
use Rattle.rules.specs.Numbers.{event_of}
use Rattle.paging.specs.Numbers.{some}
use Rattle.paging.proofs.Numbers.{some_i}

none_of : (f : ℕ → Bool) (n : ℕ) → ((k : ℕ) → k < n → f k ≡ false) → some n f ≡ false
unfolding some
none_of f zero h = refl
none_of f (suc n) h = simp (none_of f n (λ k lt. h k (omega arith)), h n (omega arith))

pub any_numbered : (f : ℕ × ℕ → Bool) (xs : List ℕ) (n : ℕ) (g : ℕ → Bool) → length xs ≡ n → ((k : ℕ) → k < n → g k ≡ f (k, get_or xs k 0)) → (r : Bool)
    → MatchBool r ((k : ℕ) × (k < length (enumerate_from 0 xs)) × HoldsAt (λ p. f p ≡ true) (enumerate_from 0 xs) k)
    (AllWithin (λ p. f p ≡ false) (enumerate_from 0 xs) 0 (length (enumerate_from 0 xs)))
    → r ≡ some n g
any_numbered f xs n g size same r m = go r m
  where
    item : (k : ℕ) → k < n → f (get_or (enumerate_from 0 xs) k (0, 0)) ≡ g k
    item k lt =
        let zero : 0 + k ≡ k = omega arith in
        ap f (get_or-enumerate_from 0 xs k (0, 0) (omega arith)) ∙ ap (λ (j : ℕ). f (j, get_or xs k 0)) zero ∙ sym (same k lt)

    go : (r : Bool) → MatchBool r ((k : ℕ) × (k < length (enumerate_from 0 xs)) × HoldsAt (λ p. f p ≡ true) (enumerate_from 0 xs) k)
        (AllWithin (λ p. f p ≡ false) (enumerate_from 0 xs) 0 (length (enumerate_from 0 xs))) → r ≡ some n g
    go true (k, lt, holds) = let small : k < n = omega (arith, length-enumerate_from 0 xs) in sym (some_i g n k small (sym (item k small) ∙ holds (0, 0)))
    go false none = sym (none_of g n (λ k lt. sym (item k lt) ∙ none k (0, 0) (omega arith) (omega (arith, length-enumerate_from 0 xs))))

-- the k-th chunk of four numbers holds the k-th event
chunk_at : (n k : ℕ) (xs : List ℕ) → k < n → get_or (first_chunks 4 n xs) k [] ≡ take 4 (drop (4 * k) xs)
chunk_at zero k xs h = absurd (omega arith)
chunk_at (suc n) zero xs h = refl
chunk_at (suc n) (suc k) xs h =
    let next : 4 + 4 * k ≡ 4 * suc k = omega arith in
    chunk_at n k (drop 4 xs) (omega arith) ∙ rw drop-drop (rw next refl)

pub chunk_event : (n k : ℕ) (xs : List ℕ) → k < n → event_of (get_or (first_chunks 4 n xs) k []) 0 ≡ event_of xs k
chunk_event n k xs h = rw (chunk_at n k xs h) (let zero : 4 * k + 0 ≡ 4 * k = omega arith in λ i. record { proc = (word 0 refl ∙ ap (λ (j : ℕ). get_or xs j 0) zero) i; kind = word 1 refl i; a = word 2 refl i; b = word 3 refl i })
  where
    word : (j : ℕ) → ltb j 4 ≡ true → get_or (take 4 (drop (4 * k) xs)) j 0 ≡ get_or xs (4 * k + j) 0
    word j t = get_or-take 4 (drop (4 * k) xs) j 0 (ltb-true j 4 t) ∙ get_or-drop (4 * k) xs j 0
