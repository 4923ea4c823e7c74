-- A table is zeroed: what the pool has of it.
use mathlib.Core.Path.{◌≡◌, refl, sym, ap, ◌∙◌}
use mathlib.Core.Bool.{Bool, true, false}
use mathlib.Core.List.{List}
use Prim.Native.Nat.{ℕ, zero, suc, ◌+◌, ◌-◌, ◌≤◌, min}
use native.Mathlib.Omega.{arith}
use lib.Dec.{ltb}
use lib.ListN.{length, set, replicate, length-replicate}
use borrow.Author.Tests.{ltb-true, ltb-false}
use Rattle.std.proofs.Math.Seq.{paste}
use Rattle.std.proofs.lemmas.List.{set_past}
use Rattle.std.proofs.lemmas.List.Edits.{paste_none, length-paste, fill_from_more}
use Rattle.paging.specs.Numbers.{each}

module _ (xs : List ℕ) (a : ℕ) where
  -- the pool with m zeros from a on, or from its end
  abbrev zeros : ℕ → List ℕ
  zeros m = paste xs (min a (length xs)) (replicate m 0) m

  zeros-length : (m : ℕ) → min a (length xs) + m ≤ length xs → length (zeros m) ≡ length xs
  zeros-length m h = length-paste xs (min a (length xs)) (replicate m 0) m h (omega (arith, length-replicate {A = ℕ} m 0))

  -- of n zeros, the pool has room for m
  pub each_zero : (n m : ℕ) → m ≡ min n (length xs - a) → each n (λ i l. set l (a + i) 0) xs ≡ zeros m
  unfolding each
  each_zero zero m q =
      let z : m ≡ 0 = omega arith in
      paste_none xs (min a (length xs)) (replicate m 0) ∙ ap (paste xs (min a (length xs)) (replicate m 0)) (sym z)
  each_zero (suc n) m q = go (ltb (a + n) (length xs)) refl (each_zero n (min n (length xs - a)) refl)
    where
      k : ℕ
      k = min n (length xs - a)

      go : (b : Bool) → ltb (a + n) (length xs) ≡ b → each n (λ i l. set l (a + i) 0) xs ≡ zeros k
          → set (each n (λ i l. set l (a + i) 0) xs) (a + n) 0 ≡ zeros m
      go true t ih =
          let h = ltb-true (a + n) (length xs) t in
          let i : a + n ≡ min a (length xs) + k = omega arith in
          let j : k + 1 ≡ m = omega arith in
          rw (ih, i, ← j) (fill_from_more xs (min a (length xs)) k 0 (omega arith))
      go false t ih =
          let h = ltb-false (a + n) (length xs) t in
          let j : k ≡ m = omega arith in
          rw (ih, ← j) (set_past (zeros k) (a + n) 0 (omega (arith, zeros-length k (omega arith))))
