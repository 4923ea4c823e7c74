-- Lists of outcomes that rise: such a list is settled by its members. And `keep`, a list without what fails a test.
use mathlib.Core.Path.{◌≡◌, refl, sym, ap₂, ◌∙◌}
use mathlib.Core.Logic.{◌↔◌, ◌⊎◌, inl, inr}
use mathlib.Core.Bool.{Bool, true, false, cond}
use mathlib.Core.List.Memᴰ
use mathlib.Core.List.{List, [], ◌∷◌, Memᴰ}
use native.Mathlib.Omega.{arith}
use lib.Dec.{T}
use Rattle.rules.specs.declared.Outcome.{Outcome}
use Rattle.rules.specs.declared.Outcome.TheVariants.{Address, Fault}
use Rattle.rules.specs.Outcome.{Before, Rises}
use Rattle.rules.specs.Counts.{keep}

module _ {A : Type 0} where
  abbrev pub Mem : A → List A → Type 0
  Mem a l = Memᴰ a l

  pub keep_e : (p : A → Bool) (xs : List A) (a : A) → Mem a (keep p xs) → Mem a xs × T (p a)
  unfolding keep
  keep_e p [] a m = absurd (Memᴰ.not-nil m)
  keep_e p (x ∷ xs) a m = go (p x) refl m (keep_e p xs a)
    where
      go : (b : Bool) → p x ≡ b → Mem a (cond b (x ∷ keep p xs) (keep p xs)) → (Mem a (keep p xs) → Mem a xs × T (p a)) → Mem a (x ∷ xs) × T (p a)
      go false e k ih = let r = ih k in (Memᴰ.tail r.0, r.1)
      go true e k ih = pick (Memᴰ.cases_cons k)
        where
          pick : (a ≡ x) ⊎ Mem a (keep p xs) → Mem a (x ∷ xs) × T (p a)
          pick (inl q) = (Memᴰ.head q, rw (q, e) tt)
          pick (inr k') = let r = ih k' in (Memᴰ.tail r.0, r.1)

  pub keep_i : (p : A → Bool) (xs : List A) (a : A) → Mem a xs → T (p a) → Mem a (keep p xs)
  unfolding keep
  keep_i p [] a m t = absurd (Memᴰ.not-nil m)
  keep_i p (x ∷ xs) a m t = go (p x) refl (Memᴰ.cases_cons m) (λ k. keep_i p xs a k t)
    where
      go : (b : Bool) → p x ≡ b → (a ≡ x) ⊎ Mem a xs → (Mem a xs → Mem a (keep p xs)) → Mem a (cond b (x ∷ keep p xs) (keep p xs))
      go true e (inl q) ih = Memᴰ.head q
      go true e (inr k) ih = Memᴰ.tail (ih k)
      go false e (inl q) ih = absurd (rw (q, e) at t)
      go false e (inr k) ih = ih k

before_asym : (a b : Outcome) → Before a b → Before b a → ⊥
before_asym (Address f) (Address g) h k = omega arith
before_asym (Address f) (Fault c) h k = k
before_asym (Fault c) (Address f) h k = h
before_asym (Fault c) (Fault d) h k = omega arith

tails : (x y : Outcome) (xs ys : List Outcome) → x ≡ y → ((z : Outcome) → Mem z xs → Before x z) → (z : Outcome) → Mem z xs → Mem z (y ∷ ys) → Mem z ys
tails x y xs ys e after z m k = go (Memᴰ.cases_cons k)
  where
    go : (z ≡ y) ⊎ Mem z ys → Mem z ys
    go (inl p) = let b : Before x x = rw (p ∙ sym e) at (after z m) in absurd (before_asym x x b b)
    go (inr j) = j

heads : (x y : Outcome) (xs ys : List Outcome) → ((z : Outcome) → Mem z xs → Before x z) → ((z : Outcome) → Mem z ys → Before y z)
    → Mem x (y ∷ ys) → Mem y (x ∷ xs) → x ≡ y
heads x y xs ys afterx aftery p q = go (Memᴰ.cases_cons p) (Memᴰ.cases_cons q)
  where
    go : (x ≡ y) ⊎ Mem x ys → (y ≡ x) ⊎ Mem y xs → x ≡ y
    go (inl e) k = e
    go (inr j) (inl e) = sym e
    go (inr j) (inr k) = absurd (before_asym x y (afterx y k) (aftery x j))

-- TWO RISING LISTS WITH THE SAME MEMBERS ARE EQUAL
pub rises_unique : (xs ys : List Outcome) → Rises xs → Rises ys → ((a : Outcome) → Mem a xs ↔ Mem a ys) → xs ≡ ys
rises_unique [] [] h k same = refl
rises_unique [] (y ∷ ys) h k same = absurd (Memᴰ.not-nil ((same y).1 (Memᴰ.head refl)))
rises_unique (x ∷ xs) [] h k same = absurd (Memᴰ.not-nil ((same x).0 (Memᴰ.head refl)))
rises_unique (x ∷ xs) (y ∷ ys) h k same =
    let e = heads x y xs ys h.0 k.0 ((same x).0 (Memᴰ.head refl)) ((same y).1 (Memᴰ.head refl)) in
    ap₂ ◌∷◌ e (rises_unique xs ys h.1 k.1 (λ a. (
      (λ m. tails x y xs ys e h.0 a m ((same a).0 (Memᴰ.tail m))),
      (λ m. tails y x ys xs (sym e) k.0 a m ((same a).1 (Memᴰ.tail m))),
    )))
