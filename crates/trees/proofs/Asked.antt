-- What the tests on a record and on an entry say, as facts, both ways.
use mathlib.Core.Path.{◌≡◌, refl, sym, ◌∙◌}
use mathlib.Core.Bool.{Bool, true, false, beq, not, ◌||◌}
use mathlib.Core.List.{List}
use mathlib.Core.Logic.{◌⊎◌, inl, inr}
use Prim.Native.Nat.{ℕ, ◌+◌, ◌-◌, ◌≤◌, ◌<◌}
use native.Mathlib.Omega.{arith}
use lib.Dec.{eqb, ltb, leb}
use borrow.Author.Tests.{eq-eqb, ne_eqb, lt-ltb, le-leb, lt-leb, eqb-true, eqb-false, ltb-true, leb-true}
use Rattle.paging.proofs.Tests.{both, positive}
use Rattle.tables.specs.State.{Machine, Shadow, named}
use Rattle.lawful.specs.Rules.{is_leaf, is_laid_out, names_lower, is_root, names_of, record_right, entry_right}
use Rattle.trees.proofs.Tests.{false_true, beq_true, beq_same, five, or_true}
use Rattle.trees.proofs.Trees.{lev, shd, own, Branch}

-- ---- a record

-- what is asked of the record of t
pub record Recorded (M : Machine) (s : Shadow) (t : ℕ) : Type 0 where
  pub bound : lev M s t ≤ M.tables.levels
  pub free : lev M s t ≡ 0 → shd M s t ≡ 0
  pub root : is_root M t ≡ eqb (lev M s t) M.tables.levels
  pub one : 0 < lev M s t → lev M s t < M.tables.levels → names_of M s.pool t ≡ 1
  pub inside : shd M s t < M.frames

module _ (M : Machine) (s : Shadow) (t : ℕ) where
  abbrev L : ℕ
  L = M.tables.levels

  abbrev l : ℕ
  l = lev M s t

  abbrev zeros : Bool → Bool
  zeros free = not free || eqb (shd M s t) 0

  abbrev once : Bool → Bool → Bool
  once root free = root || free || eqb (names_of M s.pool t) 1

  abbrev right : Bool
  right = record_right M s.records (names_of M s.pool t) t

  pub recorded_right : Recorded M s t → right ≡ true
  unfolding record_right
  recorded_right r =
      simp (le-leb l L r.bound, zeros_i (eqb l 0) refl, beq_same (is_root M t) (eqb l L) r.root, once_i (is_root M t) (eqb l 0) refl refl, lt-ltb (shd M s t) M.frames r.inside)
    where
      zeros_i : (b : Bool) → eqb l 0 ≡ b → zeros b ≡ true
      zeros_i true e = eq-eqb (shd M s t) 0 (r.free (eqb-true l 0 e))
      zeros_i false e = refl

      once_i : (a b : Bool) → is_root M t ≡ a → eqb l 0 ≡ b → once a b ≡ true
      once_i true b ea eb = refl
      once_i false true ea eb = refl
      once_i false false ea eb =
          let above : l ≡ 0 → ⊥ = eqb-false l 0 eb in
          let below : l ≡ L → ⊥ = eqb-false l L (sym r.root ∙ ea) in
          eq-eqb (names_of M s.pool t) 1 (r.one (positive l above) (omega (arith, positive (L - l) (λ z. below (omega (arith, r.bound))))))

  pub right_recorded : right ≡ true → Recorded M s t
  unfolding record_right
  right_recorded e =
      record {
        bound = leb-true l L asked.0;
        free = λ q. eqb-true (shd M s t) 0 (simp (eq-eqb l 0 q) at asked.1);
        root = beq_true (is_root M t) (eqb l L) asked.2;
        one = λ lo hi.
            let other : is_root M t ≡ false = beq_true (is_root M t) (eqb l L) asked.2 ∙ ne_eqb l L (λ q. omega arith) in
            eqb-true (names_of M s.pool t) 1 (simp (other, ne_eqb l 0 (λ q. omega arith)) at asked.3);
        inside = ltb-true (shd M s t) M.frames asked.4;
      }
    where
      asked : (leb l L ≡ true) × (zeros (eqb l 0) ≡ true) × (beq (is_root M t) (eqb l L) ≡ true) × (once (is_root M t) (eqb l 0) ≡ true) × (ltb (shd M s t) M.frames ≡ true)
      asked = five (leb l L) (zeros (eqb l 0)) (beq (is_root M t) (eqb l L)) (once (is_root M t) (eqb l 0)) (ltb (shd M s t) M.frames) e

-- ---- an entry, by its table's level

module _ (M : Machine) (map : List ℕ) (s : Shadow) (t e : ℕ) where
  abbrev n : ℕ
  n = lev M s t

  abbrev fine : Bool
  fine = entry_right M map s.records t e

  pub zero_fine : e ≡ 0 → fine ≡ true
  unfolding entry_right is_laid_out names_lower
  zero_fine q = simp (eq-eqb e 0 q, or_true)

  pub leaf_fine : n ≡ 1 → is_leaf M.tables map e ≡ true → fine ≡ true
  unfolding entry_right is_laid_out names_lower
  leaf_fine q leaf = simp (q, leaf, or_true)

  pub branch_fine : 1 < n → Branch M s t e → fine ≡ true
  unfolding entry_right is_laid_out names_lower
  branch_fine h b =
      simp (
        ne_eqb n 0 (λ q. omega arith),
        ne_eqb n 1 (λ q. omega arith),
        b.made,
        eq-eqb (own M s (named M e)) (own M s t) b.owner,
        eq-eqb (lev M s (named M e) + 1) n b.lower,
        or_true,
      )

  module _ (is : fine ≡ true) where
    laid : is_laid_out M map n e ≡ true
    unfolding entry_right
    laid = (both (is_laid_out M map n e) (names_lower M s.records t e) is).0

    lower : names_lower M s.records t e ≡ true
    unfolding entry_right
    lower = (both (is_laid_out M map n e) (names_lower M s.records t e) is).1

    pub fine_zero : n ≡ 0 → e ≡ 0
    unfolding is_laid_out
    fine_zero q = go (eqb e 0) refl
      where
        go : (b : Bool) → eqb e 0 ≡ b → e ≡ 0
        go true z = eqb-true e 0 z
        go false z = false_true (simp (z, q) at laid)

    pub fine_leaf : n ≡ 1 → (e ≡ 0) ⊎ (is_leaf M.tables map e ≡ true)
    unfolding is_laid_out
    fine_leaf q = go (eqb e 0) refl
      where
        go : (b : Bool) → eqb e 0 ≡ b → (e ≡ 0) ⊎ (is_leaf M.tables map e ≡ true)
        go true z = inl (eqb-true e 0 z)
        go false z = inr (simp (z, q) at laid)

    pub fine_branch : 1 < n → (e ≡ 0) ⊎ Branch M s t e
    unfolding is_laid_out names_lower
    fine_branch h = go (eqb e 0) refl
      where
        go : (b : Bool) → eqb e 0 ≡ b → (e ≡ 0) ⊎ Branch M s t e
        go true z = inl (eqb-true e 0 z)
        go false z =
            let r = both (eqb (own M s (named M e)) (own M s t)) (eqb (lev M s (named M e) + 1) n) (simp (z, lt-leb n 1 h) at lower) in
            inr (record {
              made = simp (z, ne_eqb n 0 (λ q. omega arith), ne_eqb n 1 (λ q. omega arith)) at laid;
              owner = eqb-true (own M s (named M e)) (own M s t) r.0;
              lower = eqb-true (lev M s (named M e) + 1) n r.1;
            })
