-- What an entry names, by the tests on the way; and how large the numbers of tables, frames and roots can be.
use mathlib.Core.Path.{◌≡◌, refl, sym}
use mathlib.Core.Bool.{Bool, true, false, cond, ◌&&◌}
use Prim.Native.Nat.{ℕ, ◌-◌, ◌^◌, ◌<◌, ◌≤◌}
use native.Mathlib.Nat.{mul-le-mul, mul-lt-mul_of_pos_right}
use native.Mathlib.Omega.{arith}
use lib.Dec.{ltb, leb}
use borrow.Author.Tests.{lt-ltb, le-ltb, le-leb, lt-leb, ltb-true, ltb-false}
use Rattle.std.specs.Prelude.{Some, None, unwrap_or}
use Rattle.std.proofs.lemmas.Option.{none-some, same_Some}
use Rattle.paging.specs.Layout.{tables64, index, frame_of, is_present}
use Rattle.paging.proofs.Indices.{index_small}
use Rattle.tables.specs.declared.Sizes.{Sizes}
use Rattle.tables.specs.State.{Machine, machine64, table_count, root_of, named, named_some}
use Rattle.tables.specs.SizesCode.{Sized}

-- what is there passed the test
pub some_is : (b : Bool) (x u : ℕ) → Some u ≡ cond b (Some x) None → (b ≡ true) × (u ≡ x)
some_is true x u q = (refl, same_Some u x q)
some_is false x u q = absurd (none-some u (sym q))

pub none_is : (b : Bool) (x : ℕ) → None ≡ cond b (Some x) None → b ≡ false
none_is true x q = absurd (none-some x q)
none_is false x q = refl

pub frame_small : (e : ℕ) → frame_of tables64 e < 2 ^ 40
unfolding frame_of
frame_small e = omega arith

module _ {z : Sizes} (ok : Sized z) where
  pub few : table_count (machine64 z) ≤ 64
  few = mul-le-mul ok.processors ok.share

  pub root_small : (p : ℕ) → p < z.processors → root_of (machine64 z) p < table_count (machine64 z)
  root_small p h = mul-lt-mul_of_pos_right h ok.some

module _ (M : Machine) (e : ℕ) where
  pub named_absent : is_present e ≡ false → table_count M ≡ named M e
  unfolding named
  named_absent p = simp p

  module _ (here : is_present e ≡ true) where
    pub named_low : frame_of M.tables e < M.base → table_count M ≡ named M e
    unfolding named
    named_low h = simp (here, lt-leb M.base (frame_of M.tables e) h)

    pub named_past : M.base ≤ frame_of M.tables e → table_count M ≤ frame_of M.tables e - M.base → table_count M ≡ named M e
    unfolding named
    named_past h k = simp (here, le-leb M.base (frame_of M.tables e) h, le-ltb (frame_of M.tables e - M.base) (table_count M) k)

    pub named-on : M.base ≤ frame_of M.tables e → frame_of M.tables e - M.base < table_count M → frame_of M.tables e - M.base ≡ named M e
    unfolding named
    named-on h k = simp (here, le-leb M.base (frame_of M.tables e) h, lt-ltb (frame_of M.tables e - M.base) (table_count M) k)

  -- P×S stands for none, and nothing is above it
  pub named_small : named M e ≤ table_count M
  unfolding named
  named_small = go (is_present e && leb M.base (frame_of M.tables e)) (ltb (frame_of M.tables e - M.base) (table_count M)) refl
    where
      go : (b c : Bool) → ltb (frame_of M.tables e - M.base) (table_count M) ≡ c
          → cond (b && c) (frame_of M.tables e - M.base) (table_count M) ≤ table_count M
      go true true q = let h = ltb-true (frame_of M.tables e - M.base) (table_count M) q in omega arith
      go true false q = omega arith
      go false c q = omega arith

  -- the same of the option
  pub named_number : unwrap_or (named_some M e) (table_count M) ≡ named M e
  named_number = go (ltb (named M e) (table_count M)) refl
    where
      go : (b : Bool) → ltb (named M e) (table_count M) ≡ b → unwrap_or (cond b (Some (named M e)) None) (table_count M) ≡ named M e
      go true q = refl
      go false q = let h = ltb-false (named M e) (table_count M) q in omega (arith, named_small)

  pub named_is : (u : ℕ) → Some u ≡ named_some M e → (u ≡ named M e) × (u < table_count M)
  named_is u q =
      let r = some_is (ltb (named M e) (table_count M)) (named M e) u q in
      let h = ltb-true (named M e) (table_count M) r.0 in
      (r.1, omega arith)

  pub named_none : None ≡ named_some M e → named M e ≡ table_count M
  named_none q =
      let h = ltb-false (named M e) (table_count M) (none_is (ltb (named M e) (table_count M)) (named M e) q) in
      omega (arith, named_small)

pub index64_small : (page l : ℕ) → index tables64 page l < 512
index64_small page l = index_small tables64 page l

-- how large the numbers can be
pub ruleset bounds = (few, root_small, frame_small, named_small, index64_small)
