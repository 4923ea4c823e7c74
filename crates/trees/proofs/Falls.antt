-- A level 1 entry names no table; who is named is live, of its namer's share and one level lower.
use Rattle.std.specs.Prelude.{Some}
use mathlib.Core.Path.{◌≡◌, refl, sym, ap, ◌∙◌}
use mathlib.Core.Bool.{Bool, true, false, cond}
use mathlib.Core.List.{List, [], ◌∷◌}
use mathlib.Core.Logic.{◌⊎◌, inl, inr}
use Prim.Native.Nat.{ℕ, suc, ◌+◌, ◌<◌}
use native.Mathlib.Decide.{dec_lt}
use native.Mathlib.Omega.{arith}
use lib.Dec.{eqb}
use lib.ListN.{length, get_or}
use borrow.Author.Tests.{eqb-true}
use Rattle.paging.specs.declared.Host.{Host}
use Rattle.paging.specs.Frame.{guest, host, origin_from}
use Rattle.paging.specs.Layout.{bit, frame_of, is_present}
use Rattle.paging.proofs.Tests.{both}
use Rattle.tables.specs.State.{Machine, Shadow, table_count, named}
use Rattle.tables.proofs.Names.{named_absent, named_low, named_past}
use Rattle.lawful.specs.Rules.{is_of, is_mapped, is_made_with, is_leaf}
use Rattle.trees.proofs.Tests.{zero_one_more}
use Rattle.trees.proofs.Trees.{Outside, ent, lev, own, Names, Branch, Trees}
use Rattle.trees.proofs.Entries.{zero_names_none}

-- a frame that is mapped stands in the map
mapped_from : (k : ℕ) (map : List ℕ) (h : Host) → is_of (origin_from k map h) ≡ true → (i : ℕ) × (i < length map) × (get_or map i 0 ≡ h.0)
unfolding origin_from
mapped_from k [] h e = let z : ◌≡◌ {A = ℕ} 0 1 = cc in absurd (omega arith)
mapped_from k (x ∷ xs) h e = go (eqb x h.0) refl e (mapped_from (k + 1) xs h)
  where
    go : (b : Bool) → eqb x h.0 ≡ b → is_of (cond b (Some (guest k)) (origin_from (k + 1) xs h)) ≡ true
        → (is_of (origin_from (k + 1) xs h) ≡ true → (i : ℕ) × (i < length xs) × (get_or xs i 0 ≡ h.0))
        → (i : ℕ) × (i < length (x ∷ xs)) × (get_or (x ∷ xs) i 0 ≡ h.0)
    go true q e more = (0, omega arith, eqb-true x h.0 q)
    go false q e more = let r = more e in (suc r.0, omega (arith, r.1), r.2)

pub mapped : (map : List ℕ) (f : ℕ) → is_mapped map f ≡ true → (i : ℕ) × (i < length map) × (get_or map i 0 ≡ f)
mapped map f e = mapped_from 0 map (host f) e

module _ (M : Machine) (map : List ℕ) (outside : Outside M map) where
  -- a level 1 entry names no table
  pub leaf_names : (e : ℕ) → is_leaf M.tables map e ≡ true → named M e < table_count M → ⊥
  unfolding is_leaf
  leaf_names e q h = by (is_present e) refl
    where
      f : ℕ
      f = frame_of M.tables e

      there : (i : ℕ) × (i < length map) × (get_or map i 0 ≡ f)
      there = mapped map f (both (is_made_with M.tables (bit e 1) e) (is_mapped map f) q).1

      none : table_count M ≡ named M e → ⊥
      none r = omega arith

      on : is_present e ≡ true → Dec (f < M.base) → Dec (f < M.base + table_count M) → ⊥
      on here (yes lo) d = none (named_low M e here lo)
      on here (no ge) (yes hi) = outside there.0 there.1 (omega (arith, there.2)) (omega (arith, there.2))
      on here (no ge) (no past) = none (named_past M e here (omega arith) (omega arith))

      by : (b : Bool) → is_present e ≡ b → ⊥
      by true here = on here (dec_lt f M.base) (dec_lt f (M.base + table_count M))
      by false away = none (named_absent M e away)

  module _ (s : Shadow) (trees : Trees M map s) where
    -- WHO NAMES A TABLE STANDS ABOVE LEVEL 1, AND IT IS A BRANCH
    pub names_branch : {t i u : ℕ} → Names M s t i u → (1 < lev M s t) × Branch M s t (ent M s t i)
    names_branch {t} {i} {u} m = go (zero_one_more (lev M s t))
      where
        named_some : named M (ent M s t i) < table_count M
        named_some = rw m.names m.is

        never : {A : Type 0} → ent M s t i ≡ 0 → A
        never z = absurd (zero_names_none M (ent M s t i) z named_some)

        leaf : (ent M s t i ≡ 0) ⊎ (is_leaf M.tables map (ent M s t i) ≡ true) → (1 < lev M s t) × Branch M s t (ent M s t i)
        leaf (inl z) = never z
        leaf (inr q) = absurd (leaf_names (ent M s t i) q named_some)

        branch : 1 < lev M s t → (ent M s t i ≡ 0) ⊎ Branch M s t (ent M s t i) → (1 < lev M s t) × Branch M s t (ent M s t i)
        branch h (inl z) = never z
        branch h (inr b) = (h, b)

        go : (lev M s t ≡ 0) ⊎ ((lev M s t ≡ 1) ⊎ (1 < lev M s t)) → (1 < lev M s t) × Branch M s t (ent M s t i)
        go (inl z) = never ((trees.free t m.table z).1 i m.index)
        go (inr (inl q)) = leaf (trees.leaf t m.table q i m.index)
        go (inr (inr h)) = branch h (trees.branch t m.table h i m.index)

    pub falls : {t i u : ℕ} → Names M s t i u → lev M s t ≡ suc (lev M s u)
    falls m = let b = (names_branch m).1 in omega (arith, b.lower, ap (lev M s) m.names)

    pub live : {t i u : ℕ} → Names M s t i u → 0 < lev M s u
    live m = omega (arith, falls m, (names_branch m).0)

    pub same_owner : {t i u : ℕ} → Names M s t i u → own M s u ≡ own M s t
    same_owner m = ap (own M s) (sym m.names) ∙ (names_branch m).1.owner
