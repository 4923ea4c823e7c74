-- The state rules as tests and the trees as a statement say the same; that every root is whole follows from the rest.
use mathlib.Core.Path.{◌≡◌, refl, ap}
use mathlib.Core.Bool.{Bool, true, ◌&&◌}
use mathlib.Core.List.{List}
use mathlib.Core.Logic.{◌↔◌}
use Prim.Native.Nat.{ℕ, zero, suc, ◌+◌, ◌<◌}
use native.Mathlib.Omega.{arith}
use lib.Dec.{eqb}
use borrow.Author.Tests.{eq-eqb, ne_eqb, lt-ltb, eqb-true}
use Rattle.paging.specs.Numbers.{all}
use Rattle.paging.proofs.Numbers.{all-at}
use Rattle.paging.proofs.Tests.{both}
use Rattle.tables.specs.State.{Machine, Shadow, State, table_count, root_of, entry_count, named}
use Rattle.slots.specs.Slots.{slot_count}
use Rattle.paging.proofs.Counts.{by_cases}
use Rattle.lawful.specs.Rules.{names_of, record_right, entry_right, table_right, entry_by, table_whole, slot_right, lawful}
use Rattle.trees.proofs.Trees.{Able, Outside, Exact, ent, lev, Names, Branch, Trees}
use Rattle.trees.proofs.Roots.{root_table, root_level}
use Rattle.trees.proofs.Entries.{zero_names_none, branch_names}
use Rattle.trees.proofs.Falls.{leaf_names}
use Rattle.trees.proofs.Counts.{all_i, pairs-some, pairs-same, pairs-one}
use Rattle.trees.proofs.Tests.{or_true, zero_one_more}
use Rattle.trees.proofs.Asked.{Recorded, recorded_right, right_recorded, zero_fine, leaf_fine, branch_fine, fine_zero, fine_leaf, fine_branch}

module _ (M : Machine) (ok : Able M) (map : List ℕ) (outside : Outside M map) (s : Shadow) where
  -- whether entry i of t names u
  abbrev does : ℕ → ℕ → ℕ → Bool
  does u t i = eqb (named M (ent M s t i)) u

  -- ---- from the trees to the tests

  module _ (trees : Trees M map s) where
    named-once : (u : ℕ) → u < table_count M → 0 < lev M s u → lev M s u < M.tables.levels → names_of M s.pool u ≡ 1
    unfolding names_of
    named-once u h lo hi =
        let (t, i, m) = trees.name u h lo hi in
        pairs-one (does u) (table_count M) (entry_count M) t i m.table m.index (eq-eqb (named M (ent M s t i)) u m.names)
        (λ v k hv hk q. trees.one (record { table = hv; index = hk; names = eqb-true (named M (ent M s v k)) u q; is = h }) m)

    table-fine : (t : ℕ) → t < table_count M → (i : ℕ) → i < entry_count M → entry_right M map s.records t (ent M s t i) ≡ true
    table-fine t h i k =
        by_cases (zero_one_more (lev M s t))
        (λ z. zero_fine M map s t e ((trees.free t h z).1 i k))
        (λ above.
        by_cases above
        (λ q. by_cases (trees.leaf t h q i k) (zero_fine M map s t e) (leaf_fine M map s t e q))
        (λ l. by_cases (trees.branch t h l i k) (zero_fine M map s t e) (branch_fine M map s t e l)))
      where
        e : ℕ
        e = ent M s t i

    pub trees_right : all (table_count M) (table_right M map s) ≡ true
    unfolding table_right
    trees_right =
        all_i (table_right M map s) (table_count M)
        (λ t h.
        simp (recorded_right M s t (recorded t h), all_i (λ i. entry_right M map s.records t (ent M s t i)) (entry_count M) (table-fine t h)))
      where
        recorded : (t : ℕ) → t < table_count M → Recorded M s t
        recorded t h = record {
          bound = trees.bound t h;
          free = λ z. (trees.free t h z).0;
          root = trees.roots t h;
          one = named-once t h;
          inside = trees.frames t h;
        }

    -- ---- whole tables

    -- an entry is whole where the tables one level lower are
    entry_whole : (whole : ℕ → Bool) (t i : ℕ) → t < table_count M → i < entry_count M → 0 < lev M s t
        → ((u : ℕ) → u < table_count M → lev M s u + 1 ≡ lev M s t → whole u ≡ true) → entry_by M map whole (lev M s t) (ent M s t i) ≡ true
    entry_whole whole t i h k lo below =
        by_cases (zero_one_more l)
        (λ z. absurd (omega arith))
        (λ above.
        by_cases above
        (λ q. by_cases (trees.leaf t h q i k) zero_is (λ leaf. simp (q, leaf, or_true)))
        (λ up. by_cases (trees.branch t h up i k) zero_is (λ b. branch_is up b)))
      where
        e : ℕ
        e = ent M s t i

        l : ℕ
        l = lev M s t

        zero_is : e ≡ 0 → entry_by M map whole l e ≡ true
        zero_is z = simp (eq-eqb e 0 z)

        branch_is : 1 < l → Branch M s t e → entry_by M map whole l e ≡ true
        branch_is up b =
            simp (
              ne_eqb l 1 (λ q. omega arith),
              lt-ltb (named M e) (table_count M) (branch_names M e b.made),
              below (named M e) (branch_names M e b.made) b.lower,
              or_true,
            )

    table_whole_lem : (l t : ℕ) → t < table_count M → lev M s t ≡ l → table_whole M map s.pool l t ≡ true
    unfolding table_whole
    table_whole_lem zero t h q = refl
    table_whole_lem (suc l) t h q =
        all_i (λ i. entry_by M map (table_whole M map s.pool l) (suc l) (ent M s t i)) (entry_count M)
        (λ i k.
        rw q at (entry_whole (table_whole M map s.pool l) t i h k (omega arith) (λ u hu r. table_whole_lem l u hu (omega arith))))

    -- EVERY ROOT IS WHOLE
    pub trees_whole : all M.processors (λ p. table_whole M map s.pool M.tables.levels (root_of M p)) ≡ true
    trees_whole =
        all_i (λ p. table_whole M map s.pool M.tables.levels (root_of M p)) M.processors
        (λ p h. table_whole_lem M.tables.levels (root_of M p) (root_table M ok p h) (root_level M ok map s trees p h))

  -- ---- from the tests to the trees

  module _ (exact : Exact M s) (right : all (table_count M) (table_right M map s) ≡ true) where
    parts : (t : ℕ) → t < table_count M
        → (record_right M s.records (names_of M s.pool t) t ≡ true) × (all (entry_count M) (λ i. entry_right M map s.records t (ent M s t i)) ≡ true)
    unfolding table_right
    parts t h =
        both (record_right M s.records (names_of M s.pool t) t) (all (entry_count M) (λ i. entry_right M map s.records t (ent M s t i)))
        (all-at (table_right M map s) (table_count M) right t h)

    asked : (t : ℕ) → t < table_count M → Recorded M s t
    asked t h = right_recorded M s t (parts t h).0

    fine : (t : ℕ) → t < table_count M → (i : ℕ) → i < entry_count M → entry_right M map s.records t (ent M s t i) ≡ true
    fine t h = all-at (λ i. entry_right M map s.records t (ent M s t i)) (entry_count M) (parts t h).1

    -- who is named is live and no root
    below : {t i u : ℕ} → Names M s t i u → (0 < lev M s u) × (lev M s u < M.tables.levels)
    below {t} {i} {u} m =
        by_cases (zero_one_more (lev M s t))
        (λ z. never (fine_zero M map s t e is z))
        (λ above.
        by_cases above
        (λ q. by_cases (fine_leaf M map s t e is q) never (λ leaf. absurd (leaf_names M map outside e leaf some)))
        (λ l. by_cases (fine_branch M map s t e is l) never (λ b. let r = (asked t m.table).bound in let q = ap (lev M s) m.names in (omega (arith, b.lower), omega (arith, b.lower)))))
      where
        e : ℕ
        e = ent M s t i

        is : entry_right M map s.records t e ≡ true
        is = fine t m.table i m.index

        some : named M e < table_count M
        some = rw m.names m.is

        never : {A : Type 0} → e ≡ 0 → A
        never z = absurd (zero_names_none M e z some)

    once : (u : ℕ) → u < table_count M → 0 < lev M s u → lev M s u < M.tables.levels → names_of M s.pool u ≡ 1
    once u h = (asked u h).one

    pub right_trees : Trees M map s
    unfolding names_of
    right_trees = record {
      exact = exact;
      bound = λ t h. (asked t h).bound;
      roots = λ t h. (asked t h).root;
      frames = λ t h. (asked t h).inside;
      free = λ t h z. ((asked t h).free z, λ i k. fine_zero M map s t (ent M s t i) (fine t h i k) z);
      leaf = λ t h q i k. fine_leaf M map s t (ent M s t i) (fine t h i k) q;
      branch = λ t h l i k. fine_branch M map s t (ent M s t i) (fine t h i k) l;
      name = λ u h lo hi.
          let (t, i, ht, hi, q) = pairs-some (does u) (table_count M) (entry_count M) (once u h lo hi) in
          (t, i, record { table = ht; index = hi; names = eqb-true (named M (ent M s t i)) u q; is = h });
      one = λ a b. same a b;
    }
      where
        same : {t i t' i' u : ℕ} → Names M s t i u → Names M s t' i' u → (t ≡ t') × (i ≡ i')
        same {t} {i} {t'} {i'} {u} a b =
            pairs-same (does u) (table_count M) (entry_count M) (once u a.is (below a).0 (below a).1) t i t' i' a.table a.index b.table b.index
            (eq-eqb (named M (ent M s t i)) u a.names) (eq-eqb (named M (ent M s t' i')) u b.names)

-- ---- all state rules

-- THE STATE RULES, AS A STATEMENT
pub record Lawful (M : Machine) (map : List ℕ) (st : State) : Type 0 where
  pub trees : Trees M map st.shadow
  pub slots : (p : ℕ) → p < M.processors → (k : ℕ) → k < slot_count → slot_right M st.shadow.pool st.slots p k ≡ true

module _ (M : Machine) (ok : Able M) (map : List ℕ) (outside : Outside M map) (st : State) (exact : Exact M st.shadow) where
  abbrev tables : Bool
  tables = all (table_count M) (table_right M map st.shadow)

  abbrev wholes : Bool
  wholes = all M.processors (λ p. table_whole M map st.shadow.pool M.tables.levels (root_of M p))

  abbrev held : ℕ → Bool
  held p = all slot_count (slot_right M st.shadow.pool st.slots p)

  pub lawful_is : lawful M map st ≡ true ↔ Lawful M map st
  unfolding lawful
  lawful_is = (to, from)
    where
      to : (tables && wholes && all M.processors held) ≡ true → Lawful M map st
      to e =
          let (shadow, slots) = both (tables && wholes) (all M.processors held) e in
          record {
            trees = right_trees M ok map outside st.shadow exact (both tables wholes shadow).0;
            slots = λ p h. all-at (slot_right M st.shadow.pool st.slots p) slot_count (all-at held M.processors slots p h);
          }

      from : Lawful M map st → (tables && wholes && all M.processors held) ≡ true
      from r =
          simp (
            trees_right M ok map outside st.shadow r.trees,
            trees_whole M ok map outside st.shadow r.trees,
            all_i held M.processors (λ p h. all_i (slot_right M st.shadow.pool st.slots p) slot_count (r.slots p h)),
          )
