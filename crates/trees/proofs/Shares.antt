-- An emptied share keeps the trees, and so does a root that is set up anew.
use mathlib.Core.Path.{◌≡◌, refl, sym, ap, subst, ◌∙◌}
use mathlib.Core.Bool.{true}
use mathlib.Core.List.{List}
use mathlib.Core.Logic.{◌⊎◌, inl, inr}
use Prim.Native.Nat.{ℕ, ◌<◌}
use native.Mathlib.Omega.{arith}
use lib.Dec.{eqb}
use borrow.Author.Tests.{ne_eqb}
use Rattle.paging.specs.Frame.{guest}
use Rattle.tables.specs.State.{Machine, Shadow, on_records, with_record, table_count, root_of, entry_count, named}
use Rattle.tables.specs.Steps.{empty_share}
use Rattle.tables.proofs.Owners.{owner_kept}
use Rattle.lawful.specs.Rules.{is_leaf, is_root}
use Rattle.trees.proofs.Trees.{Able, Outside, ent, lev, shd, own, Names, Branch, Trees, Less, Same}
use Rattle.trees.proofs.Entries.{level-here, frame_here, level_other, frame_other, record_exact, zero_names_none, names_by}
use Rattle.trees.proofs.Falls.{same_owner}
use Rattle.trees.proofs.Roots.{root_table, root_owner, root_not, root_level}
use Rattle.trees.proofs.Hangs.{by-table}
use Rattle.trees.proofs.Empties.{Emptied, share_emptied}

module _ (M : Machine) (ok : Able M) (map : List ℕ) (outside : Outside M map) (s : Shadow) (trees : Trees M map s) (p : ℕ) (h : p < M.processors) where
  abbrev s' : Shadow
  s' = empty_share M p s

  done : Emptied M ok p 0 (table_count M) s s'
  done = share_emptied M ok p s trees.exact

  -- ---- what it does

  pub share_others : (v : ℕ) → v < table_count M → (own M s v ≡ p → ⊥) → Same M s s' v
  share_others v hv ne = done.others v (λ l u o. ne o)

  pub share_own : (v : ℕ) → v < table_count M → own M s v ≡ p → (k : ℕ) → k < entry_count M → ent M s' v k ≡ 0
  share_own v hv o k hk = done.zeros v (omega arith) hv o k hk

  pub share_free : (v : ℕ) → v < table_count M → own M s v ≡ p → (v ≡ root_of M p → ⊥) → (lev M s' v ≡ 0) × (shd M s' v ≡ 0)
  share_free v hv o ne = done.free v (omega arith) hv o ne

  pub share_root : (lev M s' (root_of M p) ≡ lev M s (root_of M p)) × (shd M s' (root_of M p) ≡ shd M s (root_of M p))
  share_root = done.root

  pub share_less : Less M s s'
  share_less = record { entries = λ v hv k hk. by-table (own M s v) p (λ o. inr (share_own v hv o k hk)) (λ ne. inl ((share_others v hv ne).entries k hk)) }

  -- ---- who is named

  -- a table is the root, another of p's, or of another share
  by_share : {A : Type 0} (v : ℕ) → (v ≡ root_of M p → A) → (own M s v ≡ p → (v ≡ root_of M p → ⊥) → A) → ((own M s v ≡ p → ⊥) → A) → A
  by_share v f g k = by-table v (root_of M p) f (λ ne. by-table (own M s v) p (λ o. g o ne) k)

  old : {v k x : ℕ} → Names M s' v k x → Names M s v k x
  old {v} {k} {x} m = by-table (own M s v) p (λ o. absurd (never o)) kept
    where
      never : own M s v ≡ p → ⊥
      never o = zero_names_none M (ent M s' v k) (share_own v m.table o k m.index) (rw m.names m.is)

      kept : (own M s v ≡ p → ⊥) → Names M s v k x
      kept ne = names_by (sym ((share_others v m.table ne).entries k m.index)) m

  still : {v k x : ℕ} → (own M s x ≡ p → ⊥) → Names M s v k x → Names M s' v k x
  still {v} {k} {x} ne m =
      let same = share_others v m.table (λ o. ne (same_owner M map outside s trees m ∙ o)) in
      names_by (same.entries k m.index) m

  -- ---- table by table

  owned : (v : ℕ) → v ≡ root_of M p → own M s v ≡ p
  owned v q = ap (own M s) q ∙ root_owner M ok s p

  level_root : (v : ℕ) → v ≡ root_of M p → lev M s' v ≡ lev M s v
  level_root v q = ap (lev M s') q ∙ share_root.0 ∙ ap (lev M s) (sym q)

  frame_root : (v : ℕ) → v ≡ root_of M p → shd M s' v ≡ shd M s v
  frame_root v q = ap (shd M s') q ∙ share_root.1 ∙ ap (shd M s) (sym q)

  roots' : (v : ℕ) → v < table_count M → is_root M v ≡ eqb (lev M s' v) M.tables.levels
  roots' v hv =
      by_share v
      (λ q. trees.roots v hv ∙ ap (λ (n : ℕ). eqb n M.tables.levels) (sym (level_root v q)))
      (λ o ne. root_not M ok s p v o ne ∙ sym (ne_eqb (lev M s' v) _ (λ e. omega (arith, (share_free v hv o ne).0, ok.upper))))
      (λ ne. trees.roots v hv ∙ ap (λ (n : ℕ). eqb n M.tables.levels) (sym (share_others v hv ne).level))

  free' : (v : ℕ) → v < table_count M → lev M s' v ≡ 0 → (shd M s' v ≡ 0) × ((k : ℕ) → k < entry_count M → ent M s' v k ≡ 0)
  free' v hv z =
      by_share v
      (λ q. (frame_root v q ∙ (trees.free v hv (sym (level_root v q) ∙ z)).0, share_own v hv (owned v q)))
      (λ o ne. ((share_free v hv o ne).1, share_own v hv o))
      (λ ne.
      let same = share_others v hv ne in
      let f = trees.free v hv (sym same.level ∙ z) in
      (same.frame ∙ f.0, λ k hk. same.entries k hk ∙ f.1 k hk))

  leaf' : (v : ℕ) → v < table_count M → lev M s' v ≡ 1 → (k : ℕ) → k < entry_count M → (ent M s' v k ≡ 0) ⊎ (is_leaf M.tables map (ent M s' v k) ≡ true)
  leaf' v hv z k hk =
      by-table (own M s v) p
      (λ o. inl (share_own v hv o k hk))
      (λ ne.
      let same = share_others v hv ne in
      subst (λ (e : ℕ). (e ≡ 0) ⊎ (is_leaf M.tables map e ≡ true)) (sym (same.entries k hk)) (trees.leaf v hv (sym same.level ∙ z) k hk))

  branch_still : (v e : ℕ) → v < table_count M → (own M s v ≡ p → ⊥) → (e ≡ 0) ⊎ Branch M s v e → (e ≡ 0) ⊎ Branch M s' v e
  branch_still v e hv ne (inl z) = inl z
  branch_still v e hv ne (inr b) =
      let below = done.others (named M e) (λ l u o. ne (sym b.owner ∙ o)) in
      let same = share_others v hv ne in
      inr record { made = b.made; owner = below.owner ∙ b.owner ∙ sym same.owner; lower = omega (arith, b.lower, below.level, same.level) }

  branch' : (v : ℕ) → v < table_count M → 1 < lev M s' v → (k : ℕ) → k < entry_count M → (ent M s' v k ≡ 0) ⊎ Branch M s' v (ent M s' v k)
  branch' v hv high k hk =
      by-table (own M s v) p
      (λ o. inl (share_own v hv o k hk))
      (λ ne.
      let same = share_others v hv ne in
      subst (λ (e : ℕ). (e ≡ 0) ⊎ Branch M s' v e) (sym (same.entries k hk)) (branch_still v (ent M s v k) hv ne (trees.branch v hv (omega (arith, same.level)) k hk)))

  name' : (u : ℕ) → u < table_count M → 0 < lev M s' u → lev M s' u < M.tables.levels → (t : ℕ) × (i : ℕ) × Names M s' t i u
  name' u hu lo hi =
      by_share u
      (λ q. absurd (omega (arith, level_root u q, ap (lev M s) q, root_level M ok map s trees p h)))
      (λ o ne. absurd (omega (arith, (share_free u hu o ne).0)))
      (λ ne.
      let same = share_others u hu ne in
      let m = trees.name u hu (omega (arith, same.level)) (omega (arith, same.level)) in
      (m.0, m.1, still ne m.2))

  -- EMPTYING A SHARE KEEPS THE TREES
  pub share_trees : Trees M map s'
  share_trees = record {
    exact = done.exact;
    bound = λ v hv.
        by_share v
        (λ q. omega (arith, level_root v q, trees.bound v hv))
        (λ o ne. omega (arith, (share_free v hv o ne).0))
        (λ ne. omega (arith, (share_others v hv ne).level, trees.bound v hv));
    roots = roots';
    frames = λ v hv.
        by_share v
        (λ q. omega (arith, frame_root v q, trees.frames v hv))
        (λ o ne. omega (arith, (share_free v hv o ne).1, trees.frames v hv))
        (λ ne. omega (arith, (share_others v hv ne).frame, trees.frames v hv));
    free = free';
    leaf = leaf';
    branch = branch';
    name = name';
    one = λ a b. trees.one (old a) (old b);
  }

-- ---- a root set up anew

module _ (M : Machine) (ok : Able M) (map : List ℕ) (s : Shadow) (trees : Trees M map s) (p : ℕ) (h : p < M.processors) (f : ℕ) (below : f < M.frames) where
  abbrev s'' : Shadow
  s'' = on_records (with_record (root_of M p) M.tables.levels (guest f)) s

  pub root_frame : shd M s'' (root_of M p) ≡ f
  root_frame = frame_here M ok s trees.exact (root_of M p) M.tables.levels (guest f) (root_table M ok p h)

  pub root_frames : (v : ℕ) → (v ≡ root_of M p → ⊥) → shd M s'' v ≡ shd M s v
  root_frames = frame_other M ok s trees.exact (root_of M p) M.tables.levels (guest f) (root_table M ok p h)

  -- it had its level already
  pub root_levels : (v : ℕ) → lev M s'' v ≡ lev M s v
  root_levels v =
      let same = level-here M ok s trees.exact (root_of M p) M.tables.levels (guest f) (root_table M ok p h) ∙ sym (root_level M ok map s trees p h) in
      by-table v (root_of M p)
      (λ q. ap (lev M s'') q ∙ same ∙ ap (lev M s) (sym q))
      (level_other M ok s trees.exact (root_of M p) M.tables.levels (guest f) (root_table M ok p h) v)

  pub root_owners : (v : ℕ) → own M s'' v ≡ own M s v
  root_owners = owner_kept M s.records s''.records

  branch_as : {v e : ℕ} → (e ≡ 0) ⊎ Branch M s v e → (e ≡ 0) ⊎ Branch M s'' v e
  branch_as (inl z) = inl z
  branch_as {v} {e} (inr b) = inr record { made = b.made; owner = root_owners (named M e) ∙ b.owner ∙ sym (root_owners v); lower = omega (arith, b.lower, root_levels v, root_levels (named M e)) }

  -- A ROOT MAY SHADOW ANY FRAME
  pub root_trees : Trees M map s''
  root_trees = record {
    exact = record_exact M ok s trees.exact (root_of M p) M.tables.levels (guest f) (root_table M ok p h);
    bound = λ v hv. omega (arith, root_levels v, trees.bound v hv);
    roots = λ v hv. trees.roots v hv ∙ ap (λ (n : ℕ). eqb n M.tables.levels) (sym (root_levels v));
    frames = λ v hv. by-table v (root_of M p) (λ q. omega (arith, ap (shd M s'') q, root_frame)) (λ ne. omega (arith, root_frames v ne, trees.frames v hv));
    free = λ v hv z.
        let y : lev M s v ≡ 0 = sym (root_levels v) ∙ z in
        let ne : v ≡ root_of M p → ⊥ = λ q. omega (arith, ap (lev M s) q, root_level M ok map s trees p h, ok.upper) in
        (root_frames v ne ∙ (trees.free v hv y).0, (trees.free v hv y).1);
    leaf = λ v hv z. trees.leaf v hv (sym (root_levels v) ∙ z);
    branch = λ v hv high k hk. branch_as (trees.branch v hv (omega (arith, root_levels v)) k hk);
    name = λ u hu lo hi.
        let m = trees.name u hu (omega (arith, root_levels u)) (omega (arith, root_levels u)) in
        (m.0, m.1, names_by refl m.2);
    one = λ a b. trees.one (names_by refl a) (names_by refl b);
  }
