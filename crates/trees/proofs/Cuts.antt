-- Cutting an entry keeps the trees: the table that it names is freed with all below it, and all else is as it was.
use mathlib.Core.Path.{◌≡◌, refl, sym, ap, subst, ◌∙◌}
use mathlib.Core.Bool.{true}
use mathlib.Core.List.{List}
use mathlib.Core.Logic.{◌⊎◌, inl, inr, ⊎_elim}
use Prim.Native.Nat.{ℕ, suc, ◌<◌}
use native.Mathlib.Decide.{ℕ_discrete}
use native.Mathlib.Omega.{arith}
use lib.Dec.{eqb}
use borrow.Author.Tests.{ne_eqb}
use Rattle.tables.specs.State.{Machine, Shadow, table_count, entry_count, named}
use Rattle.tables.proofs.Owners.{owner_kept}
use Rattle.tables.specs.Steps.{cut}
use Rattle.lawful.specs.Rules.{is_leaf, is_root}
use Rattle.trees.proofs.Trees.{Able, Outside, ent, lev, shd, own, Names, Branch, Trees, Less, Same}
use Rattle.trees.proofs.Entries.{names_by, branch_names}
use Rattle.trees.proofs.Falls.{live}
use Rattle.trees.proofs.Prunes.{Below, Cleared, Zeroed, Pruned, Onward, still, cut-onward, frees}

module _ (M : Machine) (ok : Able M) (map : List ℕ) (outside : Outside M map) (s : Shadow) (trees : Trees M map s) (t i l : ℕ)
    (ht : t < table_count M) (hi : i < entry_count M) (level : lev M s t ≡ suc l) (pos : 0 < l) where
  abbrev s' : Shadow
  s' = cut M l t i s

  -- nothing is zeroed yet
  whole : Pruned M s t i (table_count M) s
  whole = record {
    exact = trees.exact;
    entries = λ v hv k hk. inl refl;
    records = λ v hv. inl (refl, refl);
    names = λ {v = v} {k = k} {w = w} m z. absurd (omega (arith, z, live M map outside s trees m));
  }

  onward : Onward M s t i (λ v k. (v ≡ t) × (k ≡ i)) (table_count M) s s' × (ent M s' t i ≡ 0)
  onward = cut-onward M s t i ok map outside trees l (frees M s t i ok map outside trees l) t i ht hi level (inr (refl, refl)) s whole

  pruned : Pruned M s t i (table_count M) s'
  pruned = onward.0.pruned

  -- by whether entry k of v is as it was
  by-entry : {A : Type 0} (v : ℕ) → v < table_count M → (k : ℕ) → k < entry_count M → (ent M s' v k ≡ ent M s v k → A) → (Zeroed M s t i s' v k → A) → A
  by-entry v hv k hk f g = ⊎_elim f g (pruned.entries v hv k hk)

  -- by whether v has its record
  by_record : {A : Type 0} (v : ℕ) → v < table_count M → ((lev M s' v ≡ lev M s v) × (shd M s' v ≡ shd M s v) → A) → (Cleared M s t i s' v → A) → A
  by_record v hv f g = ⊎_elim f g (pruned.records v hv)

  -- ---- what is as it was

  pub cut_less : Less M s s'
  cut_less = record { entries = λ v hv k hk. by-entry v hv k hk (λ e. inl e) (λ d. inr d.gone) }

  pub cut_gone : ent M s' t i ≡ 0
  cut_gone = onward.1

  pub cut_record : (lev M s' t ≡ lev M s t) × (shd M s' t ≡ shd M s t)
  cut_record = by_record t ht (λ same. same) (λ c. absurd (omega (arith, c.below.lower)))

  owner_same : (v : ℕ) → own M s' v ≡ own M s v
  owner_same = owner_kept M s.records s'.records

  -- neither t nor below it
  untouched : (v : ℕ) → v < table_count M → (Below M s t i v → ⊥) → (v ≡ t → ⊥) → Same M s s' v
  untouched v hv out ne = record {
    entries = λ k hk.
        by-entry v hv k hk (λ e. e) (λ d. ⊎_elim (λ (b : Below M s t i v). absurd (out b)) (λ (q : (v ≡ t) × (k ≡ i)). absurd (ne q.0)) d.cuttable);
    level = by_record v hv (λ same. same.0) (λ c. absurd (out c.below));
    frame = by_record v hv (λ same. same.1) (λ c. absurd (out c.below));
    owner = owner_same v;
  }

  pub cut_upper : (v : ℕ) → v < table_count M → lev M s t < lev M s v → Same M s s' v
  cut_upper v hv h = untouched v hv (λ b. omega (arith, b.lower)) (λ q. omega (arith, ap (lev M s) q))

  pub cut_level : (v : ℕ) → v < table_count M → lev M s v ≡ lev M s t → (v ≡ t → ⊥) → Same M s s' v
  cut_level v hv e ne = untouched v hv (λ b. omega (arith, b.lower)) ne

  pub cut_others : (v : ℕ) → v < table_count M → (own M s v ≡ own M s t → ⊥) → Same M s s' v
  cut_others v hv ne = untouched v hv (λ b. ne b.owner) (λ q. ne (ap (own M s) q))

  -- a live table has its record
  pub cut-kept : (v : ℕ) → v < table_count M → 0 < lev M s' v → (lev M s' v ≡ lev M s v) × (shd M s' v ≡ shd M s v)
  cut-kept v hv h = by_record v hv (λ same. same) (λ c. absurd (omega (arith, c.level)))

  -- ---- the trees

  roots : (v : ℕ) → v < table_count M → is_root M v ≡ eqb (lev M s' v) M.tables.levels
  roots v hv =
      by_record v hv
      (λ same. trees.roots v hv ∙ ap (λ (n : ℕ). eqb n M.tables.levels) (sym same.0))
      (λ c.
      trees.roots v hv
      ∙ ne_eqb (lev M s v) M.tables.levels (λ q. omega (arith, c.below.lower, trees.bound t ht))
      ∙ sym (ne_eqb (lev M s' v) M.tables.levels (λ q. omega (arith, c.level, ok.upper))))

  free : (v : ℕ) → v < table_count M → lev M s' v ≡ 0 → (shd M s' v ≡ 0) × ((k : ℕ) → k < entry_count M → ent M s' v k ≡ 0)
  free v hv z =
      by_record v hv
      (λ same.
      let was = trees.free v hv (sym same.0 ∙ z) in
      (same.1 ∙ was.0, λ k hk. by-entry v hv k hk (λ e. e ∙ was.1 k hk) (λ d. d.gone)))
      (λ c. (c.frame, c.entries))

  leaf : (v : ℕ) → v < table_count M → lev M s' v ≡ 1 → (k : ℕ) → k < entry_count M → (ent M s' v k ≡ 0) ⊎ (is_leaf M.tables map (ent M s' v k) ≡ true)
  leaf v hv q k hk =
      let same = cut-kept v hv (omega arith) in
      by-entry v hv k hk
      (λ e. rw e (trees.leaf v hv (sym same.0 ∙ q) k hk))
      (λ d. inl d.gone)

  -- what a branch names is live, or its entry would be 0
  branch_on : (v k : ℕ) → v < table_count M → k < entry_count M → lev M s' v ≡ lev M s v → Branch M s v (ent M s v k)
      → (ent M s' v k ≡ 0) ⊎ Branch M s' v (ent M s v k)
  branch_on v k hv hk here b = go (ℕ_discrete (lev M s' w) 0)
    where
      w : ℕ
      w = named M (ent M s v k)

      m : Names M s v k w
      m = record { table = hv; index = hk; names = refl; is = branch_names M (ent M s v k) b.made }

      go : Dec (lev M s' w ≡ 0) → (ent M s' v k ≡ 0) ⊎ Branch M s' v (ent M s v k)
      go (yes z) = ⊎_elim (λ (q : w ≡ table_count M). absurd (omega (arith, m.is))) (λ gone. inl gone) (pruned.names m z)
      go (no up) = let low = (cut-kept w m.is (omega arith)).0 in inr (record { made = b.made; owner = owner_same w ∙ b.owner ∙ sym (owner_same v); lower = omega (arith, b.lower) })

  branch : (v : ℕ) → v < table_count M → 1 < lev M s' v → (k : ℕ) → k < entry_count M → (ent M s' v k ≡ 0) ⊎ Branch M s' v (ent M s' v k)
  branch v hv h k hk =
      let here = (cut-kept v hv (omega arith)).0 in
      by-entry v hv k hk
      (λ e.
      ⊎_elim
      (λ (z : ent M s v k ≡ 0). inl (e ∙ z))
      (λ (b : Branch M s v (ent M s v k)). subst (λ (n : ℕ). (ent M s' v k ≡ 0) ⊎ Branch M s' v n) (sym e) (branch_on v k hv hk here b))
      (trees.branch v hv (omega arith) k hk))
      (λ d. inl d.gone)

  -- the name of a live table is as it was, or that table would be free
  name : (u : ℕ) → u < table_count M → 0 < lev M s' u → lev M s' u < M.tables.levels → (v : ℕ) × (k : ℕ) × Names M s' v k u
  name u hu h lt = let same = (cut-kept u hu h).0 in let x = trees.name u hu (omega arith) (omega arith) in (x.0, x.1, stays x.2)
    where
      stays : {v k : ℕ} → Names M s v k u → Names M s' v k u
      stays {v} {k} m =
          by-entry v m.table k m.index
          (λ e. names_by e m)
          (λ d. absurd (omega (arith, d.under u m)))

  -- CUTTING AN ENTRY KEEPS THE TREES
  pub cut_trees : Trees M map s'
  cut_trees = record {
    exact = pruned.exact;
    bound = λ v hv. by_record v hv (λ same. omega (arith, same.0, trees.bound v hv)) (λ c. omega (arith, c.level));
    roots = roots;
    frames = λ v hv. by_record v hv (λ same. omega (arith, same.1, trees.frames v hv)) (λ c. omega (arith, c.frame, trees.frames v hv));
    free = free;
    leaf = leaf;
    branch = branch;
    name = name;
    one = λ a b. trees.one (still M s t i ok map outside trees pruned a) (still M s t i ok map outside trees pruned b);
  }
