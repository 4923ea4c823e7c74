-- Hanging a free table below an absent entry keeps the trees: one name more, and it is the new table's only one.
use mathlib.Core.Path.{◌≡◌, refl, sym, ap, ap₂, subst, ◌∙◌}
use mathlib.Core.Bool.{true}
use mathlib.Core.List.{List}
use mathlib.Core.Logic.{◌⊎◌, inl, inr, ⊎_elim}
use Prim.Native.Nat.{ℕ, suc, ◌+◌, ◌^◌, ◌<◌}
use native.Mathlib.Decide.{ℕ_discrete}
use native.Mathlib.Omega.{arith}
use lib.Dec.{eqb}
use borrow.Author.Tests.{eq-eqb, ne_eqb, lt-ltb}
use Rattle.paging.specs.declared.Guest.{Guest}
use Rattle.paging.specs.Layout.{bit, compose}
use Rattle.tables.specs.State.{Machine, Shadow, on_pool, table_count, entry_count, with_entry, named}
use Rattle.tables.specs.Steps.{hang}
use Rattle.tables.proofs.Owners.{owner_kept}
use Rattle.lawful.specs.Rules.{is_made_with, is_leaf, is_branch, is_root}
use Rattle.trees.proofs.Trees.{Able, Outside, Exact, ent, lev, shd, own, Names, Branch, Trees}
use Rattle.trees.proofs.Entries.{entry_here, entry_other, entry_exact, level-here, frame_here, level_other, frame_other, record_exact, zero_names_none, made-frame, made_names, made_small, made-rights, names_by}
use Rattle.trees.proofs.Falls.{live}

-- a table is this one, or it is not
pub by-table : {A : Type 0} (v u : ℕ) → (v ≡ u → A) → ((v ≡ u → ⊥) → A) → A
by-table {A} v u f h = go (ℕ_discrete v u)
  where
    go : Dec (v ≡ u) → A
    go (yes q) = f q
    go (no ne) = h ne

module _ (M : Machine) (ok : Able M) (map : List ℕ) (outside : Outside M map) (s : Shadow) (trees : Trees M map s)
    (t i u l : ℕ) (g : Guest) (r : ℕ) (table : t < table_count M) (index : i < entry_count M) (level : lev M s t ≡ suc l) (low : 0 < l)
    (absent : ent M s t i ≡ 0) (new : u < table_count M) (free : lev M s u ≡ 0) (owner : own M (hang M t i u l g r s) u ≡ own M s t)
    (below : g.0 < M.frames) (small : r < 8) (grants : M.tables.nx_alone ≡ 0 → bit r 2 ≡ 1) where
  abbrev made : ℕ
  made = compose M.tables r 0 (M.base + u)

  abbrev s' : Shadow
  s' = hang M t i u l g r s

  -- ---- what it does

  fits : made < 2 ^ M.tables.entry_bits
  fits = made_small M ok r u small new

  laid : Exact M (on_pool (with_entry M t i made) s)
  laid = entry_exact M ok s trees.exact t i made table index fits

  pub hang-entry : ent M s' t i ≡ made
  hang-entry = entry_here M ok s trees.exact t i made table index fits

  pub hang-beside : (v k : ℕ) → k < entry_count M → (v ≡ t → k ≡ i → ⊥) → ent M s' v k ≡ ent M s v k
  hang-beside v k h ne = entry_other M ok s trees.exact t i made table index fits v k h (λ p q. ne (sym p) (sym q))

  pub hang-level : lev M s' u ≡ l
  hang-level = level-here M ok (on_pool (with_entry M t i made) s) laid u l g new

  pub hang-frame : shd M s' u ≡ g.0
  hang-frame = frame_here M ok (on_pool (with_entry M t i made) s) laid u l g new

  pub hang_others : (v : ℕ) → (v ≡ u → ⊥) → (lev M s' v ≡ lev M s v) × (shd M s' v ≡ shd M s v)
  hang_others v ne = (
    level_other M ok (on_pool (with_entry M t i made) s) laid u l g new v ne,
    frame_other M ok (on_pool (with_entry M t i made) s) laid u l g new v ne,
  )

  owner_same : (v : ℕ) → own M s' v ≡ own M s v
  owner_same = owner_kept M s.records s'.records

  -- ---- who is named

  apart : u ≡ t → ⊥
  apart q = omega (arith, ap (lev M s) q)

  -- u names none yet
  pub hang_empty : (k : ℕ) → k < entry_count M → ent M s' u k ≡ 0
  hang_empty k h = hang-beside u k h (λ p q. apart p) ∙ (trees.free u new free).1 k h

  hung_names : named M made ≡ u
  hung_names = made_names M ok r u small new

  -- the new name, or one that was there
  abbrev Which : ℕ → ℕ → ℕ → Type 0
  Which v k x = ((v ≡ t) × (k ≡ i) × (x ≡ u)) ⊎ (Names M s v k x × (x ≡ u → ⊥))

  which : {v k x : ℕ} → Names M s' v k x → Which v k x
  which {v} {k} {x} m = go (ℕ_discrete v t) (ℕ_discrete k i)
    where
      old : (v ≡ t → k ≡ i → ⊥) → Which v k x
      old ne =
          let n : Names M s v k x = names_by (sym (hang-beside v k m.index ne)) m in
          inr (n, λ q. omega (arith, live M map outside s trees n, ap (lev M s) q))

      go : Dec (v ≡ t) → Dec (k ≡ i) → Which v k x
      go (yes p) (yes q) = inl (p, q, sym m.names ∙ ap (named M) (ap₂ (ent M s') p q ∙ hang-entry) ∙ hung_names)
      go (yes p) (no n) = old (λ a b. n b)
      go (no n) d = old (λ a b. n a)

  -- a name that was there is there
  still : {v k x : ℕ} → Names M s v k x → Names M s' v k x
  still {v} {k} {x} m = names_by (hang-beside v k m.index other) m
    where
      other : v ≡ t → k ≡ i → ⊥
      other p q = zero_names_none M (ent M s v k) (ap₂ (ent M s) p q ∙ absent) (rw m.names m.is)

  hung : Names M s' t i u
  hung = record { table = table; index = index; names = ap (named M) hang-entry ∙ hung_names; is = new }

  -- ---- table by table

  branch_made : is_branch M made ≡ true
  unfolding is_branch is_made_with
  branch_made =
      let f = made-frame M ok r u small new in
      let x = made-rights M ok r u small new grants in
      simp (x, f, eq-eqb made made refl, hung_names, lt-ltb u (table_count M) new)

  roots' : (v : ℕ) → v < table_count M → is_root M v ≡ eqb (lev M s' v) M.tables.levels
  roots' v h =
      by-table v u
      (λ q.
      let was = ne_eqb (lev M s v) M.tables.levels (λ e. omega (arith, ap (lev M s) q, trees.bound t table)) in
      let now = ne_eqb (lev M s' v) M.tables.levels (λ e. omega (arith, ap (lev M s') q, hang-level, trees.bound t table)) in
      trees.roots v h ∙ was ∙ sym now)
      (λ ne. trees.roots v h ∙ ap (λ (n : ℕ). eqb n M.tables.levels) (sym (hang_others v ne).0))

  free' : (v : ℕ) → v < table_count M → lev M s' v ≡ 0 → (shd M s' v ≡ 0) × ((k : ℕ) → k < entry_count M → ent M s' v k ≡ 0)
  free' v h z =
      let nu : v ≡ u → ⊥ = λ q. omega (arith, ap (lev M s') q, hang-level) in
      let y : lev M s v ≡ 0 = sym (hang_others v nu).0 ∙ z in
      let nt : v ≡ t → ⊥ = λ q. omega (arith, ap (lev M s) q) in
      let f = trees.free v h y in
      ((hang_others v nu).1 ∙ f.0, λ k hk. hang-beside v k hk (λ p q. nt p) ∙ f.1 k hk)

  leaf' : (v : ℕ) → v < table_count M → lev M s' v ≡ 1 → (k : ℕ) → k < entry_count M → (ent M s' v k ≡ 0) ⊎ (is_leaf M.tables map (ent M s' v k) ≡ true)
  leaf' v h z k hk =
      by-table v u
      (λ q. inl (ap (λ (x : ℕ). ent M s' x k) q ∙ hang_empty k hk))
      (λ ne.
      let y : lev M s v ≡ 1 = sym (hang_others v ne).0 ∙ z in
      let same = hang-beside v k hk (λ p q. omega (arith, ap (lev M s) p)) in
      subst (λ (e : ℕ). (e ≡ 0) ⊎ (is_leaf M.tables map e ≡ true)) (sym same) (trees.leaf v h y k hk))

  -- a branch that was there is one
  branch_still : (v e : ℕ) → (v ≡ u → ⊥) → 1 < lev M s v → (e ≡ 0) ⊎ Branch M s v e → (e ≡ 0) ⊎ Branch M s' v e
  branch_still v e ne h (inl z) = inl z
  branch_still v e ne h (inr b) =
      let other : named M e ≡ u → ⊥ = λ q. omega (arith, b.lower, ap (lev M s) q) in
      inr record {
        made = b.made;
        owner = owner_same (named M e) ∙ b.owner ∙ sym (owner_same v);
        lower = omega (arith, b.lower, (hang_others (named M e) other).0, (hang_others v ne).0);
      }

  branch_new : Branch M s' t made
  branch_new = record {
    made = branch_made;
    owner = ap (own M s') hung_names ∙ owner ∙ sym (owner_same t);
    lower = omega (arith, ap (lev M s') hung_names, hang-level, (hang_others t (λ q. apart (sym q))).0);
  }

  branch' : (v : ℕ) → v < table_count M → 1 < lev M s' v → (k : ℕ) → k < entry_count M → (ent M s' v k ≡ 0) ⊎ Branch M s' v (ent M s' v k)
  branch' v h b k hk = go (ℕ_discrete v u) (ℕ_discrete v t) (ℕ_discrete k i)
    where
      old : (v ≡ u → ⊥) → (v ≡ t → k ≡ i → ⊥) → (ent M s' v k ≡ 0) ⊎ Branch M s' v (ent M s' v k)
      old nu ne =
          let y : 1 < lev M s v = omega (arith, (hang_others v nu).0) in
          subst (λ (e : ℕ). (e ≡ 0) ⊎ Branch M s' v e) (sym (hang-beside v k hk ne)) (branch_still v (ent M s v k) nu y (trees.branch v h y k hk))

      go : Dec (v ≡ u) → Dec (v ≡ t) → Dec (k ≡ i) → (ent M s' v k ≡ 0) ⊎ Branch M s' v (ent M s' v k)
      go (yes q) d c = inl (ap (λ (x : ℕ). ent M s' x k) q ∙ hang_empty k hk)
      go (no nu) (yes p) (yes q) =
          let here : ent M s' v k ≡ made = ap₂ (ent M s') p q ∙ hang-entry in
          inr (subst (λ (e : ℕ). Branch M s' v e) (sym here) (subst (λ (x : ℕ). Branch M s' x made) (sym p) branch_new))
      go (no nu) (yes p) (no n) = old nu (λ a b. n b)
      go (no nu) (no n) c = old nu (λ a b. n a)

  -- HANGING A TABLE KEEPS THE TREES
  pub hang_trees : Trees M map s'
  hang_trees = record {
    exact = record_exact M ok (on_pool (with_entry M t i made) s) laid u l g new;
    bound = λ v h. by-table v u (λ q. omega (arith, ap (lev M s') q, hang-level, trees.bound t table)) (λ ne. omega (arith, (hang_others v ne).0, trees.bound v h));
    roots = roots';
    frames = λ v h. by-table v u (λ q. omega (arith, ap (shd M s') q, hang-frame)) (λ ne. omega (arith, (hang_others v ne).1, trees.frames v h));
    free = free';
    leaf = leaf';
    branch = branch';
    name = λ v h lo hi.
        by-table v u
        (λ q. (t, i, subst (λ (x : ℕ). Names M s' t i x) (sym q) hung))
        (λ ne. let m = trees.name v h (omega (arith, (hang_others v ne).0)) (omega (arith, (hang_others v ne).0)) in (m.0, m.1, still m.2));
    one = λ a b.
        ⊎_elim
        (λ w. ⊎_elim (λ w'. (w.0 ∙ sym w'.0, w.1 ∙ sym w'.1)) (λ w'. absurd (w'.1 w.2)) (which b))
        (λ w. ⊎_elim (λ w'. absurd (w.1 w'.2)) (λ w'. trees.one w.0 w'.0) (which b))
        (which a);
  }
