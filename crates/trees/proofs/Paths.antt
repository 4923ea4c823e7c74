-- The path of a page through the tables, step by step at its end: where it stands on none it stays on none, where it
-- stands on a table that is of the root's share and of the path's level, and it changes only with an entry that it reads.
use mathlib.Core.Path.{◌≡◌, refl, sym, ap, subst, ◌∙◌}
use mathlib.Core.Bool.{true}
use mathlib.Core.List.{List}
use mathlib.Core.Logic.{◌⊎◌, inl, inr}
use Prim.Native.Nat.{ℕ, zero, suc, ◌+◌, ◌-◌, ◌≤◌, ◌<◌}
use native.Mathlib.Decide.{dec_lt}
use native.Mathlib.Omega.{arith}
use borrow.Author.Tests.{eqb-true}
use Rattle.paging.specs.Layout.{bit, index, is_present}
use Rattle.paging.proofs.Indices.{index_small}
use Rattle.tables.specs.declared.Path.{Path}
use Rattle.tables.specs.State.{Machine, Shadow, table_count, entry_count, named, top, next_entry, down, descend, path_to}
use Rattle.trees.proofs.Trees.{Able, Outside, Exact, ent, lev, own, Names, Trees, Less, Same}
use Rattle.trees.proofs.Entries.{zero_names}
use Rattle.trees.proofs.Falls.{falls, same_owner}
use Rattle.trees.proofs.Roots.{root_owner, root_level}

module _ (M : Machine) (pool : List ℕ) (page : ℕ) where
  -- one more step at the end
  pub path-on : (n : ℕ) (w : Path) → descend M pool page (suc n) w ≡ down M (descend M pool page n w) (next_entry M pool page (descend M pool page n w))
  unfolding descend
  path-on zero w = refl
  path-on (suc n) w = path-on n (down M w (next_entry M pool page w))

  pub path-level : (n : ℕ) (w : Path) → (descend M pool page n w).level ≡ w.level - n
  unfolding descend
  path-level zero w = omega arith
  path-level (suc n) w = omega (arith, path-level n (down M w (next_entry M pool page w)))

  pub path_join : (n m : ℕ) (w : Path) → descend M pool page (n + m) w ≡ descend M pool page m (descend M pool page n w)
  unfolding descend
  path_join zero m w =
      let r : zero + m ≡ m = omega arith in
      ap (λ (k : ℕ). descend M pool page k w) r
  path_join (suc n) m w =
      let r : suc n + m ≡ suc (n + m) = omega arith in
      ap (λ (k : ℕ). descend M pool page k w) r ∙ path_join n m (down M w (next_entry M pool page w))

-- ---- a path on none

module _ (M : Machine) (ok : Able M) (s : Shadow) (exact : Exact M s) (page : ℕ) where
  pub lost_entry : (w : Path) → table_count M ≤ w.table → next_entry M s.pool page w ≡ 0
  lost_entry w h = ok.past s.pool exact.words w.table (index M.tables page w.level) (index_small M.tables page w.level) h

  -- WHERE A PATH STANDS ON NONE IT STAYS ON NONE
  pub lost_stays : (n : ℕ) (w : Path) → table_count M ≤ w.table → table_count M ≤ (descend M s.pool page n w).table
  unfolding descend
  lost_stays zero w h = h
  lost_stays (suc n) w h =
      let q : named M (next_entry M s.pool page w) ≡ table_count M = ap (named M) (lost_entry w h) ∙ zero_names M in
      lost_stays n (down M w (next_entry M s.pool page w)) (omega arith)

  pub lost_before : (n m : ℕ) (w : Path) → (descend M s.pool page (n + m) w).table < table_count M → (descend M s.pool page n w).table < table_count M
  lost_before n m w h = go (dec_lt (descend M s.pool page n w).table (table_count M))
    where
      go : Dec ((descend M s.pool page n w).table < table_count M) → (descend M s.pool page n w).table < table_count M
      go (yes here) = here
      go (no none) =
          let past = lost_stays m (descend M s.pool page n w) (omega arith) in
          absurd (omega (arith, past, ap (λ (x : Path). x.table) (path_join M s.pool page n m w)))

-- ---- a path on a table

module _ (M : Machine) (ok : Able M) (map : List ℕ) (outside : Outside M map) (s : Shadow) (trees : Trees M map s) (p : ℕ) (hp : p < M.processors) where
  module _ (page : ℕ) where
    abbrev at : ℕ → Path
    at n = descend M s.pool page n (top M p)

    -- the index that is read there
    abbrev turn : ℕ → ℕ
    turn n = index M.tables page (at n).level

    pub step-table : (n : ℕ) → (at (suc n)).table ≡ named M (ent M s (at n).table (turn n))
    step-table n = ap (λ (x : Path). x.table) (path-on M s.pool page n (top M p))

    pub step-before : (n : ℕ) → (at (suc n)).table < table_count M → (at n).table < table_count M
    step-before n h =
        let r : n + 1 ≡ suc n = omega arith in
        lost_before M ok s trees.exact page n 1 (top M p) (subst (λ (k : ℕ). (at k).table < table_count M) (sym r) h)

    -- the table of the path names the next one
    pub step_names : (n : ℕ) → (at (suc n)).table < table_count M → Names M s (at n).table (turn n) (at (suc n)).table
    step_names n h = record {
      table = step-before n h;
      index = index_small M.tables page (at n).level;
      names = sym (step-table n);
      is = h;
    }

    -- WHERE A PATH STANDS ON A TABLE, THAT IS OF ITS LEVEL AND OF ITS ROOT'S SHARE
    pub stands : (n : ℕ) → n < M.tables.levels → (at n).table < table_count M
        → (lev M s (at n).table ≡ M.tables.levels - n) × (own M s (at n).table ≡ p)
    unfolding descend
    stands zero hn h = (omega (arith, root_level M ok map s trees p hp), root_owner M ok s p)
    stands (suc n) hn h =
        let m = step_names n h in
        let r = stands n (omega arith) m.table in
        (omega (arith, r.0, falls M map outside s trees m), same_owner M map outside s trees m ∙ r.1)

-- ---- two pools

-- an entry that is 0 is not present
pub zero_absent : (e : ℕ) → e ≡ 0 → is_present e ≡ true → ⊥
unfolding is_present
zero_absent e z on = omega (arith, eqb-true (bit e 0) 1 on)

module _ (M : Machine) (s s' : Shadow) (page : ℕ) where
  -- where the next entry is the same, so is the next step
  pub step_same : (n : ℕ) (w : Path) → descend M s'.pool page n w ≡ descend M s.pool page n w
      → next_entry M s'.pool page (descend M s.pool page n w) ≡ next_entry M s.pool page (descend M s.pool page n w)
      → descend M s'.pool page (suc n) w ≡ descend M s.pool page (suc n) w
  step_same n w q e =
      path-on M s'.pool page n w
      ∙ ap (λ (x : Path). down M x (next_entry M s'.pool page x)) q
      ∙ ap (down M (descend M s.pool page n w)) e
      ∙ sym (path-on M s.pool page n w)

  -- the full path of the page from p's root is the same, and so is the entry at its end
  abbrev pub FullSame : ℕ → Type 0
  FullSame p =
      (path_to M s'.pool p page 1 ≡ path_to M s.pool p page 1)
      × (next_entry M s'.pool page (path_to M s'.pool p page 1) ≡ next_entry M s.pool page (path_to M s.pool p page 1))

  -- a path is the same, or stands where D holds, if each step leaves it the same or leads to where D holds
  module _ (D : ℕ → Type 0) (zero-at : (t : ℕ) → D t → (i : ℕ) → i < entry_count M → ent M s' t i ≡ 0) (none : D (table_count M)) where
    abbrev read_zero : (x : Path) → D x.table → next_entry M s'.pool page x ≡ 0
    read_zero x d = zero-at x.table d (index M.tables page x.level) (index_small M.tables page x.level)

    pub same_or : (w : Path) (n : ℕ)
        → ((m : ℕ) → m < n → (next_entry M s'.pool page (descend M s.pool page m w) ≡ next_entry M s.pool page (descend M s.pool page m w))
        ⊎ D (named M (next_entry M s'.pool page (descend M s.pool page m w))))
        → (descend M s'.pool page n w ≡ descend M s.pool page n w) ⊎ D (descend M s'.pool page n w).table
    unfolding descend
    same_or w zero h = inl refl
    same_or w (suc n) h = go (same_or w n (λ m l. h m (omega arith))) (h n (omega arith))
      where
        x : Path
        x = descend M s.pool page n w

        x' : Path
        x' = descend M s'.pool page n w

        Next : Type 0
        Next = (descend M s'.pool page (suc n) w ≡ descend M s.pool page (suc n) w) ⊎ D (descend M s'.pool page (suc n) w).table

        onto : (t : ℕ) → named M (next_entry M s'.pool page x') ≡ t → D t → Next
        onto t q d = inr (subst D (sym (ap (λ (y : Path). y.table) (path-on M s'.pool page n w) ∙ q)) d)

        go : (x' ≡ x) ⊎ D x'.table
            → (next_entry M s'.pool page x ≡ next_entry M s.pool page x) ⊎ D (named M (next_entry M s'.pool page x)) → Next
        go (inl q) (inl e) = inl (step_same n w q e)
        go (inl q) (inr d) = onto _ (ap (λ (y : Path). named M (next_entry M s'.pool page y)) q) d
        go (inr d) r = onto (table_count M) (ap (named M) (read_zero x' d) ∙ zero_names M) none

    -- such a full path, with a present entry at its end, is the same
    pub full_or : (p : ℕ)
        → (path_to M s'.pool p page 1 ≡ path_to M s.pool p page 1) ⊎ D (path_to M s'.pool p page 1).table
        → (next_entry M s'.pool page (path_to M s.pool p page 1) ≡ next_entry M s.pool page (path_to M s.pool p page 1))
        ⊎ (next_entry M s'.pool page (path_to M s.pool p page 1) ≡ 0)
        → is_present (next_entry M s'.pool page (path_to M s'.pool p page 1)) ≡ true → FullSame p
    full_or p (inl q) (inl e) on = (q, ap (next_entry M s'.pool page) q ∙ e)
    full_or p (inl q) (inr z) on = absurd (zero_absent _ (ap (next_entry M s'.pool page) q ∙ z) on)
    full_or p (inr d) r on = absurd (zero_absent _ (read_zero (path_to M s'.pool p page 1) d) on)

module _ (M : Machine) (ok : Able M) (s s' : Shadow) (exact' : Exact M s') (less : Less M s s') (page : ℕ) where
  -- each next entry is as it was, or 0
  pub less_entry : (w : Path) → (next_entry M s'.pool page w ≡ next_entry M s.pool page w) ⊎ (next_entry M s'.pool page w ≡ 0)
  less_entry w = go (dec_lt w.table (table_count M))
    where
      go : Dec (w.table < table_count M) → (next_entry M s'.pool page w ≡ next_entry M s.pool page w) ⊎ (next_entry M s'.pool page w ≡ 0)
      go (yes h) = less.entries w.table h (index M.tables page w.level) (index_small M.tables page w.level)
      go (no none) = inr (lost_entry M ok s' exact' page w (omega arith))

  abbrev past : (t : ℕ) → table_count M ≤ t → (i : ℕ) → i < entry_count M → ent M s' t i ≡ 0
  past t h i hi = ok.past s'.pool exact'.words t i hi h

  -- WHERE ENTRIES BECOME 0, A PATH STAYS OR STANDS ON NONE
  pub less_path : (n : ℕ) (w : Path) → (descend M s'.pool page n w ≡ descend M s.pool page n w) ⊎ (table_count M ≤ (descend M s'.pool page n w).table)
  less_path n w =
      same_or M s s' page (λ t. table_count M ≤ t) past (omega arith) w n
      (λ m l. by (descend M s.pool page m w) (less_entry (descend M s.pool page m w)))
    where
      by : (x : Path) → (next_entry M s'.pool page x ≡ next_entry M s.pool page x) ⊎ (next_entry M s'.pool page x ≡ 0)
          → (next_entry M s'.pool page x ≡ next_entry M s.pool page x) ⊎ (table_count M ≤ named M (next_entry M s'.pool page x))
      by x (inl e) = inl e
      by x (inr z) = let q : named M (next_entry M s'.pool page x) ≡ table_count M = ap (named M) z ∙ zero_names M in inr (omega arith)

  -- AND A PRESENT ENTRY AT ITS END IS AS IT WAS
  pub less_full : (p : ℕ) → is_present (next_entry M s'.pool page (path_to M s'.pool p page 1)) ≡ true → FullSame M s s' page p
  less_full p on =
      full_or M s s' page (λ t. table_count M ≤ t) past (omega arith) p
      (less_path (M.tables.levels - 1) (top M p)) (less_entry (path_to M s.pool p page 1)) on

module _ (M : Machine) (ok : Able M) (map : List ℕ) (outside : Outside M map) (s s' : Shadow) (trees : Trees M map s) (exact' : Exact M s') (page : ℕ)
    (p : ℕ) (hp : p < M.processors) where
  abbrev on : ℕ → Path
  on n = descend M s.pool page n (top M p)

  -- a path reads the same if the tables of its share and level are the same; past the last table all read 0
  reads_same : (n : ℕ) → n < M.tables.levels
      → ((v : ℕ) → v < table_count M → lev M s v ≡ M.tables.levels - n → own M s v ≡ p → (i : ℕ) → i < entry_count M → ent M s' v i ≡ ent M s v i)
      → next_entry M s'.pool page (on n) ≡ next_entry M s.pool page (on n)
  reads_same n hn same = go (dec_lt (on n).table (table_count M))
    where
      go : Dec ((on n).table < table_count M) → next_entry M s'.pool page (on n) ≡ next_entry M s.pool page (on n)
      go (yes h) =
          let r = stands M ok map outside s trees p hp page n hn h in
          same (on n).table h r.0 r.1 (index M.tables page (on n).level) (index_small M.tables page (on n).level)
      go (no none) =
          lost_entry M ok s' exact' page (on n) (omega arith) ∙ sym (lost_entry M ok s trees.exact page (on n) (omega arith))

  -- WHERE A SHARE STAYS, ITS PATHS STAY
  module _ (same : (v : ℕ) → v < table_count M → own M s v ≡ p → Same M s s' v) where
    same_next : (n : ℕ) → n < M.tables.levels → next_entry M s'.pool page (on n) ≡ next_entry M s.pool page (on n)
    same_next n hn = reads_same n hn (λ v h q o. (same v h o).entries)

    pub same_path : (n : ℕ) → n < M.tables.levels → descend M s'.pool page n (top M p) ≡ descend M s.pool page n (top M p)
    unfolding descend
    same_path zero hn = refl
    same_path (suc n) hn = step_same M s s' page n (top M p) (same_path n (omega arith)) (same_next n (omega arith))

    pub same-entry : (n : ℕ) → n < M.tables.levels
        → next_entry M s'.pool page (descend M s'.pool page n (top M p)) ≡ next_entry M s.pool page (descend M s.pool page n (top M p))
    same-entry n hn = ap (next_entry M s'.pool page) (same_path n hn) ∙ same_next n hn

  -- A PATH DOWN TO LEVEL k READS ONLY TABLES ABOVE LEVEL k
  pub upper_path : (k : ℕ) → ((v : ℕ) → v < table_count M → k < lev M s v → (i : ℕ) → i < entry_count M → ent M s' v i ≡ ent M s v i)
      → (n : ℕ) → n ≤ M.tables.levels - k → descend M s'.pool page n (top M p) ≡ descend M s.pool page n (top M p)
  unfolding descend
  upper_path k same zero hn = refl
  upper_path k same (suc n) hn =
      step_same M s s' page n (top M p) (upper_path k same n (omega arith)) (reads_same n (omega arith) (λ v h q o. same v h (omega arith)))
