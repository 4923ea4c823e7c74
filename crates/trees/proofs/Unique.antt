-- Each table is reached by one way only, since it has one name; so a store changes the full path of one page at most.
use mathlib.Core.Path.{◌≡◌, sym, ap, ap₂, subst, ◌∙◌}
use mathlib.Core.Bool.{true}
use mathlib.Core.List.{List}
use mathlib.Core.Logic.{◌⊎◌, inl, inr}
use Prim.Native.Nat.{ℕ, zero, suc, ◌+◌, ◌-◌, ◌*◌, ◌/◌, ◌%◌, ◌^◌, ◌≤◌, ◌<◌}
use native.Mathlib.Nat.{mul-zero, mul-suc}
use native.Mathlib.Decide.{ℕ_discrete, dec_lt}
use native.Mathlib.Numerals.{unary_clauses}
use native.Mathlib.Omega.{arith}
use lib.Pow.{shr_lt, shr-shr, split}
use Rattle.paging.specs.declared.Guest.{Guest}
use Rattle.paging.specs.Layout.{Layout, index, compose, is_present}
use Rattle.paging.proofs.Indices.{index_small}
use Rattle.tables.specs.declared.Path.{Path}
use Rattle.tables.specs.State.{Machine, Shadow, on_pool, table_count, entry_count, with_entry, named, top, next_entry, descend, path_to}
use Rattle.tables.specs.Steps.{hang}
use Rattle.trees.proofs.Trees.{Able, Outside, Exact, ent, lev, own, Names, Trees}
use Rattle.trees.proofs.Entries.{entry_here, entry_other, entry_exact, made_names, made_small}
use Rattle.trees.proofs.Paths.{path-level, step_names, stands, FullSame, same_or, full_or, upper_path}

-- ---- a page is its indices

-- a number of n digits of w bits is its digits
digits : (w n v v' : ℕ) → v < 2 ^ (w * n) → v' < 2 ^ (w * n) → ((l : ℕ) → l < n → v / 2 ^ (w * l) % 2 ^ w ≡ v' / 2 ^ (w * l) % 2 ^ w) → v ≡ v'
digits w zero v v' h h' same = let q : 2 ^ (w * zero) ≡ 1 = ap (λ (k : ℕ). 2 ^ k) (mul-zero w) in omega arith
digits w (suc n) v v' h h' same =
    sym (split v w)
    ∙ ap₂ (λ (a b : ℕ). a * 2 ^ w + b)
    (digits w n (v / 2 ^ w) (v' / 2 ^ w) (shorter v h) (shorter v' h') (λ l hl. next v l ∙ same (suc l) (omega arith) ∙ sym (next v' l)))
    (lowest v ∙ same 0 (omega arith) ∙ sym (lowest v'))
    ∙ split v' w
  where
    shorter : (x : ℕ) → x < 2 ^ (w * suc n) → x / 2 ^ w < 2 ^ (w * n)
    shorter x hx = shr_lt (w * n) w (rw (← mul-suc w n) hx)

    next : (x l : ℕ) → x / 2 ^ w / 2 ^ (w * l) % 2 ^ w ≡ x / 2 ^ (w * suc l) % 2 ^ w
    next x l =
        let q : w + w * l ≡ w * suc l = omega (arith, mul-suc w l) in
        ap (λ (y : ℕ). y % 2 ^ w) (shr-shr x w (w * l) ∙ ap (λ (k : ℕ). x / 2 ^ k) q)

    lowest : (x : ℕ) → x % 2 ^ w ≡ x / 2 ^ (w * 0) % 2 ^ w
    lowest x =
        let one : x / 2 ^ (w * 0) ≡ x = ap (λ (k : ℕ). x / 2 ^ k) (mul-zero w) ∙ omega arith in
        ap (λ (y : ℕ). y % 2 ^ w) (sym one)

pub page_is : (Y : Layout) (v v' : ℕ) → v < 2 ^ (Y.index_bits * Y.levels) → v' < 2 ^ (Y.index_bits * Y.levels)
    → ((l : ℕ) → 1 ≤ l → l ≤ Y.levels → index Y v l ≡ index Y v' l) → v ≡ v'
unfolding index
page_is Y v v' h h' same = digits Y.index_bits Y.levels v v' h h' (λ l hl. simp unary_clauses at same (suc l) (omega arith) (omega arith))

-- ---- one way to a table

module _ (M : Machine) (ok : Able M) (map : List ℕ) (outside : Outside M map) (s : Shadow) (trees : Trees M map s) (p : ℕ) (hp : p < M.processors) where
  abbrev reach : ℕ → ℕ → Path
  reach v n = descend M s.pool v n (top M p)

  -- TWO PAGES THAT REACH ONE TABLE HAVE THE SAME INDICES ON THE WAY
  pub unique : (v v' n : ℕ) → n < M.tables.levels → (reach v n).table ≡ (reach v' n).table → (reach v n).table < table_count M
      → (l : ℕ) → M.tables.levels - n < l → l ≤ M.tables.levels → index M.tables v l ≡ index M.tables v' l
  unique v v' zero hn q h l lo hi = absurd (omega arith)
  unique v v' (suc n) hn q h l lo hi = by (dec_lt (M.tables.levels - n) l) (unique v v' n (omega arith) one.0 name.table l)
    where
      name : Names M s (reach v n).table (index M.tables v (reach v n).level) (reach v (suc n)).table
      name = step_names M ok map outside s trees p hp v n h

      name' : Names M s (reach v' n).table (index M.tables v' (reach v' n).level) (reach v' (suc n)).table
      name' = step_names M ok map outside s trees p hp v' n (subst (λ (u : ℕ). u < table_count M) q h)

      one : ((reach v n).table ≡ (reach v' n).table) × (index M.tables v (reach v n).level ≡ index M.tables v' (reach v' n).level)
      one = trees.one name (subst (λ (u : ℕ). Names M s (reach v' n).table (index M.tables v' (reach v' n).level) u) (sym q) name')

      by : Dec (M.tables.levels - n < l)
          → (M.tables.levels - n < l → l ≤ M.tables.levels → index M.tables v l ≡ index M.tables v' l)
          → index M.tables v l ≡ index M.tables v' l
      by (yes above) same = same above hi
      by (no ne) same =
          let e : M.tables.levels - n ≡ l = omega arith in
          ap (index M.tables v) (sym (path-level M s.pool v n (top M p) ∙ e))
          ∙ one.1
          ∙ ap (index M.tables v') (path-level M s.pool v' n (top M p) ∙ e)

-- ---- a table is hung

module _ (M : Machine) (ok : Able M) (map : List ℕ) (outside : Outside M map) (s : Shadow) (trees : Trees M map s)
    (t i u l : ℕ) (g : Guest) (r : ℕ) (ht : t < table_count M) (hi : i < entry_count M) (hu : u < table_count M) (hr : r < 8)
    (upper : 1 < lev M s t) (free : lev M s u ≡ 0) where
  abbrev made : ℕ
  made = compose M.tables r 0 (M.base + u)

  abbrev s' : Shadow
  s' = hang M t i u l g r s

  here : ent M s' t i ≡ made
  here = entry_here M ok s trees.exact t i made ht hi (made_small M ok r u hr hu)

  other : (v k : ℕ) → k < entry_count M → (t ≡ v → i ≡ k → ⊥) → ent M s' v k ≡ ent M s v k
  other v k hk ne = entry_other M ok s trees.exact t i made ht hi (made_small M ok r u hr hu) v k hk ne

  -- u's entries are 0, and so is what lies past the last table
  abbrev Bare : ℕ → Type 0
  Bare v = (k : ℕ) → k < entry_count M → ent M s' v k ≡ 0

  bare_hung : Bare u
  bare_hung k hk = other u k hk (λ q e. omega (arith, ap (lev M s) q)) ∙ (trees.free u hu free).1 k hk

  bare_none : Bare (table_count M)
  bare_none k hk = ok.past s'.pool (entry_exact M ok s trees.exact t i made ht hi (made_small M ok r u hr hu)).words (table_count M) k hk (omega arith)

  module _ (page p : ℕ) (hp : p < M.processors) where
    abbrev on : ℕ → Path
    on n = descend M s.pool page n (top M p)

    abbrev turn : ℕ → ℕ
    turn n = index M.tables page (on n).level

    -- a path's next entry is as it was, or it is the new one
    reads : (n : ℕ) → (next_entry M s'.pool page (on n) ≡ next_entry M s.pool page (on n)) ⊎ ((t ≡ (on n).table) × (i ≡ turn n))
    reads n = go (ℕ_discrete t (on n).table) (ℕ_discrete i (turn n))
      where
        go : Dec (t ≡ (on n).table) → Dec (i ≡ turn n)
            → (next_entry M s'.pool page (on n) ≡ next_entry M s.pool page (on n)) ⊎ ((t ≡ (on n).table) × (i ≡ turn n))
        go (yes q) (yes e) = inr (q, e)
        go (no ne) d = inl (other (on n).table (turn n) (index_small M.tables page (on n).level) (λ q e. ne q))
        go (yes q) (no ne) = inl (other (on n).table (turn n) (index_small M.tables page (on n).level) (λ q e. ne e))

    -- THE FULL PATHS STAY WHERE A TABLE IS HUNG: the new entry leads to u, whose entries are all 0
    pub hang_full : is_present (next_entry M s'.pool page (path_to M s'.pool p page 1)) ≡ true → FullSame M s s' page p
    hang_full present =
        full_or M s s' page Bare (λ v h. h) bare_none p
        (same_or M s s' page Bare (λ v h. h) bare_none (top M p) last (λ m hm. onto m (reads m))) (end (reads last)) present
      where
        last : ℕ
        last = M.tables.levels - 1

        onto : (m : ℕ) → (next_entry M s'.pool page (on m) ≡ next_entry M s.pool page (on m)) ⊎ ((t ≡ (on m).table) × (i ≡ turn m))
            → (next_entry M s'.pool page (on m) ≡ next_entry M s.pool page (on m)) ⊎ Bare (named M (next_entry M s'.pool page (on m)))
        onto m (inl e) = inl e
        onto m (inr q) =
            let e : next_entry M s'.pool page (on m) ≡ made = sym (ap₂ (ent M s') q.0 q.1) ∙ here in
            inr (subst Bare (sym (ap (named M) e ∙ made_names M ok r u hr hu)) bare_hung)

        end : (next_entry M s'.pool page (on last) ≡ next_entry M s.pool page (on last)) ⊎ ((t ≡ (on last).table) × (i ≡ turn last))
            → (next_entry M s'.pool page (on last) ≡ next_entry M s.pool page (on last)) ⊎ (next_entry M s'.pool page (on last) ≡ 0)
        end (inl e) = inl e
        end (inr q) =
            let w = stands M ok map outside s trees p hp page last (omega (arith, ok.upper)) (omega (arith, q.0)) in
            absurd (omega (arith, w.0, ok.upper, ap (lev M s) q.0))

-- ---- a level 1 entry is written

module _ (M : Machine) (ok : Able M) (map : List ℕ) (outside : Outside M map) (s : Shadow) (trees : Trees M map s) (p : ℕ) (hp : p < M.processors)
    (v t e : ℕ) (ht : t < table_count M) (level : lev M s t ≡ 1) (reached : (descend M s.pool v (M.tables.levels - 1) (top M p)).table ≡ t)
    (he : e < 2 ^ M.tables.entry_bits) where
  abbrev written : Shadow
  written = on_pool (with_entry M t (index M.tables v 1) e) s

  exact' : Exact M written
  exact' = entry_exact M ok s trees.exact t (index M.tables v 1) e ht (index_small M.tables v 1) he

  beside : (x k : ℕ) → k < entry_count M → (t ≡ x → index M.tables v 1 ≡ k → ⊥) → ent M written x k ≡ ent M s x k
  beside = entry_other M ok s trees.exact t (index M.tables v 1) e ht (index_small M.tables v 1) he

  -- a path down to level 1 reads only tables above level 1
  pub leaf_path : (p' v' : ℕ) → p' < M.processors → path_to M written.pool p' v' 1 ≡ path_to M s.pool p' v' 1
  leaf_path p' v' hp' =
      upper_path M ok map outside s written trees exact' v' p' hp' 1
      (λ x hx up k hk. beside x k hk (λ q r. omega (arith, ap (lev M s) q))) (M.tables.levels - 1) (omega arith)

  last_level : (p' v' : ℕ) → (path_to M s.pool p' v' 1).level ≡ 1
  last_level p' v' = path-level M s.pool v' (M.tables.levels - 1) (top M p') ∙ omega (arith, ok.upper)

  pub leaf_here : next_entry M written.pool v (path_to M written.pool p v 1) ≡ e
  leaf_here =
      ap (next_entry M written.pool v) (leaf_path p v hp)
      ∙ ap₂ (λ (x k : ℕ). ent M written x (index M.tables v k)) reached (last_level p v)
      ∙ entry_here M ok s trees.exact t (index M.tables v 1) e ht (index_small M.tables v 1) he

  -- a page that reaches that entry from p's root is v
  same-page : (v' : ℕ) → v < 2 ^ (M.tables.index_bits * M.tables.levels) → v' < 2 ^ (M.tables.index_bits * M.tables.levels)
      → t ≡ (path_to M s.pool p v' 1).table → index M.tables v 1 ≡ index M.tables v' 1 → v ≡ v'
  same-page v' hv hv' q r = page_is M.tables v v' hv hv' (λ l lo hi. by l lo hi (dec_lt 1 l))
    where
      by : (l : ℕ) → 1 ≤ l → l ≤ M.tables.levels → Dec (1 < l) → index M.tables v l ≡ index M.tables v' l
      by l lo hi (yes up) =
          unique M ok map outside s trees p hp v v' (M.tables.levels - 1) (omega (arith, ok.upper)) (reached ∙ q) (omega (arith, reached)) l
          (omega (arith, ok.upper)) hi
      by l lo hi (no low) =
          let one : 1 ≡ l = omega arith in
          subst (λ (k : ℕ). index M.tables v k ≡ index M.tables v' k) one r

  -- ANOTHER PAGE'S FULL PATH STAYS
  pub leaf_full : (p' v' : ℕ) → p' < M.processors
      → v < 2 ^ (M.tables.index_bits * M.tables.levels) → v' < 2 ^ (M.tables.index_bits * M.tables.levels)
      → (p' ≡ p → v' ≡ v → ⊥) → FullSame M s written v' p'
  leaf_full p' v' hp' hv hv' ne =
      (leaf_path p' v' hp', ap (next_entry M written.pool v') (leaf_path p' v' hp') ∙ beside x.table _ (index_small M.tables v' x.level) apart)
    where
      x : Path
      x = path_to M s.pool p' v' 1

      low : M.tables.levels - 1 < M.tables.levels
      low = omega (arith, ok.upper)

      apart : t ≡ x.table → index M.tables v 1 ≡ index M.tables v' x.level → ⊥
      apart q r =
          let a = stands M ok map outside s trees p hp v (M.tables.levels - 1) low (omega (arith, reached)) in
          let b = stands M ok map outside s trees p' hp' v' (M.tables.levels - 1) low (omega (arith, q)) in
          let owner : p' ≡ p = sym b.1 ∙ ap (own M s) (sym (reached ∙ q)) ∙ a.1 in
          ne owner
          (sym (same-page v' hv hv' (q ∙ ap (λ (o : ℕ). (path_to M s.pool o v' 1).table) owner) (r ∙ ap (index M.tables v') (last_level p' v'))))
