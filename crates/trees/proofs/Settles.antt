-- Settling, from the root down: the page's path agrees with the guest's as far as it goes, and what differs there is cut.
use mathlib.Core.Path.{◌≡◌, refl, sym, ap, subst, ◌∙◌}
use mathlib.Core.Bool.{Bool, true, false, cond, ◌&&◌}
use mathlib.Core.List.{List}
use mathlib.Core.Logic.{inl, ⊎_elim}
use Prim.Native.Nat.{ℕ, zero, suc, ◌+◌, ◌-◌, ◌<◌}
use native.Mathlib.Nat.{eq-or-lt_of_le}
use native.Mathlib.Decide.{ℕ_discrete}
use native.Mathlib.Omega.{arith}
use lib.Dec.{eqb, ltb}
use borrow.Author.Tests.{ltb-true, eqb-true}
use Rattle.paging.specs.declared.Guest.{Guest}
use Rattle.paging.specs.Frame.{guest}
use Rattle.paging.specs.Layout.{Layout, index, frame_of, rights_of, is_present}
use Rattle.paging.specs.Walk.{meet}
use Rattle.paging.proofs.Tests.{both}
use Rattle.paging.proofs.Indices.{index_small}
use Rattle.tables.specs.declared.Path.{Path}
use Rattle.tables.specs.State.{Machine, Shadow, table_count, root_of, entry_count, named, top, next_entry, down, descend}
use Rattle.tables.specs.Steps.{Settled, settled_at, spot, cut, agrees, settle}
use Rattle.trees.proofs.Trees.{Able, Outside, ent, lev, shd, own, Another, Trees, Less, Same, same_trans, another_still}
use Rattle.trees.proofs.Roots.{root_table, root_level}
use Rattle.trees.proofs.Cuts.{cut_trees, cut_less, cut_gone, cut_record, cut_upper, cut_level, cut_others}
use Rattle.trees.proofs.Paths.{path-on, stands, upper_path}
use Rattle.guest.specs.GuestWalk.{guest_entry}

abbrev pub at : ℕ → ℕ → ℕ → Path
at n t r = record { level = n; table = t; rights = r }

-- THE GUEST'S PATH: with n entries left to read, from frame g with rights r, the walk passes entries that are present and
-- inside the guest, reads the last one in frame last, and completes in frame f with rights x
module _ (M : Machine) (words : List ℕ) (page : ℕ) (last f : Guest) (x : ℕ) where
  abbrev pub Leads : ℕ → Guest → ℕ → Type 0
  Leads zero g r = (g ≡ f) × (r ≡ x)
  Leads (suc n) g r =
      let e = guest_entry M.tables words page (suc n) g in
      (is_present e ≡ true)
      × (frame_of M.tables e < M.frames)
      × (n ≡ 0 → g ≡ last)
      × Leads n (guest (frame_of M.tables e)) (meet r (rights_of M.tables e))

module _ (M : Machine) (p : ℕ) where
  -- what stays while the tables of p are worked on
  pub record Stays (s s' : Shadow) : Type 0 where
    pub others : (v : ℕ) → v < table_count M → Another M s p v → Same M s s' v
    pub root : shd M s' (root_of M p) ≡ shd M s (root_of M p)

  pub stays_refl : (s : Shadow) → Stays s s
  stays_refl s = record { others = λ v h a. record { entries = λ i k. refl; level = refl; frame = refl; owner = refl }; root = refl }

  pub stays_trans : {a b c : Shadow} → Stays a b → Stays b c → Stays a c
  stays_trans ab bc = record {
    others = λ v hv o. let first = ab.others v hv o in same_trans first (bc.others v hv (another_still first o));
    root = bc.root ∙ ab.root;
  }

module _ (M : Machine) (ok : Able M) (map : List ℕ) (outside : Outside M map) (words : List ℕ) (p : ℕ) (hp : p < M.processors) (page : ℕ) (last f : Guest) (x : ℕ) where
  abbrev Y : Layout
  Y = M.tables

  abbrev L : ℕ
  L = M.tables.levels

  -- with m tables below it the page's path stands on table t, and the guest's on frame g with the same rights
  pub record Stands (s : Shadow) (m t : ℕ) (g : Guest) : Type 0 where
    pub rights : ℕ
    pub below : m < L
    pub path : descend M s.pool page (L - suc m) (top M p) ≡ at (suc m) t rights
    pub table : t < table_count M
    pub leads : Leads M words page last f x (suc m) g rights

  -- what settling leaves: the path stands where it ends, and the entry there is absent unless no table is missing
  pub record Settling (s : Shadow) (d : Settled) : Type 0 where
    pub trees : Trees M map d.shadow
    pub less : Less M s d.shadow
    pub stays : Stays M p s d.shadow
    pub stands : Stands d.shadow d.spot.missing d.spot.table d.spot.frame
    pub absent : 0 < d.spot.missing → ent M d.shadow d.spot.table (index Y page (suc d.spot.missing)) ≡ 0

  module _ (s : Shadow) (trees : Trees M map s) where
    -- its level and owner
    pub leveled : {m t : ℕ} {g : Guest} → Stands s m t g → (lev M s t ≡ suc m) × (own M s t ≡ p)
    leveled {m} {t} h =
        let q : (descend M s.pool page (L - suc m) (top M p)).table ≡ t = ap (λ (w : Path). w.table) h.path in
        let r = stands M ok map outside s trees p hp page (L - suc m) (omega (arith, h.below)) (rw q h.table) in
        (ap (lev M s) (sym q) ∙ r.0 ∙ omega (arith, h.below), ap (own M s) (sym q) ∙ r.1)

    -- the root's record stays where an entry of one of p's tables is cut
    cut_root : (t i l : ℕ) (ht : t < table_count M) (hi : i < entry_count M) (level : lev M s t ≡ suc l) (pos : 0 < l) → shd M (cut M l t i s) (root_of M p) ≡ shd M s (root_of M p)
    cut_root t i l ht hi level pos = go (ℕ_discrete (root_of M p) t)
      where
        go : Dec (root_of M p ≡ t) → shd M (cut M l t i s) (root_of M p) ≡ shd M s (root_of M p)
        go (yes q) = rw q (cut_record M ok map outside s trees t i l ht hi level pos).1
        go (no ne) =
            ⊎_elim
            (λ (q : lev M s t ≡ L). (cut_level M ok map outside s trees t i l ht hi level pos (root_of M p) (root_table M ok p hp) (root_level M ok map s trees p hp ∙ sym q) ne).frame)
            (λ (h : lev M s t < L). (cut_upper M ok map outside s trees t i l ht hi level pos (root_of M p) (root_table M ok p hp) (omega (arith, root_level M ok map s trees p hp))).frame)
            (eq-or-lt_of_le (trees.bound t ht))

  less_refl : (s : Shadow) → Less M s s
  less_refl s = record { entries = λ t h i k. inl refl }

  -- one entry further down, by a shadow entry with the guest entry's own rights
  pub further : {s : Shadow} {m t : ℕ} {g : Guest} (h : Stands s (suc m) t g) → (u : ℕ) → u < table_count M
      → named M (ent M s t (index Y page (suc (suc m)))) ≡ u
      → rights_of Y (ent M s t (index Y page (suc (suc m)))) ≡ rights_of Y (guest_entry Y words page (suc (suc m)) g)
      → Stands s m u (guest (frame_of Y (guest_entry Y words page (suc (suc m)) g)))
  further {s} {m} {t} {g} h u hu nu ru = record {
    rights = meet h.rights (rights_of Y (guest_entry Y words page (suc (suc m)) g));
    below = omega (arith, h.below);
    path =
        let q : L - suc m ≡ suc (L - suc (suc m)) = omega (arith, h.below) in
        ap (λ (n : ℕ). descend M s.pool page n (top M p)) q
        ∙ path-on M s.pool page (L - suc (suc m)) (top M p)
        ∙ ap (λ (w : Path). down M w (next_entry M s.pool page w)) h.path
        ∙ (let d : suc (suc m) - 1 ≡ suc m = omega arith in (λ j. at (d j) (nu j) (meet h.rights (ru j))));
    table = hu;
    leads = h.leads.3;
  }

  -- a path to a table reads only what lies above it
  pub carried : {s s' : Shadow} {m t : ℕ} {g : Guest} → Trees M map s → Trees M map s' → (h : Stands s m t g)
      → ((v : ℕ) → v < table_count M → suc m < lev M s v → (i : ℕ) → i < entry_count M → ent M s' v i ≡ ent M s v i) → Stands s' m t g
  carried {s} {s'} {m} trees trees' h same = record {
    rights = h.rights;
    below = h.below;
    path = upper_path M ok map outside s s' trees trees'.exact page p hp (suc m) same (L - suc m) (omega arith) ∙ h.path;
    table = h.table;
    leads = h.leads;
  }

  -- where the entries differ settling ends: what hangs there is cut
  module _ (s : Shadow) (trees : Trees M map s) {m t : ℕ} {g : Guest} (h : Stands s (suc m) t g) where
    abbrev i : ℕ
    i = index Y page (suc (suc m))

    hi : i < entry_count M
    hi = index_small Y page (suc (suc m))

    level : lev M s t ≡ suc (suc m)
    level = (leveled s trees h).0

    kept : Trees M map (cut M (suc m) t i s)
    kept = cut_trees M ok map outside s trees t i (suc m) h.table hi level (omega arith)

    upper : (v : ℕ) → v < table_count M → lev M s t < lev M s v → Same M s (cut M (suc m) t i s) v
    upper = cut_upper M ok map outside s trees t i (suc m) h.table hi level (omega arith)

    ends : Settling s (settled_at (spot (suc m) t g) (cut M (suc m) t i s))
    ends = record {
      trees = kept;
      less = cut_less M ok map outside s trees t i (suc m) h.table hi level (omega arith);
      stays = record {
        others = λ v hv o. cut_others M ok map outside s trees t i (suc m) h.table hi level (omega arith) v hv (λ q. o.other (q ∙ (leveled s trees h).1));
        root = cut_root s trees t i (suc m) h.table hi level (omega arith);
      };
      stands = carried trees kept h (λ v hv above k hk. (upper v hv (omega (arith, level))).entries k hk);
      absent = λ l. cut_gone M ok map outside s trees t i (suc m) h.table hi level (omega arith);
    }

  -- SETTLING KEEPS THE TREES, and stands where the path ends
  pub settles : (m t : ℕ) (g : Guest) (s : Shadow) → Trees M map s → Stands s m t g → Settling s (settle M words page m t g s)
  unfolding settle
  settles zero t g s trees h = record {
    trees = trees;
    less = less_refl s;
    stays = stays_refl M p s;
    stands = h;
    absent = λ l. absurd (omega arith);
  }
  settles (suc m) t g s trees h =
      subst (Settling s) (sym spelt) (go (agrees M s.records e c) refl (settles m (named M e) (guest (frame_of Y c)) s trees))
    where
      -- the entry at level l, and the guest's
      by_level : ℕ → Settled
      by_level l =
          cond (agrees M s.records (ent M s t (index Y page l)) (guest_entry Y words page l g))
          (settle M words page m (named M (ent M s t (index Y page l))) (guest (frame_of Y (guest_entry Y words page l g))) s)
          (settled_at (spot (suc m) t g) (cut M (suc m) t (index Y page l) s))

      spelt : settle M words page (suc m) t g s ≡ by_level (suc (suc m))
      spelt = let q : m + 2 ≡ suc (suc m) = omega arith in ap by_level q

      e : ℕ
      e = ent M s t (index Y page (suc (suc m)))

      c : ℕ
      c = guest_entry Y words page (suc (suc m)) g

      go : (b : Bool) → agrees M s.records e c ≡ b
          → (Stands s m (named M e) (guest (frame_of Y c)) → Settling s (settle M words page m (named M e) (guest (frame_of Y c)) s))
          → Settling s (cond b (settle M words page m (named M e) (guest (frame_of Y c)) s) (settled_at (spot (suc m) t g) (cut M (suc m) t (index Y page (suc (suc m))) s)))
      go true q more =
          let a = both (ltb (named M e) (table_count M) && eqb (rights_of Y e) (rights_of Y c)) _ q in
          let b = both (ltb (named M e) (table_count M)) (eqb (rights_of Y e) (rights_of Y c)) a.0 in
          more (further h (named M e) (ltb-true (named M e) (table_count M) b.0) refl (eqb-true (rights_of Y e) (rights_of Y c) b.1))
      go false q more = ends s trees h
