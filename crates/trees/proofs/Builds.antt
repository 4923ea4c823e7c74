-- Building after settling, and so a whole fill: the page's path becomes the guest's, and no other page gains one.
use mathlib.Core.Path.{◌≡◌, refl, sym, ap, ap₂, subst, ◌∙◌}
use mathlib.Core.Bool.{true}
use mathlib.Core.List.{List}
use mathlib.Core.Logic.{inr}
use Prim.Native.Nat.{ℕ, zero, suc, ◌+◌, ◌-◌, ◌*◌, ◌^◌, ◌≤◌, ◌<◌}
use native.Mathlib.Omega.{arith}
use lib.Dec.{eqb}
use lib.ListN.{length, get_or}
use borrow.Author.Tests.{eqb-true}
use Rattle.paging.specs.declared.Guest.{Guest}
use Rattle.paging.specs.Frame.{guest}
use Rattle.paging.specs.Layout.{Layout, bit, index, frame_of, rights_of, compose, is_present}
use Rattle.paging.specs.Walk.{meet}
use Rattle.paging.proofs.Tests.{both}
use Rattle.paging.proofs.Indices.{index_small}
use Rattle.paging.proofs.Meets.{rights_small}
use Rattle.tables.specs.declared.Path.{Path}
use Rattle.tables.specs.State.{Machine, Shadow, on_pool, is_free, table_count, home_of, root_of, entry_count, with_entry, named, top, next_entry, descend, path_to}
use Rattle.tables.specs.Steps.{Settled, leaf_of, settle, hang, build, taken, free_count, empty_share}
use Rattle.tables.proofs.Takes.{taken_may, hang-count}
use Rattle.tables.proofs.Owners.{owner_home, owner_kept}
use Rattle.trees.proofs.Trees.{Able, Outside, ent, lev, shd, own, Trees, Less}
use Rattle.trees.proofs.Entries.{made_names, made-rights}
use Rattle.trees.proofs.Roots.{root_table, root_owner, root_level}
use Rattle.trees.proofs.Hangs.{hang_trees, hang-entry, hang-beside, hang_others, hang_empty}
use Rattle.trees.proofs.Leaves.{leaf_beside, leaf_trees, Filled, leaf_of-right}
use Rattle.trees.proofs.Shares.{share_trees, share_less, share_others, share_own, share_root}
use Rattle.trees.proofs.Paths.{less_full}
use Rattle.trees.proofs.Unique.{hang_full, leaf_path, leaf_here, leaf_full}
use Rattle.trees.proofs.Settles.{at, Leads, Stays, stays_trans}
use Rattle.guest.specs.GuestWalk.{guest_entry}
use Rattle.trees.proofs.Settles as settling

module _ (M : Machine) (ok : Able M) (map : List ℕ) (outside : Outside M map) (words : List ℕ) (p : ℕ) (hp : p < M.processors) (page : ℕ) (last f : Guest) (x : ℕ) where
  abbrev Y : Layout
  Y = M.tables

  abbrev L : ℕ
  L = M.tables.levels

  -- as settling says it, at this page and this guest's path
  abbrev Stands : Shadow → ℕ → ℕ → Guest → Type 0
  Stands = settling.Stands M ok map outside words p hp page last f x

  leveled : (s : Shadow) → Trees M map s → {m t : ℕ} {g : Guest} → Stands s m t g → (lev M s t ≡ suc m) × (own M s t ≡ p)
  leveled = settling.leveled M ok map outside words p hp page last f x

  -- the page's path after a fill: down to a level 1 entry that is made of the guest's
  abbrev pub entry : ℕ
  entry = guest_entry Y words page 1 last

  pub record Own (s : Shadow) : Type 0 where
    pub table : ℕ
    pub rights : ℕ
    pub path : path_to M s.pool p page 1 ≡ at 1 table rights
    pub is : next_entry M s.pool page (path_to M s.pool p page 1) ≡ leaf_of Y map entry
    pub present : is_present entry ≡ true
    pub inside : frame_of Y entry < M.frames
    pub frame : guest (frame_of Y entry) ≡ f
    pub total : meet rights (rights_of Y entry) ≡ x

  -- a full path of another page, or of another processor, was there
  pub record Old (s s' : Shadow) : Type 0 where
    pub full : (p' : ℕ) → p' < M.processors → (v : ℕ) → v < 2 ^ (Y.index_bits * L) → (p' ≡ p → v ≡ page → ⊥)
        → is_present (next_entry M s'.pool v (path_to M s'.pool p' v 1)) ≡ true
        → (path_to M s'.pool p' v 1 ≡ path_to M s.pool p' v 1)
        × (next_entry M s'.pool v (path_to M s'.pool p' v 1) ≡ next_entry M s.pool v (path_to M s.pool p' v 1))

  -- what building leaves
  pub record Built (s s' : Shadow) : Type 0 where
    pub trees : Trees M map s'
    pub stays : Stays M p s s'
    pub old : Old s s'
    pub own : Own s'

  old_trans : {a b c : Shadow} → Old a b → Old b c → Old a c
  old_trans ab bc = record {
    full = λ p' hp' v hv ne here.
        let q = bc.full p' hp' v hv ne here in
        let r = ab.full p' hp' v hv ne (rw (← q.1) here) in
        (q.0 ∙ r.0, q.1 ∙ r.1);
  }

  built_trans : {a b c : Shadow} → Stays M p a b → Old a b → Built b c → Built a c
  built_trans st o b = record { trees = b.trees; stays = stays_trans M p st b.stays; old = old_trans o b.old; own = b.own }

  less_old : {s s' : Shadow} → Trees M map s → Trees M map s' → Less M s s' → Old s s'
  less_old {s} {s'} trees trees' less = record { full = λ p' hp' v hv ne here. less_full M ok s s' trees'.exact less v p' here }

  module _ (within : (k : ℕ) → k < length map → get_or map k 0 < 2 ^ Y.frame_bits) (guests : length map ≡ M.frames) (paged : page < 2 ^ (Y.index_bits * L)) where
    -- the level 1 entry
    leaf : (t : ℕ) (g : Guest) (s : Shadow) → Trees M map s → Stands s 0 t g
        → Built s (on_pool (with_entry M t (index Y page 1) (leaf_of Y map (guest_entry Y words page 1 g))) s)
    leaf t g s trees h = record {
      trees = leaf_trees M ok map outside s trees t (index Y page 1) new h.table level (index_small Y page 1) made.small (inr made.leaf);
      stays = record {
        others = λ v hv o. record {
          entries = λ i hi. leaf_beside M ok map outside s trees t (index Y page 1) new h.table level (index_small Y page 1) made.small (inr made.leaf) v i hi
              (λ q r. o.other (ap (own M s) q ∙ (leveled s trees h).1));
          level = refl;
          frame = refl;
          owner = refl;
        };
        root = refl;
      };
      old = record { full = λ p' hp' v hv ne here. leaf_full M ok map outside s trees p hp page t new h.table level at_t made.small p' v hp' paged hv ne };
      own = record {
        table = t;
        rights = h.rights;
        path = leaf_path M ok map outside s trees p hp page t new h.table level at_t made.small p page hp ∙ h.path;
        is = leaf_here M ok map outside s trees p hp page t new h.table level at_t made.small ∙ ap (leaf_of Y map) here;
        present = rw here at h.leads.0;
        inside = rw here at h.leads.1;
        frame = ap (λ (y : ℕ). guest (frame_of Y y)) (sym here) ∙ h.leads.3.0;
        total = ap (λ (y : ℕ). meet h.rights (rights_of Y y)) (sym here) ∙ h.leads.3.1;
      };
    }
      where
        e : ℕ
        e = guest_entry Y words page 1 g

        here : e ≡ entry
        here = ap (guest_entry Y words page 1) (h.leads.2 refl)

        new : ℕ
        new = leaf_of Y map e

        level : lev M s t ≡ 1
        level = (leveled s trees h).0

        made : Filled M map e new
        made = leaf_of-right M ok map within e (rw guests h.leads.1)

        at_t : (path_to M s.pool p page 1).table ≡ t
        at_t = ap (λ (w : Path). w.table) h.path

    -- a table is hung
    module _ (m t : ℕ) (g : Guest) (s : Shadow) (trees : Trees M map s) (h : Stands s (suc m) t g) (free : 0 < free_count M p s.records)
        (absent : ent M s t (index Y page (suc (suc m))) ≡ 0) where
      abbrev i : ℕ
      i = index Y page (suc (suc m))

      abbrev e : ℕ
      e = guest_entry Y words page (suc (suc m)) g

      abbrev u : ℕ
      u = taken M p s.records

      abbrev s₁ : Shadow
      s₁ = hang M t i u (suc m) (guest (frame_of Y e)) (rights_of Y e) s

      level : lev M s t ≡ suc (suc m)
      level = (leveled s trees h).0

      owner : own M s t ≡ p
      owner = (leveled s trees h).1

      u_in : u < table_count M
      u_in = (taken_may M p s.records free).0

      u_may : (eqb (home_of M u) p ≡ true) × (is_free s.records u ≡ true)
      u_may = both (eqb (home_of M u) p) (is_free s.records u) (taken_may M p s.records free).1

      -- it is of p's share, and so p's, before and after
      u_own : (x : Shadow) → own M x u ≡ p
      u_own x = owner_home M x.records u ∙ eqb-true (home_of M u) p u_may.0

      u_free : lev M s u ≡ 0
      u_free = eqb-true (lev M s u) 0 u_may.1

      grants : M.tables.nx_alone ≡ 0 → bit (rights_of Y e) 2 ≡ 1
      grants = ok.grants e

      hung_trees : Trees M map s₁
      hung_trees =
          hang_trees M ok map outside s trees t i u (suc m) (guest (frame_of Y e)) (rights_of Y e) h.table (index_small Y page (suc (suc m))) level (omega arith) absent
          u_in u_free (u_own s₁ ∙ sym owner) h.leads.1 (rights_small Y e) grants

      hung_entry : ent M s₁ t i ≡ compose Y (rights_of Y e) 0 (M.base + u)
      hung_entry =
          hang-entry M ok map outside s trees t i u (suc m) (guest (frame_of Y e)) (rights_of Y e) h.table (index_small Y page (suc (suc m))) level (omega arith) absent
          u_in u_free (u_own s₁ ∙ sym owner) h.leads.1 (rights_small Y e) grants

      hung_beside : (v k : ℕ) → k < entry_count M → (v ≡ t → k ≡ i → ⊥) → ent M s₁ v k ≡ ent M s v k
      hung_beside =
          hang-beside M ok map outside s trees t i u (suc m) (guest (frame_of Y e)) (rights_of Y e) h.table (index_small Y page (suc (suc m))) level (omega arith) absent
          u_in u_free (u_own s₁ ∙ sym owner) h.leads.1 (rights_small Y e) grants

      hung_others : (v : ℕ) → (v ≡ u → ⊥) → (lev M s₁ v ≡ lev M s v) × (shd M s₁ v ≡ shd M s v)
      hung_others =
          hang_others M ok map outside s trees t i u (suc m) (guest (frame_of Y e)) (rights_of Y e) h.table (index_small Y page (suc (suc m))) level (omega arith) absent
          u_in u_free (u_own s₁ ∙ sym owner) h.leads.1 (rights_small Y e) grants

      still_stands : Stands s₁ (suc m) t g
      still_stands =
          settling.carried M ok map outside words p hp page last f x trees hung_trees h
          (λ v hv above k hk. hung_beside v k hk (λ q r. omega (arith, level, ap (lev M s) q)))

      hung_stands : Stands s₁ m u (guest (frame_of Y e))
      hung_stands =
          settling.further M ok map outside words p hp page last f x still_stands u u_in
          (ap (named M) hung_entry ∙ made_names M ok (rights_of Y e) u (rights_small Y e) u_in)
          (ap (rights_of Y) hung_entry ∙ made-rights M ok (rights_of Y e) u (rights_small Y e) u_in grants)

      hung_absent : ent M s₁ u (index Y page (suc m)) ≡ 0
      hung_absent =
          hang_empty M ok map outside s trees t i u (suc m) (guest (frame_of Y e)) (rights_of Y e) h.table (index_small Y page (suc (suc m))) level (omega arith) absent
          u_in u_free (u_own s₁ ∙ sym owner) h.leads.1 (rights_small Y e) grants (index Y page (suc m)) (index_small Y page (suc m))

      hung_stays : Stays M p s s₁
      hung_stays = record {
        others = λ v hv o.
            let r = hung_others v (λ q. o.other (ap (own M s) q ∙ u_own s)) in
            record {
              entries = λ k hk. hung_beside v k hk (λ q w. o.other (ap (own M s) q ∙ owner));
              level = r.0;
              frame = r.1;
              owner = owner_kept M s.records s₁.records v;
            };
        root = (hung_others (root_of M p) (λ q. omega (arith, u_free, root_level M ok map s trees p hp, ap (lev M s) q, ok.upper))).1;
      }

      hung_old : Old s s₁
      hung_old = record {
        full = λ p' hp' v hv ne here.
            hang_full M ok map outside s trees t i u (suc m) (guest (frame_of Y e)) (rights_of Y e) h.table (index_small Y page (suc (suc m))) u_in (rights_small Y e)
            (omega (arith, level)) u_free v p' hp' here;
      }

    -- all missing tables, then the level 1 entry
    pub builds : (m t : ℕ) (g : Guest) (s : Shadow) → Trees M map s → Stands s m t g → m ≤ free_count M p s.records
        → (0 < m → ent M s t (index Y page (suc m)) ≡ 0) → Built s (build M map words p page m t g s)
    unfolding build
    builds zero t g s trees h free absent = leaf t g s trees h
    builds (suc m) t g s trees h free absent =
        let some : 0 < free_count M p s.records = omega arith in
        let gone = absent (omega arith) in
        subst (Built s) (sym spelt)
        (built_trans (hung_stays m t g s trees h some gone) (hung_old m t g s trees h some gone)
        (builds m (u m t g s trees h some gone) (guest (frame_of Y (e m t g s trees h some gone))) (s₁ m t g s trees h some gone)
        (hung_trees m t g s trees h some gone) (hung_stands m t g s trees h some gone)
        (omega (arith, hang-count M p s.records (taken M p s.records) (suc m) (guest (frame_of Y (guest_entry Y words page (suc (suc m)) g)))))
        (λ l. hung_absent m t g s trees h some gone)))
      where
        by_level : ℕ → ℕ → Shadow
        by_level l k =
            build M map words p page m (taken M p s.records) (guest (frame_of Y (guest_entry Y words page l g)))
            (hang M t (index Y page l) (taken M p s.records) k (guest (frame_of Y (guest_entry Y words page l g))) (rights_of Y (guest_entry Y words page l g)) s)

        spelt : build M map words p page (suc m) t g s ≡ by_level (suc (suc m)) (suc m)
        spelt = let q : m + 2 ≡ suc (suc m) = omega arith in let w : m + 1 ≡ suc m = omega arith in ap₂ by_level q w

    -- ---- from the root

    module _ (cr3 : Guest) (leads : Leads M words page last f x (suc (L - 1)) cr3 7) where
      root_stands : (s : Shadow) → Trees M map s → Stands s (L - 1) (root_of M p) cr3
      unfolding descend
      root_stands s trees =
          let some : 0 < L = omega (arith, ok.upper) in
          let q : L - suc (L - 1) ≡ 0 = omega arith in
          let r : L ≡ suc (L - 1) = omega arith in
          record {
            rights = 7;
            below = omega arith;
            path = ap (λ (n : ℕ). descend M s.pool page n (top M p)) q ∙ ap (λ (n : ℕ). at n (root_of M p) 7) r;
            table = root_table M ok p hp;
            leads = leads;
          }

      module _ (s : Shadow) (trees : Trees M map s) where
        abbrev d : Settled
        d = settle M words page (L - 1) (root_of M p) cr3 s

        settled : settling.Settling M ok map outside words p hp page last f x s d
        settled = settling.settles M ok map outside words p hp page last f x (L - 1) (root_of M p) cr3 s trees (root_stands s trees)

        -- A FILL WITH TABLES ENOUGH
        pub filled : d.spot.missing ≤ free_count M p d.shadow.records
            → Built s (build M map words p page d.spot.missing d.spot.table d.spot.frame d.shadow)
        filled free =
            built_trans settled.stays (less_old trees settled.trees settled.less)
            (builds d.spot.missing d.spot.table d.spot.frame d.shadow settled.trees settled.stands free settled.absent)

        -- A FILL AFTER THE SHARE IS EMPTIED
        pub refilled : L - 1 ≤ free_count M p (empty_share M p d.shadow).records
            → Built s (build M map words p page (L - 1) (root_of M p) cr3 (empty_share M p d.shadow))
        refilled free =
            let empty = share_trees M ok map outside d.shadow settled.trees p hp in
            let own = share_own M ok map outside d.shadow settled.trees p hp (root_of M p) (root_table M ok p hp) (root_owner M ok d.shadow p) in
            built_trans settled.stays (less_old trees settled.trees settled.less)
            (built_trans
            (record {
              others = λ v hv o. share_others M ok map outside d.shadow settled.trees p hp v hv o.other;
              root = (share_root M ok map outside d.shadow settled.trees p hp).1;
            })
            (less_old settled.trees empty (share_less M ok map outside d.shadow settled.trees p hp))
            (builds (L - 1) (root_of M p) cr3 (empty_share M p d.shadow) empty (root_stands (empty_share M p d.shadow) empty) free
            (λ l. own (index Y page (suc (L - 1))) (index_small Y page (suc (L - 1))))))
