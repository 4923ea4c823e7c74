-- The few steps that all events are made of. Each is total: where an index or a table is none, it changes nothing.
use Rattle.std.specs.Prelude.{Bool, cond, ◌&&◌, Option, Some, None, List, ℕ, zero, suc, ◌+◌, ◌^◌, eqb, ltb}
use Rattle.paging.specs.declared.Guest.{Guest}
use Rattle.paging.specs.Frame.{guest, host_of}
use Rattle.paging.specs.Layout.{Layout, bit, put, index, frame_of, rights_of, compose}
use Rattle.paging.specs.Walk.{meet}
use Rattle.tables.specs.declared.Spot.{Spot}
use Rattle.paging.specs.Numbers.{each, count}
use Rattle.tables.specs.State.{Machine, Shadow, shadow_of, on_pool, on_records, shadows, with_record, is_free, table_count, home_of, root_of, owns, entry_count, entry_of, with_entry, named}
use Rattle.guest.specs.GuestWalk.{guest_entry}

-- what settling leaves: where it stands, and the tables
pub record Settled : Type 0 where
  pub spot : Spot
  pub shadow : Shadow

abbrev pub spot : ℕ → ℕ → Guest → Spot
spot m t g = record { missing = m; table = t; frame = g }

abbrev pub settled_at : Spot → Shadow → Settled
settled_at w s = record { spot = w; shadow = s }

-- "The level 1 entry is written with the guest's rights, W only if D is now set." "D equals RW"
unfoldable pub leaf_of : Layout → List ℕ → ℕ → ℕ
leaf_of Y map e =
    let r = meet (rights_of Y e) (6 + bit e 6) in
    compose Y r (bit r 0) (host_of map (guest (frame_of Y e))).0

-- all entries of a table become 0
unfoldable pub zeroed : Layout → ℕ → List ℕ → List ℕ
zeroed Y t pool = each (2 ^ Y.index_bits) (λ i l. put Y l t i 0) pool

module _ (M : Machine) where
  -- ---- freeing

  -- an entry is cut: the table that it names is freed, and it becomes 0
  abbrev pub cut_by : (ℕ → Shadow → Shadow) → ℕ → ℕ → Shadow → Shadow
  cut_by free t i s =
      let u = named M (entry_of M s.pool t i) in
      on_pool (with_entry M t i 0) (cond (ltb u (table_count M)) (free u s) s)

  -- "freed and zeroed, level by level": a table with l levels from it down; "a free table is all zeros, record too"
  unfoldable pub free_table : ℕ → ℕ → Shadow → Shadow
  free_table zero t s = s
  free_table (suc l) t s = on_records (with_record t 0 (guest 0)) (each (entry_count M) (cut_by (free_table l) t) s)

  -- entry i of t, which names a table of level l
  abbrev pub cut : ℕ → ℕ → ℕ → Shadow → Shadow
  cut l t i s = cut_by (free_table l) t i s

  -- "all but the root are freed, the root is zeroed": the root keeps its record
  abbrev pub empty_table : ℕ → ℕ → Shadow → Shadow
  empty_table p t s =
      let x = on_pool (zeroed M.tables t) s in
      cond (eqb t (root_of M p)) x (on_records (with_record t 0 (guest 0)) x)

  abbrev pub empty_own : ℕ → ℕ → Shadow → Shadow
  empty_own p t s = cond (owns M p s.records t) (empty_table p t s) s

  unfoldable pub empty_share : ℕ → Shadow → Shadow
  empty_share p s = each (table_count M) (empty_own p) s

  -- ---- taking

  -- the free tables of p's share
  abbrev pub may_take : ℕ → List ℕ → ℕ → Bool
  may_take p records t = eqb (home_of M t) p && is_free records t

  unfoldable pub free_count : ℕ → List ℕ → ℕ
  free_count p records = count (table_count M) (may_take p records)

  -- the one that is taken next, by the machine's choice
  unfoldable pub taken : ℕ → List ℕ → ℕ
  taken p records = M.choose.pick (table_count M) (may_take p records)

  -- the same, as an option
  abbrev pub taken_some : ℕ → List ℕ → Option ℕ
  taken_some p records = cond (ltb (taken p records) (table_count M)) (Some (taken p records)) None

  -- entry i of t names u, with the guest entry's own rights r; u has a level and shadows a frame
  abbrev pub hang : ℕ → ℕ → ℕ → ℕ → Guest → ℕ → Shadow → Shadow
  hang t i u level g r s =
      shadow_of (with_entry M t i (compose M.tables r 0 (M.base + u)) s.pool) (with_record u level g s.records)

  -- ---- filling

  -- "differs from the guest's in rights or in the frame its table shadows"
  abbrev pub agrees : List ℕ → ℕ → ℕ → Bool
  agrees records h e =
      ltb (named M h) (table_count M)
      && eqb (rights_of M.tables h) (rights_of M.tables e)
      && eqb (shadows records (named M h)).0 (frame_of M.tables e)

  -- the table that an entry names, if it agrees
  abbrev pub agreeing : List ℕ → ℕ → ℕ → Option ℕ
  agreeing records h e = cond (agrees records h e) (Some (named M h)) None

  -- "the shadow is filled from the root": down from table t, which has n tables below it and so the level n + 1, as long
  -- as the entries agree with the guest's; "the subtree below" the first that does not "is freed and zeroed"
  unfoldable pub settle : List ℕ → ℕ → ℕ → ℕ → Guest → Shadow → Settled
  settle words page zero t g s = settled_at (spot 0 t g) s
  settle words page (suc n) t g s =
      let i = index M.tables page (n + 2) in
      let h = entry_of M s.pool t i in
      let e = guest_entry M.tables words page (n + 2) g in
      cond (agrees s.records h e)
      (settle words page n (named M h) (guest (frame_of M.tables e)) s)
      (settled_at (spot (suc n) t g) (cut (suc n) t i s))

  -- "missing tables are then taken, …, from the upper level down, each named with its guest entry's own rights": the
  -- next one, below table t with n + 1 missing
  abbrev pub hang_next : List ℕ → ℕ → ℕ → ℕ → ℕ → Guest → Shadow → Settled
  hang_next words p page n t g s =
      let e = guest_entry M.tables words page (n + 2) g in
      let u = taken p s.records in
      let f = guest (frame_of M.tables e) in
      settled_at (spot n u f) (hang t (index M.tables page (n + 2)) u (n + 1) f (rights_of M.tables e) s)

  -- all of them, then the level 1 entry
  unfoldable pub build : List ℕ → List ℕ → ℕ → ℕ → ℕ → ℕ → Guest → Shadow → Shadow
  build map words p page zero t g s =
      on_pool (with_entry M t (index M.tables page 1) (leaf_of M.tables map (guest_entry M.tables words page 1 g))) s
  build map words p page (suc n) t g s =
      let d = hang_next words p page n t g s in
      build map words p page n d.spot.table d.spot.frame d.shadow
