-- "State rules", as tests. `lawful` is all of them: first what is asked of each table, then the roots, then each slot.
use Rattle.std.specs.Prelude.{Bool, true, false, cond, not, ◌&&◌, ◌||◌, List, ℕ, zero, suc, ◌+◌, ◌-◌, ◌*◌, ◌^◌, eqb, ltb, leb, Option, Some, None}
use Rattle.std.specs.Bool.{beq}
use Rattle.paging.specs.declared.Guest.{Guest}
use Rattle.paging.specs.Frame.{host, origin_of}
use Rattle.paging.specs.Layout.{Layout, bit, frame_of, rights_of, compose}
use Rattle.paging.specs.Numbers.{all, sum, count}
use Rattle.tables.specs.State.{Machine, Shadow, State, level_of, shadows, is_free, table_count, home_of, owner_of, root_of, entry_count, entry_of, named, path_to}
use Rattle.slots.specs.Slots.{slot_count, mark_of, page_in, place_in, rights_in}

abbrev pub is_of : Option Guest → Bool
is_of (Some g) = true
is_of None = false

-- some guest frame is mapped to host frame f
abbrev pub is_mapped : List ℕ → ℕ → Bool
is_mapped map f = is_of (origin_of map (host f))

-- "Shadow entries use the layout above, A always 1 in a present one; … unnamed bits are 0": an entry that is made of its
-- own rights and frame, of the D given, and of nothing else
unfoldable pub is_made_with : Layout → ℕ → ℕ → Bool
is_made_with Y d e = eqb e (compose Y (rights_of Y e) d (frame_of Y e))

-- "at level 1 it is a mapped host frame and D equals RW"
unfoldable pub is_leaf : Layout → List ℕ → ℕ → Bool
is_leaf Y map e = is_made_with Y (bit e 1) e && is_mapped map (frame_of Y e)

module _ (M : Machine) where
  -- "Above level 1 the frame is pool base + table number and D is 0"
  unfoldable pub is_branch : ℕ → Bool
  is_branch e = is_made_with M.tables 0 e && ltb (named M e) (table_count M)

  -- "absent is 0"; "a free table is all zeros"; here for an entry of a table of level l
  unfoldable pub is_laid_out : List ℕ → ℕ → ℕ → Bool
  is_laid_out map l e = eqb e 0 || cond (eqb l 0) false (cond (eqb l 1) (is_leaf M.tables map e) (is_branch e))

  -- "a present entry above level 1 names a table of the same share, one level lower"; here entry e of t
  unfoldable pub names_lower : List ℕ → ℕ → ℕ → Bool
  names_lower records t e =
      leb (level_of records t) 1
      || eqb e 0
      || eqb (owner_of M records (named M e)) (owner_of M records t) && eqb (level_of records (named M e) + 1) (level_of records t)

  -- "The first is its root."
  unfoldable pub is_root : ℕ → Bool
  is_root t = eqb t (root_of M (home_of M t))

  -- how many entries name u
  unfoldable pub names_of : List ℕ → ℕ → ℕ
  names_of pool u = sum (table_count M) (λ t. count (entry_count M) (λ i. eqb (named M (entry_of M pool t i)) u))

  -- ---- what is asked of a table

  -- "A record is level (0 free) and guest frame shadowed; a free table is all zeros, record too."
  -- "roots and only roots have level 4"
  -- "each other live table is named by exactly one entry"
  -- "shadowed frames are below G"
  -- here with the number of entries that name the table
  unfoldable pub record_right : List ℕ → ℕ → ℕ → Bool
  record_right records names t =
      leb (level_of records t) M.tables.levels
      && (not (is_free records t) || eqb (shadows records t).0 0)
      && beq (is_root t) (eqb (level_of records t) M.tables.levels)
      && (is_root t || is_free records t || eqb names 1)
      && ltb (shadows records t).0 M.frames

  unfoldable pub entry_right : List ℕ → List ℕ → ℕ → ℕ → Bool
  entry_right map records t e = is_laid_out map (level_of records t) e && names_lower records t e

  unfoldable pub table_right : List ℕ → Shadow → ℕ → Bool
  table_right map s t =
      record_right s.records (names_of s.pool t) t
      && all (entry_count M) (λ i. entry_right map s.records t (entry_of M s.pool t i))

  -- ---- whole tables

  -- "an entry is whole when it is absent, is a rightly laid out entry of level 1, or names a whole table"
  abbrev pub entry_by : List ℕ → (ℕ → Bool) → ℕ → ℕ → Bool
  entry_by map whole l e = eqb e 0 || cond (eqb l 1) (is_leaf M.tables map e) (ltb (named M e) (table_count M) && whole (named M e))

  -- "A table is whole when all its entries are": a table of level l
  unfoldable pub table_whole : List ℕ → List ℕ → ℕ → ℕ → Bool
  table_whole map pool zero t = true
  table_whole map pool (suc l) t =
      all (entry_count M) (λ i. entry_by map (table_whole map pool l) (suc l) (entry_of M pool t i))

  -- an entry of a table of level l
  unfoldable pub entry_whole : List ℕ → List ℕ → ℕ → ℕ → Bool
  entry_whole map pool l e = entry_by map (table_whole map pool (l - 1)) l e

  -- ---- what is asked of a slot

  -- "A partial slot stands on the table that its page reaches from the root, with that path's rights"
  unfoldable pub is_on_path : List ℕ → ℕ → ℕ → ℕ → ℕ → ℕ → Bool
  is_on_path pool p page level place rights =
      let w = path_to M pool p page level in
      ltb w.table (table_count M) && eqb place w.table && eqb rights w.rights

  -- "mark (0 empty, 1 complete, level+1 partial)"; "empty is 0, 0, 0"; "a slot's page is below 2^36"
  -- "a complete one names a frame below G"
  unfoldable pub slot_right : List ℕ → List ℕ → ℕ → ℕ → Bool
  slot_right pool slots p k =
      ltb (page_in slots p k) (2 ^ (M.tables.index_bits * M.tables.levels))
      && cond (eqb (mark_of slots p k) 0) (eqb (page_in slots p k) 0 && eqb (place_in slots p k) 0 && eqb (rights_in slots p k) 0)
      (cond (eqb (mark_of slots p k) 1) (ltb (place_in slots p k) M.frames)
      (leb (mark_of slots p k) (M.tables.levels + 1)
      && is_on_path pool p (page_in slots p k) (mark_of slots p k - 1) (place_in slots p k) (rights_in slots p k)))

  -- ---- all of them; "every root is whole"
  unfoldable pub lawful : List ℕ → State → Bool
  lawful map s =
      all (table_count M) (table_right map s.shadow)
      && all M.processors (λ p. table_whole map s.shadow.pool M.tables.levels (root_of M p))
      && all M.processors (λ p. all slot_count (slot_right s.shadow.pool s.slots p))
