-- "What each event does", but for access: store, INVLPG, CR3 write, begin, extend, drop.
use Rattle.std.specs.Prelude.{cond, ◌&&◌, List, Option, Some, None, ℕ, ◌+◌, ◌-◌, eqb, ltb, set}
use Rattle.paging.specs.declared.Guest.{Guest}
use Rattle.paging.specs.Frame.{guest, host, origin_of}
use Rattle.paging.specs.Layout.{index, page_of, frame_of, rights_of, is_present}
use Rattle.paging.specs.Walk.{meet}
use Rattle.rules.specs.declared.Event.{Event}
use Rattle.rules.specs.History.{is_store, is_invlpg, is_cr3_write, is_access, is_begin, is_extend}
use Rattle.tables.specs.State.{Machine, on_pool, on_records, State, state_of, with_record, table_count, root_of, entry_of, with_entry, named_some, path_to}
use Rattle.slots.specs.Slots.{mark_of, page_in, place_in, rights_in, with_slot, emptied, flush, empty_slots}
use Rattle.tables.specs.Steps.{empty_share}
use Rattle.shadow.specs.declared.Answer.TheVariants.{Done, NoStep}
use Rattle.shadow.specs.Answer.{Reply, gives}

-- what an event asks of the machine
pub data Move : Type 0 where
  store : ℕ → ℕ → Move
  invlpg : ℕ → Move
  write_cr3 : ℕ → Move
  access : ℕ → ℕ → Move
  begin : ℕ → ℕ → Move
  extend : ℕ → Move
  drop : ℕ → Move

-- "1 store: word a becomes b. 2 INVLPG of address a. 3 CR3 write of frame a. 4 access to a with request b. 5 begin a
-- walk of a in slot b. 6 extend slot a. 7 drop slot a."
abbrev pub decode : Event → Move
decode e =
    cond (is_store e) (store e.a e.b)
    (cond (is_invlpg e) (invlpg e.a)
    (cond (is_cr3_write e) (write_cr3 e.a)
    (cond (is_access e) (access e.a e.b)
    (cond (is_begin e) (begin e.a e.b)
    (cond (is_extend e) (extend e.a) (drop e.a))))))

-- by whether a walk has a place to move to
abbrev pub by_place : Option ℕ → (ℕ → Reply) → Reply → Reply
by_place (Some x) on off = on x
by_place None on off = off

abbrev pub place_of : Option Guest → Option ℕ
place_of (Some g) = Some g.0
place_of None = None

-- "Store: the word only. Tables are not guarded."
abbrev pub after_store : ℕ → ℕ → State → Reply
after_store a b s = gives Done (state_of (set s.words a b) s.shadow s.slots)

-- "Drop: emptied, kind 0."
unfoldable pub after_drop : ℕ → ℕ → State → Reply
after_drop p k s = gives Done (state_of s.words s.shadow (emptied p k s.slots))

module _ (M : Machine) where
  -- "if present entries lead to a level 1 table, its entry becomes 0"
  unfoldable pub leaf_cleared : ℕ → ℕ → List ℕ → List ℕ
  leaf_cleared p page pool =
      let t = (path_to M pool p page 1).table in
      cond (ltb t (table_count M)) (with_entry M t (index M.tables page 1) 0 pool) pool

  -- "INVLPG: … Then the flush of v"
  unfoldable pub after_invlpg : ℕ → ℕ → State → Reply
  after_invlpg p a s =
      let page = page_of M.tables a in
      gives Done (state_of s.words (on_pool (leaf_cleared p page) s.shadow) (flush p page s.slots))

  -- "CR3 write: all tables of p freed, root set up anew, all slots of p emptied."
  unfoldable pub after_cr3 : ℕ → ℕ → State → Reply
  after_cr3 p f s =
      gives Done
      (state_of s.words
      (on_records (with_record (root_of M p) M.tables.levels (guest f)) (empty_share M p s.shadow))
      (empty_slots p s.slots))

  -- "Begin: the slot holds a partial walk on the root, rights 7."
  unfoldable pub after_begin : ℕ → ℕ → ℕ → State → Reply
  after_begin p a k s =
      gives Done
      (state_of s.words s.shadow
      (with_slot p k (M.tables.levels + 1) (page_of M.tables a) (root_of M p) 7 s.slots))

  -- "place being the guest frame or the table": from level 1 a walk moves to the guest frame behind the entry's host frame
  unfoldable pub place_below : List ℕ → ℕ → ℕ → Option ℕ
  place_below map l e =
      cond (eqb l 1) (place_of (origin_of map (host (frame_of M.tables e))))
      (named_some M e)

  -- "Extend: a partial slot whose shadow entry is present moves one level; else kind 4."
  unfoldable pub after_extend : List ℕ → ℕ → ℕ → State → Reply
  after_extend map p k s =
      let mark = mark_of s.slots p k in
      let page = page_in s.slots p k in
      let e = entry_of M s.shadow.pool (place_in s.slots p k) (index M.tables page (mark - 1)) in
      let rights = meet (rights_in s.slots p k) (rights_of M.tables e) in
      cond (ltb 1 mark && is_present e)
      (by_place (place_below map (mark - 1) e)
      (λ place. gives Done (state_of s.words s.shadow (with_slot p k (mark - 1) page place rights s.slots)))
      (gives NoStep s))
      (gives NoStep s)
