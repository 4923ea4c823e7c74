-- Access: a slot answers, or a shadow path, or the guest's tables are walked.
use Rattle.std.specs.Prelude.{cond, ◌&&◌, List, ℕ, ◌+◌, ltb, Ok, Err}
use Rattle.paging.specs.declared.Request.{Request}
use Rattle.paging.specs.Frame.{guest, host, host_of, host_address}
use Rattle.paging.specs.Layout.{page_of, frame_of, rights_of, is_present}
use Rattle.paging.specs.Walk.{base_of, meet}
use Rattle.paging.specs.Request.{request_of, enough}
use Rattle.tables.specs.State.{Machine, State, state_of, shadows, root_of, next_entry, path_to}
use Rattle.slots.specs.Slots.{slot_count, place_in, serving_slot}
use Rattle.guest.specs.GuestWalk.{Ended, walk_guest, dirtied}
use Rattle.shadow.specs.declared.Answer.TheVariants.{Address, Fault as Faulted, Again}
use Rattle.shadow.specs.Answer.{Reply, gives}
use Rattle.shadow.specs.Fill.{fill}

module _ (M : Machine) where
  -- "A fault … changes nothing more.": what a guest fault of p on a page leaves
  abbrev pub faulted : ℕ → ℕ → State → State
  faulted p page s = s

  -- "A fault answers kind 2 with the code"; "A completed walk that lacks a needed right gives base code 1."
  abbrev pub after_walk : List ℕ → ℕ → ℕ → Request → State → Ended → Reply
  after_walk map p page q s (Err stop) = gives (Faulted (base_of stop + q.adds)) (faulted p page s)
  after_walk map p page q s (Ok x) =
      cond (enough q x.walk.rights)
      (gives Again (fill M map p page (state_of (dirtied M.tables q page x.last s.words) s.shadow s.slots)))
      (gives (Faulted (1 + q.adds)) (faulted p page s))

  -- "Else the guest tables are walked."
  unfoldable pub after_miss : List ℕ → ℕ → ℕ → Request → State → Reply
  after_miss map p page q s =
      let cr3 = shadows s.shadow.records (root_of M p) in
      let d = walk_guest M.tables M.frames page s.words cr3 in
      after_walk map p page q (state_of d.words s.shadow s.slots) d.ended

  -- "Access: the lowest slot with a complete walk of the page and enough rights answers; else a present shadow path with
  -- enough rights answers. Neither changes anything."
  unfoldable pub after_access : List ℕ → ℕ → ℕ → ℕ → State → Reply
  after_access map p a r s =
      let page = page_of M.tables a in
      let q = request_of M.tables r in
      let k = serving_slot s.slots p page q in
      let w = path_to M s.shadow.pool p page 1 in
      let e = next_entry M s.shadow.pool page w in
      cond (ltb k slot_count)
      (gives (Address (host_address (host_of map (guest (place_in s.slots p k))) a)) s)
      (cond (is_present e && enough q (meet w.rights (rights_of M.tables e)))
      (gives (Address (host_address (host (frame_of M.tables e)) a)) s)
      (after_miss map p page q s))
