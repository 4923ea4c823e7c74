-- The ways out of an access, and that each keeps the state rules.
use Rattle.std.specs.Prelude.{Ok, Err}
use mathlib.Core.Path.{◌≡◌, refl}
use mathlib.Core.Bool.{Bool, true, false, cond, ◌&&◌}
use mathlib.Core.List.{List}
use mathlib.Core.Logic.{inr}
use Prim.Native.Nat.{ℕ, ◌+◌, ◌≤◌, ◌<◌}
use lib.Dec.{ltb}
use borrow.Author.Tests.{ltb-true}
use Rattle.std.specs.Prelude.{Ok}
use Rattle.paging.specs.declared.Guest.{Guest}
use Rattle.paging.specs.declared.Walk.{Walk}
use Rattle.paging.specs.declared.Request.{Request}
use Rattle.paging.specs.Frame.{guest, host, host_of, host_address}
use Rattle.paging.specs.Layout.{Layout, index, page_of, frame_of, rights_of, is_present, get, put, with_d}
use Rattle.paging.specs.Request.{request_of, enough, is_write}
use Rattle.paging.specs.Walk.{base_of, meet, start}
use Rattle.paging.specs.Sound.{Sound}
use Rattle.paging.proofs.Indices.{index_small}
use Rattle.paging.proofs.Numbers.{first_passes}
use Rattle.tables.specs.declared.Path.{Path}
use Rattle.tables.specs.State.{Machine, State, state_of, shadows, root_of, next_entry, path_to}
use Rattle.shadow.specs.declared.Answer.TheVariants.{Address, Fault as Faulted, Again}
use Rattle.shadow.specs.Access.{faulted}
use Rattle.trees.proofs.Trees.{Able}
use Rattle.trees.proofs.Settles.{Leads}
use Rattle.keeps.proofs.Alikes.{Same, same_refl, same_sym, same_trans, same_with_bit}
use Rattle.keeps.proofs.WalkReads.{walk_reads}
use Rattle.keeps.proofs.RightStates.{Mapped, RightState, Reshaped, words_right, reshaped_right}
use Rattle.keeps.proofs.Moves.{page_small}
use Rattle.keeps.proofs.Filled.{Fills, fills, fill_reshapes}
use Rattle.paging.specs.declared.Stop.{Stop}
use Rattle.slots.specs.Slots.{slot_count, place_in, slot_serves, serving_slot}
use Rattle.guest.specs.GuestWalk.{Ended, whole, GuestWalk, walk_guest, dirtied}
use Rattle.shadow.specs.Answer.{Reply, gives}
use Rattle.shadow.specs.Fill.{fill}
use Rattle.shadow.specs.Access.{after_access, after_miss, after_walk}

-- D changes nothing but D
pub dirtied-same : (Y : Layout) → Sound Y → (q : Request) (page : ℕ) (last : Guest) (words : List ℕ) → Same Y (dirtied Y q page last words) words
unfolding dirtied
dirtied-same Y ok q page last words = go (is_write q)
  where
    go : (b : Bool) → Same Y (cond b (put Y words last.0 (index Y page 1) (with_d (get Y words last.0 (index Y page 1)))) words) words
    go true = same_with_bit Y ok 6 (inr refl) words last.0 (index Y page 1) (index_small Y page 1)
    go false = same_refl Y words

-- the lowest slot that serves serves
serving : (slots : List ℕ) (p page : ℕ) (q : Request) → serving_slot slots p page q < slot_count → slot_serves slots p page q (serving_slot slots p page q) ≡ true
unfolding serving_slot
serving slots p page q h = first_passes (slot_serves slots p page q) slot_count 0 h

module _ (M : Machine) (map : List ℕ) (p a b : ℕ) (s : State) where
  abbrev page : ℕ
  page = page_of M.tables a

  abbrev q : Request
  q = request_of M.tables b

  abbrev pub path : Path
  path = path_to M s.shadow.pool p page 1

  abbrev pub end : ℕ
  end = next_entry M s.shadow.pool page path

  abbrev pub cr3 : Guest
  cr3 = shadows s.shadow.records (root_of M p)

  abbrev pub walked : GuestWalk
  walked = walk_guest M.tables M.frames page s.words cr3

  -- with the words that the walk left
  abbrev pub walked_over : State
  walked_over = state_of walked.words s.shadow s.slots

  -- with D, before the fill
  abbrev pub written : Guest → State
  written last = state_of (dirtied M.tables q page last walked.words) s.shadow s.slots

  -- THE WAYS OUT OF AN ACCESS
  pub data Way (out : Reply) : Type 0 where
    slot : (k : ℕ) → k < slot_count → slot_serves s.slots p page q k ≡ true
        → out ≡ gives (Address (host_address (host_of map (guest (place_in s.slots p k))) a)) s → Way out
    shadow : is_present end ≡ true → enough q (meet path.rights (rights_of M.tables end)) ≡ true
        → out ≡ gives (Address (host_address (host (frame_of M.tables end)) a)) s → Way out
    fault : (stop : Stop) → walked.ended ≡ Err stop → out ≡ gives (Faulted (base_of stop + q.adds)) (faulted M p page walked_over) → Way out
    lacks : (last : Guest) (w : Walk) → walked.ended ≡ whole last w → enough q w.rights ≡ false → out ≡ gives (Faulted (1 + q.adds)) (faulted M p page walked_over) → Way out
    again : (last : Guest) (w : Walk) → walked.ended ≡ whole last w → enough q w.rights ≡ true → out ≡ gives Again (fill M map p page (written last)) → Way out

  miss : Way (after_miss M map p page q s)
  unfolding after_miss
  miss = go walked.ended refl
    where
      by : (last : Guest) (w : Walk) → walked.ended ≡ whole last w → (c : Bool) → enough q w.rights ≡ c
          → Way (cond c (gives Again (fill M map p page (written last))) (gives (Faulted (1 + q.adds)) (faulted M p page walked_over)))
      by last w e true c = again last w e c refl
      by last w e false c = lacks last w e c refl

      go : (x : Ended) → walked.ended ≡ x → Way (after_walk M map p page q walked_over x)
      go (Err stop) e = fault stop e refl
      go (Ok x) e = by x.last x.walk e (enough q x.walk.rights) refl

  pub ways : Way (after_access M map p a b s)
  unfolding after_access
  ways = go (ltb k slot_count) refl (is_present end) refl (enough q (meet path.rights (rights_of M.tables end))) refl
    where
      k : ℕ
      k = serving_slot s.slots p page q

      go : (u : Bool) → ltb k slot_count ≡ u → (v : Bool) → is_present end ≡ v → (w : Bool) → enough q (meet path.rights (rights_of M.tables end)) ≡ w
          → Way (cond u (gives (Address (host_address (host_of map (guest (place_in s.slots p k))) a)) s)
          (cond (v && w) (gives (Address (host_address (host (frame_of M.tables end)) a)) s) (after_miss M map p page q s)))
      go true e v f w g = slot k (ltb-true k slot_count e) (serving s.slots p page q (ltb-true k slot_count e)) refl
      go false e true f true g = shadow f g refl
      go false e true f false g = miss
      go false e false f w g = miss

  -- where the page's path serves, an address is answered
  pub served : is_present end ≡ true → enough q (meet path.rights (rights_of M.tables end)) ≡ true → (v : ℕ) × ((after_access M map p a b s).answer ≡ Ok (Address v))
  unfolding after_access
  served here good = go (ltb (serving_slot s.slots p page q) slot_count) here good
    where
      go : (u : Bool) → is_present end ≡ true → enough q (meet path.rights (rights_of M.tables end)) ≡ true
          → (v : ℕ) × ((cond u (gives (Address (host_address (host_of map (guest (place_in s.slots p (serving_slot s.slots p page q)))) a)) s)
          (cond (is_present end && enough q (meet path.rights (rights_of M.tables end))) (gives (Address (host_address (host (frame_of M.tables end)) a)) s) (after_miss M map p page q s))).answer ≡ Ok (Address v))
      go true here good = (_, refl)
      go false here good = (host_address (host (frame_of M.tables end)) a, simp (here, good))

  -- ---- the walk of the guest's tables

  module _ (sound : Sound M.tables) where
    pub walk_same : Same M.tables walked.words s.words
    walk_same = (walk_reads M sound page s.words M.tables.levels s.words cr3 (start M.tables cr3) (same_refl M.tables s.words) refl).same

    pub written_same : (last : Guest) → Same M.tables (written last).words s.words
    written_same last = same_trans M.tables (dirtied-same M.tables sound q page last walked.words) walk_same

    pub written_leads : (last : Guest) (w : Walk) → walked.ended ≡ whole last w → Leads M (written last).words page last w.frame w.rights M.tables.levels cr3 7
    written_leads last w e = ((walk_reads M sound page (written last).words M.tables.levels s.words cr3 (start M.tables cr3) (same_sym M.tables (written_same last)) refl).leads last w e).0

  -- ---- EVERY WAY KEEPS THE STATE RULES

  module _ (ok : Able M) (spare : M.tables.levels ≤ M.share) (fits : Mapped M map) (hp : p < M.processors) (r : RightState M map s) where
    module _ (last : Guest) (w : Walk) (e : walked.ended ≡ whole last w) where
      pub written-right : RightState M map (written last)
      written-right = words_right M ok map fits (written last).words r

      pub filling : Fills M ok spare map fits p hp (written last) written-right page (page_small M.tables a) last w.frame w.rights (written_leads ok.sound last w e) (fill M map p page (written last))
      filling = fills M ok spare map fits p hp (written last) written-right page (page_small M.tables a) last w.frame w.rights (written_leads ok.sound last w e)

      pub filling_reshapes : Reshaped M ok map fits p (written last) (fill M map p page (written last))
      filling_reshapes = fill_reshapes M ok spare map fits p hp (written last) written-right page (page_small M.tables a) last w.frame w.rights (written_leads ok.sound last w e)

    -- a fault
    fault_right : RightState M map (faulted M p page walked_over)
    fault_right = words_right M ok map fits walked.words r

    way_right : {out : Reply} → Way out → RightState M map out.state
    way_right (slot k h v q) = rw q r
    way_right (shadow h v q) = rw q r
    way_right (fault base e q) = rw q fault_right
    way_right (lacks last w e v q) = rw q fault_right
    way_right (again last w e v q) = rw q (reshaped_right M ok map fits (written-right last w e) (filling_reshapes last w e))

    pub access_right : RightState M map (after_access M map p a b s).state
    access_right = way_right ways

    -- the words keep their number
    way_words : {out : Reply} → Way out → Same M.tables out.state.words s.words
    way_words (slot k h v q) = rw q (same_refl M.tables s.words)
    way_words (shadow h v q) = rw q (same_refl M.tables s.words)
    way_words (fault base e q) = rw q (walk_same ok.sound)
    way_words (lacks last w e v q) = rw q (walk_same ok.sound)
    way_words (again last w e v q) = rw q (rw (filling last w e).words (written_same ok.sound last))

    pub access_words : Same M.tables (after_access M map p a b s).state.words s.words
    access_words = way_words ways
