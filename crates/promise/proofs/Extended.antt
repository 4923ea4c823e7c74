-- Extend carries the invariant: a slot that is extended from level 1 holds what its page's path holds.
use Rattle.std.specs.Prelude.{Some}
use mathlib.Core.Path.{◌≡◌, refl, sym, ap, subst, ◌∙◌}
use mathlib.Core.List.{List}
use mathlib.Core.Bool.{true, false}
use Prim.Native.Nat.{ℕ, suc, ◌-◌, ◌^◌, ◌<◌}
use native.Mathlib.Omega.{arith}
use Rattle.paging.specs.declared.Guest.{Guest}
use Rattle.paging.specs.Frame.{guest, host, host_of, origin_of}
use Rattle.paging.specs.Layout.{frame_of, rights_of, is_present}
use Rattle.paging.specs.Walk.{meet}
use Rattle.paging.proofs.Frames.{fits_distinct, origin_host}
use Rattle.paging.proofs.Meets.{meet_small}
use Rattle.rules.specs.declared.Event.{Event}
use Rattle.rules.specs.History.{event_at}
use Rattle.rules.specs.View.{View}
use Rattle.tables.specs.State.{Machine, State, state_of, next_entry, path_to}
use Rattle.shadow.proofs.Accepted.{accepted_map}
use Rattle.trees.proofs.Trees.{Able}
use Rattle.trees.proofs.Slots.{Room, with_other, with_mark, with_page, with_place, with_rights_lem}
use Rattle.keeps.proofs.Alikes.{same_refl}
use Rattle.keeps.proofs.RightStates.{Mapped}
use Rattle.keeps.proofs.Moves.{paged, Moves, extends, place_complete}
use Rattle.promise.specs.Demand.{Fresh}
use Rattle.promise.proofs.Settles.{Backed}
use Rattle.promise.proofs.Holds.{seen, ends, Holds, Behind, stay_backed, quiet_unended}
use Rattle.promise.proofs.Carries.{After, sized, fits, hp, here, one_slot, still}
use Rattle.slots.specs.Slots.{mark_of, page_in, place_in, rights_in, with_slot}
use Rattle.paging.proofs.Counts.{by_cases}
use Rattle.shadow.specs.Moves.{after_extend}
use Rattle.shadow.specs.Refusals.{call_refusal}

module _ (F : Fresh) (es : List Event) (k : ℕ) (s : State) (h : Holds F es k s)
    (ok : call_refusal F.machine F.map s (event_at es k) ≡ 0) (six : (event_at es k).kind ≡ 6) (low : (event_at es k).a < 8) where
  abbrev M : Machine
  M = F.machine

  abbrev map : List ℕ
  map = F.map

  abbrev e : Event
  e = event_at es k

  abbrev p : ℕ
  p = e.proc

  abbrev i : ℕ
  i = e.a

  abbrev s' : State
  s' = (after_extend M map p i s).state

  abbrev v : ℕ
  v = page_in s.slots p i

  abbrev view : View
  view = seen F es p v

  -- the level that it comes to
  abbrev level : ℕ
  level = mark_of s.slots p i - 1

  -- the entry that its page's path reads at level l, and the rights with it
  abbrev entry_at : ℕ → ℕ
  entry_at l = next_entry M s.shadow.pool v (path_to M s.shadow.pool p v l)

  abbrev rights_at : ℕ → ℕ
  rights_at l = meet (path_to M s.shadow.pool p v l).rights (rights_of M.tables (entry_at l))

  room : Able M
  room = sized F es k s h ok

  maps : Mapped M map
  maps = fits F es k s h ok

  own : p < M.processors
  own = hp F es k s h ok

  space : Room s.slots p
  space = here F es k s h ok

  one : e.kind ≡ 1 → ⊥
  one x = omega arith

  three : e.kind ≡ 3 → ⊥
  three x = omega arith

  unended : (q u : ℕ) → ends F es q u k ≡ false
  unended q u = quiet_unended F es q u k (λ x. omega arith) three

  module _ (m : Moves M room map maps p own s h.right i low s') where
    -- the guest frame that the slot comes to stand on is the one behind the path
    frame_is : level ≡ 1 → (b : Behind F es p v k (frame_of M.tables (entry_at 1)) (rights_at 1)) → guest m.place ≡ b.frame
    frame_is last b =
        let o = place_complete M room map maps p own s h.right i low level m.place last m.at in
        let q : origin_of map (host (frame_of M.tables (entry_at 1))) ≡ Some (guest m.place) =
        subst (λ (l : ℕ). origin_of map (host (frame_of M.tables (entry_at l))) ≡ Some (guest m.place)) last o in
        let d : origin_of map (host_of map b.frame) ≡ Some b.frame =
        origin_host map (fits_distinct (2 ^ M.tables.frame_bits) map (accepted_map M map s e ok)) b.frame (rw maps.guests b.inside) in
        let x : Some (guest m.place) ≡ Some b.frame = sym q ∙ ap (λ (f : ℕ). origin_of map (host f)) b.mapped ∙ d in
        cc

    abbrev rights : ℕ
    rights = rights_at level

    abbrev slots' : List ℕ
    slots' = with_slot p i level v m.place rights s.slots

    -- what the slot holds now
    holds : mark_of slots' p i ≡ 1 → Backed (seen F es p (page_in slots' p i)) (suc k) (guest (place_in slots' p i)) (rights_in slots' p i)
    holds complete =
        let last : level ≡ 1 = sym (with_mark p i level v m.place rights s.slots low space) ∙ complete in
        let there : is_present (entry_at 1) ≡ true = subst (λ (l : ℕ). is_present (entry_at l) ≡ true) last m.present in
        let b = (h.paths p own v (paged M room map maps p own s h.right i low)).full there in
        let now : Backed view (suc k) b.frame (rights_at 1) = stay_backed F es p v k (unended p v) b.backed in
        let at-l : Backed view (suc k) b.frame rights = subst (λ (l : ℕ). Backed view (suc k) b.frame (rights_at l)) (sym last) now in
        subst (λ (u : ℕ). Backed (seen F es p u) (suc k) (guest (place_in slots' p i)) (rights_in slots' p i))
        (sym (with_page p i level v m.place rights s.slots low space))
        (subst (λ (x : ℕ). Backed view (suc k) (guest x) (rights_in slots' p i))
        (sym (with_place p i level v m.place rights s.slots low space (meet_small _ _)))
        (subst (λ (x : ℕ). Backed view (suc k) (guest m.place) x)
        (sym (with_rights_lem p i level v m.place rights s.slots low space (meet_small _ _)))
        (subst (λ (g : Guest). Backed view (suc k) g rights) (sym (frame_is last b)) at-l)))

    moved : After F es k s h ok (state_of s.words s.shadow slots')
    moved =
        one_slot F es k s h ok one unended three (state_of s.words s.shadow slots') refl refl i
        (λ q j hj ne. with_other p i level v m.place rights s.slots q j low hj ne)
        (record { complete = holds })

  pub extended : After F es k s h ok s'
  extended =
      by_cases (extends M room map maps p own s h.right i low)
      (λ q. rw q (still F es k s h ok one unended three s.words (same_refl M.tables s.words)))
      (λ m. rw m.is (moved m))
