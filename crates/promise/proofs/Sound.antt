-- An access that is not to be put again answers what stands in the list.
use Rattle.std.specs.Prelude.{Err}
use mathlib.Core.Path.{◌≡◌, sym, ap, subst, ◌∙◌}
use mathlib.Core.Bool.{true, ◌&&◌}
use mathlib.Core.Logic.{◌⊎◌, inl, inr}
use Prim.Native.Nat.{ℕ, ◌+◌, ◌<◌}
use native.Mathlib.Omega.{arith}
use lib.Dec.{eqb}
use lib.ListN.{length}
use borrow.Author.Tests.{eqb-true}
use Rattle.std.specs.Prelude.{Ok}
use Rattle.paging.specs.declared.Guest.{Guest}
use Rattle.paging.specs.declared.Request.{Request}
use Rattle.paging.specs.Frame.{guest, host, host_of, host_address}
use Rattle.paging.specs.Layout.{page_of}
use Rattle.paging.specs.Request.{request_of, enough}
use Rattle.paging.proofs.Meets.{needs_small}
use Rattle.rules.specs.declared.Event.{Event}
use Rattle.rules.specs.declared.Outcome.{Outcome}
use Rattle.rules.specs.History.{Fit, event_at}
use Rattle.rules.specs.View.{View}
use Rattle.rules.specs.Outcome.{Permitted}
use Rattle.rules.specs.Coherent.{Coherent}
use Rattle.rules.proofs.Theorems.{a_list, list_before}
use Rattle.tables.specs.State.{Machine, State}
use Rattle.shadow.specs.declared.Answer.TheVariants.{Again, Address, Fault as Faulted}
use Rattle.shadow.specs.After.{after}
use Rattle.paging.proofs.Tests.{both}
use Rattle.shadow.proofs.Accepted.{accepted_own}
use Rattle.trees.proofs.SlotRules.{right_complete}
use Rattle.keeps.proofs.Moves.{page_small}
use Rattle.keeps.proofs.Accesses.{Way, slot, shadow, fault as faulted, lacks, again, ways}
use Rattle.keeps.proofs.Events.{Kind, store, invlpg, cr3, access, begin, extend, drop, kinds}
use Rattle.promise.specs.Demand.{Fresh, Run, guest_of, does, before, answer_at, question_at, Says, place, code, Settles}
use Rattle.promise.proofs.Settles.{Backed, address_permitted, absent_permitted, beyond_permitted, lacking_permitted}
use Rattle.promise.proofs.GuestWalks.{Ends, whole, absent, beyond}
use Rattle.promise.proofs.Holds.{seen, Holds}
use Rattle.promise.proofs.Accessed.{law, reads, rules, walk_ends, walk_held}
use Rattle.promise.proofs.Started.{holds_before, accepted}
use Rattle.paging.specs.Sound.{Laid}
use Rattle.paging.specs.declared.Stop.{Stop}
use Rattle.paging.specs.declared.Stop.TheVariants.{Absent, Beyond}
use Rattle.paging.specs.Walk.{base_of}
use Rattle.guest.specs.GuestWalk.{Ended}
use Rattle.slots.specs.Slots.{slot_count, mark_of, page_in, place_in, rights_in, slot_serves}
use Rattle.shadow.specs.Answer.{Reply}
use Rattle.promise.specs.Demand as D

module _ (F : Fresh) (laid : Laid F.machine.tables) (fresh : D.SetupFits F) (r : Run) (fit : Fit (guest_of F) r.events) (k : ℕ) (hk : k < length r.events) where
  abbrev M : Machine
  M = F.machine

  abbrev e : Event
  e = event_at r.events k

  abbrev p : ℕ
  p = e.proc

  abbrev q : Request
  q = request_of M.tables e.b

  abbrev v : ℕ
  v = page_of M.tables e.a

  abbrev s : State
  s = before F r k

  h : Holds F r.events k s
  h = holds_before F laid fresh r fit k (omega arith)

  hp : p < M.processors
  hp = accepted_own M F.map s e (accepted F laid fresh r fit k hk)

  -- what p sees of this page
  abbrev view : View
  view = seen F r.events p v

  abbrev lawful : Coherent view M.tables.levels M.frames
  lawful = law F r.events k s h p hp e.a e.b

  answer_of_lem : {out : Reply} → does F r k s ≡ out → answer_at F r k ≡ out.answer
  answer_of_lem o = ap (λ (y : Reply). y.answer) o

  -- what is permitted stands in the list
  stands : {o : Outcome} → Says F r e.a (answer_at F r k) o → Permitted view q k o → Settles F r k
  stands {o} says permitted =
      let l = a_list (guest_of F) r.events (question_at F r k) laid.sound k in
      record {
        outcome = o;
        says = says;
        list = l.0;
        right = (list_before (guest_of F) r.events (question_at F r k) laid.sound k l.0).0 l.1;
        stands = (l.1.exact o).1 permitted;
      }

  -- an address, from a held walk behind it
  answered : (g : Guest) (rights : ℕ) → g.0 < M.frames → Backed view k g rights → q.needs < 8 → enough q rights ≡ true
      → answer_at F r k ≡ Ok (Address (host_address (host_of F.map g) e.a)) → Settles F r k
  answered g rights inside b small good o =
      stands (rw o (place inside))
      (address_permitted view lawful q k g rights small b good)

  -- a slot's three tests
  slot_tests : (j : ℕ) → slot_serves s.slots p v q j ≡ true → (mark_of s.slots p j ≡ 1) × (page_in s.slots p j ≡ v) × (enough q (rights_in s.slots p j) ≡ true)
  slot_tests j t =
      let (two, good) = both (eqb (mark_of s.slots p j) 1 && eqb (page_in s.slots p j) v) (enough q (rights_in s.slots p j)) t in
      let (mark, page) = both (eqb (mark_of s.slots p j) 1) (eqb (page_in s.slots p j) v) two in
      (eqb-true (mark_of s.slots p j) 1 mark, eqb-true (page_in s.slots p j) v page, good)

  by_slot : q.needs < 8 → (j : ℕ) → j < slot_count → slot_serves s.slots p v q j ≡ true
      → answer_at F r k ≡ Ok (Address (host_address (host_of F.map (guest (place_in s.slots p j))) e.a)) → Settles F r k
  by_slot small j hj t o =
      let (mark, page, good) = slot_tests j t in
      answered (guest (place_in s.slots p j)) (rights_in s.slots p j)
      (right_complete M s.shadow.pool s.slots p j (h.right.law.slots p hp j hj) mark)
      (subst (λ (u : ℕ). Backed (seen F r.events p u) k (guest (place_in s.slots p j)) (rights_in s.slots p j)) page ((h.slots p hp j hj).complete mark))
      small good o

  -- a fault of the guest's walk
  by_fault : {x : Ended} → Ends M.tables h.laid.sound view M.frames v k (rules F r.events k s h p hp e.a e.b) lawful (reads F r.events k s h p hp e.a e.b) x
      → (stop : Stop) → x ≡ Err stop → answer_at F r k ≡ Ok (Faulted (base_of stop + q.adds)) → Settles F r k
  by_fault (whole held done) stop x o = let n : ◌≡◌ {A = ℕ} 0 1 = cc in absurd (omega arith)
  by_fault (absent {w = w} held gone) stop x o =
      let y : stop ≡ Absent = cc in
      stands (rw o (rw y code)) (absent_permitted view lawful q k w held gone)
  by_fault (beyond {w = w} held gone) stop x o =
      let y : stop ≡ Beyond = cc in
      stands (rw o (rw y code)) (beyond_permitted view lawful q k w held gone)

  way : q.needs < 8 → Way M F.map p e.a e.b s (after M F.map s e) → (answer_at F r k ≡ Ok Again) ⊎ Settles F r k
  way small (again last w x good o) = inl (answer_of_lem o)
  way small (slot j hj t o) = inr (by_slot small j hj t (answer_of_lem o))
  way small (shadow here good o) =
      let b = (h.paths p hp v (page_small M.tables e.a)).full here in
      inr (answered b.frame _ b.inside b.backed small good (answer_of_lem o ∙ ap (λ (f : ℕ). Ok (Address (host_address (host f) e.a))) b.mapped))
  way small (faulted base x o) = inr (by_fault (walk_ends F r.events k s h p hp e.a e.b) base x (answer_of_lem o))
  way small (lacks last w x bad o) =
      let held = walk_held F r.events k s h p hp e.a e.b last w x in
      inr (stands (rw (answer_of_lem o) code)
      (lacking_permitted view lawful q k w held.0 held.1 bad))

  -- SOUND
  pub sound : e.kind ≡ 4 → (answer_at F r k ≡ Ok Again) ⊎ Settles F r k
  sound four = go (kinds M F.map s e (accepted F laid fresh r fit k hk))
    where
      go : Kind M F.map s e (after M F.map s e) → (answer_at F r k ≡ Ok Again) ⊎ Settles F r k
      go (access x hb o) = way (needs_small M.tables e.b hb) (subst (Way M F.map p e.a e.b s) (sym o) (ways M F.map p e.a e.b s))
      go (store x hb o) = absurd (omega arith)
      go (invlpg x o) = absurd (omega arith)
      go (cr3 x hb o) = absurd (omega arith)
      go (begin x hb o) = absurd (omega arith)
      go (extend x hb o) = absurd (omega arith)
      go (drop x hb o) = absurd (omega arith)
