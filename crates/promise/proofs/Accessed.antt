-- An access carries the invariant: what it fills is the guest's path as it is now.
use Rattle.guest.specs.GuestWalk.{Ended, whole as ended_at}
use mathlib.Core.Path.{◌≡◌, refl, sym, ap, ◌∙◌}
use mathlib.Core.List.{List}
use mathlib.Core.Bool.{false}
use Prim.Native.Nat.{ℕ, suc, ◌*◌, ◌^◌, ◌≤◌, ◌<◌}
use native.Mathlib.Decide.{ℕ_discrete}
use native.Mathlib.Omega.{arith}
use Rattle.paging.specs.declared.Guest.{Guest}
use Rattle.paging.specs.declared.Walk.{Walk}
use Rattle.paging.specs.Frame.{guest}
use Rattle.paging.specs.Layout.{page_of, get, index}
use Rattle.paging.specs.Walk.{start, step}
use Rattle.rules.specs.declared.Event.{Event}
use Rattle.rules.specs.History.{event_at, words_at}
use Rattle.rules.specs.View.{view_of}
use Rattle.rules.specs.Coherent.{Coherent}
use Rattle.rules.specs.Kept.{Kept, begin}
use Rattle.rules.proofs.Theorems.{view_coherent}
use Rattle.tables.specs.State.{Machine, State, root_of}
use Rattle.shadow.specs.Access.{faulted}
use Rattle.shadow.proofs.Accepted.{accepted_ranged}
use Rattle.trees.proofs.Trees.{Able, shd}
use Rattle.trees.proofs.Roots.{root_table, root_another}
use Rattle.trees.proofs.Slots.{SameSlot}
use Rattle.keeps.proofs.Alikes.{same_refl}
use Rattle.keeps.proofs.RightStates.{Mapped}
use Rattle.keeps.proofs.Moves.{page_small}
use Rattle.keeps.proofs.Filled.{Fills}
use Rattle.keeps.proofs.WalkReads.{whole_walk}
use Rattle.keeps.proofs.Accesses.{walked, walked_over, written, walk_same, written_same, written_leads, written-right, filling, Way, slot, shadow, fault, lacks, again, ways}
use Rattle.keeps.proofs.Again.{end_covers, end_frame, end_inside}
use Rattle.promise.specs.Demand.{Fresh}
use Rattle.promise.proofs.GuestWalks.{Ends, whole, absent, beyond, walks}
use Rattle.promise.proofs.Holds.{U, drops, seen, ends, Holds, Pathed, Slotted, stay_path, stay_slot, stay_backed, same_path, same_slot, no_slot, quiet_unended, cr3-kept}
use Rattle.promise.proofs.Carries.{After, sized, fits, hp, still, kept-words}
use Rattle.slots.specs.Slots.{slot_count, page_in}
use Rattle.paging.proofs.Counts.{by_cases}
use Rattle.shadow.specs.Answer.{Reply}
use Rattle.shadow.specs.Fill.{fill}
use Rattle.shadow.specs.Access.{after_access}
use Rattle.shadow.specs.Refusals.{call_refusal}

module _ (F : Fresh) (es : List Event) (k : ℕ) (s : State) (h : Holds F es k s) where
  abbrev M : Machine
  M = F.machine

  abbrev map : List ℕ
  map = F.map

  -- ---- the guest's walk, seen from the rules

  module _ (p : ℕ) (hp' : p < M.processors) (a b : ℕ) where
    abbrev v : ℕ
    v = page_of M.tables a

    abbrev pub rules : List ℕ
    rules = words_at (U F es) es k

    pub law : Coherent (seen F es p v) M.tables.levels M.frames
    law = view_coherent (U F es) es p v (drops F es p v) h.laid.sound

    pub reads : (w : Walk) → (seen F es p v).steps k w ≡ step M.tables M.frames w (get M.tables rules w.frame.0 (index M.tables v w.level))
    unfolding view_of
    reads w = refl

    begins : Kept (seen F es p v) k (start M.tables (guest (shd M s.shadow (root_of M p))))
    unfolding view_of
    begins = begin (ap (λ (n : ℕ). start M.tables (guest n)) (h.roots p hp'))

    -- IT ENDS IN A HELD WALK, or a held walk faults as it does
    pub walk_ends : Ends M.tables h.laid.sound (seen F es p v) M.frames v k rules law reads (walked M map p a b s).ended
    walk_ends =
        (walks M.tables h.laid.sound (seen F es p v) M.frames v k rules law reads M.tables.levels s.words (guest (shd M s.shadow (root_of M p)))
        (start M.tables (guest (shd M s.shadow (root_of M p)))) h.words begins refl).ended

    ended_whole : {x : Ended} → Ends M.tables h.laid.sound (seen F es p v) M.frames v k rules law reads x → (last : Guest) (w : Walk) → x ≡ ended_at last w
        → Kept (seen F es p v) k w × (w.level ≡ 0)
    ended_whole (whole {w = w'} held done) last w q = let e : w' ≡ w = whole_walk q in (rw e at held, rw e at done)
    ended_whole (absent held gone) last w q = let n : ◌≡◌ {A = ℕ} 0 1 = cc in absurd (omega arith)
    ended_whole (beyond held gone) last w q = let n : ◌≡◌ {A = ℕ} 0 1 = cc in absurd (omega arith)

    pub walk_held : (last : Guest) (w : Walk) → (walked M map p a b s).ended ≡ ended_at last w → Kept (seen F es p v) k w × (w.level ≡ 0)
    walk_held last w q = ended_whole walk_ends last w q

  -- ---- after an access

  module _ (ok : call_refusal M map s (event_at es k) ≡ 0) (four : (event_at es k).kind ≡ 4) where
    abbrev e : Event
    e = event_at es k

    abbrev p : ℕ
    p = e.proc

    abbrev page : ℕ
    page = page_of M.tables e.a

    own : p < M.processors
    own = hp F es k s h ok

    room : Able M
    room = sized F es k s h ok

    maps : Mapped M map
    maps = fits F es k s h ok

    pub spare : M.tables.levels ≤ M.share
    spare = (accepted_ranged M map s e ok).share.0

    three : e.kind ≡ 3 → ⊥
    three x = omega arith

    -- AN ACCESS ENDS NOTHING
    unended : (r u : ℕ) → ends F es r u k ≡ false
    unended r u = quiet_unended F es r u k (λ x. omega arith) three

    module _ (last : Guest) (w : Walk) (q : (walked M map p e.a e.b s).ended ≡ ended_at last w) where
      abbrev f : State
      f = fill M map p page (written M map p e.a e.b s last)

      done : Fills M room spare map maps p own (written M map p e.a e.b s last) (written-right M map p e.a e.b s room spare maps own h.right last w q) page (page_small M.tables e.a)
          last w.frame w.rights (written_leads M map p e.a e.b s room.sound last w q) f
      done = filling M map p e.a e.b s room spare maps own h.right last w q

      -- the page's own path is a walk of the guest's tables as they are
      own-path : Pathed F es (suc k) f p page
      own-path = record {
        full = λ here. record {
          frame = w.frame;
          inside = end_inside M map p e.a e.b s room spare maps own h.right last w q;
          mapped = end_frame M map p e.a e.b s room spare maps own h.right last w q;
          backed =
              let held = walk_held p own e.a e.b last w q in
              stay_backed F es p page k (unended p page) (record {
                walk = w;
                kept = held.0;
                complete = held.1;
                frame = refl;
                covers = end_covers M map p e.a e.b s room spare maps own h.right last w q;
              });
        };
      }

      other_path : (r : ℕ) → r < M.processors → (u : ℕ) → u < 2 ^ (M.tables.index_bits * M.tables.levels) → (r ≡ p → u ≡ page → ⊥) → Pathed F es (suc k) f r u
      other_path r hr u hu ne = record {
        full = λ here.
            (same_path F es f (done.built.old.full r hr u hu ne here)
            (stay_path F es (unended r u) (h.paths r hr u hu))).full here;
      }

      same : (r : ℕ) → r < M.processors → (j : ℕ) → j < slot_count → SameSlot s.slots f.slots r j → Slotted F es (suc k) f r j
      same r hr j hj eq =
          same_slot F es f eq
          (stay_slot F es (unended r (page_in s.slots r j)) (h.slots r hr j hj))

      filled : After F es k s h ok f
      filled right size = record {
        laid = h.laid;
        right = right;
        size = size;
        words = rw done.words (kept-words F es k s h ok (λ x. omega arith) (written_same M map p e.a e.b s h.laid.sound last));
        roots = λ r hr. root r hr (ℕ_discrete r p) ∙ h.roots r hr ∙ ap (λ (g : Guest). g.0) (sym (cr3-kept F es k r three));
        paths = λ r hr u hu. path r hr u hu (ℕ_discrete r p) (ℕ_discrete u page);
        slots = λ r hr j hj. slotted r hr j hj (ℕ_discrete r p);
      }
        where
          root : (r : ℕ) → r < M.processors → Dec (r ≡ p) → shd M f.shadow (root_of M r) ≡ shd M s.shadow (root_of M r)
          root r hr (yes a) = rw a done.built.stays.root
          root r hr (no a) =
              (done.built.stays.others (root_of M r) (root_table M room r hr) (root_another M room s.shadow r p hr a)).frame

          path : (r : ℕ) → r < M.processors → (u : ℕ) → u < 2 ^ (M.tables.index_bits * M.tables.levels) → Dec (r ≡ p) → Dec (u ≡ page) → Pathed F es (suc k) f r u
          path r hr u hu (yes a) (yes b) = rw (a, b) own-path
          path r hr u hu (no a) d = other_path r hr u hu (λ x y. a x)
          path r hr u hu (yes a) (no b) = other_path r hr u hu (λ x y. b y)

          slotted : (r : ℕ) → r < M.processors → (j : ℕ) → j < slot_count → Dec (r ≡ p) → Slotted F es (suc k) f r j
          slotted r hr j hj (no a) = same r hr j hj (done.beside r a j hj)
          slotted r hr j hj (yes a) = rw a
              (by_cases (done.own j hj) (λ x. no_slot F es (λ m. omega (arith, x.mark))) (λ x. same p own j hj x.0))

    -- a fault
    fault_holds : After F es k s h ok (faulted M p page (walked_over M map p e.a e.b s))
    fault_holds = still F es k s h ok (λ x. omega arith) unended three (walked M map p e.a e.b s).words (walk_same M map p e.a e.b s h.laid.sound)

    way : {out : Reply} → Way M map p e.a e.b s out → After F es k s h ok out.state
    way (slot j hj v o) = rw o (still F es k s h ok (λ x. omega arith) unended three s.words (same_refl M.tables s.words))
    way (shadow x v o) = rw o (still F es k s h ok (λ x. omega arith) unended three s.words (same_refl M.tables s.words))
    way (fault base x o) = rw o fault_holds
    way (lacks last w x v o) = rw o fault_holds
    way (again last w x v o) = rw o (filled last w x)

    pub accessed : After F es k s h ok (after_access M map p e.a e.b s).state
    accessed = way (ways M map p e.a e.b s)
