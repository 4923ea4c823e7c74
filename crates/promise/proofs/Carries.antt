-- The invariant is carried to the next moment, kind by kind: store, INVLPG, CR3 write, begin and a slot that is lost.
use mathlib.Core.Path.{◌≡◌, refl, sym, ap, subst, ◌∙◌}
use mathlib.Core.Bool.{false}
use mathlib.Core.List.{List}
use Prim.Native.Nat.{ℕ, suc, ◌+◌, ◌*◌, ◌^◌, ◌<◌}
use native.Mathlib.Decide.{ℕ_discrete}
use native.Mathlib.Omega.{arith}
use lib.ListN.{length}
use Rattle.paging.specs.declared.Guest.{Guest}
use Rattle.paging.specs.Layout.{frame_words, page_of}
use Rattle.rules.specs.declared.Event.{Event}
use Rattle.rules.specs.History.{event_at, words_at, cr3_at}
use Rattle.tables.specs.State.{Machine, Shadow, State, state_of, root_of, next_entry, path_to}
use Rattle.shadow.proofs.Accepted.{accepted_own}
use Rattle.trees.proofs.Trees.{Able, shd}
use Rattle.trees.proofs.Paths.{less_full}
use Rattle.trees.proofs.Roots.{root_table, root_another}
use Rattle.trees.proofs.Slots.{SameSlot, Room, same_self, with_other, with_mark, empty_slots_other, empty_slots-here, flush_others, flush-here}
use Rattle.keeps.proofs.Alikes.{Same, same_refl, same_trans, same_store}
use Rattle.keeps.proofs.RightStates.{Mapped, RightState, room}
use Rattle.keeps.proofs.Takes.{Takes, invlpg_takes, cr3_takes, cr3_root}
use Rattle.keeps.proofs.Events.{accepted_mapped, accepted_able}
use Rattle.promise.specs.Demand.{Fresh}
use Rattle.promise.proofs.Holds.{U, ends, Holds, Pathed, Slotted, stay_path, stay_slot, same_path, no_path, same_slot, no_slot, other_unended, page_unended, quiet_unended, words-store, words-kept, cr3-written, cr3_other, cr3-kept}
use Rattle.slots.specs.Slots.{slot_count, mark_of, page_in, empty_slots}
use Rattle.paging.proofs.Counts.{by_cases}
use Rattle.shadow.specs.Refusals.{call_refusal}
use Rattle.shadow.specs.Moves.{after_store, after_invlpg, after_cr3, after_begin, after_drop}

module _ (F : Fresh) (es : List Event) (k : ℕ) (s : State) (h : Holds F es k s)
    (ok : call_refusal F.machine F.map s (event_at es k) ≡ 0) where
  abbrev M : Machine
  M = F.machine

  abbrev map : List ℕ
  map = F.map

  abbrev e : Event
  e = event_at es k

  abbrev p : ℕ
  p = e.proc

  pub sized : Able M
  sized = accepted_able M map s e ok h.laid

  pub fits : Mapped M map
  fits = accepted_mapped M map s e ok

  pub hp : p < M.processors
  hp = accepted_own M map s e ok

  abbrev pub After : State → Type 0
  After s' = RightState M map s' → length s'.words ≡ frame_words * M.frames → Holds F es (suc k) s'

  -- ---- events that leave the tables alone

  module _ (s' : State) (tables : s'.shadow ≡ s.shadow) (unended : (q v : ℕ) → ends F es q v k ≡ false) (three : e.kind ≡ 3 → ⊥) where
    quiet_slot : (q j : ℕ) → q < M.processors → j < slot_count → SameSlot s.slots s'.slots q j → Slotted F es (suc k) s' q j
    quiet_slot q j hq hj same =
        same_slot F es s' same
        (stay_slot F es (unended q (page_in s.slots q j)) (h.slots q hq j hj))

    quiet : Same M.tables s'.words (words_at (U F es) es (suc k))
        → ((q : ℕ) → q < M.processors → (j : ℕ) → j < slot_count → Slotted F es (suc k) s' q j) → After s'
    quiet words slots right size = record {
      laid = h.laid;
      right = right;
      size = size;
      words = words;
      roots = λ q hq. ap (λ (x : Shadow). shd M x (root_of M q)) tables ∙ h.roots q hq ∙ ap (λ (g : Guest). g.0) (sym (cr3-kept F es k q three));
      paths = λ q hq v hv.
          same_path F es s'
          (ap (λ (x : Shadow). path_to M x.pool q v 1) tables, ap (λ (x : Shadow). next_entry M x.pool v (path_to M x.pool q v 1)) tables)
          (stay_path F es (unended q v) (h.paths q hq v hv));
      slots = slots;
    }

  pub kept-words : (e.kind ≡ 1 → ⊥) → {words : List ℕ} → Same M.tables words s.words → Same M.tables words (words_at (U F es) es (suc k))
  kept-words ne same = rw (words-kept F es k ne) (same_trans M.tables same h.words)

  -- ---- by kind

  pub stored : e.kind ≡ 1 → After (after_store e.a e.b s).state
  stored q =
      quiet (after_store e.a e.b s).state refl unended (λ x. omega arith)
      (rw (words-store F es k q) (same_store M.tables e.a e.b h.words))
      (λ r hr j hj. quiet_slot (after_store e.a e.b s).state refl unended (λ x. omega arith) r j hr hj (same_self s.slots r j))
    where
      unended : (r v : ℕ) → ends F es r v k ≡ false
      unended r v = quiet_unended F es r v k (λ x. omega arith) (λ x. omega arith)

  -- nothing is changed but A and D
  pub still : (e.kind ≡ 1 → ⊥) → ((q v : ℕ) → ends F es q v k ≡ false) → (e.kind ≡ 3 → ⊥) → (words : List ℕ) → Same M.tables words s.words → After (state_of words s.shadow s.slots)
  still one unended three words same =
      quiet (state_of words s.shadow s.slots) refl unended three (kept-words one same)
      (λ q hq j hj. quiet_slot (state_of words s.shadow s.slots) refl unended three q j hq hj (same_self s.slots q j))

  -- one slot of p is changed, and what it holds is backed
  pub one_slot : (e.kind ≡ 1 → ⊥) → ((q v : ℕ) → ends F es q v k ≡ false) → (e.kind ≡ 3 → ⊥) → (s' : State) → s'.shadow ≡ s.shadow → s'.words ≡ s.words → (i : ℕ)
      → ((q j : ℕ) → j < slot_count → (q ≡ p → j ≡ i → ⊥) → SameSlot s.slots s'.slots q j) → Slotted F es (suc k) s' p i → After s'
  one_slot one unended three s' tables words i same new =
      quiet s' tables unended three (kept-words one (subst (λ (l : List ℕ). Same M.tables s'.words l) words (same_refl M.tables s'.words)))
      (λ q hq j hj. go q hq j hj (ℕ_discrete q p) (ℕ_discrete j i))
    where
      go : (q : ℕ) → q < M.processors → (j : ℕ) → j < slot_count → Dec (q ≡ p) → Dec (j ≡ i) → Slotted F es (suc k) s' q j
      go q hq j hj (yes a) (yes b) = rw (a, b) new
      go q hq j hj (no a) d = quiet_slot s' tables unended three q j hq hj (same q j hj (λ x y. a x))
      go q hq j hj (yes a) (no b) = quiet_slot s' tables unended three q j hq hj (same q j hj (λ x y. b y))

  pub here : Room s.slots p
  here = room M sized map fits s.slots h.right.triples p hp

  pub begun : e.kind ≡ 5 → e.b < 8 → After (after_begin M p e.a e.b s).state
  unfolding after_begin
  begun q hb =
      let v = page_of M.tables e.a in
      one_slot (λ x. omega arith) (λ r v. quiet_unended F es r v k (λ x. omega arith) (λ x. omega arith)) (λ x. omega arith) (after_begin M p e.a e.b s).state refl refl e.b
      (λ r j hj ne. with_other p e.b (M.tables.levels + 1) v (root_of M p) 7 s.slots r j hb hj ne)
      (no_slot F es (λ x. omega (arith, h.laid.upper, with_mark p e.b (M.tables.levels + 1) v (root_of M p) 7 s.slots hb here)))

  pub lost : e.kind ≡ 7 → e.a < 8 → After (after_drop p e.a s).state
  unfolding after_drop
  lost q ha =
      one_slot (λ x. omega arith) (λ r v. quiet_unended F es r v k (λ x. omega arith) (λ x. omega arith)) (λ x. omega arith) (after_drop p e.a s).state refl refl e.a
      (λ r j hj ne. with_other p e.a 0 0 0 0 s.slots r j ha hj ne)
      (no_slot F es (λ x. omega (arith, with_mark p e.a 0 0 0 0 s.slots ha here)))

  -- ---- events that take entries away

  module _ (s' : State) (v : ℕ) (t : Takes M sized map fits p hp s h.right v s'.shadow) where
    -- another processor's path, or another page's
    left_path : (q : ℕ) → q < M.processors → (u : ℕ) → u < 2 ^ (M.tables.index_bits * M.tables.levels) → ends F es q u k ≡ false → Pathed F es (suc k) s' q u
    left_path q hq u hu unended = record {
      full = λ there.
          (same_path F es s' (less_full M sized s.shadow s'.shadow t.trees.exact t.less u q there)
          (stay_path F es unended (h.paths q hq u hu))).full there;
    }

    gone_path : Pathed F es (suc k) s' p v
    gone_path = no_path F es t.gone

    -- another processor's slot
    left_slot : (q : ℕ) → q < M.processors → (q ≡ p → ⊥) → (j : ℕ) → j < slot_count → SameSlot s.slots s'.slots q j → Slotted F es (suc k) s' q j
    left_slot q hq ne j hj same =
        same_slot F es s' same
        (stay_slot F es (other_unended F es q (page_in s.slots q j) k ne) (h.slots q hq j hj))

  -- INVLPG ends what is of its page
  pub invalidated : e.kind ≡ 2 → After (after_invlpg M p e.a s).state
  unfolding after_invlpg
  invalidated two right size = record {
    laid = h.laid;
    right = right;
    size = size;
    words = kept-words (λ x. omega arith) (same_refl M.tables s.words);
    roots = λ q hq. h.roots q hq ∙ ap (λ (g : Guest). g.0) (sym (cr3-kept F es k q (λ x. omega arith)));
    paths = λ q hq u hu. path q hq u hu (ℕ_discrete q p) (ℕ_discrete u v);
    slots = λ q hq j hj. slot q hq j hj (ℕ_discrete q p);
  }
    where
      v : ℕ
      v = page_of M.tables e.a

      s' : State
      s' = (after_invlpg M p e.a s).state

      t : Takes M sized map fits p hp s h.right v s'.shadow
      t = invlpg_takes M sized map fits p hp s h.right e.a

      path : (q : ℕ) → q < M.processors → (u : ℕ) → u < 2 ^ (M.tables.index_bits * M.tables.levels) → Dec (q ≡ p) → Dec (u ≡ v) → Pathed F es (suc k) s' q u
      path q hq u hu (yes a) (yes b) = rw (a, b) (gone_path s' v t)
      path q hq u hu (no a) d = left_path s' v t q hq u hu (other_unended F es q u k a)
      path q hq u hu (yes a) (no b) = left_path s' v t q hq u hu (page_unended F es q u k two b)

      slot : (q : ℕ) → q < M.processors → (j : ℕ) → j < slot_count → Dec (q ≡ p) → Slotted F es (suc k) s' q j
      slot q hq j hj (no a) = left_slot s' v t q hq a j hj (flush_others p v s.slots q j hj a)
      slot q hq j hj (yes a) = rw a
          (by_cases (flush-here p v s.slots j hj here)
          (λ x. by_cases x.1
          (λ y. no_slot F es (λ m. omega (arith, x.0.mark)))
          (λ y. same_slot F es s' x.0 (stay_slot F es (page_unended F es p (page_in s.slots p j) k two y.1) (h.slots p hp j hj))))
          (λ x. no_slot F es (λ m. omega (arith, x.mark))))

  -- a CR3 write ends everything of p
  pub written : e.kind ≡ 3 → e.a < M.frames → After (after_cr3 M p e.a s).state
  written three hf right size = record {
    laid = h.laid;
    right = right;
    size = size;
    words = rw (words_of) (kept-words (λ x. omega arith) (same_refl M.tables s.words));
    roots = λ q hq. root q hq (ℕ_discrete q p);
    paths = λ q hq u hu. path q hq u hu (ℕ_discrete q p);
    slots = λ q hq j hj. slot q hq j hj (ℕ_discrete q p);
  }
    where
      s' : State
      s' = (after_cr3 M p e.a s).state

      words_of : s'.words ≡ s.words
      words_of = unfold after_cr3 in refl

      slots_of : s'.slots ≡ empty_slots p s.slots
      slots_of = unfold after_cr3 in refl

      t : (v : ℕ) → Takes M sized map fits p hp s h.right v s'.shadow
      t v = cr3_takes M sized map fits p hp s h.right e.a hf v

      root : (q : ℕ) → q < M.processors → Dec (q ≡ p) → shd M s'.shadow (root_of M q) ≡ (cr3_at (U F es) es q (suc k)).0
      root q hq (yes a) =
          ap (λ (x : ℕ). shd M s'.shadow (root_of M x)) a ∙ cr3_root M sized map fits p hp s h.right e.a hf
          ∙ ap (λ (g : Guest). g.0) (sym (cr3-written F es k q a three))
      root q hq (no a) =
          ((t 0).others (root_of M q) (root_table M sized q hq) (root_another M sized s.shadow q p hq a)).frame
          ∙ h.roots q hq ∙ ap (λ (g : Guest). g.0) (sym (cr3_other F es k q a))

      path : (q : ℕ) → q < M.processors → (u : ℕ) → u < 2 ^ (M.tables.index_bits * M.tables.levels) → Dec (q ≡ p) → Pathed F es (suc k) s' q u
      path q hq u hu (yes a) = rw a (gone_path s' u (t u))
      path q hq u hu (no a) = left_path s' u (t u) q hq u hu (other_unended F es q u k a)

      slot : (q : ℕ) → q < M.processors → (j : ℕ) → j < slot_count → Dec (q ≡ p) → Slotted F es (suc k) s' q j
      slot q hq j hj (no a) = left_slot s' 0 (t 0) q hq a j hj (rw slots_of (empty_slots_other p s.slots q j hj a))
      slot q hq j hj (yes a) = rw a (no_slot F es (λ m. omega (arith, (empty_slots-here p s.slots j hj here).mark, ap (λ (l : List ℕ). mark_of l p j) slots_of)))
