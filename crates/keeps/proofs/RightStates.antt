-- A state whose rules hold, and what an event has to show so that they hold after it.
use mathlib.Core.Path.{◌≡◌, sym, ◌∙◌}
use mathlib.Core.Bool.{true}
use mathlib.Core.List.{List}
use mathlib.Core.Logic.{◌⊎◌}
use Prim.Native.Nat.{ℕ, ◌-◌, ◌*◌, ◌^◌, ◌<◌}
use native.Mathlib.Decide.{ℕ_discrete}
use native.Mathlib.Omega.{arith}
use lib.ListN.{length, get_or}
use Rattle.tables.specs.State.{Machine, State, state_of, table_count, path_to}
use Rattle.lawful.specs.Rules.{slot_right}
use Rattle.trees.proofs.Trees.{Able, Outside, Exact, own, Another, Trees, Same}
use Rattle.trees.proofs.Rules.{Lawful}
use Rattle.trees.proofs.Paths.{same_path}
use Rattle.trees.proofs.Slots.{SameSlot, Empty, Room}
use Rattle.trees.proofs.SlotRules.{empty_right, same-right, stays_right}
use Rattle.slots.specs.Slots.{slot_count, mark_of, page_in}
use Rattle.paging.proofs.Counts.{by_cases}

-- the map of a call: all guest frames, host frames in range and outside the pool
pub record Mapped (M : Machine) (map : List ℕ) : Type 0 where
  pub guests : length map ≡ M.frames
  pub within : (k : ℕ) → k < length map → get_or map k 0 < 2 ^ M.tables.frame_bits
  pub outside : Outside M map

-- the rules hold, and the slots are all there
pub record RightState (M : Machine) (map : List ℕ) (s : State) : Type 0 where
  pub law : Lawful M map s
  pub triples : length s.slots ≡ 24 * M.processors

module _ (M : Machine) (ok : Able M) (map : List ℕ) (fits : Mapped M map) where
  pub room : (slots : List ℕ) → length slots ≡ 24 * M.processors → (p : ℕ) → p < M.processors → Room slots p
  room slots e p h = omega arith

  -- a processor's slot stays right where its tables and the slot stay
  pub other_slot : (s s' : State) → Lawful M map s → Exact M s'.shadow → (p : ℕ) → p < M.processors → (k : ℕ) → k < slot_count
      → ((v : ℕ) → v < table_count M → own M s.shadow v ≡ p → Same M s.shadow s'.shadow v) → SameSlot s.slots s'.slots p k
      → slot_right M s'.shadow.pool s'.slots p k ≡ true
  other_slot s s' law exact p hp k hk tables slot =
      stays_right M s.shadow.pool s'.shadow.pool s.slots p k slot
      (λ h. same_path M ok map fits.outside s.shadow s'.shadow law.trees exact (page_in s.slots p k) p hp tables (M.tables.levels - (mark_of s.slots p k - 1)) (omega arith))
      (law.slots p hp k hk)

  -- where slot k of p is partial, its page's path to it is as it was
  abbrev pub PathStays : State → State → ℕ → ℕ → Type 0
  PathStays s s' p k =
      let page = page_in s.slots p k in
      let level = mark_of s.slots p k - 1 in
      1 < mark_of s.slots p k → path_to M s'.shadow.pool p page level ≡ path_to M s.shadow.pool p page level

  -- what an event of p leaves that changes its tables: the others' tables and slots, and of its own slots those that are
  -- complete or whose path stays
  pub record Reshaped (p : ℕ) (s s' : State) : Type 0 where
    pub trees : Trees M map s'.shadow
    pub others : (v : ℕ) → v < table_count M → Another M s.shadow p v → Same M s.shadow s'.shadow v
    pub beside : (q : ℕ) → (q ≡ p → ⊥) → (k : ℕ) → k < slot_count → SameSlot s.slots s'.slots q k
    pub own : (k : ℕ) → k < slot_count → Empty s'.slots p k ⊎ (SameSlot s.slots s'.slots p k × PathStays s s' p k)
    pub triples : length s'.slots ≡ length s.slots

  pub reshaped_right : {p : ℕ} {s s' : State} → RightState M map s → Reshaped p s s' → RightState M map s'
  reshaped_right {p} {s} {s'} r h = record {
    law = record { trees = h.trees; slots = λ q hq k hk. slot q hq k hk (ℕ_discrete q p) };
    triples = h.triples ∙ r.triples;
  }
    where
      slot : (q : ℕ) → q < M.processors → (k : ℕ) → k < slot_count → Dec (q ≡ p) → slot_right M s'.shadow.pool s'.slots q k ≡ true
      slot q hq k hk (no ne) =
          other_slot s s' r.law h.trees.exact q hq k hk (λ v hv o. h.others v hv (record { owned = rw o hq; other = λ x. ne (sym o ∙ x) })) (h.beside q ne k hk)
      slot q hq k hk (yes e) = rw e
          (by_cases (h.own k hk)
          (λ x. empty_right M s'.shadow.pool s'.slots p k x)
          (λ x. stays_right M s.shadow.pool s'.shadow.pool s.slots p k x.0 x.1 (rw e at (r.law.slots q hq k hk))))

  -- what an event of p leaves that changes slot k of p only
  pub one_slot : {p k : ℕ} {s : State} {slots : List ℕ} → RightState M map s → length slots ≡ length s.slots
      → ((q j : ℕ) → j < slot_count → (q ≡ p → j ≡ k → ⊥) → SameSlot s.slots slots q j)
      → slot_right M s.shadow.pool slots p k ≡ true → RightState M map (state_of s.words s.shadow slots)
  one_slot {p} {k} {s} {slots} r len same right = record {
    law = record { trees = r.law.trees; slots = λ q hq j hj. go q hq j hj (ℕ_discrete q p) (ℕ_discrete j k) };
    triples = len ∙ r.triples;
  }
    where
      kept : (q : ℕ) → q < M.processors → (j : ℕ) → j < slot_count → (q ≡ p → j ≡ k → ⊥) → slot_right M s.shadow.pool slots q j ≡ true
      kept q hq j hj ne = same-right (same q j hj ne) M s.shadow.pool ∙ r.law.slots q hq j hj

      go : (q : ℕ) → q < M.processors → (j : ℕ) → j < slot_count → Dec (q ≡ p) → Dec (j ≡ k) → slot_right M s.shadow.pool slots q j ≡ true
      go q hq j hj (yes a) (yes b) = rw (a, b) right
      go q hq j hj (no a) d = kept q hq j hj (λ x y. a x)
      go q hq j hj (yes a) (no b) = kept q hq j hj (λ x y. b y)

  -- a change of the guest's words
  pub words_right : {s : State} (words : List ℕ) → RightState M map s → RightState M map (state_of words s.shadow s.slots)
  words_right words r = record { law = record { trees = r.law.trees; slots = r.law.slots }; triples = r.triples }
