-- THE INVARIANT of demand 3: what the machine holds at a moment, seen from the rules.
use mathlib.Core.Path.{◌≡◌, refl, sym, ap, subst, ◌∙◌}
use mathlib.Core.Bool.{Bool, true, false, cond, ◌&&◌}
use mathlib.Core.List.{List}
use Prim.Native.Nat.{ℕ, suc, ◌*◌, ◌^◌, ◌<◌}
use lib.ListN.{length, get_or, set}
use borrow.Author.Tests.{eq-eqb, ne_eqb}
use Rattle.paging.specs.declared.Guest.{Guest}
use Rattle.paging.specs.Frame.{guest}
use Rattle.paging.specs.Layout.{frame_words, page_of, frame_of, rights_of, is_present}
use Rattle.paging.specs.Walk.{meet}
use Rattle.paging.proofs.Tests.{false_T}
use Rattle.rules.specs.declared.Event.{Event}
use Rattle.rules.specs.History.{Setup, is_cr3_write, is_by, event_at, words_at, cr3_at}
use Rattle.rules.specs.View.{View, view_of, never}
use Rattle.rules.specs.Kept.{stay}
use Rattle.rules.proofs.Views.{other_idle, page_idle, kind_idle}
use Rattle.tables.specs.declared.Path.{Path}
use Rattle.tables.specs.State.{Machine, State, root_of, next_entry, path_to}
use Rattle.trees.proofs.Trees.{shd}
use Rattle.trees.proofs.Paths.{FullSame}
use Rattle.trees.proofs.Slots.{SameSlot}
use Rattle.trees.proofs.SlotRules.{same_place, same-rights}
use Rattle.keeps.proofs.Alikes.{Same}
use Rattle.keeps.proofs.RightStates.{RightState}
use Rattle.promise.specs.Demand.{Fresh, guest_of}
use Rattle.promise.proofs.Settles.{Backed}
use Rattle.paging.specs.Sound.{Laid}
use Rattle.slots.specs.Slots.{slot_count, mark_of, page_in, place_in, rights_in}

module _ (F : Fresh) (es : List Event) where
  abbrev M : Machine
  M = F.machine

  abbrev pub U : Setup
  U = guest_of F

  -- the events that drop p's walks of page v
  abbrev pub drops : ℕ → ℕ → ℕ → Bool
  drops p v = never

  abbrev pub seen : ℕ → ℕ → View
  seen p v = view_of U es p v (drops p v)

  -- behind a host frame stands the guest frame of a held completed walk
  pub record Behind (p v k host rights : ℕ) : Type 0 where
    pub frame : Guest
    pub inside : frame.0 < M.frames
    pub mapped : host ≡ get_or F.map frame.0 0
    pub backed : Backed (seen p v) k frame rights

  abbrev pub path_of : State → ℕ → ℕ → Path
  path_of s p v = path_to M s.shadow.pool p v 1

  abbrev pub end_of : State → ℕ → ℕ → ℕ
  end_of s p v = next_entry M s.shadow.pool v (path_of s p v)

  -- "each full shadow path … is a held completed walk up to rights, through the map"
  pub record Pathed (k : ℕ) (s : State) (p v : ℕ) : Type 0 where
    pub full : is_present (end_of s p v) ≡ true → Behind p v k (frame_of M.tables (end_of s p v)) (meet (path_of s p v).rights (rights_of M.tables (end_of s p v)))

  -- "… and each complete slot"
  pub record Slotted (k : ℕ) (s : State) (p j : ℕ) : Type 0 where
    pub complete : mark_of s.slots p j ≡ 1 → Backed (seen p (page_in s.slots p j)) k (guest (place_in s.slots p j)) (rights_in s.slots p j)

  pub record Holds (k : ℕ) (s : State) : Type 0 where
    pub laid : Laid M.tables
    pub right : RightState M F.map s
    pub size : length s.words ≡ frame_words * M.frames
    pub words : Same M.tables s.words (words_at U es k)
    pub roots : (p : ℕ) → p < M.processors → shd M s.shadow (root_of M p) ≡ (cr3_at U es p k).0
    pub paths : (p : ℕ) → p < M.processors → (v : ℕ) → v < 2 ^ (M.tables.index_bits * M.tables.levels) → Pathed k s p v
    pub slots : (p : ℕ) → p < M.processors → (j : ℕ) → j < slot_count → Slotted k s p j

  -- ---- a walk that event k + 1 does not end is held after it

  abbrev pub ends : ℕ → ℕ → ℕ → Bool
  ends p v k = (seen p v).ends_complete k

  pub stay_backed : (p v k : ℕ) {rights : ℕ} {g : Guest} → ends p v k ≡ false → Backed (seen p v) k g rights → Backed (seen p v) (suc k) g rights
  stay_backed p v k unended b = record {
    walk = b.walk;
    kept = stay b.kept (rw b.complete (false_T (ends p v k) unended));
    complete = b.complete;
    frame = b.frame;
    covers = b.covers;
  }

  pub stay_path : {k p v : ℕ} {s : State} → ends p v k ≡ false → Pathed k s p v → Pathed (suc k) s p v
  stay_path {k} {p} {v} unended h = record {
    full = λ here. let b = h.full here in record { frame = b.frame; inside = b.inside; mapped = b.mapped; backed = stay_backed p v k unended b.backed };
  }

  pub stay_slot : {k p j : ℕ} {s : State} → ends p (page_in s.slots p j) k ≡ false → Slotted k s p j → Slotted (suc k) s p j
  stay_slot {k} {p} {j} {s} unended h = record { complete = λ one. stay_backed p (page_in s.slots p j) k unended (h.complete one) }

  -- ---- a path, or a slot, that is as it was

  pub same_path : {k p v : ℕ} {s : State} (s' : State) → FullSame M s.shadow s'.shadow v p → Pathed k s p v → Pathed k s' p v
  same_path {k} {p} {v} {s} s' same h = record {
    full = λ here.
        let b = h.full (rw same.1 at here) in
        record {
          frame = b.frame;
          inside = b.inside;
          mapped = ap (frame_of M.tables) same.1 ∙ b.mapped;
          backed = subst (Backed (seen p v) k b.frame) (sym (λ i. meet (same.0 i).rights (rights_of M.tables (same.1 i)))) b.backed;
        };
  }

  -- a path that is not full
  pub no_path : {k p v : ℕ} {s : State} → (is_present (end_of s p v) ≡ true → ⊥) → Pathed k s p v
  no_path none = record { full = λ here. absurd (none here) }

  pub same_slot : {k p j : ℕ} {s : State} (s' : State) → SameSlot s.slots s'.slots p j → Slotted k s p j → Slotted k s' p j
  same_slot {k} {p} {j} {s} s' same h = record {
    complete = λ one.
        subst (λ (v : ℕ). Backed (seen p v) k (guest (place_in s'.slots p j)) (rights_in s'.slots p j)) (sym same.page)
        (subst (λ (x : ℕ). Backed (seen p (page_in s.slots p j)) k (guest x) (rights_in s'.slots p j)) (sym (same_place same))
        (subst (λ (x : ℕ). Backed (seen p (page_in s.slots p j)) k (guest (place_in s.slots p j)) x) (sym (same-rights same)) (h.complete (sym same.mark ∙ one))));
  }

  -- a slot that holds no complete walk
  pub no_slot : {k p j : ℕ} {s : State} → (mark_of s.slots p j ≡ 1 → ⊥) → Slotted k s p j
  no_slot none = record { complete = λ one. absurd (none one) }

  -- ---- which events end nothing

  module _ (p v k : ℕ) where
    abbrev e : Event
    e = event_at es k

    pub other_unended : (p ≡ e.proc → ⊥) → ends p v k ≡ false
    other_unended ne = (other_idle U es p v (drops p v) k refl (λ q. ne (sym q))).1

    pub page_unended : e.kind ≡ 2 → (v ≡ page_of M.tables e.a → ⊥) → ends p v k ≡ false
    page_unended two ne = page_idle U es p v (drops p v) k refl two (λ q. ne (sym q))

    pub quiet_unended : (e.kind ≡ 2 → ⊥) → (e.kind ≡ 3 → ⊥) → ends p v k ≡ false
    quiet_unended two three = (kind_idle U es p v (drops p v) k refl two three).1

  -- ---- words and CR3s after an event

  module _ (k : ℕ) where
    abbrev now : Event
    now = event_at es k

    pub words-store : now.kind ≡ 1 → words_at U es (suc k) ≡ set (words_at U es k) now.a now.b
    unfolding words_at
    words-store q = simp q

    pub words-kept : (now.kind ≡ 1 → ⊥) → words_at U es (suc k) ≡ words_at U es k
    unfolding words_at
    words-kept ne = simp (ne_eqb now.kind 1 ne)

    pub cr3-written : (p : ℕ) → p ≡ now.proc → now.kind ≡ 3 → cr3_at U es p (suc k) ≡ guest now.a
    unfolding cr3_at
    cr3-written p q three = simp (three, eq-eqb now.proc p (sym q))

    pub cr3_other : (p : ℕ) → (p ≡ now.proc → ⊥) → cr3_at U es p (suc k) ≡ cr3_at U es p k
    unfolding cr3_at
    cr3_other p ne = simp (ne_eqb now.proc p (λ q. ne (sym q)))

    pub cr3-kept : (p : ℕ) → (now.kind ≡ 3 → ⊥) → cr3_at U es p (suc k) ≡ cr3_at U es p k
    unfolding cr3_at
    cr3-kept p ne = go (is_by p now)
      where
        go : (b : Bool) → cond (b && is_cr3_write now) (guest now.a) (cr3_at U es p k) ≡ cr3_at U es p k
        go true = simp (ne_eqb now.kind 3 ne)
        go false = refl
