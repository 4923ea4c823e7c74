-- What the steps on slots do to each slot: one is set or emptied and all others stay; a flush empties or spares.
use mathlib.Core.Path.{◌≡◌, refl, sym, ap, subst, ◌∙◌}
use mathlib.Core.Bool.{Bool, true, false, cond, ◌&&◌, ◌||◌}
use mathlib.Core.List.{List}
use mathlib.Core.Logic.{◌⊎◌, inl, inr}
use Prim.Native.Nat.{ℕ, zero, suc, ◌+◌, ◌*◌, ◌/◌, ◌%◌, ◌≤◌, ◌<◌}
use native.Mathlib.Decide.{ℕ_discrete}
use native.Mathlib.Omega.{arith}
use lib.Dec.{eqb, ltb}
use lib.ListN.{length, get_or, set, length-set}
use lib.Seq.{get_or-set_same, get_or-set_other}
use borrow.Author.Tests.{eqb-true, eqb-false, ltb-false}
use Rattle.paging.specs.Numbers.{each}
use Rattle.slots.specs.Slots.{slot_count, slot_at, mark_of, page_in, place_in, rights_in, with_slot, emptied, flushed, flush, empty_slots}
use Rattle.paging.proofs.Counts.{by_cases}

-- the third number of a slot, place×8 + rights
abbrev pub third_of : List ℕ → ℕ → ℕ → ℕ
third_of slots p k = get_or slots (slot_at p k + 2) 0

-- slot k of p is as it was
pub record SameSlot (slots slots' : List ℕ) (p k : ℕ) : Type 0 where
  pub mark : mark_of slots' p k ≡ mark_of slots p k
  pub page : page_in slots' p k ≡ page_in slots p k
  pub third : third_of slots' p k ≡ third_of slots p k

-- "empty is 0, 0, 0"
pub record Empty (slots : List ℕ) (p k : ℕ) : Type 0 where
  pub mark : mark_of slots p k ≡ 0
  pub page : page_in slots p k ≡ 0
  pub third : third_of slots p k ≡ 0

-- the slots of p are there
abbrev pub Room : List ℕ → ℕ → Type 0
Room slots p = 24 * p + 24 ≤ length slots

pub same_self : (slots : List ℕ) (p k : ℕ) → SameSlot slots slots p k
same_self slots p k = record { mark = refl; page = refl; third = refl }

pub same-on : {a b c : List ℕ} {p k : ℕ} → SameSlot a b p k → SameSlot b c p k → SameSlot a c p k
same-on x y = record { mark = y.mark ∙ x.mark; page = y.page ∙ x.page; third = y.third ∙ x.third }

pub same_empty : {a b : List ℕ} {p k : ℕ} → SameSlot a b p k → Empty a p k → Empty b p k
same_empty x e = record { mark = x.mark ∙ e.mark; page = x.page ∙ e.page; third = x.third ∙ e.third }

-- ---- one slot is set

module _ (p k mark page place rights : ℕ) (slots : List ℕ) where
  abbrev one : List ℕ
  one = set slots (slot_at p k) mark

  abbrev two : List ℕ
  two = set one (slot_at p k + 1) page

  abbrev three : List ℕ
  three = with_slot p k mark page place rights slots

  pub with_length : length three ≡ length slots
  with_length = length-set two (slot_at p k + 2) (place * 8 + rights) ∙ length-set one (slot_at p k + 1) page ∙ length-set slots (slot_at p k) mark

  -- numbers outside this slot stay
  outside : (x : ℕ) → (x ≡ slot_at p k → ⊥) → (x ≡ slot_at p k + 1 → ⊥) → (x ≡ slot_at p k + 2 → ⊥) → get_or three x 0 ≡ get_or slots x 0
  outside x a b c =
      get_or-set_other two (slot_at p k + 2) x (place * 8 + rights) 0 c
      ∙ get_or-set_other one (slot_at p k + 1) x page 0 b
      ∙ get_or-set_other slots (slot_at p k) x mark 0 a

  pub with_other : (p' k' : ℕ) → k < slot_count → k' < slot_count → (p' ≡ p → k' ≡ k → ⊥) → SameSlot slots three p' k'
  with_other p' k' hk hk' ne = record {
    mark = outside (slot_at p' k') (λ q. off (omega arith)) (λ q. off (omega arith)) (λ q. off (omega arith));
    page = outside (slot_at p' k' + 1) (λ q. off (omega arith)) (λ q. off (omega arith)) (λ q. off (omega arith));
    third = outside (slot_at p' k' + 2) (λ q. off (omega arith)) (λ q. off (omega arith)) (λ q. off (omega arith));
  }
    where
      -- two slots that share a number are one
      off : 8 * p' + k' ≡ 8 * p + k → ⊥
      off q = ne (omega arith) (omega arith)

  module _ (hk : k < slot_count) (room : Room slots p) where
    pub with_mark : mark_of three p k ≡ mark
    with_mark =
        get_or-set_other two (slot_at p k + 2) (slot_at p k) (place * 8 + rights) 0 (λ q. omega arith)
        ∙ get_or-set_other one (slot_at p k + 1) (slot_at p k) page 0 (λ q. omega arith)
        ∙ get_or-set_same slots (slot_at p k) mark 0 (omega arith)

    pub with_page : page_in three p k ≡ page
    with_page =
        get_or-set_other two (slot_at p k + 2) (slot_at p k + 1) (place * 8 + rights) 0 (λ q. omega arith)
        ∙ get_or-set_same one (slot_at p k + 1) page 0 (omega (arith, length-set slots (slot_at p k) mark))

    pub with_third : third_of three p k ≡ place * 8 + rights
    with_third =
        get_or-set_same two (slot_at p k + 2) (place * 8 + rights) 0
        (omega (arith, length-set one (slot_at p k + 1) page, length-set slots (slot_at p k) mark))

    module _ (small : rights < 8) where
      pub with_place : place_in three p k ≡ place
      with_place = ap (λ (x : ℕ). x / 8) with_third ∙ omega arith

      pub with_rights_lem : rights_in three p k ≡ rights
      with_rights_lem = ap (λ (x : ℕ). x % 8) with_third ∙ omega arith

pub emptied-here : (p k : ℕ) (slots : List ℕ) → k < slot_count → Room slots p → Empty (emptied p k slots) p k
emptied-here p k slots h room = record {
  mark = with_mark p k 0 0 0 0 slots h room;
  page = with_page p k 0 0 0 0 slots h room;
  third = with_third p k 0 0 0 0 slots h room;
}

-- ---- a step at each slot of p

-- the step of slot j changes no other slot
pub record Local (p : ℕ) (f : ℕ → List ℕ → List ℕ) : Type 0 where
  pub kept : (j : ℕ) (slots : List ℕ) → length (f j slots) ≡ length slots
  pub other : (j : ℕ) (slots : List ℕ) (p' k' : ℕ) → j < slot_count → k' < slot_count → (p' ≡ p → k' ≡ j → ⊥) → SameSlot slots (f j slots) p' k'

module _ {p : ℕ} {f : ℕ → List ℕ → List ℕ} (own : Local p f) (slots : List ℕ) where
  pub each-length : (n : ℕ) → length (each n f slots) ≡ length slots
  unfolding each
  each-length zero = refl
  each-length (suc n) = own.kept n (each n f slots) ∙ each-length n

  pub each_other : (n : ℕ) → n ≤ slot_count → (p' k' : ℕ) → k' < slot_count → (p' ≡ p → k' < n → ⊥) → SameSlot slots (each n f slots) p' k'
  unfolding each
  each_other zero le p' k' h ne = same_self slots p' k'
  each_other (suc n) le p' k' h ne =
      same-on (each_other n (omega arith) p' k' h (λ q l. ne q (omega arith)))
      (own.other n (each n f slots) p' k' (omega arith) h (λ q r. ne q (omega arith)))

  -- slot k is as its own step leaves it
  pub each-here : (n : ℕ) → n ≤ slot_count → (k : ℕ) → k < n → SameSlot (f k (each k f slots)) (each n f slots) p k
  unfolding each
  each-here zero le k h = absurd (omega arith)
  each-here (suc n) le k h = go (ℕ_discrete k n) (each-here n (omega arith) k)
    where
      go : Dec (k ≡ n) → (k < n → SameSlot (f k (each k f slots)) (each n f slots) p k) → SameSlot (f k (each k f slots)) (f n (each n f slots)) p k
      go (yes q) more = rw q (same_self (f n (each n f slots)) p n)
      go (no ne) more = same-on (more (omega arith)) (own.other n (each n f slots) p k (omega arith) (omega arith) (λ q r. ne r))

-- ---- all slots of p are emptied

emptied-own : (p : ℕ) → Local p (emptied p)
emptied-own p = record {
  kept = λ j slots. with_length p j 0 0 0 0 slots;
  other = λ j slots p' k' hj h ne. with_other p j 0 0 0 0 slots p' k' hj h ne;
}

module _ (p : ℕ) (slots : List ℕ) where
  pub empty_slots-length : length (empty_slots p slots) ≡ length slots
  unfolding empty_slots
  empty_slots-length = each-length (emptied-own p) slots slot_count

  pub empty_slots_other : (p' k : ℕ) → k < slot_count → (p' ≡ p → ⊥) → SameSlot slots (empty_slots p slots) p' k
  unfolding empty_slots
  empty_slots_other p' k h ne = each_other (emptied-own p) slots slot_count (omega arith) p' k h (λ q l. ne q)

  pub empty_slots-here : (k : ℕ) → k < slot_count → Room slots p → Empty (empty_slots p slots) p k
  unfolding empty_slots
  empty_slots-here k h room =
      same_empty (each-here (emptied-own p) slots slot_count (omega arith) k h)
      (emptied-here p k (each k (emptied p) slots) h (omega (arith, each-length (emptied-own p) slots k)))

-- ---- the flush of a page

module _ (p page : ℕ) where
  -- what a flush spares: an empty slot, a complete one of another page
  abbrev pub Spared : List ℕ → ℕ → Type 0
  Spared slots k = (mark_of slots p k ≡ 0) ⊎ ((mark_of slots p k ≡ 1) × (page_in slots p k ≡ page → ⊥))

  flush-at : (k : ℕ) (slots : List ℕ) → ((slots ≡ flushed p page k slots) × Spared slots k) ⊎ (emptied p k slots ≡ flushed p page k slots)
  unfolding flushed
  flush-at k slots = go (ltb 1 mark) refl (eqb mark 1) refl (eqb (page_in slots p k) page) refl
    where
      mark : ℕ
      mark = mark_of slots p k

      go : (a : Bool) → ltb 1 mark ≡ a → (b : Bool) → eqb mark 1 ≡ b → (c : Bool) → eqb (page_in slots p k) page ≡ c
          → ((slots ≡ cond (a || b && c) (emptied p k slots) slots) × Spared slots k) ⊎ (emptied p k slots ≡ cond (a || b && c) (emptied p k slots) slots)
      go true partial b one c same = inr refl
      go false low true one true same = inr refl
      go false low true one false other = inl (refl, inr (eqb-true mark 1 one, eqb-false (page_in slots p k) page other))
      go false low false none c same = inl (refl, inl (omega (arith, ltb-false 1 mark low, eqb-false mark 1 none)))

  flushed-own : Local p (flushed p page)
  flushed-own = record {
    kept = λ j slots. by_cases (flush-at j slots) (λ x. sym (ap length x.0)) (λ e. sym (ap length e) ∙ with_length p j 0 0 0 0 slots);
    other = λ j slots p' k' hj h ne.
        by_cases (flush-at j slots)
        (λ x. subst (λ (l : List ℕ). SameSlot slots l p' k') x.0 (same_self slots p' k'))
        (λ e. subst (λ (l : List ℕ). SameSlot slots l p' k') e (with_other p j 0 0 0 0 slots p' k' hj h ne));
  }

  module _ (slots : List ℕ) where
    pub flush-length : length (flush p page slots) ≡ length slots
    unfolding flush
    flush-length = each-length flushed-own slots slot_count

    pub flush_others : (p' k : ℕ) → k < slot_count → (p' ≡ p → ⊥) → SameSlot slots (flush p page slots) p' k
    unfolding flush
    flush_others p' k h ne = each_other flushed-own slots slot_count (omega arith) p' k h (λ q l. ne q)

    -- EACH SLOT OF p IS SPARED OR EMPTIED
    pub flush-here : (k : ℕ) → k < slot_count → Room slots p → (SameSlot slots (flush p page slots) p k × Spared slots k) ⊎ Empty (flush p page slots) p k
    unfolding flush
    flush-here k h room =
        by_cases (flush-at k now)
        (λ x. inl (same-on before (subst (λ (l : List ℕ). SameSlot l (flush p page slots) p k) (sym x.0) after), spared x.1))
        (λ e. inr (same_empty (subst (λ (l : List ℕ). SameSlot l (flush p page slots) p k) (sym e) after) (emptied-here p k now h (omega (arith, each-length flushed-own slots k)))))
      where
        -- the slots when slot k has its turn
        now : List ℕ
        now = each k (flushed p page) slots

        before : SameSlot slots now p k
        before = each_other flushed-own slots k (omega arith) p k h (λ q l. omega arith)

        after : SameSlot (flushed p page k now) (flush p page slots) p k
        after = each-here flushed-own slots slot_count (omega arith) k h

        spared : Spared now k → Spared slots k
        spared w = by_cases w (λ z. inl (sym before.mark ∙ z)) (λ x. inr (sym before.mark ∙ x.0, λ q. x.1 (before.page ∙ q)))
