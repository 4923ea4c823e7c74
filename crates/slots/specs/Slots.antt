-- "8 hardware TLB slots": where a slot stands and what it says, which one serves an access, and the flush of a page.
use Rattle.std.specs.Prelude.{Bool, cond, ◌&&◌, ◌||◌, List, ℕ, ◌+◌, ◌*◌, ◌/◌, ◌%◌, ◌<◌, ◌≤◌, eqb, ltb, length, get_or, set}
use Rattle.paging.specs.declared.Request.{Request}
use Rattle.paging.specs.Request.{enough}
use Rattle.paging.specs.Numbers.{each, first}
use Rattle.slots.specs.declared.Slot.{Slot}

-- "8 hardware TLB slots"
abbrev pub slot_count : ℕ
slot_count = 8

-- "A slot is mark (0 empty, 1 complete, level+1 partial), page, and place×8 + rights": three numbers
abbrev pub slot_size : ℕ
slot_size = 3

-- "slots 24×P": the numbers of one processor
abbrev pub slots_size : ℕ
slots_size = slot_count * slot_size

-- p is one of four processors, and its numbers are there
abbrev pub HasSlots : ℕ → List ℕ → Type 0
HasSlots p slots = (p < 4) × (slots_size * p + slots_size ≤ length slots)

-- slot k of p: where it stands, and what it says
abbrev pub slot_at : ℕ → ℕ → ℕ
slot_at p k = slots_size * p + slot_size * k

abbrev pub mark_of : List ℕ → ℕ → ℕ → ℕ
mark_of slots p k = get_or slots (slot_at p k) 0

abbrev pub page_in : List ℕ → ℕ → ℕ → ℕ
page_in slots p k = get_or slots (slot_at p k + 1) 0

abbrev pub place_in : List ℕ → ℕ → ℕ → ℕ
place_in slots p k = get_or slots (slot_at p k + 2) 0 / 8

abbrev pub rights_in : List ℕ → ℕ → ℕ → ℕ
rights_in slots p k = get_or slots (slot_at p k + 2) 0 % 8

abbrev pub slot_of : List ℕ → ℕ → ℕ → Slot
slot_of slots p k = record { mark = mark_of slots p k; page = page_in slots p k; place = place_in slots p k; rights = rights_in slots p k }

abbrev pub with_slot : ℕ → ℕ → ℕ → ℕ → ℕ → ℕ → List ℕ → List ℕ
with_slot p k mark page place rights slots =
    set (set (set slots (slot_at p k) mark) (slot_at p k + 1) page) (slot_at p k + 2) (place * 8 + rights)

-- "empty is 0, 0, 0"
abbrev pub emptied : ℕ → ℕ → List ℕ → List ℕ
emptied p k slots = with_slot p k 0 0 0 0 slots

-- "a complete walk of the page and enough rights"
abbrev pub slot_serves : List ℕ → ℕ → ℕ → Request → ℕ → Bool
slot_serves slots p page q k =
    eqb (mark_of slots p k) 1 && eqb (page_in slots p k) page && enough q (rights_in slots p k)

-- "the lowest slot with a complete walk of the page and enough rights"; 8 is none
unfoldable pub serving_slot : List ℕ → ℕ → ℕ → Request → ℕ
serving_slot slots p page q = first slot_count (slot_serves slots p page q)

-- "the flush of v: p's partial slots and its complete slots of page v are emptied"
abbrev pub goes_with : List ℕ → ℕ → ℕ → ℕ → Bool
goes_with slots p page k = ltb 1 (mark_of slots p k) || eqb (mark_of slots p k) 1 && eqb (page_in slots p k) page

unfoldable pub flushed : ℕ → ℕ → ℕ → List ℕ → List ℕ
flushed p page k slots = cond (goes_with slots p page k) (emptied p k slots) slots

unfoldable pub flush : ℕ → ℕ → List ℕ → List ℕ
flush p page slots = each slot_count (flushed p page) slots

-- "p's slots are emptied"
unfoldable pub empty_slots : ℕ → List ℕ → List ℕ
empty_slots p slots = each slot_count (emptied p) slots
