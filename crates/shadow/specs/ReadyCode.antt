-- What the event call has found out before it acts: numbers in range, and no more of the state than the code reads.
use Rattle.std.specs.Prelude.{◌≡◌, List, ℕ, ◌+◌, ◌*◌, ◌^◌, ◌≤◌, ◌<◌, length, get_or}
use Rattle.rules.specs.declared.Event.{Event}
use Rattle.tables.specs.declared.Sizes.{Sizes}
use Rattle.tables.specs.State.{machine64, record_size, table_count, root_of, shadows}
use Rattle.slots.specs.Slots.{slot_count, slots_size, mark_of, place_in}

-- p is one of the processors, and its slots are there
pub record Owner (z : Sizes) (slots : List ℕ) (p : ℕ) : Type 0 where
  pub own : p < z.processors
  pub triples : slots_size * p + slots_size ≤ length slots

pub record Ready (z : Sizes) (map records slots : List ℕ) (p : ℕ) : Type 0 where
  pub owner : Owner z slots p
  pub spare : 4 ≤ z.share
  pub guests : length map ≤ 256
  pub hosts : (i : ℕ) → get_or map i 0 < 2 ^ 40
  pub pairs : length records ≡ record_size * table_count (machine64 z)
  pub cr3 : (shadows records (root_of (machine64 z) p)).0 < 2 ^ 40

-- a partial slot has a level, and stands on a table
pub record Standing (slots : List ℕ) (p k : ℕ) : Type 0 where
  pub level : mark_of slots p k ≤ 5
  pub table : 1 < mark_of slots p k → place_in slots p k < 2 ^ 40

-- an event within the ranges of "Refusal numbers", for the words and slots that it names
pub record Fitting (words slots : List ℕ) (e : Event) : Type 0 where
  pub kind : (1 ≤ e.kind) × (e.kind ≤ 7)
  pub stores : e.kind ≡ 1 → e.a < length words
  pub requests : e.kind ≡ 4 → e.b < 6
  pub begins : e.kind ≡ 5 → e.b < slot_count
  pub extends : e.kind ≡ 6 → e.a < slot_count
  pub drops : e.kind ≡ 7 → e.a < slot_count
  pub stands : (k : ℕ) → k < slot_count → Standing slots e.proc k
