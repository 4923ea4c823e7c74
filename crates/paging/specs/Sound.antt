-- What theorems ask of a layout. Everything proved of tables is proved from this record, never from a layout's numbers.
use Rattle.std.specs.Prelude.{◌≡◌, ◌⊎◌, ℕ, ◌-◌, ◌*◌, ◌/◌, ◌%◌, ◌^◌, ◌≤◌, ◌<◌}
use Rattle.paging.specs.Layout.{Layout, frame_words, bit, frame_of, rights_of, compose, with_bit}

-- two entries that agree in all bits but 5 and 6, A and D
pub record Alike (e d : ℕ) : Type 0 where
  pub low : e % 32 ≡ d % 32
  pub high : e / 128 ≡ d / 128

-- A is bit 5 and D is bit 6
abbrev pub Flag : ℕ → Type 0
Flag k = (k ≡ 5) ⊎ (k ≡ 6)

pub record Sound (Y : Layout) : Type 0 where
  pub some_level : 0 < Y.levels
  pub few_levels : Y.levels ≤ 4
  -- entry i of frame f lies in frame f
  pub in_frame : (f i : ℕ) → i < 2 ^ Y.index_bits → Y.place f i / frame_words ≡ f
  -- an entry that is put in is found again, and the others of its word stay
  pub joined : (i w e : ℕ) → e < 2 ^ Y.entry_bits → Y.part i (Y.join i w e) ≡ e
  pub beside : (f i j w e : ℕ) → i < 2 ^ Y.index_bits → j < 2 ^ Y.index_bits → (i ≡ j → ⊥) → Y.place f i ≡ Y.place f j
      → e < 2 ^ Y.entry_bits → Y.part j (Y.join i w e) ≡ Y.part j w
  -- so is an entry in which A or D is set, whatever its word holds
  pub bit_set : (k i w : ℕ) → Flag k → Y.part i (Y.join i w (with_bit k (Y.part i w))) ≡ with_bit k (Y.part i w)
  pub bit_beside : (k f i j w : ℕ) → Flag k → i < 2 ^ Y.index_bits → j < 2 ^ Y.index_bits → (i ≡ j → ⊥) → Y.place f i ≡ Y.place f j
      → Y.part j (Y.join i w (with_bit k (Y.part i w))) ≡ Y.part j w
  -- a word that is 0 has no entry but 0
  pub zero_part : (i : ℕ) → Y.part i 0 ≡ 0
  -- NX is neither A nor D
  pub nx_alike : {e d : ℕ} → Alike e d → Y.nx e ≡ Y.nx d
  -- a composed entry has its frame and its NX; a layout with no NX grants X always
  pub composed_frame : (r d f : ℕ) → d < 2 → f < 2 ^ Y.frame_bits → frame_of Y (compose Y r d f) ≡ f
  pub composed_nx : (r d f : ℕ) → d < 2 → f < 2 ^ Y.frame_bits → (Y.nx_alone ≡ 0 → bit r 2 ≡ 1)
      → Y.nx (compose Y r d f) ≡ 1 - bit r 2
  -- NX lies above A and D, so the bits below it are the sum's own
  pub nx_high : (x : ℕ) → x * Y.nx_alone % 2 ^ 12 ≡ 0

-- and for tables of a machine: there is a level above the last, a composed entry is an entry, and without NX X is always granted
pub record Laid (Y : Layout) : Type 0 where
  pub sound : Sound Y
  pub upper : 1 < Y.levels
  pub fits : (r d f : ℕ) → r < 8 → d < 2 → f < 2 ^ Y.frame_bits → compose Y r d f < 2 ^ Y.entry_bits
  pub grants : (e : ℕ) → Y.nx_alone ≡ 0 → bit (rights_of Y e) 2 ≡ 1
