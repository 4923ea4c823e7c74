-- "Entries and requests", first paragraph: where an entry lies, and what its bits say.
use Rattle.std.specs.Prelude.{Bool, ◌||◌, List, ℕ, ◌+◌, ◌-◌, ◌*◌, ◌/◌, ◌%◌, ◌^◌, eqb, ltb, leb, get_or, set}

abbrev pub bit : ℕ → ℕ → ℕ
bit e k = e / 2 ^ k % 2

-- "G frames of 512 words of 64 bits"
abbrev pub frame_words : ℕ
frame_words = 512

-- what one kind of tables fixes
pub record Layout : Type 0 where
  pub levels : ℕ
  pub index_bits : ℕ
  pub frame_bits : ℕ
  pub entry_bits : ℕ
  -- NX of an entry, and the entry that has NX alone
  pub nx : ℕ → ℕ
  pub nx_alone : ℕ
  -- the word in which entry i of frame f lies; entry i of a word; a word with e as its entry i
  pub place : ℕ → ℕ → ℕ
  pub part : ℕ → ℕ → ℕ
  pub join : ℕ → ℕ → ℕ → ℕ
  -- what a fetch adds to a fault's code
  pub fetch_adds : ℕ
  pub allowed : ℕ → Bool

-- "word i of frame f is word 512×f + i"
-- "12 to 51 the frame, 63 NX"
-- "An address is below 2^47, or at least 2^64 − 2^47."
abbrev pub tables64 : Layout
tables64 = record {
  levels = 4;
  index_bits = 9;
  frame_bits = 40;
  entry_bits = 64;
  nx = λ e. bit e 63;
  nx_alone = 2 ^ 63;
  place = λ f i. frame_words * f + i;
  part = λ i w. w;
  join = λ i w e. e;
  fetch_adds = 16;
  allowed = λ a. ltb a (2 ^ 47) || leb (2 ^ 64 - 2 ^ 47) a;
}

module _ (Y : Layout) where
  -- "Its page is bits 12 to 47."
  unfoldable pub page_of : ℕ → ℕ
  page_of a = a / 2 ^ 12 % 2 ^ (Y.index_bits * Y.levels)

  -- "The index at level l (4 down to 1) is the nine address bits starting at bit 12 + 9×(l−1)."
  -- Here of a page; `index_of_address` in proofs/Indices has it of an address.
  unfoldable pub index : ℕ → ℕ → ℕ
  index page l = page / 2 ^ (Y.index_bits * (l - 1)) % 2 ^ Y.index_bits

  -- the entry of an index in a frame, and the words with another entry in its place
  unfoldable pub get : List ℕ → ℕ → ℕ → ℕ
  get words f i = Y.part i (get_or words (Y.place f i) 0)

  unfoldable pub put : List ℕ → ℕ → ℕ → ℕ → List ℕ
  put words f i e = set words (Y.place f i) (Y.join i (get_or words (Y.place f i) 0) e)

  -- "Bit 0 P, 1 RW, 2 US, 5 A, 6 D, 12 to 51 the frame, 63 NX."
  unfoldable pub frame_of : ℕ → ℕ
  frame_of e = e / 2 ^ 12 % 2 ^ Y.frame_bits

  -- "Rights are one number: W + 2×U + 4×X."
  -- "W only if RW is 1, U only if US is 1, X only if NX is 0"
  unfoldable pub rights_of : ℕ → ℕ
  rights_of e = bit e 1 + 2 * bit e 2 + 4 * (1 - Y.nx e)

  -- the entry with P and A, with rights r, with D as d says, and with frame f
  unfoldable pub compose : ℕ → ℕ → ℕ → ℕ
  compose r d f = 1 + 2 * bit r 0 + 4 * bit r 1 + 32 + 64 * d + 2 ^ 12 * f + (1 - bit r 2) * Y.nx_alone

unfoldable pub is_present : ℕ → Bool
is_present e = eqb (bit e 0) 1

-- an entry with bit k set; A is bit 5 and D is bit 6
unfoldable pub with_bit : ℕ → ℕ → ℕ
with_bit k e = e + (1 - bit e k) * 2 ^ k

abbrev pub with_a : ℕ → ℕ
with_a e = with_bit 5 e

abbrev pub with_d : ℕ → ℕ
with_d e = with_bit 6 e
