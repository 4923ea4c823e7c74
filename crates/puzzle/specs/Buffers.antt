-- The call `read`: its answer, and what the lent buffers hold after it.
use Rattle.std.specs.Prelude.{Bool, cond, ◌&&◌, List, [], ◌∷◌, ◌++◌, ℕ, ◌*◌, ◌/◌, eqb, leb, length, drop, set, replicate, Result, Ok, Err}
use Rattle.paging.specs.Layout.{frame_words}
use Rattle.puzzle.specs.declared.Counts.{Counts}
use Rattle.rules.specs.Refusal.{number_of}
use Rattle.sections.specs.declared.TextFault.{TextFault}
use Rattle.sections.specs.Sizes.{most_frames, most_processors, text_size, words_size, events_size, questions_size}
use Rattle.sections.specs.Sections.{Got, got, refused, Puzzle, puzzle_of}

pub record Buffers : Type 0 where
  pub map : List ℕ
  pub cr3s : List ℕ
  pub words : List ℕ
  pub events : List ℕ
  pub questions : List ℕ

abbrev pub buffers : List ℕ → List ℕ → List ℕ → List ℕ → List ℕ → Buffers
buffers map cr3s words events questions = record { map = map; cr3s = cr3s; words = words; events = events; questions = questions }

-- what `read` says: the count of each section, or a refusal number and its line
pub data ReadResult : Type 0 where
  Accepted : ℕ → ℕ → ℕ → ℕ → ℕ → ReadResult
  Refused : ℕ → ℕ → ReadResult

abbrev pub result_of : Result Counts TextFault → ReadResult
result_of (Ok n) = Accepted n.frames n.processors n.words n.events n.questions
result_of (Err fault) = Refused (number_of fault.refusal) fault.line

pub record After : Type 0 where
  pub result : ReadResult
  pub buffers : Buffers

abbrev pub after : ReadResult → Buffers → After
after r b = record { result = r; buffers = b }

-- word, value, word, value ..: each word becomes its value
unfoldable pub with_pairs : List ℕ → List ℕ → List ℕ
with_pairs (word ∷ value ∷ pairs) words = with_pairs pairs (set words word value)
with_pairs (word ∷ []) words = words
with_pairs [] words = words

-- the guest's 512×G words at the start: "Other words are 0."
unfoldable pub words_of : Puzzle → List ℕ
words_of z = with_pairs z.pairs (replicate (frame_words * length z.map) 0)

-- the new elements in front; all later elements stay
unfoldable pub laid : List ℕ → List ℕ → List ℕ
laid new old = new ++ drop (length new) old

abbrev pub filled : Puzzle → Buffers → Buffers
filled z b = record {
  map = laid z.map b.map;
  cr3s = laid z.cr3s b.cr3s;
  words = laid (words_of z) b.words;
  events = laid z.events b.events;
  questions = laid z.questions b.questions;
}

-- the count of each section
abbrev pub counts_of : Puzzle → ReadResult
counts_of z = Accepted (length z.map) (length z.cr3s) (length z.pairs / 2) (length z.events / 4) (length z.questions / 3)

abbrev pub verdict_of : Got Puzzle → ReadResult
verdict_of (got z at) = counts_of z
verdict_of (refused number line) = Refused number line

-- "A refusal … changes nothing."
abbrev pub changed : Got Puzzle → Buffers → Buffers
changed (got z at) b = filled z b
changed (refused number line) b = b

abbrev pub answer : Got Puzzle → Buffers → After
answer m b = after (verdict_of m) (changed m b)

-- "a length … outside Sizes"; "1 (over-long, line 0) first": the programs take 65,536 bytes of text
abbrev pub sized : List ℕ → Buffers → Bool
sized text b =
    leb (length text) text_size && eqb (length b.map) most_frames && eqb (length b.cr3s) most_processors && eqb (length b.words) words_size
    && eqb (length b.events) events_size && eqb (length b.questions) questions_size

unfoldable pub read_call : List ℕ → Buffers → After
read_call text b = cond (sized text b) (answer (puzzle_of text) b) (after (Refused 1 0) b)
