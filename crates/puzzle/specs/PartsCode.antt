-- What the functions below `read` promise.
use Rattle.std.specs.Prelude.{◌≡◌, Bool, true, false, List, ℕ, ◌*◌, ◌<◌, length, take, get_or, Result, Ok, Err}
use Rattle.cursor.specs.Text.{line_at, past_blanks}
use Rattle.rules.specs.Refusal.{number_of}
use Rattle.sections.specs.declared.TextFault.{TextFault}
use Rattle.sections.specs.Sections.{Got, got, refused, Puzzle, puzzle_of}
use Rattle.sections.specs.PartsCode.{Kept, fault_of}
use Rattle.puzzle.specs.declared.Counts.{Counts}
use Rattle.puzzle.specs.Buffers.{Buffers}
use Rattle.sections.specs.Sizes.{most_frames, most_processors, words_size, pairs_size, events_size, questions_size}

-- the end of the text after its last section: nothing but blanks, or the place of what is left over
abbrev pub EndIs : {A : Type 0} → List ℕ → ℕ → Result A TextFault → Type 0
EndIs text at (Ok x) = past_blanks text at ≡ length text
EndIs text at (Err fault) =
    (past_blanks text at ≡ length text → ⊥) × (fault ≡ fault_of (record { line = line_at text (past_blanks text at) }))

-- five lists
abbrev pub lists : List ℕ → List ℕ → List ℕ → List ℕ → List ℕ → Puzzle
lists map cr3s pairs events questions = record { map = map; cr3s = cr3s; pairs = pairs; events = events; questions = questions }

-- what stands in front of five buffers
abbrev pub fronts : Puzzle → ℕ → ℕ → ℕ → ℕ → ℕ → Puzzle
fronts b i j k l m = lists (take i b.map) (take j b.cr3s) (take k b.pairs) (take l b.events) (take m b.questions)

-- as many elements as the longest sections have numbers
pub record LongEnough (b : Puzzle) : Type 0 where
  pub map : length b.map ≡ most_frames
  pub cr3s : length b.cr3s ≡ most_processors
  pub pairs : length b.pairs ≡ pairs_size
  pub events : length b.events ≡ events_size
  pub questions : length b.questions ≡ questions_size

-- the text is a puzzle with these counts, and it stands in the buffers
pub record Whole (text : List ℕ) (old new : Puzzle) (n : Counts) : Type 0 where
  pub says : puzzle_of text ≡ got (fronts new n.frames n.processors (n.words * 2) (n.events * 4) (n.questions * 3)) (length text)
  pub map : Kept old.map new.map n.frames
  pub cr3s : Kept old.cr3s new.cr3s n.processors
  pub pairs : Kept old.pairs new.pairs (n.words * 2)
  pub events : Kept old.events new.events (n.events * 4)
  pub questions : Kept old.questions new.questions (n.questions * 3)

abbrev pub SectionsAre : List ℕ → Puzzle → Puzzle → Result Counts TextFault → Type 0
SectionsAre text old new (Ok n) = Whole text old new n
SectionsAre text old new (Err fault) = puzzle_of text ≡ refused (number_of fault.refusal) fault.line

-- each word of word and value pairs is below n
abbrev pub WordsBelow : ℕ → List ℕ → Type 0
WordsBelow n pairs = (i : ℕ) → i * 2 < length pairs → get_or pairs (i * 2) 0 < n

-- the lent buffers have their lengths
pub record Lengths (b : Buffers) : Type 0 where
  pub map : length b.map ≡ most_frames
  pub cr3s : length b.cr3s ≡ most_processors
  pub words : length b.words ≡ words_size
  pub events : length b.events ≡ events_size
  pub questions : length b.questions ≡ questions_size

abbrev pub accepts : Got Puzzle → Bool
accepts (got z at) = true
accepts (refused number line) = false
