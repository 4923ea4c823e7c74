-- What `read` promises: a section stands in front of a buffer, or the first fault is told.
use Rattle.std.specs.Prelude.{◌≡◌, List, ℕ, ◌*◌, ◌≤◌, length, take, drop, Result, Ok, Err}
use Rattle.cursor.specs.declared.Cursor.{Cursor}
use Rattle.cursor.specs.declared.NoNumber.{NoNumber}
use Rattle.rules.specs.declared.Refusal.TheVariants.{NoNumber as NumberMissing, OutOfRange}
use Rattle.rules.specs.Refusal.{number_of}
use Rattle.sections.specs.declared.Section.{Section}
use Rattle.sections.specs.declared.Section.TheVariants.{Map, Cr3s, Words, Events, Questions}
use Rattle.sections.specs.declared.Part.{Part}
use Rattle.sections.specs.declared.TextFault.{TextFault}
use Rattle.sections.specs.Sizes.{most_frames, most_processors, pairs_size, events_size, questions_size}
use Rattle.sections.specs.Sections.{Got, got, refused}
use Rattle.cursor.specs.CursorCode.{Stands}

-- how many numbers a section has at most
abbrev pub capacity : Section → ℕ
capacity Map = most_frames
capacity Cr3s = most_processors
capacity Words = pairs_size
capacity Events = events_size
capacity Questions = questions_size

-- a buffer holds n numbers in front and is as it was after them
pub record Kept (old new : List ℕ) (n : ℕ) : Type 0 where
  pub fits : n ≤ length new
  pub stays : drop n new ≡ drop n old

-- a section's n numbers stand in front of a buffer, and c stands after them in the text
pub record Front (m : Got (List ℕ)) (text old new : List ℕ) (n : ℕ) (c : Cursor) : Type 0 where
  pub says : m ≡ got (take n new) c.at
  pub kept : Kept old new n
  pub stands : Stands text c

-- 10 where no number can be read, 11 where one is out of range
abbrev pub fault_of : NoNumber → TextFault
fault_of none = record { refusal = NumberMissing; line = none.line }

abbrev pub out_of_range : Cursor → TextFault
out_of_range after = record { refusal = OutOfRange; line = after.line }

abbrev pub PartIs : Got (List ℕ) → ℕ → List ℕ → List ℕ → List ℕ → Result Part TextFault → Type 0
PartIs m w text old new (Ok part) = Front m text old new (part.count * w) part.after
PartIs m w text old new (Err fault) = m ≡ refused (number_of fault.refusal) fault.line
