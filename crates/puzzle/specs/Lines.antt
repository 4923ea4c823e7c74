-- Which puzzles there are texts of, and one text of each. `lines_accepted` (Theorems) says that it is read back.
use Rattle.std.specs.Prelude.{List, ◌++◌, ℕ, ◌/◌, length}
use Rattle.cursor.specs.Text.{digits_of, spaced}
use Rattle.sections.specs.declared.Section.{Section}
use Rattle.sections.specs.declared.Section.TheVariants.{Map, Cr3s, Words, Events, Questions}
use Rattle.sections.specs.Sections.{width, RangedSection, Puzzle}

-- all five sections are in range
pub record InRange (z : Puzzle) : Type 0 where
  pub map : RangedSection Map 0 0 z.map
  pub cr3s : RangedSection Cr3s (length z.map) 0 z.cr3s
  pub pairs : RangedSection Words (length z.map) (length z.cr3s) z.pairs
  pub events : RangedSection Events (length z.map) (length z.cr3s) z.events
  pub questions : RangedSection Questions (length z.map) (length z.cr3s) z.questions

-- "Sections in this order, each after its count", here one line for each
abbrev pub line_of : Section → List ℕ → List ℕ
line_of k ns = digits_of (length ns / width k) ++ spaced ns

unfoldable pub lines_of : Puzzle → List ℕ
lines_of z =
    line_of Map z.map
    ++ (line_of Cr3s z.cr3s
    ++ (line_of Words z.pairs
    ++ (line_of Events z.events
    ++ line_of Questions z.questions)))
