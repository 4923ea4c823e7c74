-- What `answers` and `run` promise alike: from the bytes of a text to the bytes that are printed.
use Rattle.std.specs.Prelude.{◌≡◌, cond, List, [], ◌++◌, ℕ, zero, suc, ◌≤◌, leb, length, drop, Result, Ok, Err}
use Rattle.sections.specs.Sections.{Got, got, refused, Puzzle, puzzle_of}
use Rattle.puzzle.specs.Buffers.{Buffers, buffers, words_of}
use Rattle.render.specs.Render.{render_refusal}
use Rattle.rules.specs.declared.Refusal.{Refusal}
use Rattle.rules.specs.Refusal.{number_of}
use Rattle.trainer.specs.declared.Told.{Told}
use Rattle.trainer.specs.declared.Told.TheVariants.{Bytes, RefusedText, Refused}
use Rattle.trainer.specs.declared.Written.{Written}
use Rattle.trainer.specs.declared.Written.TheVariants.{Lines as Wrote, Refused as RefusedOne}
use Rattle.sections.specs.Sizes.{text_size}

-- f 0, f 1, .., f (n − 1), one behind the other
unfoldable pub joined : ℕ → (ℕ → List ℕ) → List ℕ
joined zero f = []
joined (suc n) f = joined n f ++ f n

-- the lists of a puzzle, with the guest's words at the start
abbrev pub posed : Puzzle → Buffers
posed z = buffers z.map z.cr3s (words_of z) z.events z.questions

-- "Text is refused with 1 (over-long, line 0) first": the programs take 65,536 bytes
abbrev pub puzzle_in : List ℕ → Got Puzzle
puzzle_in text = cond (leb (length text) text_size) (puzzle_of text) (refused 1 0)

-- what a call tells, in numbers
abbrev pub text_told : Written → Told
text_told (Wrote n) = Bytes n
text_told (RefusedOne fault n) = RefusedText (number_of fault.refusal) fault.line n

abbrev pub told : Result Written Refusal → Told
told (Ok w) = text_told w
told (Err r) = Refused (number_of r)

-- the answer where this was read and so many bytes were written
abbrev pub told_of : Got Puzzle → ℕ → Told
told_of (got z at) n = Bytes n
told_of (refused number line) n = RefusedText number line n

abbrev pub bytes_of : Told → ℕ
bytes_of (Bytes n) = n
bytes_of (RefusedText number line n) = n
bytes_of (Refused number) = 0

-- what a program prints of the lists of a puzzle
abbrev pub Lines : Type 1
Lines = Buffers → List ℕ → Type 0

-- room for every output
abbrev pub output_size : ℕ
output_size = 16384

module _ (Of : Lines) where
  -- "on refusal both print `R number line` and nothing else"
  abbrev pub Prints : Got Puzzle → List ℕ → Type 0
  Prints (got z at) bytes = Of (posed z) bytes
  Prints (refused number at) bytes = bytes ≡ render_refusal number at

  -- the output stands in front of the buffer, and later bytes stay; of a refused text its number and line are told too
  pub record Printed (text before : List ℕ) (r : Told) (after : List ℕ) : Type 0 where
    pub bytes : List ℕ
    pub prints : Prints (puzzle_in text) bytes
    pub fits : length bytes ≤ length before
    pub counted : r ≡ told_of (puzzle_in text) (length bytes)
    pub holds : after ≡ bytes ++ drop (length bytes) before

  -- a buffer of this size takes every output; one of another length is refused with 1
  pub record Call (text before : List ℕ) (r : Told) (after : List ℕ) : Type 0 where
    pub refused : (length before ≡ output_size → ⊥) → (r ≡ Refused 1) × (after ≡ before)
    pub printed : length before ≡ output_size → Printed text before r after
