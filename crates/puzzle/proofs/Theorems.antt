-- What the reader of a puzzle may rely on.
use mathlib.Core.Path.{◌≡◌, sym, ◌∙◌}
use mathlib.Core.Logic.{◌↔◌, ◌⊎◌}
use mathlib.Core.List.{List}
use Prim.Native.Nat.{ℕ, ◌*◌, ◌^◌, ◌<◌}
use lib.ListN.{length, get_or, length-replicate}
use Rattle.cursor.specs.Text.{value_of, digits_of}
use Rattle.paging.specs.Layout.{frame_words}
use Rattle.rules.specs.declared.Event.{Event}
use Rattle.rules.specs.History.{event_refusal, setup64}
use Rattle.rules.specs.Outcome.{question_refusal}
use Rattle.sections.specs.Sections.{got, refused, Puzzle, puzzle_of}
use Rattle.puzzle.specs.Buffers.{Buffers, After, result_of, words_of, read_call}
use Rattle.rules.specs.Numbers.{event_of, question_of}
use Rattle.puzzle.specs.Setup.{setup_of, InEvent}
use Rattle.puzzle.proofs.Accepted.{accepted}
use Rattle.puzzle.proofs.Fills.{length-stored}
use Rattle.puzzle.proofs.Fits.{frame_below, frames_differ, cr3-below, event-fits, question-fits, event-written, written-event}
use Rattle.paging.specs.Frame.{Distinct}
use Rattle.puzzle.specs.Lines.{InRange, lines_of}
use Rattle.puzzle.proofs.Back.{lines_back}
use Rattle.cursor.proofs.Decimals as decimals
use Rattle.puzzle.proofs.Faults as faults
use Rattle.puzzle.proofs.Results as results
use Rattle.std.specs.Prelude.{Result}
use Rattle.sections.specs.declared.TextFault.{TextFault}
use Rattle.puzzle.specs.declared.Counts.{Counts}

-- THE PROMISE OF `read` ALLOWS ONE RESULT AND ONE CONTENT OF EACH BUFFER, on every text and all buffers, refused or not
pub read_unique : (text : List ℕ) (before : Buffers) (x y : After) → x ≡ read_call text before → y ≡ read_call text before → x ≡ y
read_unique text before x y p q = p ∙ sym q

-- and what a result says is that result's alone
pub one_result : (x y : Result Counts TextFault) → result_of x ≡ result_of y → x ≡ y
one_result = results.one_result

-- A TEXT IS REFUSED WITH 10 OR 11
pub ten_or_eleven : (text : List ℕ) {number line : ℕ} → puzzle_of text ≡ refused number line → (number ≡ 10) ⊎ (number ≡ 11)
ten_or_eleven = faults.ten_or_eleven

-- READING BACK WHAT WAS WRITTEN: the digits of a number have its value
pub value_digits : (n : ℕ) → value_of (digits_of n) ≡ n
value_digits = decimals.value_digits

-- A PUZZLE CAN BE READ IF AND ONLY IF ITS SECTIONS ARE IN RANGE: what is read is in range, and a text made of lines in range is
-- accepted and gives those numbers
pub in_range_lem : (text : List ℕ) {z : Puzzle} {at : ℕ} → puzzle_of text ≡ got z at → InRange z
in_range_lem = accepted

pub lines_accepted : (z : Puzzle) → InRange z → puzzle_of (lines_of z) ≡ got z (length (lines_of z))
lines_accepted = lines_back

-- 11 STANDS FOR 4 TO 9 AND FOR THE RULES' OWN 11: the four numbers of an event are in range if and only if the rules do not refuse it
pub ranges_right : (G P : ℕ) → 0 < G → (words cr3s : List ℕ) (e : Event) → event_refusal (setup64 G P words cr3s) e ≡ 0 ↔ InEvent G P e
ranges_right G P some words cr3s e = (event-written G P some words cr3s e, λ i. written-event G P words cr3s e i)

-- OF AN ACCEPTED TEXT NOTHING IS REFUSED LATER
module _ (text : List ℕ) {z : Puzzle} {at : ℕ} (e : puzzle_of text ≡ got z at) where
  pub map_below : (i : ℕ) → i < length z.map → get_or z.map i 0 < 2 ^ 20
  map_below = frame_below (accepted text e).map

  pub map_distinct : Distinct z.map
  map_distinct = frames_differ (accepted text e).map

  pub cr3s_below : (p : ℕ) → p < length z.cr3s → get_or z.cr3s p 0 < length z.map
  cr3s_below = cr3-below (accepted text e).cr3s

  pub words_long : length (words_of z) ≡ frame_words * length z.map
  unfolding words_of
  words_long = length-stored z.pairs _ ∙ length-replicate (frame_words * length z.map) 0

  pub events_fit : (k : ℕ) → 4 * k < length z.events → event_refusal (setup_of z) (event_of z.events k) ≡ 0
  events_fit k h = event-fits (accepted text e).events k h (words_of z) z.cr3s

  pub questions_fit : (k : ℕ) → 3 * k < length z.questions → question_refusal (setup_of z) (question_of z.questions k) ≡ 0
  questions_fit k h = question-fits (accepted text e).questions k h (words_of z) z.cr3s
