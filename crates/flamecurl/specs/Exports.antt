-- The C interface: each call promises what the library's call promises, and puts its answer into a lent buffer as numbers.
use Rattle.std.specs.Prelude.{◌≡◌, List, [], ◌∷◌, ℕ, length, get_or, Result}
use Rattle.rules.specs.declared.Event.{Event}
use Rattle.rules.specs.declared.Question.{Question}
use Rattle.tables.specs.declared.Sizes.{Sizes}
use Rattle.tables.specs.State.{State, machine64}
use Rattle.rules.specs.declared.Refusal.{Refusal}
use Rattle.rules.specs.Refusal.{refusal_of}
use Rattle.listing.specs.Call.{Asked, Lent, ListCall}
use Rattle.shadow.specs.declared.Answer.{Answer}
use Rattle.shadow.specs.After.{after}
use Rattle.puzzle.specs.Buffers.{ReadResult, Accepted, Refused, Buffers, read_call}
use Rattle.trainer.specs.declared.Told.{Told}
use Rattle.trainer.specs.declared.Told.TheVariants.{Bytes, RefusedText, Refused as Unwritten}
use Rattle.trainer.specs.Call.{Lines, Call}
use Rattle.shadow.specs.Answer.{replies}
use Rattle.shadow.specs.Setup.{after_setup}
use Rattle.listing.specs.Call as listing
use Rattle.shadow.specs.Answer as shadow
use Rattle.shadow.specs.After as machine
use Rattle.puzzle.specs.Buffers as puzzle

-- ---- sizes, events and questions go in as plain numbers

abbrev pub sizes_of : ℕ → ℕ → ℕ → ℕ → Sizes
sizes_of frames processors share base = record { frames = frames; processors = processors; share = share; base = base }

abbrev pub event_from : ℕ → ℕ → ℕ → ℕ → Event
event_from proc kind a b = record { proc = proc; kind = kind; a = a; b = b }

abbrev pub question_from : ℕ → ℕ → ℕ → Question
question_from proc addr request = record { proc = proc; addr = addr; request = request }

-- ---- answers come out as numbers: "A refusal returns its number, zeros else"

-- refusal, count
abbrev pub list_numbers : Result ℕ Refusal → List ℕ
list_numbers r = refusal_of r ∷ listing.count_of r ∷ []

-- "Answer: refusal, kind …, value"
abbrev pub event_numbers : Result Answer ℕ → List ℕ
event_numbers r = shadow.refusal_of r ∷ shadow.kind_of r ∷ shadow.value_of r ∷ []

-- refusal, line, then the counts of the five sections
abbrev pub read_numbers : ReadResult → List ℕ
read_numbers (Accepted g p w e q) = 0 ∷ 0 ∷ g ∷ p ∷ w ∷ e ∷ q ∷ []
read_numbers (Refused n line) = n ∷ line ∷ 0 ∷ 0 ∷ 0 ∷ 0 ∷ 0 ∷ []

-- refusal, bytes written, then a refused text's number and line
abbrev pub written_numbers : Told → List ℕ
written_numbers (Bytes n) = 0 ∷ n ∷ 0 ∷ 0 ∷ []
written_numbers (RefusedText number line n) = 0 ∷ n ∷ number ∷ line ∷ []
written_numbers (Unwritten n) = n ∷ 0 ∷ 0 ∷ 0 ∷ []

-- ---- what every exported call promises

-- the library's call gave this result; its numbers stand in the buffer, and the first of them is returned
pub record Answered {A : Type 0} (numbers : A → List ℕ) (Gave : A → Type 0) (number : ℕ) (after : List ℕ) : Type 0 where
  pub result : A
  pub call : Gave result
  pub laid : after ≡ numbers result
  pub first : number ≡ get_or (numbers result) 0 0

-- an answer buffer of another length than `size` is refused with 1, and nothing changes
pub record Exported {A : Type 0} (size : ℕ) (numbers : A → List ℕ) (Gave : A → Type 0) (Kept : Type 0) (before : List ℕ) (number : ℕ) (after : List ℕ) : Type 0 where
  pub refused : (length before ≡ size → ⊥) → (number ≡ 1) × (after ≡ before) × Kept
  pub answered : length before ≡ size → Answered numbers Gave number after

-- ---- THE PROMISES OF THE C INTERFACE

abbrev pub ListExport : Asked → Lent → Lent → List ℕ → ℕ → List ℕ → Type 0
ListExport q before after = Exported 2 list_numbers (λ (r : Result ℕ Refusal). ListCall q before r after) (after ≡ before)

abbrev pub EventExport : Sizes → List ℕ → Event → State → State → List ℕ → ℕ → List ℕ → Type 0
EventExport z map e before after =
    Exported 3 event_numbers (λ (r : Result Answer ℕ). replies r after ≡ machine.after (machine64 z) map before e) (after ≡ before)

abbrev pub ReadExport : List ℕ → Buffers → Buffers → List ℕ → ℕ → List ℕ → Type 0
ReadExport text before after =
    Exported 7 read_numbers (λ (r : ReadResult). puzzle.after r after ≡ read_call text before) (after ≡ before)

-- `answers` and `run`, by what they print
abbrev pub PrintExport : Lines → List ℕ → List ℕ → List ℕ → List ℕ → ℕ → List ℕ → Type 0
PrintExport Of text before after = Exported 4 written_numbers (λ (r : Told). Call Of text before r after) (after ≡ before)

-- setup has no kind and no value to tell, so it has no answer buffer
pub record SetupExport (z : Sizes) (map cr3s : List ℕ) (before : State) (number : ℕ) (after : State) : Type 0 where
  pub result : Result Answer ℕ
  pub call : replies result after ≡ after_setup (machine64 z) map cr3s before
  pub first : number ≡ shadow.refusal_of result
