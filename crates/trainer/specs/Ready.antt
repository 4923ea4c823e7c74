-- What the lists of a puzzle must be for its lines to be printed.
use Rattle.std.specs.Prelude.{◌≡◌, List, ℕ, ◌/◌, ◌^◌, ◌≤◌, ◌<◌, length, get_or}
use Rattle.rules.specs.declared.Question.{Question}
use Rattle.listing.specs.Call.{asked, lent, list_refusal}
use Rattle.puzzle.specs.Buffers.{Buffers}
use Rattle.rules.specs.Numbers.{question_of}
use Rattle.sections.specs.Sizes.{words_size, events_size, questions_size}
use Rattle.trainer.specs.Run.{Startable}

module _ (b : Buffers) (q : Question) where
  -- the list call takes this question, with 640 work bytes and 38 numbers for outcomes; host addresses are numbers of 64 bits
  pub record Posed : Type 0 where
    pub taken : (work outcomes : List ℕ) → length work ≡ 640 → length outcomes ≡ 38 → list_refusal (asked b.map b.cr3s b.events q) (lent b.words work outcomes) ≡ 0
    pub hosts : (f : ℕ) → f < length b.map → get_or b.map f 0 < 2 ^ 40

-- every question can be asked, and the machine can start
pub record Printable (b : Buffers) : Type 0 where
  pub words : length b.words ≤ words_size
  pub few : length b.questions ≤ questions_size
  pub events : length b.events ≤ events_size
  pub starts : Startable b.map b.cr3s
  pub each : (k : ℕ) → k < length b.questions / 3 → Posed b (question_of b.questions k)
