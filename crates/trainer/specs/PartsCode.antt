-- What the functions below `answers` and `run` ask for and leave.
use Rattle.std.specs.Prelude.{Result, ◌≡◌, List, [], ℕ, ◌+◌, ◌/◌, ◌≤◌, length}
use Rattle.rules.specs.declared.Event.{Event}
use Rattle.rules.specs.declared.Refusal.{Refusal}
use Rattle.rules.specs.declared.Question.{Question}
use Rattle.rules.specs.declared.Outcome.{Outcome}
use Rattle.puzzle.specs.Buffers.{Buffers, buffers}
use Rattle.rules.specs.Numbers.{events_of}
use Rattle.render.specs.declared.Printer.{Printer}
use Rattle.render.specs.Render.{render_question}
use Rattle.render.specs.WrittenCode.{Puts}
use Rattle.tables.specs.State.{Machine, machine64, State, shadow_of, state_of}
use Rattle.shadow.specs.declared.Answer.{Answer}
use Rattle.shadow.specs.Answer.{by_number, replies}
use Rattle.shadow.specs.After.{after}
use Rattle.shadow.specs.Setup.{after_setup}
use Rattle.trainer.specs.declared.Written.{Written}
use Rattle.trainer.specs.declared.lists.Lists.{Lists}
use Rattle.trainer.specs.declared.Session.{Session}
use Rattle.trainer.specs.declared.Program.{Program}
use Rattle.trainer.specs.declared.Program.TheVariants.{Answers, Run}
use Rattle.trainer.specs.Call.{joined, puzzle_in, text_told, told_of, Lines, Prints, output_size}
use Rattle.trainer.specs.Answers.{RightOf, AnswersOf}
use Rattle.trainer.specs.Run.{event_line, RunOf}

abbrev pub LinesOf : Program → Lines
LinesOf Answers = AnswersOf
LinesOf Run = RunOf

abbrev pub lists_of : Lists → Buffers
lists_of l = buffers l.map.now l.cr3s.now l.words.now l.events.now l.questions.now

module _ (b : Buffers) (q : Question) where
  -- the lines of the question were written
  pub record Answered (before after : Printer) : Type 0 where
    pub list : List Outcome
    pub right : RightOf b.map b.cr3s b.words b.events q list
    pub puts : Puts (render_question b.map q list) before after
    pub few : after.at ≤ before.at + 922

-- ---- the machine of a run

abbrev pub state_in : Session → State
state_in s = state_of s.words.now (shadow_of s.pool.now s.records.now) s.slots.now

-- setup was called, and the words and what the machine is made for stay
pub record Started (cr3s : List ℕ) (before after : Session) : Type 0 where
  pub answer : Result Answer ℕ
  pub call : replies answer (state_of [] (shadow_of after.pool.now after.records.now) after.slots.now)
      ≡ after_setup (machine64 before.sizes) before.map.now cr3s (state_of [] (shadow_of before.pool.now before.records.now) before.slots.now)
  pub words : after.words.now ≡ before.words.now
  pub sizes : after.sizes ≡ before.sizes
  pub map : after.map.now ≡ before.map.now

-- one event was taken
pub record Stepped (e : Event) (before : Session) (r : Result Answer Refusal) (next : Session) : Type 0 where
  pub call : replies (by_number r) (state_in next) ≡ after (machine64 before.sizes) before.map.now (state_in before) e
  pub sizes : next.sizes ≡ before.sizes
  pub map : next.map.now ≡ before.map.now

-- the lines of a run from a state were written
pub record EventsPut (M : Machine) (map : List ℕ) (start : State) (events : List ℕ) (before after : Printer) : Type 0 where
  pub puts : Puts (joined (length events / 4) (event_line M map start (events_of events))) before after
  pub few : after.at ≤ before.at + output_size

-- ---- a program

-- all lines were written
pub record AllPut (Of : Lines) (b : Buffers) (before after : Printer) : Type 0 where
  pub bytes : List ℕ
  pub lines : Of b bytes
  pub puts : Puts bytes before after
  pub few : after.at ≤ before.at + output_size

-- what the text stands for was printed
pub record PrintedTo (Of : Lines) (text : List ℕ) (r : Written) (before after : Printer) : Type 0 where
  pub bytes : List ℕ
  pub prints : Prints Of (puzzle_in text) bytes
  pub counted : text_told r ≡ told_of (puzzle_in text) (length bytes)
  pub puts : Puts bytes before after
  pub few : after.at ≤ before.at + output_size
