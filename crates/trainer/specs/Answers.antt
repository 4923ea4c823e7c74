-- What `answers` promises: the lines of each question, from lists that are right.
use Rattle.std.specs.Prelude.{◌≡◌, List, ℕ, ◌/◌, ◌<◌, length}
use Rattle.rules.specs.declared.Question.{Question}
use Rattle.rules.specs.declared.Outcome.{Outcome}
use Rattle.rules.specs.History.{setup64}
use Rattle.rules.specs.Outcome.{RightAt}
use Rattle.rules.specs.Numbers.{events_of, question_of}
use Rattle.puzzle.specs.Buffers.{Buffers}
use Rattle.render.specs.Render.{render_question}
use Rattle.trainer.specs.declared.Told.{Told}
use Rattle.trainer.specs.Call.{joined, Lines, Call}

-- a list of outcomes of a question after all events is right; each question starts from the puzzle's own words
abbrev pub RightOf : List ℕ → List ℕ → List ℕ → List ℕ → Question → List Outcome → Type 0
RightOf map cr3s words events q os = RightAt (setup64 (length map) (length cr3s) words cr3s) (events_of events) q (length events / 4) os

-- "Program `answers` prints per question …": the bytes of the first n questions
pub record Rendering (b : Buffers) (n : ℕ) (bytes : List ℕ) : Type 0 where
  pub lists : ℕ → List Outcome
  pub right : (k : ℕ) → k < n → RightOf b.map b.cr3s b.words b.events (question_of b.questions k) (lists k)
  pub are : bytes ≡ joined n (λ k. render_question b.map (question_of b.questions k) (lists k))

abbrev pub AnswersOf : Lines
AnswersOf b bytes = Rendering b (length b.questions / 3) bytes

-- THE PROMISE OF `answers`
abbrev pub AnswersCall : List ℕ → List ℕ → Told → List ℕ → Type 0
AnswersCall = Call AnswersOf
