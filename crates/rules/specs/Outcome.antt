-- "Outcomes of a question", and the one right list of them.
use Rattle.std.specs.Prelude.{◌↔◌, cond, ℕ, ◌+◌, ◌<◌, Ok, Err}
use mathlib.Core.List.{List, [], ◌∷◌, Memᴰ}
use Rattle.paging.specs.Walk.{Step}
use Rattle.paging.specs.declared.Walk.{Walk}
use Rattle.paging.specs.declared.Request.{Request}
use Rattle.paging.specs.declared.Stop.TheVariants.{Absent, Beyond, Complete}
use Rattle.paging.specs.Layout.{page_of}
use Rattle.paging.specs.Request.{request_of, enough}
use Rattle.rules.specs.declared.Event.{Event}
use Rattle.rules.specs.declared.Question.{Question}
use Rattle.rules.specs.declared.Outcome.{Outcome}
use Rattle.rules.specs.declared.Outcome.TheVariants.{Address, Fault}
use Rattle.rules.specs.History.{Setup, event_refusal}
use Rattle.rules.specs.View.{View, view_of, never}
use Rattle.rules.specs.Held.{Held}

-- What a held walk gives, by what it does at the end: "each guest frame of a held completed walk with enough rights; the
-- rights fault if a held completed walk lacks one; for each held partial walk, level 4 included, the fault its next
-- entry gives at the end". Base codes: "P is 0 … 0; a frame of G or more … 9; … lacks a needed right … 1".
abbrev pub given : Request → Walk → Step → List Outcome
given q w (Ok w') = []
given q w (Err Absent) = Fault (0 + q.adds) ∷ []
given q w (Err Beyond) = Fault (9 + q.adds) ∷ []
given q w (Err Complete) = cond (enough q w.rights) (Address w.frame) (Fault (1 + q.adds)) ∷ []

pub record Permitted (seen : View) (q : Request) (n : ℕ) (o : Outcome) : Type 0 where
  pub walk : Walk
  pub held : Held seen n walk
  pub gives : Memᴰ o (given q walk (seen.steps n walk))

-- "(0, frame) … by rising frame, then (1, code) by rising code, each once"
abbrev pub Before : Outcome → Outcome → Type 0
Before (Address f) (Address g) = f.0 < g.0
Before (Address f) (Fault c) = Unit {0}
Before (Fault c) (Address f) = ⊥
Before (Fault c) (Fault d) = c < d

abbrev pub Rises : List Outcome → Type 0
Rises [] = Unit {0}
Rises (x ∷ xs) = ((y : Outcome) → Memᴰ y xs → Before x y) × Rises xs

-- a list is right if it rises and holds exactly the permitted outcomes
pub record RightList (seen : View) (q : Request) (n : ℕ) (os : List Outcome) : Type 0 where
  pub rises : Rises os
  pub exact : (o : Outcome) → Memᴰ o os ↔ Permitted seen q n o

-- the list of a question at moment n
abbrev pub RightAt : Setup → List Event → Question → ℕ → List Outcome → Type 0
RightAt U es q n os = RightList (view_of U es q.proc (page_of U.tables q.addr) never) (request_of U.tables q.request) n os

-- a question is tested as the access that it asks about
abbrev pub question_refusal : Setup → Question → ℕ
question_refusal U q = event_refusal U (record { proc = q.proc; kind = 4; a = q.addr; b = q.request })
