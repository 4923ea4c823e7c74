-- Events and questions as the numbers that buffers and texts hold.
use Rattle.std.specs.Prelude.{◌≡◌, ◌⊎◌, List, [], ◌∷◌, ℕ, ◌+◌, ◌*◌, ◌/◌, ◌<◌, length, get_or, Result, MatchResult}
use Rattle.paging.specs.Numbers.{tab}
use Rattle.rules.specs.declared.Event.{Event}
use Rattle.rules.specs.declared.Kind.{Kind}
use Rattle.rules.specs.declared.Kind.TheVariants.{Store, Invlpg, Cr3Write, Access, Begin, Extend, Drop}
use Rattle.rules.specs.declared.Refusal.{Refusal}
use Rattle.rules.specs.declared.Refusal.TheVariants.{OutOfRange}
use Rattle.rules.specs.declared.Question.{Question}

-- "Four numbers each: processor p, kind, a, b"
abbrev pub event_of : List ℕ → ℕ → Event
event_of ns k = record { proc = get_or ns (4 * k) 0; kind = get_or ns (4 * k + 1) 0; a = get_or ns (4 * k + 2) 0; b = get_or ns (4 * k + 3) 0 }

unfoldable pub events_of : List ℕ → List Event
events_of ns = tab (length ns / 4) (event_of ns)

-- and back
unfoldable pub numbers_of : List Event → List ℕ
numbers_of [] = []
numbers_of (e ∷ es) = e.proc ∷ e.kind ∷ e.a ∷ e.b ∷ numbers_of es

-- "questions (processor, address, request …)"
abbrev pub question_of : List ℕ → ℕ → Question
question_of ns k = record { proc = get_or ns (3 * k) 0; addr = get_or ns (3 * k + 1) 0; request = get_or ns (3 * k + 2) 0 }

-- "1 store … 2 INVLPG … 3 CR3 write … 4 access … 5 begin … 6 extend … 7 drop"
abbrev pub kind_number : Kind → ℕ
kind_number Store = 1
kind_number Invlpg = 2
kind_number Cr3Write = 3
kind_number Access = 4
kind_number Begin = 5
kind_number Extend = 6
kind_number Drop = 7

-- the kind with this number; no other number is a kind's
abbrev pub Decodes : ℕ → Result Kind Refusal → Type 0
Decodes number r = MatchResult r (λ kind. kind_number kind ≡ number) (λ e. (e ≡ OutOfRange) × ((number ≡ 0) ⊎ (7 < number)))
