-- What `answers` and `run` print, as the list of its bytes.
use Rattle.std.specs.Prelude.{List, [], ◌∷◌, ◌++◌, ℕ, length}
use Rattle.cursor.specs.Text.{spaced}
use Rattle.paging.specs.Frame.{host_of, host_address}
use Rattle.rules.specs.declared.Question.{Question}
use Rattle.rules.specs.declared.Outcome.{Outcome}
use Rattle.rules.specs.declared.Outcome.TheVariants.{Address, Fault}

-- a letter and its numbers
abbrev pub line : ℕ → List ℕ → List ℕ
line letter ns = letter ∷ spaced ns

-- "`R number line`"
abbrev pub render_refusal : ℕ → ℕ → List ℕ
render_refusal number at = line 82 (number ∷ at ∷ [])

-- "`A frame hostaddress` and `F code` lines": an address is "the address in its mapped host frame"
abbrev pub render_outcome : List ℕ → ℕ → Outcome → List ℕ
render_outcome map addr (Address f) = line 65 (f.0 ∷ host_address (host_of map f) addr ∷ [])
render_outcome map addr (Fault code) = line 70 (code ∷ [])

unfoldable pub render_outcomes : List ℕ → ℕ → List Outcome → List ℕ
render_outcomes map addr [] = []
render_outcomes map addr (o ∷ os) = render_outcome map addr o ++ render_outcomes map addr os

-- "per question `Q processor address request count`, then …"
abbrev pub render_question : List ℕ → Question → List Outcome → List ℕ
render_question map q os = line 81 (q.proc ∷ q.addr ∷ q.request ∷ length os ∷ []) ++ render_outcomes map q.addr os

-- "per event `E index kind value`"
abbrev pub render_event : ℕ → ℕ → ℕ → List ℕ
render_event index kind value = line 69 (index ∷ kind ∷ value ∷ [])
