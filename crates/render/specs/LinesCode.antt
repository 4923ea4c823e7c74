-- What the functions that write outcomes ask for and write, in the form of the code: outcomes as pairs of numbers.
use Rattle.std.specs.Prelude.{◌≡◌, cond, List, [], ◌∷◌, ◌++◌, ℕ, ◌+◌, ◌*◌, ◌/◌, ◌^◌, ◌<◌, eqb, length, get_or}
use Rattle.paging.specs.Frame.{guest, host_of, host_address}
use Rattle.rules.specs.declared.Question.{Question}
use Rattle.render.specs.Render.{line}

unfoldable pub pair_line : List ℕ → ℕ → ℕ → ℕ → List ℕ
pair_line map addr tag v = cond (eqb tag 0) (line 65 (v ∷ host_address (host_of map (guest v)) addr ∷ [])) (line 70 (v ∷ []))

unfoldable pub pair_lines : List ℕ → ℕ → List ℕ → List ℕ
pair_lines map addr (tag ∷ v ∷ ns) = pair_line map addr tag v ++ pair_lines map addr ns
pair_lines map addr (tag ∷ []) = []
pair_lines map addr [] = []

abbrev pub question_lines : List ℕ → Question → List ℕ → List ℕ
question_lines map q ns =
    line 81 (q.proc ∷ q.addr ∷ q.request ∷ (length ns / 2) ∷ []) ++ pair_lines map q.addr ns

-- the host address of a pair is a number of 64 bits
pub record Mapped (map : List ℕ) (tag v : ℕ) : Type 0 where
  pub small : tag ≡ 0 → get_or map v 0 < 2 ^ 40

abbrev pub AllMapped : List ℕ → List ℕ → Type 0
AllMapped map ns = (k : ℕ) → 2 * k + 1 < length ns → Mapped map (get_or ns (2 * k) 0) (get_or ns (2 * k + 1) 0)
