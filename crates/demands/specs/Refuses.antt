-- Demand 1: "on refusal returns document 01's number and changes no lent buffer". Of a call in C that puts its answer into a
-- lent buffer of `size` numbers.
use Rattle.std.specs.Prelude.{◌≡◌, cond, List, ◌∷◌, ℕ, ◌<◌, eqb, length, get_or}
use Rattle.puzzle.specs.Buffers.{Buffers, read_call}
use Rattle.flamecurl.specs.Exports.{read_numbers}

-- `refusal` is document 01's number for what was handed in; an answer buffer of another length is refused with 1
pub record Refuses {B : Type 0} (size refusal : ℕ) (zeros : List ℕ) (before after : B) (answer : List ℕ) (n : ℕ) (told : List ℕ) : Type 0 where
  pub number : n ≡ cond (eqb (length answer) size) refusal 1
  pub below : n < 12
  -- "A refusal returns its number, zeros else, and changes nothing."
  pub keeps : (n ≡ 0 → ⊥) → after ≡ before
  pub tells : (n ≡ 0 → ⊥) → told ≡ cond (eqb (length answer) size) (n ∷ zeros) answer

-- the number of a text and its line, as the promise of `read` has them
abbrev pub read_number : List ℕ → Buffers → ℕ
read_number text b = get_or (read_numbers (read_call text b).result) 0 0

abbrev pub read_line : List ℕ → Buffers → ℕ
read_line text b = get_or (read_numbers (read_call text b).result) 1 0
