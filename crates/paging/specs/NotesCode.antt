-- In the form of the code: how a repeated map frame is found by notes. Nobody has to believe this; `map_fits` says what is found.
use Rattle.std.specs.Prelude.{List, ◌≡◌, ℕ, ◌/◌, ◌%◌, ◌^◌, ◌<◌, length, get_or}
use Rattle.std.specs.Int.Bits.{bit_xor}

-- where a frame is noted: frames noted at different places differ
abbrev pub noted_at : ℕ → ℕ
noted_at f = bit_xor f (f / 2 ^ 12) % 2 ^ 12

-- the first n frames of a map are noted
pub record Noted (map notes : List ℕ) (n : ℕ) : Type 0 where
  pub room : length notes ≡ 4096
  pub each : (k : ℕ) → k < n → get_or notes (noted_at (get_or map k 0)) 0 ≡ 1
