-- What the functions of this crate ask of a cursor, and what their results say.
use Rattle.std.specs.Prelude.{◌≡◌, cond, List, ℕ, ◌+◌, ◌^◌, ◌≤◌, ltb, length, drop, Option, Some, None, Result, Ok, Err}
use Rattle.cursor.specs.declared.Cursor.{Cursor}
use Rattle.cursor.specs.declared.Digits.{Digits}
use Rattle.cursor.specs.declared.NoNumber.{NoNumber}
use Rattle.cursor.specs.declared.Number.{Number}
use Rattle.cursor.specs.Text.{line_at, run, value_of, next_at}

-- a cursor of this text
pub record Stands (text : List ℕ) (c : Cursor) : Type 0 where
  pub inside : c.at ≤ length text
  pub lined : c.line ≡ line_at text c.at

-- the run of digits at a place: its value and the place after it
abbrev pub digits_at : List ℕ → ℕ → Option Digits
digits_at text at =
    let digits = run (drop at text) in
    cond (ltb (value_of digits) (2 ^ 64)) (Some (record { value = value_of digits; end = at + length digits })) None

-- the cursor past a number; where there is none it stays
abbrev pub past_number : Result Number NoNumber → Cursor → Cursor
past_number (Ok n) c = n.after
past_number (Err e) c = c

-- a step over a lent cursor: its answer, and the cursor after it
pub record Stepped (text : List ℕ) (c : Cursor) (r : Result Number NoNumber) (after : Cursor) : Type 0 where
  pub answer : r ≡ next_at text c.at
  pub moved : after ≡ past_number r c
