-- "Refusal numbers": a table of tests, each under its number.
use Rattle.std.specs.Prelude.{Bool, cond, List, [], ◌∷◌, ℕ, Result, Ok, Err}
use Rattle.rules.specs.declared.Refusal.{Refusal}
use Rattle.rules.specs.declared.Refusal.TheVariants.{WrongSizes, WrongMap, Unlawful, NoProcessor, WrongAddress, NoRequest, NoFrame, NoWord, NoSlot, NoNumber, OutOfRange, TooFewTables}

-- the number of each refusal
abbrev pub number_of : Refusal → ℕ
number_of WrongSizes = 1
number_of WrongMap = 2
number_of Unlawful = 3
number_of NoProcessor = 4
number_of WrongAddress = 5
number_of NoRequest = 6
number_of NoFrame = 7
number_of NoWord = 8
number_of NoSlot = 9
number_of NoNumber = 10
number_of OutOfRange = 11
number_of TooFewTables = 12

-- the number under which a call was refused; 0 if it was not
abbrev pub refusal_of : {A : Type 0} → Result A Refusal → ℕ
refusal_of (Ok x) = 0
refusal_of (Err r) = number_of r

pub record Test : Type 0 where
  pub number : ℕ
  pub met : Bool

abbrev pub test : ℕ → Bool → Test
test n b = record { number = n; met = b }

-- "Lowest number first." The number of the first test that is met; 0 is none.
unfoldable pub refusal : List Test → ℕ
refusal [] = 0
refusal (t ∷ ts) = cond t.met t.number (refusal ts)
