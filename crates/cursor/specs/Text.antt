-- "Decimal numbers parted by spaces and line feeds, no other bytes." What stands at a place of a text, and on which line.
-- A text is the list of its bytes; a place is the number of bytes before it.
use Rattle.std.specs.Prelude.{Bool, cond, not, ◌&&◌, ◌||◌, List, [], ◌∷◌, ◌++◌, ℕ, zero, suc, ◌+◌, ◌-◌, ◌*◌, ◌/◌, ◌%◌, ◌^◌, eqb, ltb, leb, length, take, drop, get_or, Result, Ok, Err}
use Rattle.cursor.specs.declared.Cursor.{Cursor}
use Rattle.cursor.specs.declared.NoNumber.{NoNumber}
use Rattle.cursor.specs.declared.Number.{Number}

unfoldable pub feeds : List ℕ → ℕ
feeds [] = 0
feeds (x ∷ xs) = cond (eqb x 10) 1 0 + feeds xs

-- "which line it has reached: 1 plus the line feeds before it"
abbrev pub line_at : List ℕ → ℕ → ℕ
line_at text at = 1 + feeds (take at text)

abbrev pub cursor_at : List ℕ → ℕ → Cursor
cursor_at text at = record { at = at; line = line_at text at }

-- how many spaces and line feeds stand in front
unfoldable pub blanks : List ℕ → ℕ
blanks [] = 0
blanks (x ∷ xs) = cond (eqb x 32 || eqb x 10) (1 + blanks xs) 0

abbrev pub past_blanks : List ℕ → ℕ → ℕ
past_blanks text at = at + blanks (drop at text)

abbrev pub is_digit : ℕ → Bool
is_digit x = leb 48 x && leb x 57

-- "A number is a longest run of digits."
unfoldable pub run : List ℕ → List ℕ
run [] = []
run (x ∷ xs) = cond (is_digit x) (x ∷ run xs) []

-- the number that digits write, after those of n
unfoldable pub value_from : ℕ → List ℕ → ℕ
value_from n [] = n
value_from n (x ∷ xs) = value_from (n * 10 + (x - 48)) xs

abbrev pub value_of : List ℕ → ℕ
value_of digits = value_from 0 digits

-- the digits of a number; `steps` of at least the number are enough
unfoldable pub digits_in : ℕ → ℕ → List ℕ
digits_in zero n = (48 + n) ∷ []
digits_in (suc steps) n = cond (ltb n 10) ((48 + n) ∷ []) (digits_in steps (n / 10) ++ (48 + n % 10) ∷ [])

abbrev pub digits_of : ℕ → List ℕ
digits_of n = digits_in n n

-- each number after a space, then a line feed
unfoldable pub spaced : List ℕ → List ℕ
spaced [] = 10 ∷ []
spaced (n ∷ ns) = 32 ∷ digits_of n ++ spaced ns

abbrev pub leading_zero : List ℕ → Bool
leading_zero digits = eqb (get_or digits 0 0) 48 && ltb 1 (length digits)

-- "bad byte, leading zero, 2^64 or more, number missing": at a bad byte and at the end there is no digit
abbrev pub is_number : List ℕ → Bool
is_number digits = ltb 0 (length digits) && not (leading_zero digits) && ltb (value_of digits) (2 ^ 64)

-- The next number from a place on, judged at its first byte.
-- "a bad byte's place is its own, any other fault's is the first byte of the number"; "a missing number is at the end"
abbrev pub next_at : List ℕ → ℕ → Result Number NoNumber
next_at text at =
    let here = past_blanks text at in
    let digits = run (drop here text) in
    cond (is_number digits) (Ok (record { value = value_of digits; after = cursor_at text (here + length digits) }))
    (Err (record { line = line_at text here }))
