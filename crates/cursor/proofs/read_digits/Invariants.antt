-- At every turn the digits that are left, after the value so far, write the same number and end at the same place.
use Rattle.std.proofs.Common.{◌≡◌, ◌+◌, ◌^◌, ◌<◌, length, drop}
use Rattle.cursor.specs.Text.{run, value_from, value_of}
use Rattle.cursor.proofs.read_digits.Given as goal

abbrev pub invariant-loop-i : goal.invariant-loop-i
invariant-loop-i l =
    (l.value < 2 ^ 64) × (value_from l.value (run (drop (l.from + l.i) l.text)) ≡ value_of (run (drop l.from l.text)))
    × (l.from + l.i + length (run (drop (l.from + l.i) l.text)) ≡ l.from + length (run (drop l.from l.text)))
