-- The next number, or the line where none can be read.
-- Each return is one case of the run of digits past the blanks.
use Rattle.std.proofs.Common.{length, drop, sym, ◌∙◌, arith}
use native.Mathlib.Nat.{pos_of_ne-zero}
use Rattle.cursor.specs.Text.{run}
use Rattle.cursor.proofs.DigitRuns.{value_told, first_inside, run_zero, run-one, run_other, none_here, number_here, here_inside}
use Rattle.cursor.proofs.next_number.Goals as goal
use Rattle.cursor.proofs.next_number.Goals.{else-text-at-eq48-via-then-text-at-eq48+else-end-at-2, else-text-at-eq48-via-else-text-at-eq48}

pub read_digits-requires : goal.read_digits-requires
read_digits-requires c = here_inside c.args.text.now c.args.c.at c.skip-at.ensures c.requires.inside

pub bounds-text-at : goal.bounds-text-at
bounds-text-at c =
    let s = c.args.text.now in
    let at = c.skip-at.result.at in
    let t = value_told s at (sym c.in_ok-value.ensures.ok_part ∙ c.read_digits.ensures) in
    first_inside s at (pos_of_ne-zero (λ z. c.if-end-at.false (omega arith)))

pub returns-then-end-at-2 : goal.returns-then-end-at-2
returns-then-end-at-2 c =
    let s = c.args.text.now in
    let at = c.skip-at.result.at in
    let t = value_told s at (sym c.in_ok-value.ensures.ok_part ∙ c.read_digits.ensures) in
    none_here s c.args.c.at c.skip-at.ensures (run_zero s at c.if-text-at-eq48.true (omega arith))

pub returns : goal.returns
returns c =
    let s = c.args.text.now in
    let at = c.skip-at.result.at in
    let t = value_told s at (sym c.in_ok-value.ensures.ok_part ∙ c.read_digits.ensures) in
    let some = pos_of_ne-zero {n = length (run (drop at s))} (λ z. c.if-end-at.false (omega arith)) in
    number_here s c.args.c.at c.skip-at.ensures
    (elim c.else-text-at-eq48.branch [
      | else-text-at-eq48-via-then-text-at-eq48+else-end-at-2 w ↦ run-one s at (omega arith) t.0
      | else-text-at-eq48-via-else-text-at-eq48 w ↦ run_other s at w.if-text-at-eq48.false some t.0
    ])
    t.1 t.2
