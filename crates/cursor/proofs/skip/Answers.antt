-- The cursor stops past the blanks, on the line of that place.
use Rattle.std.proofs.Common.{◌≡◌, ℕ, ◌+◌, get_or, sym, ap, ◌∙◌, arith}
use mathlib.Core.Path.{ap₂}
use Rattle.cursor.specs.Text.{cursor_at}
use Rattle.cursor.proofs.Lines.{rest_inside, rest_over, rest_byte, line_feed, line_same, line_bound, blank_feed, blank_space, blank_none, blank_end}
use Rattle.cursor.proofs.skip.Goals as goal
use Rattle.cursor.proofs.skip.Goals.{in-10, in-32}

pub overflow_add-line : goal.overflow_add-line
overflow_add-line c =
    omega (arith, line_bound c.args.text.now (c.args.c.at + c.loop-i.i), rest_inside c.args.text.now c.args.c.at c.loop-i.i c.loop-i-test.true)

pub returns-in_default : goal.returns-in_default
returns-in_default c =
    let s = c.args.text.now in
    let at = c.args.c.at + c.loop-i.i in
    let h = rest_inside s c.args.c.at c.loop-i.i c.loop-i-test.true in
    let e = rest_byte s c.args.c.at c.loop-i.i c.loop-i-test.true in
    let b : at ≡ _ = sym (blank_none s at h (λ (q : get_or s at 0 ≡ 10). omega arith) (λ (q : get_or s at 0 ≡ 32). omega arith)) ∙ c.loop-i.invariant.1 in
    ap (λ (n : ℕ). record { at = at; line = n }) c.loop-i.invariant.0 ∙ ap (cursor_at s) b

pub loop-i-preserved : goal.loop-i-preserved
loop-i-preserved c =
    let s = c.args.text.now in
    let at = c.args.c.at + c.loop-i.i in
    let h = rest_inside s c.args.c.at c.loop-i.i c.loop-i-test.true in
    let e = rest_byte s c.args.c.at c.loop-i.i c.loop-i-test.true in
    let n : c.args.c.at + (c.loop-i.i + 1) ≡ at + 1 = omega arith in
    rw n (elim c.match-b.branch [
      | in-10 w ↦ (omega (arith, line_feed s at h (sym e ∙ w.in-10.is)), blank_feed s at h (sym e ∙ w.in-10.is) ∙ c.loop-i.invariant.1)
      | in-32 w ↦ (omega (arith, line_same s at h (λ (q : get_or s at 0 ≡ 10). omega arith)), blank_space s at h (sym e ∙ w.in-32.is) ∙ c.loop-i.invariant.1)
    ])

pub returns : goal.returns
returns c =
    let s = c.args.text.now in
    let at = c.args.c.at + c.loop-i.i in
    let h = rest_over s c.args.c.at c.loop-i.i c.loop-i-test.false in
    ap₂ (λ (a n : ℕ). record { at = a; line = n }) (omega (arith, blank_end s at h)) c.loop-i.invariant.0 ∙ ap (cursor_at s) (sym (blank_end s at h) ∙ c.loop-i.invariant.1)
