-- The longest run of digits has this value and ends here, or is too big.
use Rattle.std.proofs.Common.{◌≡◌, ℕ, List, [], Some, None, ◌+◌, ◌-◌, ◌*◌, ◌^◌, ◌<◌, ◌≤◌, length, drop, get_or, sym, ap, ◌∙◌, arith}
use Rattle.cursor.specs.Text.{run, value_from, value_of}
use Rattle.cursor.specs.CursorCode.{digits_at}
use Rattle.cursor.proofs.Lines.{rest_inside, rest_over, rest_byte}
use Rattle.cursor.proofs.DigitRuns.{digit_yes, digit_low, digit_high, value_more, length_more, run_stop, run_end, grows, digits_are, digits_big}
use Rattle.cursor.proofs.read_digits.Goals as goal
use Rattle.cursor.proofs.read_digits.Goals.{in_default-via-then-b-lt48, in_default-via-else-b-lt48+else-b-lt58}

-- one digit more is too many
too_big : (s : List ℕ) (from at v : ℕ) → at < length s → 48 ≤ get_or s at 0 → get_or s at 0 ≤ 57
    → value_from v (run (drop at s)) ≡ value_of (run (drop from s)) → 2 ^ 64 ≤ v * 10 + (get_or s at 0 - 48) → None ≡ digits_at s from
too_big s from at v h l u w b =
    digits_big s from (omega (arith, grows (v * 10 + (get_or s at 0 - 48)) (run (drop (at + 1) s)), value_more s at v h (digit_yes (get_or s at 0) l u)))

pub returns-in_err-checked_mul-in-48-to-57 : goal.returns-in_err-checked_mul-in-48-to-57
returns-in_err-checked_mul-in-48-to-57 c =
    let s = c.args.text.now in
    let t = c.loop-i-test.true in
    let e = rest_byte s c.args.from c.loop-i.i t in
    c.from_residual.ensures ∙ too_big s c.args.from (c.args.from + c.loop-i.i) c.loop-i.value (rest_inside s c.args.from c.loop-i.i t) (omega arith) (omega arith) c.loop-i.invariant.1
    (omega (arith, c.in_err-checked_mul-in-48-to-57.ensures))

pub returns-in_err-value-in-48-to-57 : goal.returns-in_err-value-in-48-to-57
returns-in_err-value-in-48-to-57 c =
    let s = c.args.text.now in
    let t = c.loop-i-test.true in
    let e = rest_byte s c.args.from c.loop-i.i t in
    c.from_residual-in_err-value-in-48-to-57.ensures ∙ too_big s c.args.from (c.args.from + c.loop-i.i) c.loop-i.value (rest_inside s c.args.from c.loop-i.i t) (omega arith) (omega arith) c.loop-i.invariant.1
    (omega (arith, c.in_ok-checked_mul-in-48-to-57.ensures, c.in_err-value-in-48-to-57.ensures))

-- where no digit is left the answer is ready
ready : (s : List ℕ) (from at v : ℕ) → v < 2 ^ 64 → value_from v (run (drop at s)) ≡ value_of (run (drop from s))
    → at + length (run (drop at s)) ≡ from + length (run (drop from s)) → run (drop at s) ≡ [] → Some (record { value = v; end = at }) ≡ digits_at s from
unfolding value_from
ready s from at v h w n e = digits_are s from (record { value = v; end = at }) (sym w ∙ ap (value_from v) e) (omega (arith, ap length e)) h

pub returns-in_default : goal.returns-in_default
returns-in_default c =
    let s = c.args.text.now in
    let at = c.args.from + c.loop-i.i in
    let t = c.loop-i-test.true in
    let e = rest_byte s c.args.from c.loop-i.i t in
    ready s c.args.from at c.loop-i.value c.loop-i.invariant.0 c.loop-i.invariant.1 c.loop-i.invariant.2
    (run_stop s at (rest_inside s c.args.from c.loop-i.i t)
    (elim c.in_default.branch [ in_default-via-then-b-lt48 w ↦ digit_low (get_or s at 0) (omega arith) | in_default-via-else-b-lt48+else-b-lt58 w ↦ digit_high (get_or s at 0) (omega arith) ]))

pub loop-i-preserved : goal.loop-i-preserved
loop-i-preserved c =
    let s = c.args.text.now in
    let at = c.args.from + c.loop-i.i in
    let t = c.loop-i-test.true in
    let h = rest_inside s c.args.from c.loop-i.i t in
    let e = rest_byte s c.args.from c.loop-i.i t in
    let d = digit_yes (get_or s at 0) (omega arith) (omega arith) in
    let n : c.args.from + (c.loop-i.i + 1) ≡ at + 1 = omega arith in
    let m = c.in_ok-checked_mul-in-48-to-57.ensures in
    let k = c.in_ok-value-in-48-to-57.ensures in
    let v : c.in_ok-value-in-48-to-57.value ≡ c.loop-i.value * 10 + (get_or s at 0 - 48) = omega arith in
    rw (n, v) (omega arith, value_more s at c.loop-i.value h d ∙ c.loop-i.invariant.1, length_more s at h d ∙ c.loop-i.invariant.2)

pub returns : goal.returns
returns c =
    let s = c.args.text.now in
    let at = c.args.from + c.loop-i.i in
    let h = rest_over s c.args.from c.loop-i.i c.loop-i-test.false in
    ap (λ (n : ℕ). Some (record { value = c.loop-i.value; end = n })) (omega arith)
    ∙ ready s c.args.from at c.loop-i.value c.loop-i.invariant.0 c.loop-i.invariant.1 c.loop-i.invariant.2 (run_end s at h)
