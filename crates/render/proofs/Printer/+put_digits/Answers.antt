-- The digits of a tenth are written by the call, the last digit behind them.
use Rattle.std.proofs.Common.{◌≡◌, ℕ, [], ◌∷◌, ◌+◌, ◌%◌, length, sym, ap, ◌∙◌, subst, arith}
use Rattle.render.specs.declared.Printer.{Printer}
use Rattle.render.specs.WrittenCode.{Puts}
use Rattle.render.proofs.Writes.{puts_append, puts_as}
use Rattle.render.proofs.Digits.{digits_small, digits_more, length_more}
use Rattle.render.proofs.Printer.+put_digits.Goals as goal
use Rattle.render.proofs.Printer.+put_digits.Goals.{then-n-ge10, else-n-ge10}

pub put_digits-requires : goal.put_digits-requires
put_digits-requires t c = (omega arith, omega (arith, length_more c.args.n c.if-n-ge10.true))

pub put-requires : goal.put-requires
put-requires t c =
    let n = c.args.n in
    elim c.if-n-ge10.branch [
      | then-n-ge10 w ↦ rw w.self-is (omega (arith, length_more n w.if-n-ge10.true, w.put_digits.ensures.at, w.put_digits.ensures.long, c.requires))
      | else-n-ge10 w ↦ rw w.self-is (omega (arith, ap length (digits_small n (omega arith)), c.requires))
    ]

pub returns : goal.returns
returns t c =
    let n = c.args.n in
    let last = (48 + n % 10) ∷ [] in
    elim c.if-n-ge10.branch [
      | then-n-ge10 w ↦ puts_as (sym (digits_more n w.if-n-ge10.true)) (puts_append w.put_digits.ensures (subst (λ (l : Printer). Puts last l c.put.new.self) w.self-is c.put.ensures))
      | else-n-ge10 w ↦
          let one : n % 10 ≡ n = omega arith in
          puts_as (ap (λ (d : ℕ). (48 + d) ∷ []) one ∙ sym (digits_small n (omega arith))) (subst (λ (l : Printer). Puts last l c.put.new.self) w.self-is c.put.ensures)
    ]
