-- A section is its count and that many numbers.
use Rattle.std.proofs.Common.{sym, arith}
use Rattle.std.proofs.lemmas.Result.{err_from_is_err_and}
use Rattle.cursor.proofs.DigitRuns.{next-stands}
use Rattle.sections.specs.Sections.{count_range}
use Rattle.sections.proofs.Numbers.{due_bad, due-out, due_in, section_refused, section_counted, count_fits}
use Rattle.sections.proofs.read.Goals as goal

pub returns-in_err-count : goal.returns-in_err-count
returns-in_err-count c =
    let a = c.args in
    let p = err_from_is_err_and c.from_residual.result c.from_residual.ensures.1 in
    rw (p.1, p.2)
    (section_refused a.which a.limits.frames a.limits.processors a.text.now a.from.at
    (due_bad (count_range a.which a.limits.frames) a.text.now a.from.at c.in_err-count.ensures))

pub returns-then-not-in_count_range : goal.returns-then-not-in_count_range
returns-then-not-in_count_range c =
    let a = c.args in
    rw c.out_of_range.ensures
    (section_refused a.which a.limits.frames a.limits.processors a.text.now a.from.at
    (due-out (count_range a.which a.limits.frames) a.text.now a.from.at c.in_ok-count.ensures (sym c.if-not-in_count_range.ensures)))

pub read_numbers-requires : goal.read_numbers-requires
read_numbers-requires c =
    let a = c.args in
    let p = c.requires in (
      next-stands a.text.now a.from.at p.0.inside c.in_ok-count.ensures,
      omega (arith, p.1, count_fits a.which a.limits.frames c.in_ok-count.count.value a.limits.few (sym c.if-not-in_count_range.ensures)),
    )

pub returns : goal.returns
returns c =
    let a = c.args in
    rw (section_counted a.which a.limits.frames a.limits.processors a.text.now a.from.at
    (due_in (count_range a.which a.limits.frames) a.text.now a.from.at c.in_ok-count.ensures (sym c.if-not-in_count_range.ensures)))
    c.read_numbers.ensures
