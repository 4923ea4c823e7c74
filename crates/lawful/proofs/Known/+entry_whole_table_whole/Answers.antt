use Rattle.std.proofs.Common.{sym, ◌∙◌, ap}
use Rattle.paging.proofs.Numbers.{all_fails}
use Rattle.paging.proofs.Tests.{positive}
use Rattle.tables.specs.State.{machine64}
use Rattle.lawful.specs.Rules.{entry_whole}
use Rattle.lawful.proofs.Wholes.{table_is}
use Rattle.lawful.proofs.Known.+entry_whole_table_whole.Goals as goal

pub table_whole-returns-then-not-entry_whole : goal.table_whole-returns-then-not-entry_whole
table_whole-returns-then-not-entry_whole t c =
    let s = c.args.self.now in
    let level = c.args.level in
    let fails = ap (entry_whole (machine64 s.m.sizes) s.map.now s.pool.now level) (sym c.entry_at.ensures) ∙ sym c.entry_whole.ensures ∙ c.if-not-entry_whole.true in
    sym (table_is s.m.sizes s.map.now s.pool.now c.args.t level (positive level c.if-level-eq0.false) ∙ all_fails _ 512 c.loop-i.i c.loop-i-test.true fails)
