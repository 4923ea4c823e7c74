use Rattle.std.proofs.Common.{sym, ap, ◌∙◌, arith}
use Rattle.tables.specs.State.{machine64, named}
use Rattle.tables.proofs.Names.{few, named_is, named_none}
use Rattle.lawful.proofs.Tallies.{tally_begin, tally_end, tally_small, tally_hit, tally_miss}
use Rattle.lawful.proofs.Known.tally_table.Goals as goal
use Rattle.lawful.proofs.Known.tally_table.Goals.{in-Some, in_default}

pub loop-i-init : goal.loop-i-init
loop-i-init c = tally_begin c.requires.tallied

pub overflow_add-counts : goal.overflow_add-counts
overflow_add-counts c =
    let n = named_is (machine64 c.args.self.now.m.sizes) c.entry_at.result c.in-Some.u (sym c.in-Some.is ∙ c.named_by.ensures) in
    omega (arith, tally_small c.loop-i.invariant c.loop-i.auto.i-end c.in-Some.u n.1)

pub loop-i-preserved : goal.loop-i-preserved
loop-i-preserved c =
    let s = c.args.self.now in
    let inv = c.loop-i.invariant in
    let read = ap (named (machine64 s.m.sizes)) c.entry_at.ensures in
    elim c.match-named_by.branch [
      | in-Some w ↦
          let n = named_is (machine64 s.m.sizes) c.entry_at.result w.in-Some.u (sym w.in-Some.is ∙ c.named_by.ensures) in
          rw w.counts-is (tally_hit inv (n.0 ∙ read) (let h = few s.m.sized in omega (arith, n.1)))
      | in_default w ↦
          rw w.counts-is (tally_miss inv read (omega (arith, named_none (machine64 s.m.sizes) c.entry_at.result (sym w.in_default.is ∙ c.named_by.ensures))))
    ]

pub returns : goal.returns
returns c = tally_end c.loop-i.invariant (omega arith)
