-- The entries of t below i are counted.
use Rattle.lawful.proofs.Tallies.{Tallying}
use Rattle.lawful.proofs.Known.tally_table.Given as goal

abbrev pub invariant-loop-i : goal.invariant-loop-i
invariant-loop-i l = Tallying l.self.m.sizes l.self.pool.now l.counts l.t l.i
