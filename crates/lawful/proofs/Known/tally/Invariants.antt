-- The tables below t are counted.
use Rattle.lawful.specs.TallyCode.{Tallied}
use Rattle.lawful.proofs.Known.tally.Given as goal

abbrev pub invariant-loop-t : goal.invariant-loop-t
invariant-loop-t l = Tallied l.self.m.sizes l.self.pool.now l.counts l.t
