use Rattle.std.proofs.Common.{refl, rules}
use Rattle.tables.specs.State.{machine64}
use Rattle.lawful.specs.Rules.{slot_right}
use Rattle.lawful.proofs.Alls.{all_over}
use Rattle.lawful.proofs.Known.slots_of_right.Goals as goal

pub returns : goal.returns
returns c =
    let s = c.args.self.now in
    all_over (slot_right (machine64 s.m.sizes) s.pool.now s.slots.now c.args.p) 8 refl c.all.ensures.ran (λ b x q k. search rules)
