use Rattle.std.proofs.Common.{refl, rules}
use Rattle.paging.specs.Numbers.{all}
use Rattle.tables.specs.State.{machine64}
use Rattle.lawful.specs.Rules.{slot_right}
use Rattle.lawful.proofs.Alls.{all_over}
use Rattle.lawful.proofs.Known.slots_right.Goals as goal

pub returns : goal.returns
returns c =
    let s = c.args.self.now in
    all_over (λ p. all 8 (slot_right (machine64 s.m.sizes) s.pool.now s.slots.now p)) s.m.sizes.processors refl c.all.ensures.ran (λ b x q k. search rules)
