use Rattle.std.proofs.Common.{refl, rules}
use Rattle.tables.specs.State.{machine64, entry_of}
use Rattle.lawful.specs.Rules.{entry_right}
use Rattle.lawful.proofs.Alls.{all_over}
use Rattle.lawful.proofs.Known.entries_right.Goals as goal

pub returns : goal.returns
returns c =
    let s = c.args.self.now in
    let t = c.args.t in
    all_over (λ i. entry_right (machine64 s.m.sizes) s.map.now s.records.now t (entry_of (machine64 s.m.sizes) s.pool.now t i)) 512 refl c.all.ensures.ran (λ b x q k. search rules)
