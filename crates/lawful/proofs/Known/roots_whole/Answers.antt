use Rattle.std.proofs.Common.{refl, rules}
use Rattle.tables.specs.State.{machine64, root_of}
use Rattle.lawful.specs.Rules.{table_whole}
use Rattle.lawful.proofs.Alls.{all_over}
use Rattle.lawful.proofs.Known.roots_whole.Goals as goal

pub returns : goal.returns
returns c =
    let s = c.args.self.now in
    all_over (λ p. table_whole (machine64 s.m.sizes) s.map.now s.pool.now 4 (root_of (machine64 s.m.sizes) p)) s.m.sizes.processors refl c.all.ensures.ran (λ b x q k. search rules)
