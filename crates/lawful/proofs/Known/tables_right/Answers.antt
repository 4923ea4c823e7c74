use Rattle.std.proofs.Common.{rules}
use Rattle.tables.specs.State.{shadow_of, machine64, table_count}
use Rattle.lawful.specs.Rules.{table_right}
use Rattle.lawful.proofs.Alls.{all_over}
use Rattle.lawful.proofs.Known.tables_right.Goals as goal

pub returns : goal.returns
returns c =
    let s = c.args.self.now in
    all_over (table_right (machine64 s.m.sizes) s.map.now (shadow_of s.pool.now s.records.now)) (table_count (machine64 s.m.sizes)) (search rules) c.all.ensures.ran (λ b x q k. search rules)
