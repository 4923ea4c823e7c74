-- A table asks its entries at its own level, and an entry the table that it names one level lower: the measure is twice
-- the level, and one more for a table. The entries below i are whole.
use Rattle.std.proofs.Common.{◌≡◌, true, ◌+◌}
use Rattle.paging.specs.Numbers.{all}
use Rattle.tables.specs.State.{machine64, entry_of}
use Rattle.lawful.specs.Rules.{entry_whole}
use Rattle.lawful.proofs.Known.+entry_whole_table_whole.Given as goal

abbrev pub decreases-entry_whole : goal.decreases-entry_whole
decreases-entry_whole l = l.level + l.level

abbrev pub decreases-table_whole : goal.decreases-table_whole
decreases-table_whole l = l.level + l.level + 1

abbrev pub invariant-table_whole-loop-i : goal.invariant-table_whole-loop-i
invariant-table_whole-loop-i l =
    let z = l.self.m.sizes in
    all l.i (λ k. entry_whole (machine64 z) l.self.map.now l.self.pool.now l.level (entry_of (machine64 z) l.self.pool.now l.t k)) ≡ true
