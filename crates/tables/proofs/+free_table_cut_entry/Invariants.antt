-- A table's measure is twice its level, and an entry's lies between two tables'. The entries below i are cut.
use mathlib.Core.Path.{◌≡◌}
use Prim.Native.Nat.{◌*◌, ◌+◌, ◌-◌}
use Rattle.paging.specs.Numbers.{each}
use Rattle.tables.specs.State.{machine64, shadow_of}
use Rattle.tables.specs.Steps.{cut}
use Rattle.tables.proofs.+free_table_cut_entry.Given as goal

abbrev pub decreases-cut_entry : goal.decreases-cut_entry
decreases-cut_entry l = 2 * l.level + 1

abbrev pub decreases-free_table : goal.decreases-free_table
decreases-free_table l = 2 * l.level

abbrev pub invariant-free_table-loop-i : goal.invariant-free_table-loop-i
invariant-free_table-loop-i l =
    shadow_of l.pool l.records ≡ each l.i (cut (machine64 l.m.sizes) (l.level - 1) l.t) (shadow_of l.initial.pool l.initial.records)
