-- The page's path leads to a table.
use native.Mathlib.Omega.{arith}
use Rattle.paging.specs.Layout.{tables64}
use Rattle.paging.proofs.Indices.{index_small}
use Rattle.tables.proofs.Names.{few}
use Rattle.shadow.proofs.events.clear_leaf.Goals as goal

pub write_entry-requires : goal.write_entry-requires
write_entry-requires c = (omega (arith, few c.args.m.sized, c.table_count.ensures, c.if-w-table_count.true), omega (arith, c.index_of.ensures, index_small tables64 c.args.page 1))
