use mathlib.Core.Path.{sym, ap, ◌∙◌}
use native.Mathlib.Omega.{arith}
use Rattle.paging.proofs.Numbers.{each_none}
use Rattle.tables.specs.State.{shadow_of}
use Rattle.tables.proofs.Frees.{each_on, table_none, table-some}
use Rattle.tables.proofs.+free_table_cut_entry.Goals as goal

pub free_table-returns-then-level-eq0 : goal.free_table-returns-then-level-eq0
free_table-returns-then-level-eq0 t c = table_none _ _ _ _ c.if-level-eq0.true

pub free_table-loop-i-init : goal.free_table-loop-i-init
free_table-loop-i-init t c = sym (each_none _ _)

pub free_table-loop-i-preserved : goal.free_table-loop-i-preserved
free_table-loop-i-preserved t c = each_on _ _ c.cut_entry.ensures c.loop-i.invariant

pub free_table-returns : goal.free_table-returns
free_table-returns t c =
    let a = c.args in
    ap (shadow_of c.loop-i.pool) c.set_record.ensures
    ∙ table-some a.m.sizes a.level a.t _ _ c.loop-i.i (omega arith) c.loop-i.invariant (omega arith)
