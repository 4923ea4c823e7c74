use mathlib.Core.Path.{sym, ap, ◌∙◌}
use Prim.Native.Nat.{ℕ}
use native.Mathlib.Omega.{arith}
use Rattle.paging.specs.Numbers.{each}
use Rattle.paging.proofs.Numbers.{each_none}
use Rattle.tables.specs.State.{machine64, shadow_of}
use Rattle.tables.specs.Steps.{empty_own, empty_share}
use Rattle.tables.proofs.Frees.{each_on}
use Rattle.tables.proofs.empty_share.Goals as goal

pub loop-t-init : goal.loop-t-init
loop-t-init c = sym (each_none _ _)

pub loop-t-preserved : goal.loop-t-preserved
loop-t-preserved c = each_on _ _ c.empty_table.ensures c.loop-t.invariant

pub returns : goal.returns
unfolding empty_share
returns c =
    let a = c.args in
    c.loop-t.invariant
    ∙ ap (λ (n : ℕ). each n (empty_own (machine64 a.m.sizes) a.p) (shadow_of a.pool.now a.records.now)) (omega arith)
