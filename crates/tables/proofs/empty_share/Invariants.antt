-- The tables below t are emptied, where they are p's.
use mathlib.Core.Path.{◌≡◌}
use Rattle.paging.specs.Numbers.{each}
use Rattle.tables.specs.State.{machine64, shadow_of}
use Rattle.tables.specs.Steps.{empty_own}
use Rattle.tables.proofs.empty_share.Given as goal

abbrev pub invariant-loop-t : goal.invariant-loop-t
invariant-loop-t l =
    shadow_of l.pool l.records ≡ each l.t (empty_own (machine64 l.m.sizes) l.p) (shadow_of l.initial.pool l.initial.records)
