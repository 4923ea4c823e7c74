-- What is left to settle says the same at every turn.
use mathlib.Core.Path.{◌≡◌}
use Rattle.tables.specs.State.{machine64, shadow_of}
use Rattle.tables.specs.Steps.{spot, settle}
use Rattle.tables.specs.SizesCode.{SpotFits}
use Rattle.tables.proofs.settle.Given as goal

abbrev pub invariant-loop-missing : goal.invariant-loop-missing
invariant-loop-missing l =
    SpotFits l.m.sizes (spot l.missing l.table l.frame)
    × (settle (machine64 l.m.sizes) l.words l.page l.missing l.table l.frame (shadow_of l.pool l.records)
    ≡ settle (machine64 l.m.sizes) l.words l.page l.fn.from.missing l.fn.from.table l.fn.from.frame (shadow_of l.initial.pool l.initial.records))
