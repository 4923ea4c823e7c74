-- The path that is left to go says the same at every turn.
use mathlib.Core.Path.{◌≡◌}
use Prim.Native.Nat.{◌-◌, ◌≤◌}
use Rattle.tables.specs.State.{machine64, descend, path_to}
use Rattle.tables.proofs.path_to.Given as goal

abbrev pub invariant-loop-l : goal.invariant-loop-l
invariant-loop-l l =
    (l.w.level ≡ l.l) × (l.w.table ≤ 64)
    × (descend (machine64 l.m.sizes) l.pool l.page (l.w.level - l.level) l.w ≡ path_to (machine64 l.m.sizes) l.pool l.p l.page l.level)
