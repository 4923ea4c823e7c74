-- What is left to build says the same at every turn, and enough tables are left for it.
use mathlib.Core.Path.{◌≡◌}
use Prim.Native.Nat.{◌+◌, ◌≤◌}
use Rattle.tables.specs.State.{machine64, shadow_of}
use Rattle.tables.specs.Steps.{free_count, build}
use Rattle.tables.specs.SizesCode.{SpotFits}
use Rattle.tables.proofs.build_path.Given as goal

abbrev pub invariant-loop : goal.invariant-loop
invariant-loop l =
    SpotFits l.m.sizes l.w × (l.w.missing + l.counter ≡ l.end) × (l.w.missing ≤ free_count (machine64 l.m.sizes) l.p l.records)
    × (build (machine64 l.m.sizes) l.map l.words l.p l.page l.w.missing l.w.table l.w.frame (shadow_of l.pool l.records)
    ≡ build (machine64 l.m.sizes) l.map l.words l.p l.page l.initial.w.missing l.initial.w.table l.initial.w.frame (shadow_of l.initial.pool l.initial.records))
