-- Each byte below 40×G is that of one walk.
use mathlib.Core.Path.{◌≡◌}
use Prim.Native.Nat.{ℕ, ◌*◌, ◌/◌, ◌<◌}
use native.Mathlib.Nat.{mod-lt, div-add-mod', div-lt_iff_lt-mul}
use native.Mathlib.Omega.{arith}
use Rattle.held.specs.Work.{cell, work_bytes, HasByte}
use Rattle.listing.specs.CollectCode.{walk_at}

module _ (G k : ℕ) (some : 0 < G) where
  pub byte_walk : k < work_bytes G → HasByte G (walk_at G k)
  byte_walk h =
      let row : k / 8 < 5 * G = omega arith in
      let level : k / 8 / G < 5 = (div-lt_iff_lt-mul some).1 row in
      record { level = omega arith; frame = mod-lt (k / 8) some; rights = omega arith }

  pub byte_cell : cell G (walk_at G k) ≡ k
  byte_cell = omega (arith, div-add-mod' (k / 8) G)
