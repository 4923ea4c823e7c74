-- No table has the owner that the number of tables, which stands for none, would have.
use Rattle.std.proofs.Common.{◌≡◌, List, ℕ, ◌<◌, arith}
use Rattle.std.proofs.Math.Nat.{div-lt_iff_lt-mul, mul-div_cancel}
use Rattle.tables.specs.declared.Sizes.{Sizes}
use Rattle.tables.specs.State.{machine64, table_count, owner_of}
use Rattle.tables.specs.SizesCode.{Sized}

pub stray : (z : Sizes) → Sized z → (records : List ℕ) (t : ℕ) → t < table_count (machine64 z)
    → owner_of (machine64 z) records (table_count (machine64 z)) ≡ owner_of (machine64 z) records t → ⊥
unfolding owner_of
stray z ok records t h q = let below = (div-lt_iff_lt-mul ok.some).1 h in omega (arith, below, mul-div_cancel z.processors ok.some)
