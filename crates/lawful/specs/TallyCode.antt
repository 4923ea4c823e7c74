-- What a count of names holds while it is made: 64 numbers, for each table the entries that name it in the tables so far.
use Rattle.std.specs.Prelude.{◌≡◌, List, ℕ, ◌<◌, eqb, get_or}
use Rattle.paging.specs.Numbers.{sum, count}
use Rattle.tables.specs.declared.Sizes.{Sizes}
use Rattle.tables.specs.State.{machine64, table_count, entry_of, named}

-- the entries of the first n tables that name u
abbrev pub names_below : Sizes → List ℕ → ℕ → ℕ → ℕ
names_below z pool n u = sum n (λ t. count 512 (λ i. eqb (named (machine64 z) (entry_of (machine64 z) pool t i)) u))

-- counts says it of each table
pub record Tallied (z : Sizes) (pool counts : List ℕ) (n : ℕ) : Type 0 where
  pub told : (u : ℕ) → u < table_count (machine64 z) → get_or counts u 0 ≡ names_below z pool n u
