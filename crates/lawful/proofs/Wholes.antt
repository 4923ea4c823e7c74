-- A table is whole when all its entries are.
use Rattle.std.proofs.Common.{◌≡◌, List, ℕ, zero, suc, ◌<◌, sub-one, arith}
use Rattle.paging.specs.Numbers.{all}
use Rattle.tables.specs.declared.Sizes.{Sizes}
use Rattle.tables.specs.State.{machine64, entry_of}
use Rattle.lawful.specs.Rules.{table_whole, entry_whole}

pub table_is : (z : Sizes) (map pool : List ℕ) (t level : ℕ) → 0 < level
    → table_whole (machine64 z) map pool level t ≡ all 512 (λ k. entry_whole (machine64 z) map pool level (entry_of (machine64 z) pool t k))
unfolding table_whole entry_whole
table_is z map pool t zero h = absurd (omega arith)
table_is z map pool t (suc l) h = simp sub-one
