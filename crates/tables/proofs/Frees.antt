-- Freeing, turn by turn: the entries below i of a table are cut.
use mathlib.Core.Path.{◌≡◌, sym, ap, ◌∙◌}
use Prim.Native.Nat.{ℕ, zero, suc, ◌+◌, ◌-◌, ◌<◌}
use native.Mathlib.Numerals.{sub-one}
use native.Mathlib.Omega.{arith}
use Rattle.paging.specs.Frame.{guest}
use Rattle.tables.specs.declared.Sizes.{Sizes}
use Rattle.paging.specs.Numbers.{each}
use Rattle.tables.specs.State.{Machine, Shadow, on_records, machine64, with_record}
use Rattle.tables.specs.Steps.{cut, free_table}
use Rattle.paging.proofs.Numbers.{each_more}

-- one turn more
pub each_on : {A : Type 0} (f : ℕ → A → A) (x : A) {s s' : A} {n : ℕ} → s' ≡ f n s → s ≡ each n f x → s' ≡ each (n + 1) f x
each_on f x {n = n} e done = e ∙ ap (f n) done ∙ sym (each_more f x n)

-- a table with no level is as it is
pub table_none : (M : Machine) (l t : ℕ) (s : Shadow) → l ≡ 0 → s ≡ free_table M l t s
unfolding free_table
table_none M l t s e = rw e

-- a table with a level, once its entries are cut
pub table-some : (z : Sizes) (l t : ℕ) (s₀ s : Shadow) (i : ℕ) → 0 < l
    → s ≡ each i (cut (machine64 z) (l - 1) t) s₀ → i ≡ 512
    → on_records (with_record t 0 (guest 0)) s ≡ free_table (machine64 z) l t s₀
unfolding free_table
table-some z zero t s₀ s i h done all = absurd (omega arith)
table-some z (suc l) t s₀ s i h done all =
    ap (on_records (with_record t 0 (guest 0))) (done ∙ ap (λ (k : ℕ). each k (cut (machine64 z) (suc l - 1) t) s₀) all) ∙ rw sub-one
