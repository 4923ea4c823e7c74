-- A path goes down one level at a time, and what is left of it says the same at every turn.
use mathlib.Core.Path.{◌≡◌, sym, ap, ◌∙◌}
use mathlib.Core.List.{List}
use Prim.Native.Nat.{ℕ, suc}
use Rattle.tables.specs.declared.Path.{Path}
use Rattle.tables.specs.State.{Machine, down, next_entry, descend}

module _ (M : Machine) (pool : List ℕ) (page : ℕ) where
  pub descend-on : (n m : ℕ) (w : Path) {w' : Path} → n ≡ suc m → w' ≡ down M w (next_entry M pool page w)
      → descend M pool page m w' ≡ descend M pool page n w
  unfolding descend
  descend-on n m w q e = ap (descend M pool page m) e ∙ sym (ap (λ (k : ℕ). descend M pool page k w) q)

  pub descend-end : (n : ℕ) (w : Path) → n ≡ 0 → w ≡ descend M pool page n w
  unfolding descend
  descend-end n w q = sym (ap (λ (k : ℕ). descend M pool page k w) q)
