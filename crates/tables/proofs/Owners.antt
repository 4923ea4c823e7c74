-- Today the records have no say in who owns a table: it is the processor of its share, before and after every step.
use mathlib.Core.Path.{◌≡◌, refl, sym, ◌∙◌}
use mathlib.Core.List.{List}
use Prim.Native.Nat.{ℕ}
use Rattle.tables.specs.State.{Machine, home_of, owner_of}

module _ (M : Machine) where
  pub owner_home : (records : List ℕ) (t : ℕ) → owner_of M records t ≡ home_of M t
  unfolding owner_of
  owner_home records t = refl

  pub owner_kept : (records records' : List ℕ) (t : ℕ) → owner_of M records' t ≡ owner_of M records t
  owner_kept records records' t = owner_home records' t ∙ sym (owner_home records t)
