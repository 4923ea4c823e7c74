-- An absent entry is right in every table.
use mathlib.Core.Path.{◌≡◌, refl}
use mathlib.Core.Bool.{Bool, true, false, ◌&&◌}
use mathlib.Core.List.{List}
use Prim.Native.Nat.{ℕ}
use lib.Dec.{leb}
use borrow.Author.Tests.{eq-eqb}
use Rattle.tables.specs.State.{Machine, level_of}
use Rattle.lawful.specs.Rules.{is_laid_out, names_lower, entry_right}

pub absent_right : (M : Machine) (map records : List ℕ) (t e : ℕ) → e ≡ 0 → true ≡ entry_right M map records t e
unfolding entry_right is_laid_out names_lower
absent_right M map records t e q = by (leb (level_of records t) 1) refl
  where
    by : (b : Bool) → leb (level_of records t) 1 ≡ b → true ≡ (is_laid_out M map (level_of records t) e && names_lower M records t e)
    by true l = simp (eq-eqb e 0 q, l)
    by false l = simp (eq-eqb e 0 q, l)
