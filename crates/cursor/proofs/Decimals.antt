-- Reading back what was written: the digits of a number have its value.
use mathlib.Core.Path.{◌≡◌, refl, ◌∙◌}
use mathlib.Core.Bool.{Bool, true, false, cond}
use mathlib.Core.List.{List, [], ◌∷◌, ◌++◌}
use Prim.Native.Nat.{ℕ, zero, suc, ◌+◌, ◌-◌, ◌*◌, ◌/◌, ◌%◌, ◌≤◌}
use native.Mathlib.Omega.{arith}
use native.Mathlib.Nat.{le_refl}
use lib.Dec.{ltb}
use borrow.Author.Tests.{ltb-false}
use Rattle.cursor.specs.Text.{value_from, value_of, digits_in, digits_of}

value_append : (n : ℕ) (xs : List ℕ) (x : ℕ) → value_from n (xs ++ x ∷ []) ≡ value_from n xs * 10 + (x - 48)
unfolding value_from
value_append n [] x = refl
value_append n (y ∷ ys) x = value_append (n * 10 + (y - 48)) ys x

-- one more step, where the rest of the number is read back
value_if : (steps n : ℕ) (b : Bool) → ltb n 10 ≡ b → (10 ≤ n → value_of (digits_in steps (n / 10)) ≡ n / 10)
    → value_of (cond b ((48 + n) ∷ []) (digits_in steps (n / 10) ++ (48 + n % 10) ∷ [])) ≡ n
value_if steps n true e h = unfold value_from in omega arith
value_if steps n false e h = value_append 0 (digits_in steps (n / 10)) (48 + n % 10) ∙ omega (arith, h (ltb-false n 10 e))

value_in : (steps n : ℕ) → n ≤ steps → value_of (digits_in steps n) ≡ n
unfolding digits_in value_from
value_in zero n h = omega arith
value_in (suc steps) n h = value_if steps n (ltb n 10) refl (λ (more : 10 ≤ n). value_in steps (n / 10) (omega arith))

pub value_digits : (n : ℕ) → value_of (digits_of n) ≡ n
value_digits n = value_in n n (le_refl n)
