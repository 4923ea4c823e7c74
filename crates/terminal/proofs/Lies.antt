-- The bytes of a known result lie in the buffer.
use Rattle.std.specs.Prelude.{◌≡◌, ℕ, ◌+◌, ◌≤◌, Result, Ok, IfOk}
use mathlib.Core.Path.{subst}

pub lie : (at most : ℕ) {E : Type 0} {r : Result ℕ E} {n : ℕ} → r ≡ Ok n → IfOk r (λ k. at + k ≤ most) → at + n ≤ most
lie at most {E} e w = subst (λ (x : Result ℕ E). IfOk x (λ k. at + k ≤ most)) e w
