-- The held walks from moment to moment: begin, extend, stay. `held_is_kept` (Theorems) says that this is the rule by moments.
use Rattle.std.specs.Prelude.{◌≡◌, Bool, not, ℕ, zero, suc, T, Ok}
use Rattle.paging.specs.declared.Walk.{Walk}
use Rattle.rules.specs.View.{View}

-- level 0 is that of complete walks, the others are those of partial ones
abbrev pub by_level : Bool → Bool → ℕ → Bool
by_level p c zero = c
by_level p c (suc l) = p

module _ (seen : View) where
  -- whether event k + 1 ends this walk
  abbrev pub ends : Walk → ℕ → Bool
  ends w k = by_level (seen.ends_partial k) (seen.ends_complete k) w.level

  pub data Kept : ℕ → Walk → Type 0 where
    begin : {n : ℕ} {w : Walk} → w ≡ seen.begins n → Kept n w
    extend : {n : ℕ} {w w' : Walk} → Kept n w → seen.steps n w ≡ Ok w' → Kept n w'
    stay : {n : ℕ} {w : Walk} → Kept n w → T (not (ends w n)) → Kept (suc n) w
