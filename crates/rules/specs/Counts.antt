-- Which events count for a list, and a history without the others.
use Rattle.std.specs.Prelude.{Bool, cond, ◌||◌, List, [], ◌∷◌}
use Rattle.rules.specs.declared.Event.{Event}
use Rattle.rules.specs.History.{is_store, is_invlpg, is_cr3_write}

-- "Only events 1, 2 and 3 count here"
abbrev pub counts : Event → Bool
counts e = is_store e || is_invlpg e || is_cr3_write e

-- a list without what fails a test
module _ {A : Type 0} where
  unfoldable pub keep : (A → Bool) → List A → List A
  keep p [] = []
  keep p (x ∷ xs) = cond (p x) (x ∷ keep p xs) (keep p xs)
