-- What one processor and one page see of a history. The rule of held walks speaks of a view, and of nothing else.
use Rattle.std.specs.Prelude.{Bool, false, not, ◌&&◌, ◌||◌, List, ℕ, ◌≤◌, ◌<◌, T, eqb}
use Rattle.paging.specs.declared.Walk.{Walk}
use Rattle.paging.specs.Layout.{Layout, get, index, page_of}
use Rattle.paging.specs.Walk.{Step, start, step}
use Rattle.rules.specs.declared.Event.{Event}
use Rattle.rules.specs.History.{Setup, is_invlpg, is_cr3_write, is_by, event_at, words_at, cr3_at}

pub record View : Type 0 where
  -- the walk that begins at moment k
  pub begins : ℕ → Walk
  -- what a walk does at moment k
  pub steps : ℕ → Walk → Step
  -- whether event k + 1, between the moments k and k + 1, ends partial walks, and whether it ends complete ones
  pub ends_partial : ℕ → Bool
  pub ends_complete : ℕ → Bool

-- no event after moment a and up to moment b passes the test
abbrev pub Quiet : (ℕ → Bool) → ℕ → ℕ → Type 0
Quiet ends a b = (k : ℕ) → a ≤ k → k < b → T (not (ends k))

-- "no INVLPG and no CR3 write of p"; "INVLPG on any page thus ends all partial walks of p."
abbrev pub ends_partial_of : ℕ → Event → Bool
ends_partial_of p e = is_by p e && (is_invlpg e || is_cr3_write e)

-- "no CR3 write of p and no INVLPG of p on page v"
abbrev pub ends_complete_of : Layout → ℕ → ℕ → Event → Bool
ends_complete_of Y p v e = is_by p e && (is_cr3_write e || is_invlpg e && eqb (page_of Y e.a) v)

-- what processor p sees of page v, where event k + 1 ends all walks of that page if it is one that drops them (`drops k`)
unfoldable pub view_of : Setup → List Event → ℕ → ℕ → (ℕ → Bool) → View
view_of U es p v drops =
    let Y = U.tables in
    record {
      begins = λ k. start Y (cr3_at U es p k);
      steps = λ k w. step Y U.frames w (get Y (words_at U es k) w.frame.0 (index Y v w.level));
      ends_partial = λ k. drops k || ends_partial_of p (event_at es k);
      ends_complete = λ k. drops k || ends_complete_of Y p v (event_at es k);
    }

-- no event drops walks
abbrev pub never : ℕ → Bool
never k = false
