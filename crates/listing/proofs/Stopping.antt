-- The faults of entries that held partial walks give, found in one pass: what is seen of the bytes so far.
use mathlib.Core.Path.{◌≡◌, refl, ap, ap₂, ◌∙◌}
use mathlib.Core.Bool.{Bool, true, false, ◌||◌}
use mathlib.Core.List.{List}
use Prim.Native.Nat.{ℕ, ◌+◌, ◌*◌}
use native.Mathlib.Numerals.{add-one}
use lib.ListN.{get_or}
use borrow.Author.Tests.{eq-eqb, ne_eqb}
use Rattle.paging.specs.Numbers.{some}
use Rattle.held.specs.FollowCode.{step_in}
use Rattle.listing.specs.declared.Faults.{Faults}
use Rattle.listing.specs.CollectCode.{walk_at, is_absent, is_beyond, stops_at, with_step, stops}
use Rattle.paging.specs.Layout.{tables64}

module _ (G page : ℕ) (words work : List ℕ) where
  pub record Found (s : Faults) (j : ℕ) : Type 0 where
    pub absent : s.absent ≡ some j (λ k. stops_at G page words work is_absent (8 * G + k))
    pub beyond : s.beyond ≡ some j (λ k. stops_at G page words work is_beyond (8 * G + k))

  pub found_none : Found (record { absent = false; beyond = false }) 0
  unfolding some
  found_none = record { absent = refl; beyond = refl }

  one_more : (f : ℕ → Bool) (j : ℕ) (a b : Bool) → a ≡ some j f → b ≡ f j → (a || b) ≡ some (j + 1) f
  unfolding some
  one_more f j a b p r = rw (add-one j) (ap₂ ◌||◌ p r)

  or-false : (b : Bool) → b ≡ (b || false)
  or-false true = refl
  or-false false = refl

  -- a held walk, and a byte that is none
  pub found_more : (s s' : Faults) (j : ℕ) → Found s j → get_or work (8 * G + j) 0 ≡ 1 → s' ≡ with_step s (step_in tables64 G page words (walk_at G (8 * G + j))) → Found s' (j + 1)
  found_more s s' j h m e = record {
    absent = ap (λ (x : Faults). x.absent) e ∙ one_more _ j _ _ h.absent (simp (eq-eqb (get_or work (8 * G + j) 0) 1 m));
    beyond = ap (λ (x : Faults). x.beyond) e ∙ one_more _ j _ _ h.beyond (simp (eq-eqb (get_or work (8 * G + j) 0) 1 m));
  }

  pub found_same : (s : Faults) (j : ℕ) → Found s j → (get_or work (8 * G + j) 0 ≡ 1 → ⊥) → Found s (j + 1)
  found_same s j h n = record {
    absent = or-false s.absent ∙ one_more _ j _ _ h.absent (simp (ne_eqb (get_or work (8 * G + j) 0) 1 n));
    beyond = or-false s.beyond ∙ one_more _ j _ _ h.beyond (simp (ne_eqb (get_or work (8 * G + j) 0) 1 n));
  }

  pub found_all : (s : Faults) (j : ℕ) → Found s j → j ≡ 32 * G → (s.absent ≡ stops G page words work is_absent) × (s.beyond ≡ stops G page words work is_beyond)
  unfolding stops
  found_all s j h q = (rw q at h.absent, rw q at h.beyond)
