-- The first refusal of a row of them.
use mathlib.Core.Path.{◌≡◌, refl, sym, ◌∙◌, ap}
use mathlib.Core.Bool.{Bool, true, false, cond}
use Prim.Native.Nat.{ℕ, zero, suc, ◌+◌, ◌/◌, ◌^◌, ◌<◌}
use native.Mathlib.Numerals.{add-one}
use native.Mathlib.Decide.{ℕ_discrete}
use native.Mathlib.Omega.{arith}
use lib.ListN.{length}
use lib.Dec.{eqb}
use borrow.Author.Tests.{eq-eqb, ne_eqb, eqb-false}
use Rattle.paging.specs.Frame.{map_fits, cr3s_fit}
use Rattle.rules.specs.declared.Refusal.{Refusal}
use Rattle.rules.specs.Refusal.{refusal, number_of}
use Rattle.rules.proofs.Refusals.{some_number}
use Rattle.rules.specs.History.{event_refusal}
use Rattle.rules.specs.Outcome.{question_refusal}
use Rattle.listing.specs.Call.{Asked, Lent, setup_asked, lengths_fit, or_else, first_refusal, list_refusal}
use Rattle.rules.specs.Numbers.{event_of}

pub or_first : (n m : ℕ) → (n ≡ 0 → ⊥) → or_else n m ≡ n
or_first n m h = simp (ne_eqb n 0 h)

pub or_second : (n m : ℕ) → n ≡ 0 → or_else n m ≡ m
or_second n m h = simp (eq-eqb n 0 h)

-- no refusal is no refusal of either
pub or_none : (n m : ℕ) → or_else n m ≡ 0 → (n ≡ 0) × (m ≡ 0)
or_none n m e = go (ℕ_discrete n 0)
  where
    go : Dec (n ≡ 0) → (n ≡ 0) × (m ≡ 0)
    go (yes h) = (h, sym (or_second n m h) ∙ e)
    go (no h) = absurd (h (sym (or_first n m h) ∙ e))

module _ (f : ℕ → ℕ) where
  pub first_none : first_refusal 0 f ≡ 0
  unfolding first_refusal
  first_none = refl

  pub first_more : (n : ℕ) → first_refusal n f ≡ 0 → f n ≡ 0 → first_refusal (n + 1) f ≡ 0
  unfolding first_refusal
  first_more n h k = rw (add-one n) (or_second (first_refusal n f) (f n) h ∙ k)

  pub first-here : (n k : ℕ) → k < n → first_refusal k f ≡ 0 → (f k ≡ 0 → ⊥) → first_refusal n f ≡ f k
  unfolding first_refusal
  first-here zero k h z ne = absurd (omega arith)
  first-here (suc n) k h z ne = go (ℕ_discrete k n) (first-here n k)
    where
      go : Dec (k ≡ n) → (k < n → first_refusal k f ≡ 0 → (f k ≡ 0 → ⊥) → first_refusal n f ≡ f k) → or_else (first_refusal n f) (f n) ≡ f k
      go (yes e) ih = or_second (first_refusal n f) (f n) (rw e at z) ∙ ap f (sym e)
      go (no d) ih = let r = ih (omega arith) z ne in or_first (first_refusal n f) (f n) (λ q. ne (sym r ∙ q)) ∙ r

  pub first-each : (n : ℕ) → first_refusal n f ≡ 0 → (k : ℕ) → k < n → f k ≡ 0
  unfolding first_refusal
  first-each zero z k h = absurd (omega arith)
  first-each (suc n) z k h = let (a, b) = or_none (first_refusal n f) (f n) z in go (ℕ_discrete k n) b (first-each n a k)
    where
      go : Dec (k ≡ n) → f n ≡ 0 → (k < n → f k ≡ 0) → f k ≡ 0
      go (yes e) b ih = rw e b
      go (no d) b ih = ih (omega arith)

-- a test that refuses, and one that does not
pub refused : (r : Refusal) (fits : Bool) (m : ℕ) → number_of r ≡ cond fits 0 m → (fits ≡ false) × (number_of r ≡ m)
refused r true m e = absurd (omega (arith, some_number r))
refused r false m e = (refl, e)

pub passed : (fits : Bool) (m : ℕ) → eqb m 0 ≡ false → ◌≡◌ {A = ℕ} 0 (cond fits 0 m) → fits ≡ true
passed true m h e = refl
passed false m h e = absurd (eqb-false m 0 h (sym e))

-- ---- the list call's own order

module _ (q : Asked) (b : Lent) where
  pub list_one : lengths_fit q b ≡ false → list_refusal q b ≡ 1
  unfolding list_refusal refusal
  list_one e = simp e

  module _ (sizes : lengths_fit q b ≡ true) where
    pub list_two : map_fits (2 ^ 40) q.map ≡ false → list_refusal q b ≡ 2
    unfolding list_refusal refusal
    list_two e = simp (sizes, e)

    module _ (map : map_fits (2 ^ 40) q.map ≡ true) where
      pub list_seven : cr3s_fit (length q.map) q.cr3s ≡ false → list_refusal q b ≡ 7
      unfolding list_refusal refusal
      list_seven e = simp (sizes, map, e)

      pub list_later : cr3s_fit (length q.map) q.cr3s ≡ true
          → list_refusal q b
          ≡ or_else (first_refusal (length q.events / 4) (λ k. event_refusal (setup_asked q b) (event_of q.events k))) (question_refusal (setup_asked q b) q.question)
      unfolding list_refusal refusal
      list_later e = simp (sizes, map, e)
