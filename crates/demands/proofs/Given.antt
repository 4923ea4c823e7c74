-- From what a call in C returned to what the library's call gave.
use mathlib.Core.Path.{◌≡◌, refl, sym, ap, ◌∙◌}
use mathlib.Core.List.{List, ◌∷◌}
use Prim.Native.Nat.{ℕ, ◌<◌}
use native.Mathlib.Decide.{ℕ_discrete}
use native.Mathlib.Omega.{arith}
use lib.ListN.{length, get_or}
use borrow.Author.Tests.{eq-eqb, ne_eqb}
use Rattle.std.specs.Prelude.{Result, Ok, Err}
use Rattle.rules.specs.declared.Event.{Event}
use Rattle.tables.specs.State.{Machine, State}
use Rattle.shadow.specs.declared.Answer.{Answer}
use Rattle.shadow.specs.declared.Answer.TheVariants.{Done}
use Rattle.shadow.specs.After.{after}
use Rattle.shadow.specs.Answer.{Reply, gives, refuses as refused_with, refusal_of}
use Rattle.shadow.specs.Refusals.{call_refusal, setup_refusal}
use Rattle.shadow.specs.Setup.{started, after_setup}
use Rattle.keeps.proofs.Theorems.{never_refused}
use Rattle.flamecurl.specs.Exports.{Answered, Exported}
use Rattle.demands.specs.Refuses.{Refuses}

-- ---- any exported call

module _ {A B : Type 0} {size : ℕ} {numbers : A → List ℕ} {Gave : A → Type 0} {before after : B} {answer : List ℕ} {n : ℕ} {told : List ℕ}
    (c : Exported size numbers Gave (after ≡ before) answer n told) where
  -- it returned 0, so its answer buffer had its length
  pub given : n ≡ 0 → Answered numbers Gave n told
  given z = go (ℕ_discrete (length answer) size)
    where
      go : Dec (length answer ≡ size) → Answered numbers Gave n told
      go (yes h) = c.answered h
      go (no h) = absurd (omega (arith, (c.refused h).0))

  module _ {number : ℕ} {zeros : List ℕ} (small : number < 12) (first : (r : A) → Gave r → get_or (numbers r) 0 0 ≡ number)
      (kept : (r : A) → Gave r → (number ≡ 0 → ⊥) → (after ≡ before) × (numbers r ≡ number ∷ zeros)) where
    -- A REFUSAL: its number, zeros else, and nothing changed
    pub refuses : Refuses size number zeros before after answer n told
    refuses = go (ℕ_discrete (length answer) size)
      where
        go : Dec (length answer ≡ size) → Refuses size number zeros before after answer n told
        go (no h) =
            let (one, same, still) = c.refused h in
            let other = ne_eqb (length answer) size h in
            record {
              number = simp other one;
              below = omega (arith, one);
              keeps = λ some. still;
              tells = λ some. simp other same;
            }
        go (yes h) =
            let a = c.answered h in
            let is : n ≡ number = a.first ∙ first a.result a.call in
            let right = eq-eqb (length answer) size h in
            record {
              number = simp right is;
              below = omega (arith, is, small);
              keeps = λ some. (kept a.result a.call (λ z. some (is ∙ z))).0;
              tells = λ some. simp right (a.laid ∙ (kept a.result a.call (λ z. some (is ∙ z))).1 ∙ ap (λ (k : ℕ). k ∷ zeros) (sym is));
            }

-- ---- setup

module _ (M : Machine) (map cr3s : List ℕ) (s : State) where
  -- its two ends
  pub setup_refused : (setup_refusal M map cr3s s ≡ 0 → ⊥) → after_setup M map cr3s s ≡ refused_with (setup_refusal M map cr3s s) s
  unfolding after_setup
  setup_refused some = simp (ne_eqb (setup_refusal M map cr3s s) 0 some)

  pub setup_done : setup_refusal M map cr3s s ≡ 0 → after_setup M map cr3s s ≡ gives Done (started M cr3s s.words)
  unfolding after_setup
  setup_done ok = simp (eq-eqb (setup_refusal M map cr3s s) 0 ok)

  pub setup_number : refusal_of (after_setup M map cr3s s).answer ≡ setup_refusal M map cr3s s
  setup_number = go (ℕ_discrete (setup_refusal M map cr3s s) 0)
    where
      go : Dec (setup_refusal M map cr3s s ≡ 0) → refusal_of (after_setup M map cr3s s).answer ≡ setup_refusal M map cr3s s
      go (yes z) = ap (λ (x : Reply). refusal_of x.answer) (setup_done z) ∙ sym z
      go (no z) = ap (λ (x : Reply). refusal_of x.answer) (setup_refused z)

-- ---- the event call

module _ (M : Machine) (map : List ℕ) (s : State) (e : Event) where
  pub event_refused : (call_refusal M map s e ≡ 0 → ⊥) → after M map s e ≡ refused_with (call_refusal M map s e) s
  unfolding after
  event_refused some = simp (ne_eqb (call_refusal M map s e) 0 some)

  unrefused : (a : Result Answer ℕ) → ((n : ℕ) → a ≡ Err n → ⊥) → refusal_of a ≡ 0
  unrefused (Ok a) none = refl
  unrefused (Err n) none = absurd (none n refl)

  pub event_number : refusal_of (after M map s e).answer ≡ call_refusal M map s e
  event_number = go (ℕ_discrete (call_refusal M map s e) 0)
    where
      go : Dec (call_refusal M map s e ≡ 0) → refusal_of (after M map s e).answer ≡ call_refusal M map s e
      go (yes z) = unrefused (after M map s e).answer (never_refused M map s e z) ∙ sym z
      go (no z) = ap (λ (x : Reply). refusal_of x.answer) (event_refused z)
