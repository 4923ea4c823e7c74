-- What holds of the calls, whatever the buffers: one answer and one state, and number 12 never.
use mathlib.Core.Path.{◌≡◌, refl, sym, ap, ◌∙◌}
use mathlib.Core.Bool.{Bool, true, false, not, ◌&&◌}
use mathlib.Core.Logic.{inl, inr}
use mathlib.Core.List.{List, [], ◌∷◌, ◌++◌}
use Prim.Native.Nat.{ℕ, ◌-◌, ◌*◌, ◌<◌}
use native.Mathlib.Omega.{arith}
use lib.Dec.{eqb}
use lib.ListN.{length}
use borrow.Author.Tests.{le-ltb, ne_eqb}
use Rattle.std.specs.Prelude.{Result, Ok, Err}
use Rattle.paging.specs.Layout.{frame_words}
use Rattle.rules.specs.declared.Event.{Event}
use Rattle.rules.specs.declared.Refusal.{Refusal}
use Rattle.rules.specs.Refusal.{test, refusal}
use Rattle.rules.specs.History.{event_tests}
use Rattle.rules.proofs.Ranges.{below_twelve}
use Rattle.rules.proofs.Refusals.{same_refusal}
use Rattle.tables.specs.State.{Machine, State}
use Rattle.lawful.specs.Rules.{lawful}
use Rattle.shadow.specs.declared.Answer.{Answer}
use Rattle.shadow.specs.After.{after}
use Rattle.shadow.specs.Refusals.{setup_refusal}
use Rattle.shadow.proofs.Sizing.{Ranged, ranged}
use Rattle.shadow.specs.Answer.{Reply, replies, by_number}
use Rattle.shadow.specs.Setup.{after_setup}
use Rattle.shadow.specs.Moves.{after_store}
use Rattle.shadow.specs.Refusals.{as_setup, ranges_fit, lengths_fit, frames_fit, too_few, call_refusal}

-- ---- ANY TWO RESULTS THAT A PROMISE ALLOWS ARE EQUAL

-- as the C interface gives them, a refusal as its number
pub event_unique : (M : Machine) (map : List ℕ) (s : State) (e : Event) (r r' : Result Answer ℕ) (t t' : State)
    → replies r t ≡ after M map s e → replies r' t' ≡ after M map s e → (r ≡ r') × (t ≡ t')
event_unique M map s e r r' t t' p q = (ap (λ (x : Reply). x.answer) (p ∙ sym q), ap (λ (x : Reply). x.state) (p ∙ sym q))

pub setup_unique : (M : Machine) (map cr3s : List ℕ) (s : State) (r r' : Result Answer ℕ) (t t' : State)
    → replies r t ≡ after_setup M map cr3s s → replies r' t' ≡ after_setup M map cr3s s → (r ≡ r') × (t ≡ t')
setup_unique M map cr3s s r r' t t' p q = (ap (λ (x : Reply). x.answer) (p ∙ sym q), ap (λ (x : Reply). x.state) (p ∙ sym q))

-- as the functions give them: a promise tells a refusal's number, and no two refusals share one
pub same_reply : (x y : Result Answer Refusal) → by_number x ≡ by_number y → x ≡ y
same_reply (Ok a) (Ok b) e = cc
same_reply (Ok a) (Err s) e = cc
same_reply (Err r) (Ok b) e = cc
same_reply (Err r) (Err s) e = ap (λ (k : Refusal). Err k) (same_refusal r s cc)

pub event_result_unique : (M : Machine) (map : List ℕ) (s : State) (e : Event) (r r' : Result Answer Refusal) (t t' : State)
    → replies (by_number r) t ≡ after M map s e → replies (by_number r') t' ≡ after M map s e → (r ≡ r') × (t ≡ t')
event_result_unique M map s e r r' t t' p q =
    let (same, left) = event_unique M map s e (by_number r) (by_number r') t t' p q in (same_reply r r' same, left)

pub setup_result_unique : (M : Machine) (map cr3s : List ℕ) (s : State) (r r' : Result Answer Refusal) (t t' : State)
    → replies (by_number r) t ≡ after_setup M map cr3s s → replies (by_number r') t' ≡ after_setup M map cr3s s → (r ≡ r') × (t ≡ t')
setup_result_unique M map cr3s s r r' t t' p q =
    let (same, left) = setup_unique M map cr3s s (by_number r) (by_number r') t t' p q in (same_reply r r' same, left)

-- ---- NUMBER 12 IS NEVER MET

pub never_twelve : (M : Machine) (map : List ℕ) (s : State) (e : Event) → call_refusal M map s e < 12
unfolding call_refusal
never_twelve M map s e = go (ranges_fit M) refl
  where
    few : Ranged M → too_few M ≡ false
    few h = le-ltb (M.share - 1) (M.tables.levels - 1) (omega (arith, h.share))

    go : (b : Bool) → ranges_fit M ≡ b
        → refusal (test 1 (not (b && lengths_fit M map s.shadow s.slots && eqb (length s.words) (frame_words * M.frames)))
        ∷ test 2 (not (frames_fit M map)) ∷ test 3 (not (lawful M map s))
        ∷ event_tests (as_setup M s) e ++ (test 12 (too_few M) ∷ [])) < 12
    go false q = unfold refusal in omega arith
    go true q =
        below_twelve _
        (inl (omega arith), (inl (omega arith), (inl (omega arith), (inl (omega arith), (inl (omega arith), (inl (omega arith), (inl (omega arith), (inl (omega arith), (inl (omega arith), (inl (omega arith), (inr (few (ranged M q)), tt)))))))))))

pub setup_below_twelve : (M : Machine) (map cr3s : List ℕ) (s : State) → setup_refusal M map cr3s s < 12
unfolding setup_refusal
setup_below_twelve M map cr3s s = below_twelve _ (inl (omega arith), (inl (omega arith), (inl (omega arith), tt)))

-- ---- A REFUSAL CHANGES NOTHING, AND A STORE BREAKS NO STATE RULE

pub refusal_keeps : (M : Machine) (map : List ℕ) (s : State) (e : Event) → (call_refusal M map s e ≡ 0 → ⊥) → (after M map s e).state ≡ s
unfolding after
refusal_keeps M map s e some = simp (ne_eqb (call_refusal M map s e) 0 some)

pub store_keeps : (M : Machine) (map : List ℕ) (s : State) (a b : ℕ) → lawful M map s ≡ true → lawful M map (after_store a b s).state ≡ true
unfolding lawful
store_keeps M map s a b h = h
