-- The known runs meet the hypotheses of demand 3, and their answers are computed. Document 01's own has both branches.
use mathlib.Core.Path.{◌≡◌, refl, sym, ap, ◌∙◌}
use mathlib.Core.Bool.{Bool, true, ◌&&◌}
use mathlib.Core.List.{List}
use mathlib.Core.Logic.{inl, inr}
use Prim.Native.Nat.{ℕ, zero, suc, ◌*◌, ◌≤◌, ◌<◌}
use native.Mathlib.Omega.{arith}
use lib.Dec.{eqb, ltb}
use lib.ListN.{length, get_or}
use borrow.Author.Tests.{eqb-true, ltb-true}
use Rattle.std.specs.Prelude.{Result, Ok, map}
use Rattle.paging.specs.Layout.{tables64}
use Rattle.paging.specs.Numbers.{all, each}
use Rattle.paging.proofs.Numbers.{all-at, tab-at}
use Rattle.rules.specs.declared.Outcome.{Outcome}
use Rattle.rules.specs.Refusal.{refusal}
use Rattle.rules.specs.History.{Fit, event_at, event_refusal}
use Rattle.rules.proofs.Numbers.{tab-same}
use Rattle.tables.specs.State.{State}
use Rattle.shadow.specs.declared.Answer.{Answer}
use Rattle.shadow.specs.declared.Answer.TheVariants.{Done, Address, Again}
use Rattle.paging.specs.Frame.{map_fits, cr3s_fit}
use Rattle.paging.proofs.Tests.{both}
use Rattle.trees.proofs.Entries.{laid64}
use Rattle.promise.specs.Demand.{Fresh, Run, guest_of, does, state_at, before, answer_at, Says, place, code, Settles, SettlesInTwo}
use Rattle.promise.specs.Known.{KnownRun, run_of, Answers, AllAnswer, runs, stored, narrowed, beside, slotted, crowded, written}
use Rattle.promise.proofs.Quick.{state_by, answers_by_lem, quickly, Quick, stored_quick, narrowed_quick, beside_quick, slotted_quick, crowded_quick, written_quick}
use Rattle.promise.proofs.Lossless.{none_lost}
use Rattle.promise.proofs.Started.{accepted}
use Rattle.promise.proofs.Theorems.{demand_three}
use Rattle.paging.specs.Sound.{Laid}
use Rattle.shadow.specs.Answer.{Reply}
use Rattle.shadow.specs.Refusals.{ranges_fit, lengths_fit, pool_fits, in_pool, frames_fit, setup_refusal}
use Rattle.shadow.specs.Setup.{rooted}
use Rattle.keeps.proofs.Events as events
use Rattle.promise.specs.Demand as D

-- ---- the hypotheses, as tests

module _ (n : KnownRun) where
  abbrev F : Fresh
  F = n.machine

  abbrev setup_fits : Bool
  setup_fits = eqb (setup_refusal F.machine F.map F.cr3s (D.begun F)) 0

  abbrev words_fit : Bool
  words_fit = eqb (length F.words) (512 * F.machine.frames)

  abbrev start_fits : ℕ → Bool
  start_fits p = ltb (get_or F.cr3s p 0) F.machine.frames

  abbrev event_fits : ℕ → Bool
  event_fits k = eqb (event_refusal (guest_of F) (event_at n.events k)) 0

  unfoldable pub run_fits : Bool
  run_fits = setup_fits && words_fit && all F.machine.processors start_fits && all (length n.events) event_fits

  module _ (ok : run_fits ≡ true) where
    passed : (setup_fits ≡ true) × (words_fit ≡ true) × (all F.machine.processors start_fits ≡ true) × (all (length n.events) event_fits ≡ true)
    unfolding run_fits
    passed =
        let (three, events) = both (setup_fits && words_fit && all F.machine.processors start_fits) (all (length n.events) event_fits) ok in
        let (two, starts) = both (setup_fits && words_fit) (all F.machine.processors start_fits) three in
        let (setup, words) = both setup_fits words_fit two in
        (setup, words, starts, events)

    pub known_setup_lem : D.SetupFits F
    known_setup_lem = record { setup = eqb-true _ 0 passed.0; words = eqb-true _ _ passed.1 }

    pub known_fits : Fit (guest_of F) (run_of n).events
    known_fits = record {
      starts = λ p h. ltb-true _ _ (all-at start_fits F.machine.processors passed.2 p h);
      events = λ k h. eqb-true _ 0 (all-at event_fits (length n.events) passed.3 k h);
    }

    module _ (laid : Laid F.machine.tables) where
      -- an event is what it does, since it is taken and no slot is lost
      quick : (k : ℕ) → k < length n.events → (s : State) → state_at F (run_of n) k ≡ s → does F (run_of n) k (before F (run_of n) k) ≡ quickly n (event_at n.events k) s
      quick k h s e =
          events.taken F.machine F.map (before F (run_of n) k) (event_at n.events k) (accepted F laid known_setup_lem (run_of n) known_fits k h)
          ∙ ap (λ (t : State). quickly n (event_at n.events k) t) (none_lost F.machine (state_at F (run_of n) k) ∙ e)

      quick_state : (k : ℕ) → k ≤ length n.events → state_at F (run_of n) k ≡ state_by (quickly n) n.events (D.begun F) k
      unfolding state_at state_by
      quick_state zero h = refl
      quick_state (suc k) h = ap (λ (x : Reply). x.state) (quick k (omega arith) _ (quick_state k (omega arith)))

      -- A KNOWN RUN ANSWERS WHAT ITS TABLE SAYS
      pub answers : Quick n → Answers n
      answers e =
          tab-same (length n.events) (answer_at F (run_of n)) (λ k. (quickly n (event_at n.events k) (state_by (quickly n) n.events (D.begun F) k)).answer)
          (λ k h. ap (λ (x : Reply). x.answer) (quick k h _ (quick_state k (omega arith))))
          ∙ answers_by_lem (quickly n) n.events (D.begun F) ∙ e

stored-fits : run_fits stored ≡ true
unfolding run_fits stored setup_refusal refusal event_refusal all ranges_fit lengths_fit frames_fit pool_fits in_pool map_fits cr3s_fit rooted each
stored-fits = refl

others_fit : (run_fits narrowed ≡ true) × (run_fits beside ≡ true) × (run_fits slotted ≡ true) × (run_fits crowded ≡ true) × (run_fits written ≡ true)
unfolding run_fits narrowed beside slotted crowded written setup_refusal refusal event_refusal all ranges_fit lengths_fit frames_fit pool_fits in_pool map_fits cr3s_fit rooted each
others_fit = (refl, refl, refl, refl, refl)

-- EVERY KNOWN RUN MEETS THE HYPOTHESES OF DEMAND 3 AND ANSWERS WHAT ITS TABLE SAYS
pub runs-answer : AllAnswer runs
unfolding stored narrowed beside slotted crowded written
runs-answer = (
  answers stored stored-fits laid64 stored_quick,
  (
    answers narrowed others_fit.0 laid64 narrowed_quick,
    (
      answers beside others_fit.1 laid64 beside_quick,
      (
        answers slotted others_fit.2 laid64 slotted_quick,
        (
          answers crowded others_fit.3 laid64 crowded_quick,
          (answers written others_fit.4 laid64 written_quick, tt),
        ),
      ),
    ),
  ),
)

-- ---- BOTH BRANCHES OF DEMAND 3: the first access is to be put again and settles then, the fourth event settles at once

answer : (k : ℕ) → k < 7 → answer_at stored.machine (run_of stored) k ≡ get_or (map Ok stored.answers) k (Ok Done)
unfolding stored
answer k h = sym (tab-at 7 (answer_at stored.machine (run_of stored)) k (Ok Done) h) ∙ ap (λ (l : List (Result Answer ℕ)). get_or l k (Ok Done)) runs-answer.0

first_again : answer_at stored.machine (run_of stored) 0 ≡ Ok Again
unfolding stored
first_again = answer 0 (omega arith)

fourth_address : answer_at stored.machine (run_of stored) 3 ≡ Ok (Address 425992)
unfolding stored
fourth_address = answer 3 (omega arith)

-- "again" says no outcome
no_outcome : {F : Fresh} {r : Run} {a : ℕ} {x : Result Answer ℕ} {o : Outcome} → Says F r a x o → x ≡ Ok Again → ⊥
no_outcome (place inside) e = let n : ◌≡◌ {A = ℕ} 0 1 = cc in omega arith
no_outcome code e = let n : ◌≡◌ {A = ℕ} 0 1 = cc in omega arith

pub settles_then : Settles stored.machine (run_of stored) 1
unfolding stored
settles_then = go (demand_three tables64 laid64 stored.machine refl (known_setup_lem stored stored-fits) (run_of stored) (known_fits stored stored-fits) 0 (omega arith) tt)
  where
    go : SettlesInTwo stored.machine (run_of stored) 0 → Settles stored.machine (run_of stored) 1
    go (inl s) = absurd (no_outcome s.says first_again)
    go (inr t) = t.1 1 (omega arith) (omega arith) refl (λ j lo hi. absurd (omega arith))

pub settles_at_once : Settles stored.machine (run_of stored) 3
unfolding stored
settles_at_once = go (demand_three tables64 laid64 stored.machine refl (known_setup_lem stored stored-fits) (run_of stored) (known_fits stored stored-fits) 3 (omega arith) tt)
  where
    go : SettlesInTwo stored.machine (run_of stored) 3 → Settles stored.machine (run_of stored) 3
    go (inl s) = s
    go (inr t) = let q : Ok Again ≡ Ok (Address 425992) = sym t.0 ∙ fourth_address in let n : ◌≡◌ {A = ℕ} 0 1 = cc in absurd (omega arith)
