-- One event more: the machine has taken one step, and the line of its answer has been written.
use Rattle.std.specs.Prelude.{Result, Ok, Err}
use mathlib.Core.Path.{◌≡◌, refl, sym, ap, ap₂, ◌∙◌}
use mathlib.Core.List.{List}
use Prim.Native.Nat.{ℕ, ◌+◌, ◌*◌, ◌/◌, ◌≤◌, ◌<◌}
use native.Mathlib.Numerals.{add-one}
use native.Mathlib.Omega.{arith}
use lib.ListN.{length}
use borrow.Author.Tests.{eq-eqb}
use Rattle.rules.specs.History.{event_at}
use Rattle.rules.specs.Numbers.{event_of, events_of}
use Rattle.listing.proofs.Accepts.{event-at}
use Rattle.tables.specs.State.{Machine, State, state_of}
use Rattle.shadow.specs.declared.Answer.{Answer}
use Rattle.shadow.specs.declared.Answer.TheVariants.{Done, Address, Fault, Again, NoStep}
use Rattle.shadow.specs.Answer.{kind_of, Reply, replies, gives}
use Rattle.shadow.specs.After.{after}
use Rattle.shadow.specs.Setup.{started, after_setup}
use Rattle.shadow.specs.Refusals.{setup_refusal}
use Rattle.shadow.specs.Runs.{state_after}
use Rattle.render.specs.declared.Printer.{Printer}
use Rattle.render.specs.WrittenCode.{Puts}
use Rattle.render.proofs.Writes.{puts_none, puts_append, puts_as}
use Rattle.trainer.specs.Call.{joined}
use Rattle.trainer.specs.Run.{answer_line, event_line}
use Rattle.trainer.proofs.Turns.{joined_more}

-- a kind has one digit
pub kind_small : (a : Result Answer ℕ) → kind_of a < 10
kind_small (Ok Done) = omega arith
kind_small (Ok (Address v)) = omega arith
kind_small (Ok (Fault c)) = omega arith
kind_small (Ok Again) = omega arith
kind_small (Ok NoStep) = omega arith
kind_small (Err n) = omega arith

module _ (M : Machine) (map : List ℕ) (start : State) (events : List ℕ) (first : Printer) where
  abbrev pub line_of : ℕ → List ℕ
  line_of = event_line M map start (events_of events)

  -- after k events
  pub record Ran (k : ℕ) (now : Printer) (s : State) : Type 0 where
    pub state : s ≡ state_after M map start (events_of events) k
    pub puts : Puts (joined k line_of) first now
    pub few : now.at ≤ first.at + 46 * k

  pub ran_none : Ran 0 first start
  unfolding state_after joined
  ran_none = record { state = refl; puts = puts_none first; few = omega arith }

  next_state : (k : ℕ) → (after M map (state_after M map start (events_of events) k) (event_at (events_of events) k)).state ≡ state_after M map start (events_of events) (k + 1)
  unfolding state_after
  next_state k = rw (add-one k)

  pub ran_more : {k : ℕ} {now : Printer} {s : State} → Ran k now s → k < length events / 4 → {a : Result Answer ℕ} {t : State} → replies a t ≡ after M map s (event_of events k)
      → {next : Printer} → Puts (answer_line (k + 1) a) now next → next.at ≤ now.at + 46 → Ran (k + 1) next t
  ran_more {k} p h {a} {t} g w few =
      let step : replies a t ≡ after M map (state_after M map start (events_of events) k) (event_at (events_of events) k) =
      g ∙ ap₂ (after M map) p.state (sym (event-at events k h)) in
      record {
        state = ap (λ (x : Reply). x.state) step ∙ next_state k;
        puts = puts_as (sym (joined_more k line_of)) (puts_append p.puts (puts_as (ap (λ (x : Reply). answer_line (k + 1) x.answer) step) w));
        few = omega (arith, p.few);
      }

-- an accepted setup leaves the state in which a run starts
pub set_up : (M : Machine) (map cr3s words : List ℕ) (s t : State) {a : Result Answer ℕ} → setup_refusal M map cr3s s ≡ 0 → replies a t ≡ after_setup M map cr3s s
    → state_of words t.shadow t.slots ≡ started M cr3s words
unfolding after_setup
set_up M map cr3s words s t none g =
    let taken : after_setup M map cr3s s ≡ gives Done (started M cr3s s.words) = simp (eq-eqb (setup_refusal M map cr3s s) 0 none) in
    ap (λ (x : Reply). state_of words x.state.shadow x.state.slots) (g ∙ taken)
