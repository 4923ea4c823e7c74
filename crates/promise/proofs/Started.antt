-- From a fresh machine: the invariant holds at every moment of a run, and every event that fits is taken.
use mathlib.Core.Path.{◌≡◌, sym, ◌∙◌}
use mathlib.Core.Bool.{Bool, true, ◌&&◌}
use Prim.Native.Nat.{ℕ, zero, suc, ◌≤◌, ◌<◌}
use native.Mathlib.Omega.{arith}
use lib.Dec.{eqb}
use lib.ListN.{length}
use Rattle.rules.specs.History.{Fit, event_at, words_at, cr3_at}
use Rattle.tables.specs.State.{Machine, State}
use Rattle.shadow.proofs.Sizing.{Ranged}
use Rattle.shadow.proofs.Starting.{accepted_sizes, setup_exact, setup_ranged, setup_room}
use Rattle.paging.specs.Sound.{Laid}
use Rattle.trees.proofs.Trees.{Able, able}
use Rattle.trees.proofs.Paths.{zero_absent}
use Rattle.trees.proofs.SlotRules.{empty_right}
use Rattle.keeps.proofs.Alikes.{same_refl}
use Rattle.keeps.proofs.RightStates.{Mapped, RightState}
use Rattle.keeps.proofs.Events.{mapped}
use Rattle.keeps.proofs.Accepts.{same_tests, accepts}
use Rattle.promise.specs.Demand.{Fresh, Run, guest_of, state_at, before}
use Rattle.promise.proofs.Begun.{begun_entries, begun-frame, begun_slots, begun_triples, begun_trees}
use Rattle.promise.proofs.Holds.{Holds, no_path, no_slot}
use Rattle.promise.proofs.Carried.{carried}
use Rattle.promise.proofs.Losing.{losing_holds}
use Rattle.shadow.specs.Refusals.{ranges_fit, lengths_fit, frames_fit, call_refusal}
use Rattle.promise.specs.Demand as D

module _ (F : Fresh) (laid : Laid F.machine.tables) (fresh : D.SetupFits F) where
  abbrev M : Machine
  M = F.machine

  abbrev lengths? : Bool
  lengths? = lengths_fit M F.map (D.begun F).shadow (D.begun F).slots

  abbrev cr3s? : Bool
  cr3s? = eqb (length F.cr3s) M.processors

  shown : ((ranges_fit M && lengths? && cr3s?) ≡ true) × (frames_fit M F.map ≡ true)
  shown = accepted_sizes M F.map F.cr3s (D.begun F) fresh.setup

  pub ranges : Ranged M
  ranges = setup_ranged M F.map F.cr3s (D.begun F) shown.0 shown.1

  pub ready : Able M
  ready = able M laid (omega (arith, laid.upper, ranges.share)) (setup_room M F.map F.cr3s (D.begun F) shown.0 shown.1)

  pub fits : Mapped M F.map
  fits = mapped M F.map (setup_exact M F.map F.cr3s (D.begun F) shown.0 shown.1).guests shown.1

  module _ (r : Run) (fit : Fit (guest_of F) r.events) where
    abbrev At : ℕ → State → Type 0
    At k s = Holds F r.events k s

    start_right : RightState M F.map (D.begun F)
    start_right = record {
      law = record {
        trees = begun_trees M ready F.cr3s F.words F.map fit.starts;
        slots = λ p hp j hj.
            let e = begun_slots M ready F.cr3s F.words p j in
            empty_right M (D.begun F).shadow.pool (D.begun F).slots p j (record { mark = e.0; page = e.1; third = omega (arith, e.2, e.3) });
      };
      triples = begun_triples M ready F.cr3s F.words;
    }

    begins : At 0 (D.begun F)
    unfolding words_at cr3_at
    begins = record {
      laid = laid;
      right = start_right;
      size = fresh.words;
      words = same_refl M.tables F.words;
      roots = λ p hp. begun-frame M ready F.cr3s F.words p hp;
      paths = λ p hp v hv. no_path F r.events (zero_absent _ (begun_entries M ready F.cr3s F.words _ _));
      slots = λ p hp j hj. no_slot F r.events (λ m. omega (arith, (begun_slots M ready F.cr3s F.words p j).0));
    }

    -- an event of the run, in a state that the invariant holds of
    taken : (k : ℕ) → k < length r.events → (s : State) → At k s → call_refusal M F.map s (event_at r.events k) ≡ 0
    taken k hk s h =
        accepts M F.map s ready ranges fits shown.1 h.right h.size (event_at r.events k)
        (sym (same_tests M s F.words F.cr3s (event_at r.events k)) ∙ fit.events k hk)

    lost : (k : ℕ) → At k (state_at F r k) → At k (before F r k)
    lost k h = losing_holds F r.events k (r.lost k) (state_at F r k) h

    -- THE INVARIANT HOLDS AT EVERY MOMENT
    pub holds : (k : ℕ) → k ≤ length r.events → At k (state_at F r k)
    unfolding state_at
    holds zero hk = begins
    holds (suc k) hk =
        let h = lost k (holds k (omega arith)) in
        carried F r.events k (before F r k) h (taken k (omega arith) (before F r k) h)

    pub holds_before : (k : ℕ) → k ≤ length r.events → At k (before F r k)
    holds_before k hk = lost k (holds k hk)

    -- AND EVERY EVENT IS TAKEN
    pub accepted : (k : ℕ) → k < length r.events → call_refusal M F.map (before F r k) (event_at r.events k) ≡ 0
    accepted k hk = taken k hk (before F r k) (holds_before k (omega arith))
