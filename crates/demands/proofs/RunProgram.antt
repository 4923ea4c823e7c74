-- The machine that `run` goes through is a fresh machine of demand 3 that loses no slot.
use mathlib.Core.Path.{◌≡◌, refl, sym, ap, subst, ◌∙◌}
use mathlib.Core.List.{List, [], ◌++◌}
use Prim.Native.Nat.{ℕ, zero, suc, ◌+◌, ◌*◌, ◌/◌}
use lib.ListN.{length, drop, replicate, length-replicate}
use Rattle.rules.specs.History.{event_at}
use Rattle.rules.specs.Numbers.{events_of}
use Rattle.tables.specs.declared.Sizes.{Sizes}
use Rattle.tables.specs.State.{Machine, machine64, shadow_of, State, state_of}
use Rattle.shadow.specs.After.{after}
use Rattle.shadow.specs.Runs.{state_after, answer_of}
use Rattle.sections.specs.Sections.{Got, got, Puzzle}
use Rattle.puzzle.specs.Buffers.{words_of}
use Rattle.puzzle.proofs.Theorems.{words_long}
use Rattle.trainer.specs.Call.{puzzle_in, Prints}
use Rattle.trainer.specs.Run.{sizes_of, answer_line, RunOf}
use Rattle.trainer.proofs.Turns.{joined_same}
use Rattle.trainer.proofs.Theorems.{read, starts}
use Rattle.promise.specs.Demand.{state_at, answer_at}
use Rattle.flamecurl.specs.Exports.{PrintExport}
use Rattle.demands.proofs.Setups.{setup_fits_lem}
use Rattle.demands.proofs.Calls.{printed}
use Rattle.demands.specs.RunProgram.{machine_for, run_for, printed_for}
use Rattle.promise.proofs.Lossless.{none_lost}
use Rattle.shadow.specs.Setup.{started}
use Rattle.promise.specs.Demand as D

module _ (z : Puzzle) where
  abbrev M : Machine
  M = machine64 (sizes_of z.map z.cr3s)

  same_state : (k : ℕ) → state_at (machine_for z) (run_for z) k ≡ state_after M z.map (started M z.cr3s (words_of z)) (events_of z.events) k
  unfolding state_at state_after
  same_state zero = refl
  same_state (suc k) =
      ap (λ (s : State). (after M z.map s (event_at (events_of z.events) k)).state) (none_lost M (state_at (machine_for z) (run_for z) k) ∙ same_state k)

  -- its answers are demand 3's
  pub same_answer : (k : ℕ) → answer_at (machine_for z) (run_for z) k ≡ answer_of M z.map (started M z.cr3s (words_of z)) (events_of z.events) k
  same_answer k =
      ap (λ (s : State). (after M z.map s (event_at (events_of z.events) k)).answer) (none_lost M (state_at (machine_for z) (run_for z) k) ∙ same_state k)

module _ (text : List ℕ) {z : Puzzle} {at : ℕ} (e : puzzle_in text ≡ got z at) where
  abbrev sizes : Sizes
  sizes = sizes_of z.map z.cr3s

  abbrev P : ℕ
  P = length z.cr3s

  -- setup takes buffers of these lengths, whatever they hold
  zeros : State
  zeros = state_of [] (shadow_of (replicate (2048 * P) 0) (replicate (8 * P) 0)) (replicate (24 * P) 0)

  -- AN ACCEPTED TEXT'S MACHINE IS WITHIN THE RANGES
  pub run-sized : D.SetupFits (machine_for z)
  unfolding zeros
  run-sized =
      setup_fits_lem sizes z.map z.cr3s zeros
      ((starts text e).taken (replicate (2048 * P) 0) (replicate (8 * P) 0) (replicate (24 * P) 0) (length-replicate (2048 * P) 0) (length-replicate (8 * P) 0) (length-replicate (24 * P) 0))
      (words_of z) (words_long text (read text e))

  -- WHAT `run` PRINTS ARE THE ANSWERS OF THAT RUN
  pub run_prints : (before after : List ℕ) {answer told : List ℕ} → PrintExport RunOf text before after answer 0 told → after ≡ printed_for z ++ drop (length (printed_for z)) before
  run_prints before after c =
      let p = (printed RunOf text before after c).2 in
      p.holds ∙ ap (λ (l : List ℕ). l ++ drop (length l) before) (lines p.bytes p.prints)
    where
      lines : (bytes : List ℕ) → Prints RunOf (puzzle_in text) bytes → bytes ≡ printed_for z
      lines bytes h =
          subst (λ (m : Got Puzzle). Prints RunOf m bytes) e h
          ∙ joined_same (length z.events / 4) _ _ (λ k l. ap (answer_line (k + 1)) (sym (same_answer z k)))
