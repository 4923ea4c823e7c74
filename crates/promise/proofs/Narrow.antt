-- A trial: demand 3 for machines with 32-bit tables, by the same theorem; and a run that meets its hypotheses, with two
-- tables in a share.
use mathlib.Core.Path.{◌≡◌, refl}
use mathlib.Core.Bool.{true}
use mathlib.Core.List.{[], ◌∷◌}
use Prim.Native.Nat.{ℕ, ◌+◌, ◌*◌, ◌^◌}
use native.Mathlib.Omega.{arith}
use lib.ListN.{set, replicate}
use Rattle.paging.specs.Numbers.{all, each, first_from, sum}
use Rattle.paging.specs.Frame.{map_fits, cr3s_fit}
use Rattle.paging.specs.Layout.{get, put, index, page_of, frame_of, rights_of, compose, is_present, with_bit}
use Rattle.paging.specs.Walk.{meet, step}
use Rattle.paging.specs.Request.{request_of, enough}
use Rattle.paging.proofs.Narrow.{tables32}
use Rattle.rules.specs.declared.Event.{Event}
use Rattle.rules.specs.Refusal.{refusal}
use Rattle.rules.specs.History.{event_refusal}
use Rattle.tables.specs.State.{Machine, named, descend, lowest}
use Rattle.tables.specs.Steps.{leaf_of, free_count, taken, settle, build, free_table}
use Rattle.shadow.specs.declared.Answer.TheVariants.{Done, Address, Fault, Again}
use Rattle.shadow.specs.After.{moved}
use Rattle.trees.proofs.Entries.{laid32}
use Rattle.promise.specs.Demand.{Accepts, Demand, SettlesInTwo}
use Rattle.promise.specs.Known.{KnownRun, run_of, Answers}
use Rattle.promise.proofs.Quick.{answers_by, Quick}
use Rattle.promise.proofs.Known.{run_fits, known_setup_lem, known_fits, answers}
use Rattle.promise.proofs.Theorems.{every_event_taken, demand_three}
use Rattle.slots.specs.Slots.{serving_slot, flush, flushed}
use Rattle.guest.specs.GuestWalk.{walk_from, dirtied}
use Rattle.shadow.specs.Refusals.{ranges_fit, lengths_fit, pool_fits, in_pool, frames_fit, setup_refusal}
use Rattle.shadow.specs.Moves.{leaf_cleared, after_invlpg}
use Rattle.shadow.specs.Fill.{fill}
use Rattle.shadow.specs.Access.{after_miss, after_access}
use Rattle.shadow.specs.Setup.{rooted}

pub every_event_taken_32 : Accepts tables32
every_event_taken_32 = every_event_taken tables32 laid32

pub demand_three_32 : Demand tables32
demand_three_32 = demand_three tables32 laid32

-- ---- a run: address 4104 is entry 0 of level 2 and entry 1 of level 1, the upper half of word 512. It is stored to, both
-- halves at one moment.

abbrev machine32 : Machine
machine32 = record { tables = tables32; frames = 3; processors = 1; share = 2; base = 2 ^ 19; choose = lowest }

abbrev event : ℕ → ℕ → ℕ → Event
event kind a b = record { proc = 0; kind = kind; a = a; b = b }

unfoldable pub halves : KnownRun
halves = record {
  machine = record {
    machine = machine32;
    map = 100 ∷ 101 ∷ 102 ∷ [];
    words = set (set (replicate 1536 0) 0 4103) 512 (2 ^ 32 * 8199);
    cr3s = 0 ∷ [];
  };
  events = event 4 4104 1 ∷ event 4 4104 1 ∷ event 1 512 (8199 + 2 ^ 32 * 4103) ∷ event 4 4104 1 ∷ event 2 4104 0 ∷ event 4 4104 2 ∷ event 4 4104 2 ∷ event 4 8 0 ∷ event 4 8192 2 ∷ [];
  answers = Again ∷ Address 417800 ∷ Done ∷ Address 417800 ∷ Done ∷ Again ∷ Address 413704 ∷ Again ∷ Fault 0 ∷ [];
}

halves-fits : run_fits halves ≡ true
unfolding run_fits halves setup_refusal refusal event_refusal all ranges_fit lengths_fit frames_fit pool_fits in_pool map_fits cr3s_fit rooted each
halves-fits = refl

halves_quick : Quick halves
unfolding halves answers_by moved each after_access after_miss after_invlpg fill settle build free_table named get put index page_of frame_of rights_of compose is_present meet descend serving_slot first_from flush flushed walk_from step request_of enough dirtied leaf_of leaf_cleared free_count taken sum with_bit rooted
halves_quick = refl

pub halves-answers : Answers halves
unfolding halves
halves-answers = answers halves halves-fits laid32 halves_quick

pub halves_settles : SettlesInTwo halves.machine (run_of halves) 0
unfolding halves
halves_settles = demand_three_32 halves.machine refl (known_setup_lem halves halves-fits) (run_of halves) (known_fits halves halves-fits) 0 (omega arith) tt
