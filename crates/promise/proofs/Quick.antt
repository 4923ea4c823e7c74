-- The known runs, computed: each event by what it does, without the tests that it passes.
use mathlib.Core.Path.{◌≡◌, refl, ap, ◌∙◌}
use mathlib.Core.List.{List, [], ◌∷◌}
use Prim.Native.Nat.{ℕ, zero, suc}
use lib.ListN.{length}
use Rattle.std.specs.Prelude.{Result, Ok, map}
use Rattle.paging.specs.Numbers.{each, tab, first_from, sum}
use Rattle.paging.specs.Frame.{origin_from}
use Rattle.paging.specs.Layout.{get, put, index, page_of, frame_of, rights_of, compose, is_present, with_bit}
use Rattle.paging.specs.Walk.{meet, step}
use Rattle.paging.specs.Request.{request_of, enough}
use Rattle.rules.specs.declared.Event.{Event}
use Rattle.rules.specs.History.{event_at}
use Rattle.rules.proofs.Numbers.{tab-same}
use Rattle.tables.specs.State.{Machine, State, owner_of, named, descend}
use Rattle.tables.specs.Steps.{leaf_of, zeroed, free_count, taken, settle, build, free_table, empty_share}
use Rattle.slots.specs.Slots.{empty_slots}
use Rattle.shadow.specs.declared.Answer.{Answer}
use Rattle.shadow.specs.After.{moved}
use Rattle.shadow.specs.Moves.{after_begin, place_below, after_extend, after_drop}
use Rattle.promise.specs.Demand.{done_by}
use Rattle.promise.specs.Known.{KnownRun, stored, narrowed, beside, slotted, crowded, written}
use Rattle.slots.specs.Slots.{serving_slot, flush, flushed}
use Rattle.guest.specs.GuestWalk.{walk_from, dirtied}
use Rattle.shadow.specs.Answer.{Reply}
use Rattle.shadow.specs.Moves.{decode, leaf_cleared, after_invlpg}
use Rattle.shadow.specs.Fill.{fill}
use Rattle.shadow.specs.Access.{after_miss, after_access}
use Rattle.shadow.specs.Setup.{rooted}
use Rattle.promise.specs.Demand as D

-- ---- one event after the other, each once

module _ (act : Event → State → Reply) where
  unfoldable pub state_by : List Event → State → ℕ → State
  state_by es s zero = s
  state_by es s (suc k) = (act (event_at es k) (state_by es s k)).state

  unfoldable pub answers_by : List Event → State → List (Result Answer ℕ)
  answers_by [] s = []
  answers_by (e ∷ es) s = let x = act e s in x.answer ∷ answers_by es x.state

  state_later : (e : Event) (es : List Event) (s : State) (k : ℕ) → state_by (e ∷ es) s (suc k) ≡ state_by es (act e s).state k
  unfolding state_by
  state_later e es s zero = refl
  state_later e es s (suc k) = ap (λ (t : State). (act (event_at es k) t).state) (state_later e es s k)

  pub answers_by_lem : (es : List Event) (s : State) → tab (length es) (λ k. (act (event_at es k) (state_by es s k)).answer) ≡ answers_by es s
  unfolding tab answers_by state_by
  answers_by_lem [] s = refl
  answers_by_lem (e ∷ es) s =
      ap (λ (l : List (Result Answer ℕ)). (act e s).answer ∷ l)
      (tab-same (length es) (λ k. (act (event_at es k) (state_by (e ∷ es) s (suc k))).answer) (λ k. (act (event_at es k) (state_by es (act e s).state k)).answer)
      (λ k h. ap (λ (t : State). (act (event_at es k) t).answer) (state_later e es s k))
      ∙ answers_by_lem es (act e s).state)

-- ---- known runs

-- what an accepted event does
abbrev pub acts : Machine → List ℕ → State → Event → Reply
acts M map s e = moved M map e.proc (decode e) s

abbrev pub quickly : KnownRun → Event → State → Reply
quickly n e s = done_by acts n.machine e s

abbrev pub Quick : KnownRun → Type 0
Quick n = answers_by (quickly n) n.events (D.begun n.machine) ≡ map Ok n.answers

pub stored_quick : Quick stored
unfolding stored answers_by moved each after_access after_miss after_invlpg after_begin place_below after_extend after_drop fill settle build free_table owner_of empty_share empty_slots zeroed named get put index page_of frame_of rights_of compose is_present meet descend serving_slot first_from flush flushed walk_from step request_of enough dirtied leaf_of leaf_cleared free_count taken sum with_bit rooted origin_from
stored_quick = refl

pub narrowed_quick : Quick narrowed
unfolding narrowed answers_by moved each after_access after_miss after_invlpg after_begin place_below after_extend after_drop fill settle build free_table owner_of empty_share empty_slots zeroed named get put index page_of frame_of rights_of compose is_present meet descend serving_slot first_from flush flushed walk_from step request_of enough dirtied leaf_of leaf_cleared free_count taken sum with_bit rooted origin_from
narrowed_quick = refl

pub beside_quick : Quick beside
unfolding beside answers_by moved each after_access after_miss after_invlpg after_begin place_below after_extend after_drop fill settle build free_table owner_of empty_share empty_slots zeroed named get put index page_of frame_of rights_of compose is_present meet descend serving_slot first_from flush flushed walk_from step request_of enough dirtied leaf_of leaf_cleared free_count taken sum with_bit rooted origin_from
beside_quick = refl

pub slotted_quick : Quick slotted
unfolding slotted answers_by moved each after_access after_miss after_invlpg after_begin place_below after_extend after_drop fill settle build free_table owner_of empty_share empty_slots zeroed named get put index page_of frame_of rights_of compose is_present meet descend serving_slot first_from flush flushed walk_from step request_of enough dirtied leaf_of leaf_cleared free_count taken sum with_bit rooted origin_from
slotted_quick = refl

pub crowded_quick : Quick crowded
unfolding crowded answers_by moved each after_access after_miss after_invlpg after_begin place_below after_extend after_drop fill settle build free_table owner_of empty_share empty_slots zeroed named get put index page_of frame_of rights_of compose is_present meet descend serving_slot first_from flush flushed walk_from step request_of enough dirtied leaf_of leaf_cleared free_count taken sum with_bit rooted origin_from
crowded_quick = refl

pub written_quick : Quick written
unfolding written answers_by moved each after_access after_miss after_invlpg after_begin place_below after_extend after_drop fill settle build free_table owner_of empty_share empty_slots zeroed named get put index page_of frame_of rights_of compose is_present meet descend serving_slot first_from flush flushed walk_from step request_of enough dirtied leaf_of leaf_cleared free_count taken sum with_bit rooted origin_from
written_quick = refl
