-- A run of the machine: its state at each moment, and its answer to each event.
use Rattle.std.specs.Prelude.{List, Result, ℕ, zero, suc}
use Rattle.rules.specs.declared.Event.{Event}
use Rattle.rules.specs.History.{event_at}
use Rattle.tables.specs.State.{Machine, State}
use Rattle.shadow.specs.declared.Answer.{Answer}
use Rattle.shadow.specs.After.{after}

module _ (M : Machine) (map : List ℕ) (start : State) (es : List Event) where
  -- "Moment k is the state after k events; moment 0 is the start."
  unfoldable pub state_after : ℕ → State
  state_after zero = start
  state_after (suc k) = (after M map (state_after k) (event_at es k)).state

  -- the answer to the event that leads from moment k to the next one
  abbrev pub answer_of : ℕ → Result Answer ℕ
  answer_of k = (after M map (state_after k) (event_at es k)).answer
