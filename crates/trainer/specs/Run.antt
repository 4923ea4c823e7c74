-- What `run` promises: the line of each event, from the machine that goes through all of them.
use Rattle.std.specs.Prelude.{◌≡◌, List, [], ℕ, ◌+◌, ◌/◌, ◌^◌, ◌*◌, ◌≤◌, length, Result}
use Rattle.rules.specs.declared.Event.{Event}
use Rattle.rules.specs.Numbers.{events_of}
use Rattle.tables.specs.declared.Sizes.{Sizes}
use Rattle.tables.specs.State.{Machine, machine64, State, shadow_of, state_of}
use Rattle.shadow.specs.declared.Answer.{Answer}
use Rattle.shadow.specs.Answer.{kind_of, value_of}
use Rattle.shadow.specs.Setup.{started}
use Rattle.shadow.specs.Runs.{answer_of}
use Rattle.render.specs.Render.{render_event}
use Rattle.trainer.specs.declared.Told.{Told}
use Rattle.trainer.specs.Call.{joined, Lines, Call}
use Rattle.shadow.specs.Refusals.{setup_refusal}
use Rattle.slots.specs.Slots.{slots_size}
use Rattle.sections.specs.Sizes.{most_processors}

-- "The programs take … S = 4"; "Pool base is 2^20."
abbrev pub sizes_of : List ℕ → List ℕ → Sizes
sizes_of map cr3s = record { frames = length map; processors = length cr3s; share = 4; base = 2 ^ 20 }

-- setup takes this map and these CR3s, whatever the buffers hold that it fills
pub record Startable (map cr3s : List ℕ) : Type 0 where
  pub few : length cr3s ≤ most_processors
  pub taken : (pool records slots : List ℕ) → length pool ≡ 2048 * length cr3s → length records ≡ 8 * length cr3s → length slots ≡ slots_size * length cr3s
      → setup_refusal (machine64 (sizes_of map cr3s)) map cr3s (state_of [] (shadow_of pool records) slots) ≡ 0

abbrev pub answer_line : ℕ → Result Answer ℕ → List ℕ
answer_line index a = render_event index (kind_of a) (value_of a)

-- "per event `E index kind value`, the index counting from 1"
abbrev pub event_line : Machine → List ℕ → State → List Event → ℕ → List ℕ
event_line M map start es k = answer_line (k + 1) (answer_of M map start es k)

-- the machine is set up for the puzzle's guest, and each event meets the state that the ones before left
abbrev pub RunOf : Lines
RunOf b bytes =
    let M = machine64 (sizes_of b.map b.cr3s) in
    bytes ≡ joined (length b.events / 4) (event_line M b.map (started M b.cr3s b.words) (events_of b.events))

-- THE PROMISE OF `run`
abbrev pub RunCall : List ℕ → List ℕ → Told → List ℕ → Type 0
RunCall = Call RunOf
