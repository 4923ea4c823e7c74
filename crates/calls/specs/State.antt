-- The buffers of a state, by name.
use Rattle.std.specs.Prelude.{ℕ, List}
use Rattle.calls.specs.declared.State.{State}
use Rattle.calls.specs.declared.Buffer.{Buffer}
use Rattle.calls.specs.declared.Buffer.TheVariants.{Words, Pool, Records, Slots}

-- the words of one buffer
abbrev pub buffer_of : State → Buffer → List ℕ
buffer_of s Words = s.words
buffer_of s Pool = s.pool
buffer_of s Records = s.records
buffer_of s Slots = s.slots
