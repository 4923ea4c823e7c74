-- Event by event. At every turn the machine is in the state after the events passed, and their lines have been written.
use mathlib.Core.Path.{◌≡◌}
use Rattle.tables.specs.State.{machine64}
use Rattle.trainer.specs.PartsCode.{state_in}
use Rattle.trainer.proofs.EventLines.{Ran}
use Rattle.trainer.proofs.Session.put_events.Given as goal

abbrev pub invariant-loop-k : goal.invariant-loop-k
invariant-loop-k l =
    (l.self.sizes ≡ l.initial.self.sizes) × (l.self.map.now ≡ l.initial.self.map.now)
    × Ran (machine64 l.initial.self.sizes) l.initial.self.map.now (state_in l.initial.self) l.fn.events l.initial.printer l.k l.printer (state_in l.self)
