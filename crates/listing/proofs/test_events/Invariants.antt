-- No event before this one is refused.
use mathlib.Core.Path.{◌≡◌}
use mathlib.Core.List.{List}
use Prim.Native.Nat.{ℕ}
use Rattle.rules.specs.History.{setup64, event_refusal}
use Rattle.rules.specs.Numbers.{event_of}
use Rattle.listing.specs.Call.{first_refusal}
use Rattle.listing.proofs.test_events.Given as goal

abbrev pub invariant-loop-e : goal.invariant-loop-e
invariant-loop-e l =
    (words cr3s : List ℕ) → first_refusal l.e-index (λ k. event_refusal (setup64 l.frames l.processors words cr3s) (event_of l.fn.events k)) ≡ 0
