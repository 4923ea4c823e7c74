-- The frames below f have been written, at most f of them.
use mathlib.Core.Path.{◌≡◌}
use Prim.Native.Nat.{◌≤◌}
use lib.ListN.{length}
use Rattle.paging.specs.Numbers.{each}
use Rattle.paging.specs.Frame.{guest}
use Rattle.rules.specs.declared.Outcome.TheVariants.{Address}
use Rattle.listing.specs.CollectCode.{out_of, pushed, serves}
use Rattle.listing.proofs.addresses.Given as goal

abbrev pub invariant-loop-f : goal.invariant-loop-f
invariant-loop-f l = record {
  same_reference : l.outcomes.buffer.ghost_name ≡ l.initial.outcomes.buffer.ghost_name;
  few : l.outcomes.count ≤ l.f;
  size : length l.outcomes.buffer.now ≡ length l.initial.outcomes.buffer.now;
  written : out_of l.outcomes.count l.outcomes.buffer.now ≡ each l.f (λ f. pushed (serves l.frames l.q l.work f) (Address (guest f))) (out_of 0 l.initial.outcomes.buffer.now);
}
