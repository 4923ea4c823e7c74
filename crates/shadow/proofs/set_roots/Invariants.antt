-- The roots below p are set.
use mathlib.Core.Path.{◌≡◌}
use lib.ListN.{get_or}
use Rattle.paging.specs.Frame.{guest}
use Rattle.paging.specs.Numbers.{each}
use Rattle.tables.specs.State.{machine64, with_record, root_of}
use Rattle.shadow.proofs.set_roots.Given as goal

abbrev pub invariant-loop-p : goal.invariant-loop-p
invariant-loop-p l = l.records ≡ each l.p (λ k. with_record (root_of (machine64 l.m.sizes) k) 4 (guest (get_or l.cr3s k 0))) l.initial.records
