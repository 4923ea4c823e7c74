use Rattle.std.proofs.Common.{rules}
use mathlib.Core.Path.{sym, ◌∙◌}
use Prim.Native.Nat.{◌^◌}
use native.Mathlib.Omega.{arith}
use lib.ListN.{get_or}
use borrow.Author.Tests.{lt-ltb, le-ltb}
use Rattle.paging.specs.Frame.{map_fits}
use Rattle.paging.proofs.Loops.{passed_none, passed_more, passed_stop, passed-all}
use Rattle.paging.proofs.Notes.{noted_more}
use Rattle.paging.proofs.map_fits.Goals as goal
use Rattle.paging.proofs.map_fits.Goals.{then-f-ge1099511627776-via-then-f-ge1099511627776, then-f-ge1099511627776-via-else-f-ge1099511627776+then-not-is_new_by}

pub loop-i-init : goal.loop-i-init
loop-i-init c = (passed_none, record { room = search rules; each = λ k lt. absurd (omega arith) })

pub returns-then-f-ge1099511627776 : goal.returns-then-f-ge1099511627776
unfolding map_fits
returns-then-f-ge1099511627776 c =
    let l = c.loop-i in
    let m = c.args.map.now in
    elim c.then-f-ge1099511627776.branch [
      | then-f-ge1099511627776-via-then-f-ge1099511627776 w ↦
          passed_stop l.invariant.0 (omega arith) (simp (le-ltb (get_or m l.i 0) (2 ^ 40) w.if-f-ge1099511627776.true))
      | then-f-ge1099511627776-via-else-f-ge1099511627776+then-not-is_new_by w ↦
          let old = sym w.is_new_by.ensures ∙ w.if-not-is_new_by.true in
          passed_stop l.invariant.0 (omega arith) (simp (lt-ltb (get_or m l.i 0) (2 ^ 40) w.if-f-ge1099511627776.false, old))
    ]

pub loop-i-preserved : goal.loop-i-preserved
loop-i-preserved c =
    let l = c.loop-i in
    let m = c.args.map.now in
    let new = sym c.is_new_by.ensures ∙ c.if-not-is_new_by.false in
    let place = c.noted_at.ensures in (
      passed_more l.invariant.0 (omega arith) (simp (lt-ltb (get_or m l.i 0) (2 ^ 40) c.if-f-ge1099511627776.false, new)),
      noted_more m l.notes l.i _ l.invariant.1 place.0 place.1,
    )

pub returns : goal.returns
unfolding map_fits
returns c = passed-all c.loop-i.invariant.0 (omega arith)
