use mathlib.Core.Path.{ap, ◌∙◌}
use mathlib.Core.List.{List}
use Prim.Native.Nat.{ℕ, ◌-◌, ◌+◌}
use native.Mathlib.Omega.{arith}
use Rattle.paging.specs.Frame.{guest}
use Rattle.paging.specs.Layout.{tables64, frame_of}
use Rattle.tables.specs.State.{machine64, shadow_of}
use Rattle.tables.specs.Steps.{Settled, taken, free_count}
use Rattle.tables.proofs.Names.{bounds}
use Rattle.tables.proofs.Takes.{taken_may, hang-count}
use Rattle.tables.proofs.Fills.{build-end, build-on}
use Rattle.guest.specs.GuestWalk.{guest_entry}
use Rattle.tables.proofs.build_path.Goals as goal

pub hang_next-w-requires-clause-spot_fits : goal.hang_next-w-requires-clause-spot_fits
hang_next-w-requires-clause-spot_fits c =
    let l = c.loop in
    (l.invariant.0, omega arith, (taken_may (machine64 c.args.m.sizes) c.args.p l.records (omega arith)).0)

pub loop-preserved : goal.loop-preserved
loop-preserved c =
    let a = c.args in
    let l = c.loop in
    let M = machine64 a.m.sizes in
    let n = l.w.missing - 1 in
    let e = c.hang_next-w.ensures in
    let g = guest_entry tables64 a.words.now a.page (n + 2) l.w.frame in
    let u = taken M a.p l.records in
    let m = ap (λ (d : Settled). d.spot.missing) e in (
      record {
        missing = omega (arith, m, l.invariant.0.missing);
        table = omega (arith, ap (λ (d : Settled). d.spot.table) e, (taken_may M a.p l.records (omega arith)).0);
        frame = grind (arith, bounds);
      },
      omega (arith, m),
      omega (arith, m, hang-count M a.p l.records u (n + 1) (guest (frame_of tables64 g)), ap (λ (d : Settled). free_count M a.p d.shadow.records) e),
      build-on M a.words.now a.page l.w.missing l.w.table l.w.frame (shadow_of l.pool l.records) a.map.now a.p (omega arith) e
          ∙ l.invariant.3,
    )

pub returns : goal.returns
returns c =
    let a = c.args in
    let l = c.loop in
    build-end (machine64 a.m.sizes) a.words.now a.page l.w.missing l.w.table l.w.frame (shadow_of l.pool l.records) a.map.now a.p
    (omega arith) c.guest_entry-e.ensures c.leaf_of.ensures c.index_of.ensures
    (ap (λ (x : List ℕ). shadow_of x l.records) c.write_entry.ensures)
    ∙ l.invariant.3
