-- Enough tables are free once the fill has settled, or three are after emptying.
use mathlib.Core.Path.{ap, ◌∙◌, subst⁻¹}
use Prim.Native.Nat.{◌≤◌}
use native.Mathlib.Omega.{arith}
use Rattle.paging.specs.declared.Guest.{Guest}
use Rattle.tables.specs.State.{Shadow, shadow_of, machine64, shadows}
use Rattle.tables.specs.SizesCode.{SpotFits}
use Rattle.tables.specs.Steps.{Settled, spot, free_count}
use Rattle.tables.proofs.Names.{root_small}
use Rattle.shadow.proofs.Shares.{enough_free}
use Rattle.shadow.proofs.Filling.{settled_spot}
use Rattle.shadow.proofs.fill.fill.Goals as goal
use Rattle.shadow.proofs.fill.fill.Goals.{After-shadowed_by-cr3, then-count_free-from, else-count_free-from}

-- where a fill begins
from-top : (c : After-shadowed_by-cr3) → SpotFits c.args.m.sizes (spot 3 c.root_of-root.result c.shadowed_by-cr3.result)
from-top c =
    record {
      missing = omega arith;
      table = omega (arith, c.root_of-root.ensures, root_small c.args.m.sized c.args.p c.requires.owner.own);
      frame = omega (arith, ap (λ (g : Guest). g.0) (c.shadowed_by-cr3.ensures ∙ ap (shadows c.args.records.now) c.root_of-root.ensures), c.requires.cr3);
    }

pub build_path-requires-clause-spot_fits : goal.build_path-requires-clause-spot_fits
build_path-requires-clause-spot_fits c =
    let a = c.args in
    let M = machine64 a.m.sizes in
    let top = from-top (goal.at.build_path-requires-clause-spot_fits c).After-shadowed_by-cr3 in
    let h = c.settle-from.new in
    elim c.if-count_free-from.branch [
      | then-count_free-from w ↦
          let three : 3 ≤ free_count M a.p w.empty_share.new.records =
          omega (
            arith,
            ap (λ (h : Shadow). free_count M a.p h.records) w.empty_share.ensures,
            enough_free M c.args.m.sized.some c.requires.spare a.p c.requires.owner.own (shadow_of h.pool h.records),
          ) in
          rw (w.from-is, w.records-is) (top, three)
      | else-count_free-from w ↦
          let settled : SpotFits a.m.sizes c.settle-from.result =
          subst⁻¹ (SpotFits a.m.sizes) (ap (λ (d : Settled). d.spot) c.settle-from.ensures)
          (settled_spot a.m.sizes a.words.now a.page 3 c.root_of-root.result c.shadowed_by-cr3.result (shadow_of a.pool.now a.records.now) top.missing top.table top.frame) in
          rw (w.from-is, w.records-is) (settled, omega (arith, w.if-count_free-from.false, c.count_free.ensures))
    ]
