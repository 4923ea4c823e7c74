-- A partial slot stands on a table, and where it moves to is small.
use mathlib.Core.Path.{sym, ap, ◌∙◌}
use Prim.Native.Nat.{◌-◌}
use native.Mathlib.Omega.{arith}
use Rattle.paging.specs.Layout.{tables64}
use Rattle.paging.proofs.Indices.{index_small}
use Rattle.tables.specs.State.{machine64}
use Rattle.tables.proofs.Names.{few}
use Rattle.slots.specs.declared.Slot.{Slot}
use Rattle.shadow.proofs.Extends.{place_small}
use Rattle.shadow.proofs.events.extend.Goals as goal

pub entry_at-e-requires : goal.entry_at-e-requires
entry_at-e-requires c =
    let s = c.slot_of-slot in (
      omega (
        arith,
        ap (λ (x : Slot). x.place) s.ensures,
        c.requires.stands.table (omega (arith, ap (λ (x : Slot). x.mark) s.ensures, c.if-slot-lt2.false)),
      ),
      omega (arith, c.index_of.ensures, index_small tables64 s.result.page (s.result.mark - 1)),
    )

pub set_slot-requires : goal.set_slot-requires
set_slot-requires c =
    let a = c.args in
    let s = c.slot_of-slot.result in
    let small = place_small (machine64 a.m.sizes) a.map.now (s.mark - 1) c.entry_at-e.result c.in-Some.place (sym c.place_below.ensures ∙ c.in-Some.is) in (
      (omega (arith, c.args.m.sized.processors, c.requires.owner.own), c.requires.owner.triples),
      c.requires.slot,
      omega (arith, small, c.requires.guests, few c.args.m.sized),
    )
