-- Where the walk is whole, its last table and its rights are in range.
use mathlib.Core.Path.{◌≡◌, ap, ◌∙◌}
use Prim.Native.Nat.{◌<◌, ◌^◌}
use native.Mathlib.Omega.{arith}
use Rattle.std.specs.Prelude.{Ok}
use Rattle.paging.specs.declared.Guest.{Guest}
use Rattle.paging.specs.Layout.{tables64}
use Rattle.guest.specs.declared.Walked.{Walked}
use Rattle.tables.specs.State.{shadows}
use Rattle.shadow.proofs.Walking.{InRange, guest_range}
use Rattle.shadow.proofs.access.miss.Goals as goal
use Rattle.shadow.proofs.access.miss.Goals.{After-shadowed_by-cr3, After-walk_guest}

cr3-small : (c : After-shadowed_by-cr3) → c.shadowed_by-cr3.result.0 < 2 ^ 40
cr3-small c =
    let a = c.args in
    omega (arith, ap (λ (g : Guest). g.0) (c.shadowed_by-cr3.ensures ∙ ap (shadows a.records.now) c.root_of.ensures), c.requires.ready.cr3)

range : (c : After-walk_guest) → c.shadowed_by-cr3.result.0 < 2 ^ 40 → InRange (2 ^ 40) c.walk_guest.result
range c small =
    let a = c.args in
    guest_range tables64 a.m.sizes.frames a.page (2 ^ 40) (omega (arith, c.args.m.sized.frames)) a.words.now c.shadowed_by-cr3.result small c.walk_guest.ensures

whole-range : (c : After-walk_guest) → c.shadowed_by-cr3.result.0 < 2 ^ 40 → (x : Walked) → c.walk_guest.result ≡ Ok x → x.last.0 < 2 ^ 40
whole-range c small x q = let in-range = range c small in (rw q at in-range).0

pub set_d-requires : goal.set_d-requires
set_d-requires c = whole-range (goal.at.set_d-requires c).After-walk_guest (cr3-small (goal.at.set_d-requires c).After-shadowed_by-cr3) c.in-Ok.field-0 c.in-Ok.is
