-- By the tag: an address line or a fault line.
use Rattle.std.proofs.Common.{◌≡◌, ℕ, List, [], ◌∷◌, ap, ◌∙◌, arith}
use borrow.Author.Tests.{eq-eqb, ne_eqb}
use Rattle.paging.specs.declared.Host.{Host}
use Rattle.paging.specs.Frame.{guest, host_of, host_address}
use Rattle.render.specs.Render.{line}
use Rattle.render.specs.LinesCode.{pair_line}
use Rattle.render.proofs.Writes.{puts_as}
use Rattle.render.proofs.Printer.put_outcome.Goals as goal

address_line : (map : List ℕ) (addr tag v : ℕ) → tag ≡ 0 → line 65 (v ∷ host_address (host_of map (guest v)) addr ∷ []) ≡ pair_line map addr tag v
unfolding pair_line
address_line map addr tag v e = simp (eq-eqb tag 0 e)

fault_line : (map : List ℕ) (addr tag v : ℕ) → (tag ≡ 0 → ⊥) → line 70 (v ∷ []) ≡ pair_line map addr tag v
unfolding pair_line
fault_line map addr tag v e = simp (ne_eqb tag 0 e)

pub returns-then-tag-eq0 : goal.returns-then-tag-eq0
returns-then-tag-eq0 c =
    let a = c.args in
    let e = c.put_line.ensures in (
      puts_as
          (ap (λ (x : ℕ). line 65 (a.v ∷ x ∷ [])) (c.host_address-address.ensures ∙ ap (λ (h : Host). host_address h a.addr) c.host_of-host.ensures)
          ∙ address_line a.map.now a.addr a.tag a.v c.if-tag-eq0.true)
          e.0,
      omega (arith, e.1),
    )

pub returns : goal.returns
returns c =
    let a = c.args in
    let e = c.put_line-2.ensures in
    (puts_as (fault_line a.map.now a.addr a.tag a.v c.if-tag-eq0.false) e.0, omega (arith, e.1))
