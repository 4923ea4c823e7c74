-- A frame that is not noted is new; another is compared.
use mathlib.Core.Path.{sym, ap, ◌∙◌}
use mathlib.Core.Bool.{not}
use Prim.Native.Nat.{ℕ}
use lib.ListN.{get_or}
use borrow.Author.Tests.{ne_eqb}
use Rattle.paging.proofs.Notes.{not_noted}
use Rattle.paging.proofs.is_new_by.Goals as goal

pub returns-then-notes-noted_at-ne1 : goal.returns-then-notes-noted_at-ne1
returns-then-notes-noted_at-ne1 c =
    let a = c.args in
    let t = c.if-notes-noted_at-ne1.true in
    let e = c.noted_at.ensures in
    let r = sym (not_noted a.map.now a.notes.now a.n a.f c.requires.1 (λ e. c.if-notes-noted_at-ne1.true (ap (λ (i : ℕ). get_or a.notes.now i 0) c.noted_at.ensures.0 ∙ e))) in
    ap not (ne_eqb (get_or a.notes.now c.noted_at.result 0) 1 c.if-notes-noted_at-ne1.true) ∙ r
