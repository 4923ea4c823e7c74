-- An unmarked walk and one that goes no further change nothing; any other is followed.
use mathlib.Core.Path.{◌≡◌, sym, ◌∙◌, ap}
use Prim.Native.Nat.{ℕ}
use lib.ListN.{get_or}
use Rattle.held.specs.Work.{cell}
use Rattle.held.proofs.Follows.{below, reread_unmarked, reread-set, stops_unless_on}
use Rattle.paging.specs.Layout.{tables64}
use Rattle.held.proofs.reread.Goals as goal

pub returns-then-work-k-ne1 : goal.returns-then-work-k-ne1
returns-then-work-k-ne1 c =
    let a = c.args in
    let new : get_or a.work.now (cell a.at.frames a.w) 0 ≡ 1 → ⊥ = λ m. c.if-work-k-ne1.true (ap (λ (k : ℕ). get_or a.work.now k 0) c.cell_of-k.ensures ∙ m) in
    sym (reread_unmarked tables64 a.at.frames a.at.page a.words.now a.w a.work.now new)

pub returns-in_default : goal.returns-in_default
returns-in_default c =
    let a = c.args in
    let m = ap (λ (k : ℕ). get_or a.work.now k 0) (sym c.cell_of-k.ensures) ∙ c.if-work-k-ne1.false in
    sym (stops_unless_on _ c.next.result a.work.now c.in_default.not-Ok)
    ∙ sym (reread-set tables64 a.at.frames a.at.page a.words.now a.w a.work.now m c.next.result (sym c.next.ensures))

pub follow-requires : goal.follow-requires
follow-requires c =
    let a = c.args in
    (c.requires.0, (below tables64 a.at.frames a.at.page a.words.now a.w c.in-Ok.on c.requires.1 (sym c.next.ensures ∙ c.in-Ok.is)).byte)

pub returns : goal.returns
returns c =
    let a = c.args in
    let m = ap (λ (k : ℕ). get_or a.work.now k 0) (sym c.cell_of-k.ensures) ∙ c.if-work-k-ne1.false in
    c.follow.ensures
    ∙ sym (reread-set tables64 a.at.frames a.at.page a.words.now a.w a.work.now m _ (sym c.next.ensures ∙ c.in-Ok.is))
