use mathlib.Core.Path.{◌≡◌, sym, ◌∙◌, ap}
use Prim.Native.Nat.{ℕ}
use native.Mathlib.Omega.{arith}
use lib.ListN.{get_or, set, length-set}
use Rattle.held.specs.Work.{cell}
use Rattle.held.specs.FollowCode.{followed}
use Rattle.held.proofs.Follows.{below, follow_set, follow_new, follow-on, stops_unless_on}
use Rattle.paging.specs.Layout.{tables64}
use Rattle.held.proofs.follow.Goals as goal

pub returns-then-work-k-eq1 : goal.returns-then-work-k-eq1
returns-then-work-k-eq1 c =
    let a = c.args in
    let w = c.loop-work.w in
    let work = c.loop-work.work in
    let m = ap (λ (k : ℕ). get_or work k 0) (sym c.cell_of-k.ensures) ∙ c.if-work-k-eq1.true in
    sym (follow_set tables64 a.at.frames a.at.page a.words.now w work m) ∙ c.loop-work.invariant.2

pub returns-in_default : goal.returns-in_default
returns-in_default c =
    let a = c.args in
    let w = c.loop-work.w in
    let work = c.loop-work.work in
    let k = c.cell_of-k.ensures in
    let new : get_or work (cell a.at.frames w) 0 ≡ 1 → ⊥ = λ m. c.if-work-k-eq1.false (ap (λ (k : ℕ). get_or work k 0) k ∙ m) in
    ap (λ (k : ℕ). set work k 1) k
    ∙ sym (stops_unless_on _ c.next.result (set work (cell a.at.frames w) 1) c.in_default.not-Ok)
    ∙ sym (follow_new tables64 a.at.frames a.at.page a.words.now w work new c.next.result (sym c.next.ensures))
    ∙ c.loop-work.invariant.2

pub loop-work-smaller : goal.loop-work-smaller
loop-work-smaller c =
    let a = c.args in
    let h = below tables64 a.at.frames a.at.page a.words.now c.loop-work.w c.in-Ok.on c.loop-work.invariant.0 (sym c.next.ensures ∙ c.in-Ok.is) in
    omega (arith, h.level)

pub loop-work-preserved : goal.loop-work-preserved
loop-work-preserved c =
    let a = c.args in
    let w = c.loop-work.w in
    let on = c.in-Ok.on in
    let work = c.loop-work.work in
    let k = c.cell_of-k.ensures in
    let new : get_or work (cell a.at.frames w) 0 ≡ 1 → ⊥ = λ m. c.if-work-k-eq1.false (ap (λ (k : ℕ). get_or work k 0) k ∙ m) in
    let e = sym c.next.ensures ∙ c.in-Ok.is in
    let has = c.loop-work.invariant.0 in (
      (below tables64 a.at.frames a.at.page a.words.now w on has e).byte,
      simp length-set c.loop-work.invariant.1,
      ap (λ (k : ℕ). followed tables64 a.at.frames a.at.page a.words.now on (set work k 1)) k
          ∙ sym (follow-on tables64 a.at.frames a.at.page a.words.now w work new on has e) ∙ c.loop-work.invariant.2,
    )
