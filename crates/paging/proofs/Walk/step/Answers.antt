-- Each return is one case of the step.
use Rattle.std.specs.Prelude.{Ok}
use mathlib.Core.Path.{◌≡◌, ◌∙◌, sym, ap, ap₂, subst}
use mathlib.Core.Bool.{true}
use Prim.Native.Nat.{ℕ, ◌<◌, ◌≤◌}
use native.Mathlib.Omega.{arith}
use Rattle.paging.specs.declared.Walk.{Walk}
use Rattle.paging.specs.Frame.{guest}
use Rattle.paging.specs.Layout.{tables64, is_present}
use Rattle.paging.specs.Walk.{down_to}
use Rattle.paging.proofs.Steps.{step_complete, step_absent, step_beyond, step-on}
use Rattle.paging.proofs.Walk.step.Goals as goal

pub returns-then-self-eq0 : goal.returns-then-self-eq0
returns-then-self-eq0 c = let a = c.args in sym (step_complete tables64 a.frames a.self a.e c.if-self-eq0.true)

pub returns-then-not-present : goal.returns-then-not-present
returns-then-not-present c =
    let a = c.args in
    sym (step_absent tables64 a.frames a.self a.e (omega arith) (sym c.present.ensures ∙ c.if-not-present.true))

pub returns-then-f-frames : goal.returns-then-f-frames
returns-then-f-frames c =
    let a = c.args in
    let here : is_present a.e ≡ true = cc in
    let f = c.frame_of-f.ensures in
    sym (step_beyond tables64 a.frames a.self a.e (omega arith) here (subst (λ (x : ℕ). a.frames ≤ x) f c.if-f-frames.true))

pub down_to-requires : goal.down_to-requires
down_to-requires c = omega (arith, ap (λ (w : Walk). w.level) c.narrow.ensures)

pub returns : goal.returns
returns c =
    let a = c.args in
    let here = sym c.present.ensures ∙ c.if-not-present.false in
    let f = c.frame_of-f.ensures in
    ap Ok (c.down_to.ensures ∙ ap₂ (λ (w : Walk) (x : ℕ). down_to w (guest x)) c.narrow.ensures f)
    ∙ sym (step-on tables64 a.frames a.self a.e (omega arith) here (subst (λ (x : ℕ). x < a.frames) f c.if-f-frames.false))
