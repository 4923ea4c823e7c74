use Prim.Native.Nat.{ℕ}
use mathlib.Core.Path.{sym, ◌≡◌, ◌∙◌, ap}
use native.Mathlib.Omega.{arith}
use Rattle.paging.specs.Layout.{tables64}
use Rattle.paging.proofs.Numbers.{each_none, each_more}
use Rattle.held.specs.FollowCode.{walk_of, reread, reread_all}
use Rattle.held.proofs.reread_all.Goals as goal

pub loop-rights-init : goal.loop-rights-init
loop-rights-init c = sym (each_none _ _)

pub loop-rights-preserved : goal.loop-rights-preserved
loop-rights-preserved c =
    let a = c.args in
    let r = c.loop-rights.rights in
    let same : c.of.result ≡ r = omega (arith, c.of.ensures) in
    c.reread.ensures
    ∙ ap (λ (k : ℕ). reread tables64 a.at.frames a.at.page a.words.now (walk_of a.level a.f k) c.loop-rights.work) same
    ∙ ap (reread tables64 a.at.frames a.at.page a.words.now (walk_of a.level a.f r)) c.loop-rights.invariant ∙ sym (each_more _ _ r)

pub returns : goal.returns
unfolding reread_all
returns c =
    let done : c.loop-rights.rights ≡ 8 = omega arith in
    rw done at c.loop-rights.invariant
