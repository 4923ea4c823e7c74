-- Each way through the code is one case of taking an event.
use mathlib.Core.Path.{◌≡◌, sym, ◌∙◌, ap}
use Prim.Native.Nat.{ℕ}
use native.Mathlib.Omega.{arith}
use lib.ListN.{set}
use Rattle.paging.specs.Layout.{tables64}
use Rattle.paging.specs.Frame.{guest}
use Rattle.rules.specs.declared.Kind.TheVariants.{Store, Invlpg, Cr3Write}
use Rattle.rules.specs.Numbers.{kind_number}
use Rattle.held.specs.FollowCode.{restarted}
use Rattle.listing.specs.ReplayCode.{replay_of}
use Rattle.listing.proofs.Applies.{same_kind, forgets_in, applied-store, applied_other, applied-invlpg, applied-cr3, applied_quiet, applied_unknown}
use Rattle.listing.proofs.apply.Goals as goal

pub returns-in_default : goal.returns-in_default
returns-in_default c =
    let a = c.args in
    let h = rw c.in_default.is at c.try_from.ensures in
    sym (applied_unknown a.at.frames a.p a.at.page a.e (replay_of a.cr3 a.words.now a.work.now) h.1)

pub returns-in-Store : goal.returns-in-Store
returns-in-Store c =
    let a = c.args in
    ap (replay_of a.cr3 (set a.words.now a.e.a a.e.b)) c.reread_word.ensures
    ∙ sym (applied-store a.at.frames a.p a.at.page a.e (replay_of a.cr3 a.words.now a.work.now) (sym c.in-Ok.ensures ∙ ap kind_number c.in-Store.is))

pub returns-then-e-p : goal.returns-then-e-p
returns-then-e-p c =
    let a = c.args in
    let kind : a.e.kind ≡ 2 = sym c.in-Ok.ensures ∙ ap kind_number c.in-Invlpg.is in
    sym (applied_other a.at.frames a.p a.at.page a.e (replay_of a.cr3 a.words.now a.work.now) (λ k. omega arith) c.if-e-p.true)

pub restart-requires : goal.restart-requires
restart-requires c =
    let a = c.args in
    (c.requires.0, omega (arith, c.forgotten.ensures, forgets_in a.at.frames a.at.page a.e.a), c.requires.1)

pub returns-else-e-p : goal.returns-else-e-p
returns-else-e-p c =
    let a = c.args in
    let kind : a.e.kind ≡ 2 = sym c.in-Ok.ensures ∙ ap kind_number c.in-Invlpg.is in
    ap (replay_of a.cr3 a.words.now)
    (c.restart.ensures ∙ ap (λ (k : ℕ). restarted tables64 a.at.frames a.at.page a.words.now k (guest a.cr3) a.work.now) c.forgotten.ensures)
    ∙ sym (applied-invlpg a.at.frames a.p a.at.page a.e (replay_of a.cr3 a.words.now a.work.now) (λ k. omega arith) c.if-e-p.false kind)

pub returns-then-e-p-2 : goal.returns-then-e-p-2
returns-then-e-p-2 c =
    let a = c.args in
    let kind : a.e.kind ≡ 3 = sym c.in-Ok.ensures ∙ ap kind_number c.in-Cr3Write.is in
    sym (applied_other a.at.frames a.p a.at.page a.e (replay_of a.cr3 a.words.now a.work.now) (λ k. omega arith) c.if-e-p-2.true)

pub returns-else-e-p-2 : goal.returns-else-e-p-2
returns-else-e-p-2 c =
    let a = c.args in
    let kind : a.e.kind ≡ 3 = sym c.in-Ok.ensures ∙ ap kind_number c.in-Cr3Write.is in
    ap (replay_of a.e.a a.words.now) c.restart-in-Cr3Write.ensures
    ∙ sym (applied-cr3 a.at.frames a.p a.at.page a.e (replay_of a.cr3 a.words.now a.work.now) (λ k. omega arith) c.if-e-p-2.false (λ k. omega arith) kind)

pub returns-in_default-kind : goal.returns-in_default-kind
returns-in_default-kind c =
    let a = c.args in
    sym (applied_quiet a.at.frames a.p a.at.page a.e (replay_of a.cr3 a.words.now a.work.now)
    (λ k. c.in_default-kind.not-Store (same_kind _ Store (c.in-Ok.ensures ∙ k)))
    (λ k. c.in_default-kind.not-Invlpg (same_kind _ Invlpg (c.in-Ok.ensures ∙ k)))
    (λ k. c.in_default-kind.not-Cr3Write (same_kind _ Cr3Write (c.in-Ok.ensures ∙ k))))
