-- A test that refuses says why; else the event's refusal is that of the tests after it.
use Rattle.std.proofs.Common.{rules, ◌≡◌, cond, ℕ, Bool, Err, Result}
use mathlib.Core.Path.{sym, ◌∙◌, ap}
use mathlib.Core.Logic.{◌⊎◌, inl, inr}
use lib.Dec.{ltb, eqb}
use Rattle.rules.specs.declared.Refusal.{Refusal}
use Rattle.rules.specs.declared.Kind.{Kind}
use Rattle.rules.specs.declared.Kind.TheVariants.{Extend, Drop}
use Rattle.rules.specs.Refusal.{number_of, refusal_of}
use Rattle.rules.specs.Numbers.{kind_number}
use Rattle.rules.specs.History.{setup64}
use Rattle.rules.proofs.Refusals.{by_processor, of_store, of_invlpg, of_cr3, of_access, of_begin, of_slot, of_unknown, first_refuses, second_decides}
use Rattle.rules.proofs.test_event.Goals as goal

pub returns-in_err-unless : goal.returns-in_err-unless
returns-in_err-unless c ws cs =
    let a = c.args in
    let q : c.from_residual.result ≡ Err c.in_err-unless.field-0.0 = search rules in
    ap (λ (r : Result Unit Refusal). refusal_of r) q
    ∙ first_refuses c.in_err-unless.field-0.0 _ 4 _ c.in_err-unless.ensures
    ∙ sym (by_processor (setup64 a.frames a.processors ws cs) a.e)

pub returns-in_err-try_from : goal.returns-in_err-try_from
returns-in_err-try_from c ws cs =
    let a = c.args in
    let q : c.from_residual-in_err-try_from.result ≡ Err c.in_err-try_from.field-0.0 = search rules in
    let e = c.in_err-try_from.ensures in
    ap (λ (r : Result Unit Refusal). refusal_of r) q ∙ ap number_of e.0
    ∙ sym (of_unknown (setup64 a.frames a.processors ws cs) a.e c.in_ok-unless.ensures e.1)

pub returns-in-Store : goal.returns-in-Store
returns-in-Store c ws cs =
    let a = c.args in
    c.unless-in-Store.ensures ∙ sym (of_store (setup64 a.frames a.processors ws cs) a.e c.in_ok-unless.ensures (sym c.in_ok-try_from.ensures ∙ ap kind_number c.in-Store.is))

pub returns-in_err-unless-in-Invlpg : goal.returns-in_err-unless-in-Invlpg
returns-in_err-unless-in-Invlpg c ws cs =
    let a = c.args in
    let q : c.from_residual-in_err-unless-in-Invlpg.result ≡ Err c.in_err-unless-in-Invlpg.field-0.0 = search rules in
    ap (λ (r : Result Unit Refusal). refusal_of r) q
    ∙ first_refuses c.in_err-unless-in-Invlpg.field-0.0 _ 5 _ c.in_err-unless-in-Invlpg.ensures
    ∙ ap (λ (b : Bool). cond b (cond (eqb a.e.b 0) 0 11) 5) c.is_allowed.ensures
    ∙ sym (of_invlpg (setup64 a.frames a.processors ws cs) a.e c.in_ok-unless.ensures (sym c.in_ok-try_from.ensures ∙ ap kind_number c.in-Invlpg.is))

pub returns-in_ok-unless-in-Invlpg : goal.returns-in_ok-unless-in-Invlpg
returns-in_ok-unless-in-Invlpg c ws cs =
    let a = c.args in
    c.unless-in-Invlpg-2.ensures
    ∙ second_decides _ 5 _ (search rules) c.in_ok-unless-in-Invlpg.ensures
    ∙ ap (λ (b : Bool). cond b (cond (eqb a.e.b 0) 0 11) 5) c.is_allowed.ensures
    ∙ sym (of_invlpg (setup64 a.frames a.processors ws cs) a.e c.in_ok-unless.ensures (sym c.in_ok-try_from.ensures ∙ ap kind_number c.in-Invlpg.is))

pub returns-in_err-unless-in-Cr3Write : goal.returns-in_err-unless-in-Cr3Write
returns-in_err-unless-in-Cr3Write c ws cs =
    let a = c.args in
    let q : c.from_residual-in_err-unless-in-Cr3Write.result ≡ Err c.in_err-unless-in-Cr3Write.field-0.0 = search rules in
    ap (λ (r : Result Unit Refusal). refusal_of r) q
    ∙ first_refuses c.in_err-unless-in-Cr3Write.field-0.0 _ 7 _ c.in_err-unless-in-Cr3Write.ensures
    ∙ sym (of_cr3 (setup64 a.frames a.processors ws cs) a.e c.in_ok-unless.ensures (sym c.in_ok-try_from.ensures ∙ ap kind_number c.in-Cr3Write.is))

pub returns-in_ok-unless-in-Cr3Write : goal.returns-in_ok-unless-in-Cr3Write
returns-in_ok-unless-in-Cr3Write c ws cs =
    let a = c.args in
    c.unless-in-Cr3Write-2.ensures
    ∙ second_decides _ 7 _ (search rules) c.in_ok-unless-in-Cr3Write.ensures
    ∙ sym (of_cr3 (setup64 a.frames a.processors ws cs) a.e c.in_ok-unless.ensures (sym c.in_ok-try_from.ensures ∙ ap kind_number c.in-Cr3Write.is))

pub returns-in_err-unless-in-Access : goal.returns-in_err-unless-in-Access
returns-in_err-unless-in-Access c ws cs =
    let a = c.args in
    let q : c.from_residual-in_err-unless-in-Access.result ≡ Err c.in_err-unless-in-Access.field-0.0 = search rules in
    ap (λ (r : Result Unit Refusal). refusal_of r) q
    ∙ first_refuses c.in_err-unless-in-Access.field-0.0 _ 5 _ c.in_err-unless-in-Access.ensures
    ∙ ap (λ (b : Bool). cond b (cond (ltb a.e.b 6) 0 6) 5) c.is_allowed-in-Access.ensures
    ∙ sym (of_access (setup64 a.frames a.processors ws cs) a.e c.in_ok-unless.ensures (sym c.in_ok-try_from.ensures ∙ ap kind_number c.in-Access.is))

pub returns-in_ok-unless-in-Access : goal.returns-in_ok-unless-in-Access
returns-in_ok-unless-in-Access c ws cs =
    let a = c.args in
    c.unless-in-Access-2.ensures
    ∙ second_decides _ 5 _ (search rules) c.in_ok-unless-in-Access.ensures
    ∙ ap (λ (b : Bool). cond b (cond (ltb a.e.b 6) 0 6) 5) c.is_allowed-in-Access.ensures
    ∙ sym (of_access (setup64 a.frames a.processors ws cs) a.e c.in_ok-unless.ensures (sym c.in_ok-try_from.ensures ∙ ap kind_number c.in-Access.is))

pub returns-in_err-unless-in-Begin : goal.returns-in_err-unless-in-Begin
returns-in_err-unless-in-Begin c ws cs =
    let a = c.args in
    let q : c.from_residual-in_err-unless-in-Begin.result ≡ Err c.in_err-unless-in-Begin.field-0.0 = search rules in
    ap (λ (r : Result Unit Refusal). refusal_of r) q
    ∙ first_refuses c.in_err-unless-in-Begin.field-0.0 _ 5 _ c.in_err-unless-in-Begin.ensures
    ∙ ap (λ (b : Bool). cond b (cond (ltb a.e.b 8) 0 9) 5) c.is_allowed-in-Begin.ensures
    ∙ sym (of_begin (setup64 a.frames a.processors ws cs) a.e c.in_ok-unless.ensures (sym c.in_ok-try_from.ensures ∙ ap kind_number c.in-Begin.is))

pub returns-in_ok-unless-in-Begin : goal.returns-in_ok-unless-in-Begin
returns-in_ok-unless-in-Begin c ws cs =
    let a = c.args in
    c.unless-in-Begin-2.ensures
    ∙ second_decides _ 5 _ (search rules) c.in_ok-unless-in-Begin.ensures
    ∙ ap (λ (b : Bool). cond b (cond (ltb a.e.b 8) 0 9) 5) c.is_allowed-in-Begin.ensures
    ∙ sym (of_begin (setup64 a.frames a.processors ws cs) a.e c.in_ok-unless.ensures (sym c.in_ok-try_from.ensures ∙ ap kind_number c.in-Begin.is))

-- a kind that moves a slot's walk or drops it
slotted : {k : Kind} {n : ℕ} → kind_number k ≡ n → (k ≡ Extend) ⊎ (k ≡ Drop) → (n ≡ 6) ⊎ (n ≡ 7)
slotted e (inl x) = inl (sym e ∙ ap kind_number x)
slotted e (inr x) = inr (sym e ∙ ap kind_number x)

pub returns-in_err-unless-in-Extend : goal.returns-in_err-unless-in-Extend
returns-in_err-unless-in-Extend c ws cs =
    let a = c.args in
    let q : c.from_residual-in_err-unless-in-Extend.result ≡ Err c.in_err-unless-in-Extend.field-0.0 = search rules in
    ap (λ (r : Result Unit Refusal). refusal_of r) q
    ∙ first_refuses c.in_err-unless-in-Extend.field-0.0 _ 9 _ c.in_err-unless-in-Extend.ensures
    ∙ sym (of_slot (setup64 a.frames a.processors ws cs) a.e c.in_ok-unless.ensures (slotted c.in_ok-try_from.ensures c.in-Extend.is))

pub returns-in_ok-unless-in-Extend : goal.returns-in_ok-unless-in-Extend
returns-in_ok-unless-in-Extend c ws cs =
    let a = c.args in
    c.unless-in-Extend-2.ensures
    ∙ second_decides _ 9 _ (search rules) c.in_ok-unless-in-Extend.ensures
    ∙ sym (of_slot (setup64 a.frames a.processors ws cs) a.e c.in_ok-unless.ensures (slotted c.in_ok-try_from.ensures c.in-Extend.is))
