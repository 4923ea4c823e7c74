-- Each return is the first test that is met, in the call's own order.
use mathlib.Core.Path.{◌≡◌, refl, sym, ap, ◌∙◌}
use mathlib.Core.Bool.{true}
use Prim.Native.Nat.{ℕ, ◌/◌, ◌≤◌}
use lib.ListN.{length}
use native.Mathlib.Omega.{arith}
use Rattle.std.proofs.Common.{rules, Err, Result}
use Rattle.paging.specs.Numbers.{is_between}
use Rattle.paging.proofs.Tests.{both}
use Rattle.paging.proofs.Numbers.{between}
use Rattle.rules.specs.declared.Refusal.{Refusal}
use Rattle.rules.specs.Refusal.{refusal_of}
use Rattle.rules.proofs.Refusals.{some_number}
use Rattle.rules.specs.History.{setup64, event_refusal}
use Rattle.rules.specs.Outcome.{question_refusal}
use Rattle.rules.specs.Numbers.{event_of}
use Rattle.listing.specs.Call.{asked, lent, sizes_fit, or_else, first_refusal, list_refusal}
use Rattle.listing.proofs.Refuses.{refused, passed, or_first, or_second, list_one, list_two, list_seven, list_later}
use Rattle.listing.proofs.Buffers.test.Goals as goal
use Rattle.listing.proofs.Buffers.test.Goals.{In_ok-unless-3}

few : (g p e w k o : ℕ) → sizes_fit g p e w k o ≡ true → g ≤ 256
unfolding sizes_fit
few g p e w k o h =
    (between 1 256 g (both (is_between 1 256 g) _ h).0).1

pub returns-in_err-unless : goal.returns-in_err-unless
returns-in_err-unless c =
    let q : c.from_residual.result ≡ Err c.in_err-unless.field-0.0 = search rules in
    let (fits, number) = refused _ _ 1 c.in_err-unless.ensures in
    ap (λ (r : Result Unit Refusal). refusal_of r) q ∙ number ∙ sym (list_one _ _ (sym c.fit.ensures ∙ fits))

pub returns-in_err-unless-2 : goal.returns-in_err-unless-2
returns-in_err-unless-2 c =
    let q : c.from_residual-in_err-unless-2.result ≡ Err c.in_err-unless-2.field-0.0 = search rules in
    let (fits, number) = refused _ _ 2 c.in_err-unless-2.ensures in
    let sizes = passed _ 1 refl c.in_ok-unless.ensures in
    ap (λ (r : Result Unit Refusal). refusal_of r) q ∙ number ∙ sym (list_two _ _ (sym c.fit.ensures ∙ sizes) (sym c.map_fits.ensures ∙ fits))

pub returns-in_err-unless-3 : goal.returns-in_err-unless-3
returns-in_err-unless-3 c =
    let q : c.from_residual-in_err-unless-3.result ≡ Err c.in_err-unless-3.field-0.0 = search rules in
    let (fits, number) = refused _ _ 7 c.in_err-unless-3.ensures in
    let sizes = passed _ 1 refl c.in_ok-unless.ensures in
    let map = passed _ 2 refl c.in_ok-unless-2.ensures in
    ap (λ (r : Result Unit Refusal). refusal_of r) q ∙ number ∙ sym (list_seven _ _ (sym c.fit.ensures ∙ sizes) (sym c.map_fits.ensures ∙ map) (sym c.cr3s_fit.ensures ∙ fits))

pub test_events-requires : goal.test_events-requires
test_events-requires c = few _ _ _ _ _ _ (sym c.fit.ensures ∙ passed _ 1 refl c.in_ok-unless.ensures)

pub test_event-requires : goal.test_event-requires
test_event-requires c = few _ _ _ _ _ _ (sym c.fit.ensures ∙ passed _ 1 refl c.in_ok-unless.ensures)

-- what comes after the first three tests
later : (c : In_ok-unless-3)
    → list_refusal (asked c.args.self.now.map.now c.args.self.now.cr3s.now c.args.self.now.events.now c.args.q) (lent c.args.self.now.words.now c.args.self.now.work.now c.args.self.now.outcomes.now)
    ≡ or_else (first_refusal (length c.args.self.now.events.now / 4) (λ k. event_refusal (setup64 (length c.args.self.now.map.now) (length c.args.self.now.cr3s.now) c.args.self.now.words.now c.args.self.now.cr3s.now) (event_of c.args.self.now.events.now k)))
    (question_refusal (setup64 (length c.args.self.now.map.now) (length c.args.self.now.cr3s.now) c.args.self.now.words.now c.args.self.now.cr3s.now) c.args.q)
later c =
    let sizes = passed _ 1 refl c.in_ok-unless.ensures in
    let map = passed _ 2 refl c.in_ok-unless-2.ensures in
    let cr3s = passed _ 7 refl c.in_ok-unless-3.ensures in
    list_later _ _ (sym c.fit.ensures ∙ sizes) (sym c.map_fits.ensures ∙ map) (sym c.cr3s_fit.ensures ∙ cr3s)

pub returns-in_err-test_events : goal.returns-in_err-test_events
returns-in_err-test_events c =
    let a = c.args in
    let q : c.from_residual-in_err-test_events.result ≡ Err c.in_err-test_events.field-0.0 = search rules in
    let e = c.in_err-test_events.ensures a.self.now.words.now a.self.now.cr3s.now in
    ap (λ (r : Result Unit Refusal). refusal_of r) q ∙ e
    ∙ sym (or_first _ _ (λ z. omega (arith, e, z, some_number c.in_err-test_events.field-0.0)))
    ∙ sym (later (goal.at.returns-in_err-test_events c).In_ok-unless-3)

pub returns : goal.returns
returns c =
    let a = c.args in
    c.test_event.ensures a.self.now.words.now a.self.now.cr3s.now ∙ sym (or_second _ _ (sym (c.in_ok-test_events.ensures a.self.now.words.now a.self.now.cr3s.now))) ∙ sym (later (goal.at.returns c).In_ok-unless-3)
