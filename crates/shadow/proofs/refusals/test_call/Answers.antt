-- Each test that is met gives its number; what was passed before gives what the later tests ask.
use mathlib.Core.Path.{◌≡◌, sym, ap, ◌∙◌}
use mathlib.Core.Bool.{true, ◌&&◌}
use mathlib.Core.List.{[]}
use Prim.Native.Nat.{◌*◌}
use native.Mathlib.Omega.{arith}
use lib.Dec.{eqb}
use lib.ListN.{length}
use Rattle.std.proofs.Common.{rules, Result, Err}
use Rattle.rules.specs.declared.Refusal.{Refusal}
use Rattle.rules.specs.Refusal.{refusal_of}
use Rattle.tables.specs.declared.Sizes.{Sizes}
use Rattle.tables.specs.declared.ranged.Ranged.{Ranged}
use Rattle.tables.specs.State.{shadow_of, state_of, machine64}
use Rattle.shadow.specs.Refusals.{ranges_fit, lengths_fit, frames_fit}
use Rattle.lawful.specs.Rules.{lawful}
use Rattle.shadow.proofs.Sizing.{ranged, exact}
use Rattle.paging.proofs.Tests.{both}
use Rattle.rules.proofs.Refusals.{some_number}
use Rattle.shadow.proofs.Accepted.{passes, fails, call_short, call_event, call_last}
use Rattle.shadow.proofs.refusals.test_call.Goals as goal
use Rattle.shadow.proofs.refusals.test_call.Goals.{In_ok-unless, In_ok-unless-2, In_ok-m, In_ok-unless-3}

-- what the tests say that were passed
sizes : (c : In_ok-unless) → (ranges_fit (machine64 c.args.z) && lengths_fit (machine64 c.args.z) c.args.map.now (shadow_of c.args.pool.now c.args.records.now) c.args.slots.now) ≡ true
sizes c = sym c.sizes_fit.ensures ∙ passes _ (omega arith) c.in_ok-unless.ensures

long : (c : In_ok-unless-2) → eqb (length c.args.words.now) (512 * c.args.z.frames) ≡ true
long c = passes _ (omega arith) c.in_ok-unless-2.ensures

frames : (c : In_ok-m) → (c.in_ok-m.m.sizes ≡ c.args.z) × (frames_fit (machine64 c.args.z) c.args.map.now ≡ true)
frames c = search rules

right : (c : In_ok-unless-3) → c.in_ok-m.m.sizes ≡ c.args.z → lawful (machine64 c.args.z) c.args.map.now (state_of c.args.words.now (shadow_of c.args.pool.now c.args.records.now) c.args.slots.now) ≡ true
right c same =
    ap (λ (z : Sizes). lawful (machine64 z) c.args.map.now (state_of c.args.words.now (shadow_of c.args.pool.now c.args.records.now) c.args.slots.now)) (sym same)
    ∙ sym (c.is_lawful-lawful.ensures c.args.words.now)
    ∙ passes _ (omega arith) c.in_ok-unless-3.ensures

pub overflow_mul-long : goal.overflow_mul-long
overflow_mul-long c = let h = ranged (machine64 c.args.z) (both (ranges_fit (machine64 c.args.z)) _ (sizes (goal.at.overflow_mul-long c).In_ok-unless)).0 in omega (arith, h.frames.1)

pub returns-in_err-unless-2-clause-refusal : goal.returns-in_err-unless-2-clause-refusal
returns-in_err-unless-2-clause-refusal c =
    let a = c.args in
    let q : c.from_residual-in_err-unless-2.result ≡ Err c.in_err-unless-2.field-0.0 = search rules in
    ap (λ (r : Result Ranged Refusal). refusal_of r) q
    ∙ fails c.in_err-unless-2.field-0.0 _ c.in_err-unless-2.ensures
    (λ no. call_short (machine64 a.z) a.map.now (state_of a.words.now (shadow_of a.pool.now a.records.now) a.slots.now) a.e (sizes (goal.at.returns-in_err-unless-2-clause-refusal c).In_ok-unless) no)

pub is_lawful-lawful-requires : goal.is_lawful-lawful-requires
is_lawful-lawful-requires c =
    let a = c.args in
    let M = machine64 a.z in
    let h = both (ranges_fit M) (lengths_fit M a.map.now (shadow_of a.pool.now a.records.now) a.slots.now) (sizes (goal.at.is_lawful-lawful-requires c).In_ok-unless) in
    omega (arith, ap (λ (z : Sizes). z.processors) (frames (goal.at.is_lawful-lawful-requires c).In_ok-m).0, (exact M a.map.now (shadow_of a.pool.now a.records.now) a.slots.now h.1).triples)

pub returns-in_err-test_event-clause-refusal : goal.returns-in_err-test_event-clause-refusal
returns-in_err-test_event-clause-refusal c =
    let a = c.args in
    let at = goal.at.returns-in_err-test_event-clause-refusal c in
    let fit = frames at.In_ok-m in
    let q : c.from_residual-in_err-test_event.result ≡ Err c.in_err-test_event.field-0.0 = search rules in
    ap (λ (r : Result Ranged Refusal). refusal_of r) q
    ∙ call_event (machine64 a.z) a.map.now (state_of a.words.now (shadow_of a.pool.now a.records.now) a.slots.now) a.e (sizes at.In_ok-unless) (long at.In_ok-unless-2) fit.1 (right at.In_ok-unless-3 fit.0)
    (c.in_err-test_event.ensures a.words.now []) (λ none. omega (arith, none, some_number c.in_err-test_event.field-0.0))

pub returns-in_err-unless-4-clause-refusal : goal.returns-in_err-unless-4-clause-refusal
returns-in_err-unless-4-clause-refusal c =
    let a = c.args in
    let at = goal.at.returns-in_err-unless-4-clause-refusal c in
    let fit = frames at.In_ok-m in
    let q : c.from_residual-in_err-unless-4.result ≡ Err c.in_err-unless-4.field-0.0 = search rules in
    ap (λ (r : Result Ranged Refusal). refusal_of r) q
    ∙ c.in_err-unless-4.ensures
    ∙ call_last (machine64 a.z) a.map.now (state_of a.words.now (shadow_of a.pool.now a.records.now) a.slots.now) a.e (sizes at.In_ok-unless) (long at.In_ok-unless-2) fit.1 (right at.In_ok-unless-3 fit.0)
    (omega (arith, ap (λ (z : Sizes). z.share) fit.0, c.in_ok-m.m.sized.some)) (c.in_ok-test_event.ensures a.words.now [])

pub returns-clause-refusal : goal.returns-clause-refusal
returns-clause-refusal c =
    let a = c.args in
    let at = goal.at.returns-clause-refusal c in
    let fit = frames at.In_ok-m in
    c.in_ok-unless-4.ensures
    ∙ call_last (machine64 a.z) a.map.now (state_of a.words.now (shadow_of a.pool.now a.records.now) a.slots.now) a.e (sizes at.In_ok-unless) (long at.In_ok-unless-2) fit.1 (right at.In_ok-unless-3 fit.0)
    (omega (arith, ap (λ (z : Sizes). z.share) fit.0, c.in_ok-m.m.sized.some)) (c.in_ok-test_event.ensures a.words.now [])
