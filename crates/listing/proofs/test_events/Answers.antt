use mathlib.Core.Path.{◌≡◌, sym, ap, ◌∙◌}
use Prim.Native.Nat.{◌/◌, ◌<◌}
use native.Mathlib.Omega.{arith}
use lib.ListN.{length}
use Rattle.std.proofs.Common.{rules, Err, Result}
use Rattle.rules.specs.declared.Refusal.{Refusal}
use Rattle.rules.specs.Refusal.{number_of, refusal_of}
use Rattle.rules.proofs.Refusals.{some_number}
use Rattle.rules.specs.Numbers.{event_of}
use Rattle.rules.specs.History.{setup64, event_refusal}
use Rattle.listing.proofs.Chains.{chunk_event}
use Rattle.listing.proofs.Refuses.{first_none, first_more, first-here}
use Rattle.listing.proofs.test_events.Goals as goal
use Rattle.listing.proofs.test_events.Goals.{After-event_at}

-- what is read is the event of this turn
read : (c : After-event_at) → c.event_at.result ≡ event_of c.args.events.now c.loop-e.e-index
read c =
    let lt : c.loop-e.e-index < length c.args.events.now / 4 = omega (arith, c.as_chunks.ensures.front_len, c.loop-e-test.true) in
    c.event_at.ensures ∙ rw c.as_chunks.ensures.front (chunk_event _ c.loop-e.e-index c.args.events.now lt)

pub loop-e-init : goal.loop-e-init
loop-e-init c ws cs = first_none _

pub returns-in_err-test_event : goal.returns-in_err-test_event
returns-in_err-test_event c ws cs =
    let a = c.args in
    let k = c.loop-e.e-index in
    let lt : k < length a.events.now / 4 = omega (arith, c.as_chunks.ensures.front_len, c.loop-e-test.true) in
    let q : c.from_residual.result ≡ Err c.in_err-test_event.field-0.0 = search rules in
    let here : number_of c.in_err-test_event.field-0.0 ≡ event_refusal (setup64 a.frames a.processors ws cs) (event_of a.events.now k) =
    c.in_err-test_event.ensures ws cs ∙ ap (event_refusal (setup64 a.frames a.processors ws cs)) (read (goal.at.returns-in_err-test_event c).After-event_at) in
    ap (λ (r : Result Unit Refusal). refusal_of r) q ∙ here
    ∙ sym (first-here (λ k. event_refusal (setup64 a.frames a.processors ws cs) (event_of a.events.now k)) (length a.events.now / 4) k lt (c.loop-e.invariant ws cs) (λ z. omega (arith, here, some_number c.in_err-test_event.field-0.0)))

pub loop-e-preserved : goal.loop-e-preserved
loop-e-preserved c ws cs =
    let a = c.args in
    first_more (λ k. event_refusal (setup64 a.frames a.processors ws cs) (event_of a.events.now k)) c.loop-e.e-index (c.loop-e.invariant ws cs)
    (sym (c.in_ok-test_event.ensures ws cs ∙ ap (event_refusal (setup64 a.frames a.processors ws cs)) (read (goal.at.loop-e-preserved c).After-event_at)))

pub returns : goal.returns
returns c ws cs =
    let done : c.loop-e.e-index ≡ length c.args.events.now / 4 = omega (arith, c.as_chunks.ensures.front_len) in
    sym (rw done at (c.loop-e.invariant ws cs))
