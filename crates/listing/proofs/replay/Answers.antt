use mathlib.Core.Path.{◌≡◌, sym, ap, ◌∙◌, subst}
use Prim.Native.Nat.{◌/◌, ◌<◌}
use native.Mathlib.Omega.{arith}
use lib.ListN.{length}
use Rattle.paging.proofs.Numbers.{each_none, each_more}
use Rattle.rules.specs.declared.Event.{Event}
use Rattle.rules.specs.Numbers.{event_of}
use Rattle.listing.specs.ReplayCode.{Replay, replay_of, Reach, applied, replayed}
use Rattle.listing.proofs.Applies.{applied_in}
use Rattle.listing.proofs.Chains.{chunk_event}
use Rattle.listing.proofs.replay.Goals as goal
use Rattle.listing.proofs.replay.Goals.{After-event_at}

-- what is read is the event of this turn
read : (c : After-event_at) → c.event_at.result ≡ event_of c.args.events.now c.loop-e.e-index
read c =
    let lt : c.loop-e.e-index < length c.args.events.now / 4 = omega (arith, c.as_chunks.ensures.front_len, c.loop-e-test.true) in
    c.event_at.ensures ∙ rw c.as_chunks.ensures.front (chunk_event _ c.loop-e.e-index c.args.events.now lt)

pub loop-e-init : goal.loop-e-init
unfolding replayed
loop-e-init c = (c.requires.1, sym (each_none _ _))

pub apply-cr3-requires : goal.apply-cr3-requires
apply-cr3-requires c =
    let lt : c.loop-e.e-index < length c.args.events.now / 4 = omega (arith, c.as_chunks.ensures.front_len, c.loop-e-test.true) in (
      record { few = c.requires.0.few; whole = c.loop-e.auto.words ∙ c.requires.0.whole; bytes = omega (arith, c.requires.0.bytes, c.loop-e.auto.work) },
      c.loop-e.invariant.0,
      subst (λ (e : Event). Reach c.args.at.frames e) (sym (read (goal.at.apply-cr3-requires c).After-event_at)) (c.requires.2 c.loop-e.e-index lt),
    )

pub loop-e-preserved : goal.loop-e-preserved
unfolding replayed
loop-e-preserved c =
    let a = c.args in
    let k = c.loop-e.e-index in
    let inv = c.loop-e.invariant in
    let e = event_of a.events.now k in
    let s = replay_of c.loop-e.cr3 c.loop-e.words c.loop-e.work in
    let lt : k < length a.events.now / 4 = omega (arith, c.as_chunks.ensures.front_len, c.loop-e-test.true) in
    let did = c.apply-cr3.ensures ∙ ap (λ (e : Event). applied a.at.frames a.p a.at.page e s) (read (goal.at.loop-e-preserved c).After-event_at) in (
      rw (ap (λ (x : Replay). x.cr3) did) (applied_in a.at.frames a.p a.at.page e s inv.0 (c.requires.2 k lt)),
      did ∙ ap (applied a.at.frames a.p a.at.page e) inv.1 ∙ sym (each_more (λ k. applied a.at.frames a.p a.at.page (event_of a.events.now k)) _ k),
    )
