-- Each event is one step of the machine, and its line is written.
use mathlib.Core.Path.{refl, ap, ap₂, ◌∙◌}
use Prim.Native.Nat.{◌+◌, ◌/◌, ◌<◌}
use native.Mathlib.Omega.{arith}
use lib.ListN.{length}
use Rattle.tables.specs.State.{machine64}
use Rattle.listing.proofs.Chains.{chunk_event}
use Rattle.shadow.specs.After.{after}
use Rattle.shadow.specs.Answer.{kind_of, value_of}
use Rattle.render.specs.Render.{render_event}
use Rattle.render.proofs.Writes.{puts_as}
use Rattle.trainer.specs.PartsCode.{state_in}
use Rattle.trainer.proofs.EventLines.{ran_none, ran_more}
use Rattle.trainer.proofs.Session.put_events.Goals as goal

pub loop-k-init : goal.loop-k-init
loop-k-init c = (refl, refl, ran_none _ _ _ _ _)

pub loop-k-preserved : goal.loop-k-preserved
loop-k-preserved c =
    let l = c.loop-k in
    let (sizes, map, ran) = l.invariant in
    let e = c.event-answer.ensures in
    let (put, few) = c.put_event.ensures in
    let lt : l.k < length c.args.events.now / 4 = omega (arith, c.as_chunks.ensures.front_len, c.loop-k-test.true) in
    let read = c.event_at.ensures ∙ rw c.as_chunks.ensures.front (chunk_event _ l.k c.args.events.now lt) in
    let step = e.call ∙ (λ i. after (machine64 (sizes i)) (map i) (state_in l.self) (read i)) in
    let line = puts_as (ap₂ (render_event (l.k + 1)) (c.kind_of.ensures ∙ ap kind_of c.by_number-numbered.ensures) (c.value_of.ensures ∙ ap value_of c.by_number-numbered.ensures)) put in
    (e.sizes ∙ sizes, e.map ∙ map, ran_more _ _ _ _ _ ran lt step line few)
