use Rattle.std.proofs.Common.{◌≡◌, true, false, rules}
use Rattle.std.proofs.lemmas.Iterator.{first_from_Range}
use Rattle.slots.specs.Slots.{slot_serves, serving_slot}
use Rattle.slots.proofs.Serves.{first_is}
use Rattle.slots.proofs.serving_slot.Goals as goal

pub returns : goal.returns
unfolding serving_slot
returns c =
    let a = c.args in
    let serves = slot_serves a.slots.now a.p a.page a.q.now in
    first_is serves 8 _
    (first_from_Range _ _ _ _ (λ i. serves i ≡ true) (λ i. serves i ≡ false) c.find.ensures.ran
    (λ x q k. search rules)
    (λ x q k. search rules))
