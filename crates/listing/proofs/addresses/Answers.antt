use mathlib.Core.Path.{◌≡◌, refl, sym, ap, ◌∙◌}
use mathlib.Core.Bool.{Bool}
use Prim.Native.Nat.{ℕ}
use native.Mathlib.Omega.{arith}
use lib.ListN.{length}
use Rattle.paging.proofs.Numbers.{each_none, each_more}
use Rattle.paging.specs.Frame.{guest}
use Rattle.rules.specs.declared.Outcome.TheVariants.{Address}
use Rattle.listing.specs.declared.Outcomes.{Outcomes}
use Rattle.listing.specs.CollectCode.{Out, out_of, pushed, serves, addresses}
use Rattle.listing.proofs.Pairs.{pushed_count, pushed_size}
use Rattle.listing.proofs.addresses.Goals as goal
use Rattle.listing.proofs.addresses.Goals.{Joined-serves, then-serves, else-serves}

-- the outcome is written if the frame serves
joined : (c : Joined-serves)
    → (c.if-serves.outcomes.buffer.ghost_name ≡ c.loop-f.outcomes.buffer.ghost_name)
    × (out_of c.if-serves.outcomes.count c.if-serves.outcomes.buffer.now
    ≡ pushed (serves c.args.frames c.args.q.now c.args.work.now c.loop-f.f) (Address (guest c.loop-f.f)) (out_of c.loop-f.outcomes.count c.loop-f.outcomes.buffer.now))
joined c =
    let x = Address (guest c.loop-f.f) in
    let o = out_of c.loop-f.outcomes.count c.loop-f.outcomes.buffer.now in
    elim c.if-serves.branch [
      | then-serves w ↦ (
        ap (λ (s : Outcomes). s.buffer.ghost_name) w.outcomes-is ∙ w.push.ensures.same_reference,
        ap (λ (s : Outcomes). out_of s.count s.buffer.now) w.outcomes-is ∙ w.push.ensures.pair ∙ ap (λ (b : Bool). pushed b x o) (sym w.if-serves.true ∙ c.serves.ensures),
      )
      | else-serves w ↦ (
        ap (λ (s : Outcomes). s.buffer.ghost_name) w.outcomes-is,
        ap (λ (s : Outcomes). out_of s.count s.buffer.now) w.outcomes-is ∙ ap (λ (b : Bool). pushed b x o) (sym w.if-serves.false ∙ c.serves.ensures),
      )
    ]

pub loop-f-init : goal.loop-f-init
loop-f-init c = record { same_reference = refl; few = omega arith; size = refl; written = ap (λ (n : ℕ). out_of n c.args.outcomes.now.buffer.now) c.requires.1 ∙ sym (each_none _ _) }

pub loop-f-preserved : goal.loop-f-preserved
loop-f-preserved c =
    let f = c.loop-f.f in
    let inv = c.loop-f.invariant in
    let e = joined (goal.at.loop-f-preserved c).Joined-serves in
    let o = out_of c.loop-f.outcomes.count c.loop-f.outcomes.buffer.now in
    let b = serves c.args.frames c.args.q.now c.args.work.now f in record {
      same_reference = e.0 ∙ inv.same_reference;
      few = omega (arith, ap (λ (o : Out). o.count) e.1, pushed_count b (Address (guest f)) o, inv.few);
      size = ap (λ (o : Out). length o.buffer) e.1 ∙ pushed_size b (Address (guest f)) o ∙ inv.size;
      written = e.1 ∙ ap (pushed b (Address (guest f))) inv.written ∙ sym (each_more _ _ f);
    }

pub returns : goal.returns
unfolding addresses
returns c =
    let done : c.loop-f.f ≡ c.args.frames = omega arith in
    let inv = c.loop-f.invariant in
    record { same_reference = inv.same_reference; pairs = rw done at inv.written; few = omega (arith, inv.few); size = inv.size }
