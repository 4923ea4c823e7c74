use mathlib.Core.Path.{◌≡◌, refl, sym, ap, ◌∙◌}
use mathlib.Core.Bool.{Bool}
use mathlib.Core.List.{List}
use Prim.Native.Nat.{ℕ, ◌+◌, ◌≤◌}
use Rattle.std.proofs.Common.{rules}
use native.Mathlib.Omega.{arith}
use lib.ListN.{length}
use Rattle.rules.specs.declared.Outcome.TheVariants.{Fault}
use Rattle.rules.specs.declared.Outcome.{Outcome}
use Rattle.listing.specs.declared.Outcomes.{Outcomes}
use Rattle.listing.specs.CollectCode.{Out, out_of, pushed, collected}
use Rattle.listing.proofs.Pairs.{pushed_count, pushed_size}
use Rattle.listing.proofs.collect.Goals as goal
use Rattle.listing.proofs.collect.Goals.{Joined-faults, then-faults, else-faults, Joined-lacks, then-lacks, else-lacks, Joined-faults-2, then-faults-2, else-faults-2}

abbrev out : Outcomes → Out
out s = out_of s.count s.buffer.now

-- what an `if` leaves: the outcome is written if the test passed
record Next (b : Bool) (x : Outcome) (s s' : Outcomes) : Type 0 where
  same_reference : s'.buffer.ghost_name ≡ s.buffer.ghost_name
  pairs : out s' ≡ pushed b x (out s)

next : {b t : Bool} {x : Outcome} {s s' p : Outcomes} → s' ≡ p → t ≡ b → p.buffer.ghost_name ≡ s.buffer.ghost_name → out p ≡ pushed t x (out s) → Next b x s s'
next {x = x} {s = s} e q same pairs = record { same_reference = rw e same; pairs = ap out e ∙ pairs ∙ ap (λ (b : Bool). pushed b x (out s)) q }

more : {b : Bool} {x : Outcome} {s s' : Outcomes} → Next b x s s' → (s'.count ≤ s.count + 1) × (length s'.buffer.now ≡ length s.buffer.now)
more {b} {x} {s} {s'} h = (omega (arith, ap (λ (o : Out). o.count) h.pairs, pushed_count b x (out s)), ap (λ (o : Out). length o.buffer) h.pairs ∙ pushed_size b x (out s))

first : (c : Joined-faults) → Next c.find_faults-faults.result.absent (Fault c.args.q.adds) c.addresses.new.outcomes c.if-faults.outcomes
first c = elim c.if-faults.branch [ then-faults w ↦ next w.outcomes-is (sym w.if-faults.true) w.push.ensures.same_reference w.push.ensures.pair | else-faults w ↦ next w.outcomes-is (sym w.if-faults.false) refl refl ]

second : (c : Joined-lacks) → Next c.lacks.result (Fault (1 + c.args.q.adds)) c.if-faults.outcomes c.if-lacks.outcomes
second c = elim c.if-lacks.branch [ then-lacks w ↦ next w.outcomes-is (sym w.if-lacks.true) w.push-then-lacks.ensures.same_reference w.push-then-lacks.ensures.pair | else-lacks w ↦ next w.outcomes-is (sym w.if-lacks.false) refl refl ]

third : (c : Joined-faults-2) → Next c.find_faults-faults.result.beyond (Fault (9 + c.args.q.adds)) c.if-lacks.outcomes c.if-faults-2.outcomes
third c = elim c.if-faults-2.branch [ then-faults-2 w ↦ next w.outcomes-is (sym w.if-faults-2.true) w.push-then-faults-2.ensures.same_reference w.push-then-faults-2.ensures.pair | else-faults-2 w ↦ next w.outcomes-is (sym w.if-faults-2.false) refl refl ]

-- the caller's buffer is the one that was written
kept : {x : List ℕ} (s : Outcomes) {o : Out} → x ≡ s.buffer.now → out s ≡ o → out_of s.count x ≡ o
kept s e h = ap (out_of s.count) e ∙ h

pub returns : goal.returns
unfolding collected
returns c =
    let s₁ = first (goal.at.returns c).Joined-faults in
    let s₂ = second (goal.at.returns c).Joined-lacks in
    let s₃ = third (goal.at.returns c).Joined-faults-2 in
    let same : c.if-faults-2.outcomes.buffer.ghost_name ≡ c.addresses.new.outcomes.buffer.ghost_name = s₃.same_reference ∙ s₂.same_reference ∙ s₁.same_reference in
    let own = same ∙ c.addresses.ensures.same_reference in
    kept c.if-faults-2.outcomes (search rules)
    (s₃.pairs ∙ ap (λ (b : Bool). pushed b (Fault (9 + c.args.q.adds)) (out c.if-lacks.outcomes)) c.find_faults-faults.ensures.1
    ∙ ap (pushed _ (Fault (9 + c.args.q.adds))) (s₂.pairs ∙ ap (λ (b : Bool). pushed b (Fault (1 + c.args.q.adds)) (out c.if-faults.outcomes)) c.lacks.ensures
    ∙ ap (pushed _ (Fault (1 + c.args.q.adds))) (s₁.pairs ∙ ap (λ (b : Bool). pushed b (Fault c.args.q.adds) (out c.addresses.new.outcomes)) c.find_faults-faults.ensures.0
    ∙ ap (pushed _ (Fault c.args.q.adds)) c.addresses.ensures.pairs)))
