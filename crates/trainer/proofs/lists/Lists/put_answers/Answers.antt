-- Question by question.
use mathlib.Core.Path.{ap, ◌∙◌, subst, subst⁻¹}
use native.Mathlib.Omega.{arith}
use Rattle.std.specs.Slice.Iter.{chunks_exact_rest, chunks_exact_size}
use Rattle.rules.specs.declared.Question.{Question}
use Rattle.trainer.specs.PartsCode.{lists_of, Answered}
use Rattle.trainer.specs.Ready.{Posed}
use Rattle.trainer.proofs.Turns.{passed_none, one_more, next_question, passed_more, passed_all}
use Rattle.trainer.proofs.lists.Lists.put_answers.Goals as goal

pub loop-numbers-init : goal.loop-numbers-init
loop-numbers-init c =
    let s = c.chunks_exact-numbers-items.ensures in
    let e = c.into_iter-numbers-iterator.ensures.into_iter_gives in
    (ap chunks_exact_size e ∙ s.size, passed_none _ _ (ap chunks_exact_rest e ∙ s.rest))

pub put_answer-requires : goal.put_answer-requires
put_answer-requires c =
    let b = lists_of c.args.self.now in
    let room = c.requires in
    let r = c.args.self.now.ready in
    let (size, p) = c.loop-numbers.invariant in
    let (_, (rest, long), _) = c.in-Some.ensures.steps in
    let left = chunks_exact_rest c.next.new.self in
    let more = one_more b p c.in-Some.numbers.now left rest (long ∙ size) in
    (omega (arith, p.few, p.puts.long, more, r.few, room), subst⁻¹ (λ (q : Question). Posed b q) (next_question b p c.in-Some.numbers.now left rest (long ∙ size)) (r.each p.k more))

pub loop-numbers-preserved : goal.loop-numbers-preserved
loop-numbers-preserved c =
    let b = lists_of c.args.self.now in
    let (size, p) = c.loop-numbers.invariant in
    let (same, (rest, long), _) = c.in-Some.ensures.steps in
    let left = chunks_exact_rest c.next.new.self in
    let q = next_question b p c.in-Some.numbers.now left rest (long ∙ size) in (
      same ∙ size,
      passed_more b p c.in-Some.numbers.now left rest (long ∙ size) (subst (λ (x : Question). Answered b x c.loop-numbers.printer c.put_answer.new.printer) q c.put_answer.ensures),
    )

pub returns : goal.returns
returns c =
    let (size, p) = c.loop-numbers.invariant in
    let (_, (short, _), _) = c.in-None.ensures.steps in
    passed_all (lists_of c.args.self.now) p (omega (arith, short, size)) c.args.self.now.ready.few
