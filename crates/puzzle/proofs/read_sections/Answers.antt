-- The five parts are the sections of the text, or its first refusal.
use Rattle.std.proofs.Common.{refl, arith}
use Rattle.std.proofs.lemmas.Result.{err_from_is_err_and}
use Rattle.cursor.specs.Text.{feeds}
use Rattle.puzzle.proofs.Chain.{after-start, then_cr3s, then_words, then_events, then_questions, over, whole}
use Rattle.puzzle.proofs.read_sections.Goals as goal

pub read-requires : goal.read-requires
read-requires c = (record { inside = omega arith; lined = unfold feeds in refl }, c.requires.map)

pub returns-in_err-frames : goal.returns-in_err-frames
returns-in_err-frames c =
    let p = err_from_is_err_and c.from_residual.result c.from_residual.ensures.1 in
    rw (p.1, p.2) (after-start c.args.text.now c.in_err-frames.ensures)

pub returns-in_err-roots : goal.returns-in_err-roots
returns-in_err-roots c =
    let p = err_from_is_err_and c.from_residual-in_err-roots.result c.from_residual-in_err-roots.ensures.1 in
    rw (p.1, p.2) (then_cr3s c.in_ok-frames.frames.count c.in_ok-frames.ensures c.in_err-roots.ensures)

pub returns-in_err-words : goal.returns-in_err-words
returns-in_err-words c =
    let p = err_from_is_err_and c.from_residual-in_err-words.result c.from_residual-in_err-words.ensures.1 in
    rw (p.1, p.2) (then_words c.in_ok-frames.frames.count c.in_ok-frames.ensures c.in_ok-roots.roots.count c.in_ok-roots.ensures c.in_err-words.ensures)

pub returns-in_err-steps : goal.returns-in_err-steps
returns-in_err-steps c =
    let p = err_from_is_err_and c.from_residual-in_err-steps.result c.from_residual-in_err-steps.ensures.1 in
    rw (p.1, p.2)
    (then_events c.in_ok-frames.frames.count c.in_ok-frames.ensures c.in_ok-roots.roots.count c.in_ok-roots.ensures c.in_ok-words.words.count c.in_ok-words.ensures c.in_err-steps.ensures)

pub returns-in_err-asked : goal.returns-in_err-asked
returns-in_err-asked c =
    let p = err_from_is_err_and c.from_residual-in_err-asked.result c.from_residual-in_err-asked.ensures.1 in
    rw (p.1, p.2)
    (then_questions c.in_ok-frames.frames.count c.in_ok-frames.ensures c.in_ok-roots.roots.count c.in_ok-roots.ensures c.in_ok-words.words.count c.in_ok-words.ensures c.in_ok-steps.steps.count c.in_ok-steps.ensures c.in_err-asked.ensures)

pub returns-in_err-test_end : goal.returns-in_err-test_end
returns-in_err-test_end c =
    let p = err_from_is_err_and c.from_residual-in_err-test_end.result c.from_residual-in_err-test_end.ensures.1 in
    rw (p.1, p.2) (rw c.in_err-test_end.ensures.1
    (over c.in_ok-frames.frames.count c.in_ok-frames.ensures c.in_ok-roots.roots.count c.in_ok-roots.ensures c.in_ok-words.words.count c.in_ok-words.ensures c.in_ok-steps.steps.count c.in_ok-steps.ensures c.in_ok-asked.asked.count c.in_ok-asked.ensures c.in_err-test_end.ensures.0))

pub returns : goal.returns
returns c =
    whole c.in_ok-frames.frames.count c.in_ok-frames.ensures c.in_ok-roots.roots.count c.in_ok-roots.ensures c.in_ok-words.words.count c.in_ok-words.ensures c.in_ok-steps.steps.count c.in_ok-steps.ensures c.in_ok-asked.asked.count c.in_ok-asked.ensures c.in_ok-test_end.ensures
