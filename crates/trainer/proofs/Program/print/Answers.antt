-- The text is read, and its refusal or the program's lines are written.
use mathlib.Core.Path.{refl, sym, ap, subst, subst⁻¹}
use Prim.Native.Nat.{ℕ, ◌*◌}
use native.Mathlib.Omega.{arith}
use lib.Seq.{length-take-le}
use Rattle.sections.specs.Sections.{got, refused}
use Rattle.rules.specs.Refusal.{number_of}
use Rattle.puzzle.specs.Buffers.{Buffers, buffers, result_of}
use Rattle.render.specs.Render.{render_refusal}
use Rattle.trainer.specs.declared.Told.TheVariants.{Bytes, RefusedText}
use Rattle.trainer.specs.Call.{puzzle_in}
use Rattle.trainer.specs.PartsCode.{LinesOf}
use Rattle.trainer.specs.Ready.{Printable}
use Rattle.trainer.proofs.Wholes.{Took, zeros, says, read_refused, took, fronts_are, printed}
use Rattle.trainer.proofs.Program.print.Goals as goal
use Rattle.trainer.proofs.Program.print.Goals.{In-Ok}

pub returns-in-Err : goal.returns-in-Err
returns-in-Err c =
    let l = c.read.new in
    let new = buffers l.map l.cr3s l.words l.events l.questions in
    let f = c.in-Err.fault in
    let m = read_refused (puzzle_in c.args.text.now) zeros new (says c.args.text.now new (ap result_of c.in-Err.is) c.read.ensures) in
    printed (refused (number_of f.refusal) f.line) m (ap (λ (n : ℕ). render_refusal n f.line) c.number.ensures) c.put_line.ensures.0 c.requires.1 (omega (arith, c.put_line.ensures.1)) (ap (RefusedText (number_of f.refusal) f.line) c.len.ensures)

-- an accepted text stands in front of the buffers
took_of : (c : In-Ok) → Took c.args.text.now (buffers c.read.new.map c.read.new.cr3s c.read.new.words c.read.new.events c.read.new.questions) c.in-Ok.counts.frames c.in-Ok.counts.processors c.in-Ok.counts.events c.in-Ok.counts.questions
took_of c = took c.args.text.now _ (says c.args.text.now _ (ap result_of c.in-Ok.is) c.read.ensures)

pub front-map-requires : goal.front-map-requires
front-map-requires c = (took_of (goal.at.front-map-requires c).In-Ok).counts.map

pub front-cr3s-requires : goal.front-cr3s-requires
front-cr3s-requires c = (took_of (goal.at.front-cr3s-requires c).In-Ok).counts.cr3s

pub overflow_mul-words : goal.overflow_mul-words
overflow_mul-words c = omega (arith, (took_of (goal.at.overflow_mul-words c).In-Ok).counts.words, c.read.auto.words)

pub slice_bounds-words-end : goal.slice_bounds-words-end
slice_bounds-words-end c = (took_of (goal.at.slice_bounds-words-end c).In-Ok).counts.words

pub slice_bounds-words-end-in-Ok : goal.slice_bounds-words-end-in-Ok
slice_bounds-words-end-in-Ok c =
    let fits = (took_of (goal.at.slice_bounds-words-end-in-Ok c).In-Ok).counts.words in
    sym (length-take-le (512 * c.in-Ok.counts.frames) c.read.new.words fits)

pub front-events-requires : goal.front-events-requires
front-events-requires c = (took_of (goal.at.front-events-requires c).In-Ok).counts.events

pub front-questions-requires : goal.front-questions-requires
front-questions-requires c = (took_of (goal.at.front-questions-requires c).In-Ok).counts.questions

pub put-requires : goal.put-requires
put-requires c =
    let t = took_of (goal.at.put-requires c).In-Ok in
    let lists = fronts_are t c.front-map.ensures c.front-cr3s.ensures refl c.front-events.ensures c.front-questions.ensures in
    (c.requires.0, subst⁻¹ Printable lists t.ready)

pub returns-in-Ok : goal.returns-in-Ok
returns-in-Ok c =
    let t = took_of (goal.at.returns-in-Ok c).In-Ok in
    let lists = fronts_are t c.front-map.ensures c.front-cr3s.ensures refl c.front-events.ensures c.front-questions.ensures in
    let r = c.put.ensures in
    printed (got t.puzzle t.place) t.is (subst (λ (b : Buffers). LinesOf c.args.self b r.bytes) lists r.lines) r.puts c.requires.1 r.few (ap Bytes c.len-in-Ok.ensures)
