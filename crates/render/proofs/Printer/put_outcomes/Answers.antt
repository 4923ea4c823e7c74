-- Pair by pair.
use Rattle.std.proofs.Common.{ℕ, List, length, sym, ap, ◌∙◌, subst, arith, length-append}
use Rattle.std.specs.Slice.Iter.{chunks_exact_rest, chunks_exact_size}
use Rattle.render.specs.LinesCode.{pair_lines, AllMapped}
use Rattle.render.proofs.Writes.{Owes, owes_all, owes_put, owes_end}
use Rattle.render.proofs.Lines.{pair_more, pair_end, mapped_more}
use Rattle.render.proofs.Printer.put_outcomes.Goals as goal

pub loop-pair-init : goal.loop-pair-init
loop-pair-init c =
    let a = c.args in
    let s = c.chunks_exact-pair-items.ensures in
    let e = c.into_iter-pair-iterator.ensures.into_iter_gives in
    let rest = ap chunks_exact_rest e ∙ s.rest in (
      ap chunks_exact_size e ∙ s.size,
      subst (λ (l : List ℕ). AllMapped a.map.now l) (sym rest) c.requires.1,
      omega (arith, ap length rest),
      subst (λ (l : List ℕ). Owes (pair_lines a.map.now a.addr a.pairs.now) (pair_lines a.map.now a.addr l) a.self.now a.self.now) (sym rest) (owes_all _ _),
    )

pub put_outcome-requires : goal.put_outcome-requires
put_outcome-requires c =
    let (size, mapped, room, owes) = c.loop-pair.invariant in
    let (_, (rest, long), _) = c.in-Some.ensures.steps in
    let more = mapped_more c.args.map.now c.in-Some.pair.now _ (long ∙ size) (subst (λ (l : List ℕ). AllMapped c.args.map.now l) rest mapped) in
    (omega (arith, owes.puts.long, ap length rest, length-append c.in-Some.pair.now (chunks_exact_rest c.next.new.self), long, size, room, c.requires.0), more.0)

pub loop-pair-preserved : goal.loop-pair-preserved
loop-pair-preserved c =
    let a = c.args in
    let (size, mapped, room, owes) = c.loop-pair.invariant in
    let (same, (rest, long), _) = c.in-Some.ensures.steps in
    let left = chunks_exact_rest c.next.new.self in
    let (put, few) = c.put_outcome.ensures in (
      same ∙ size,
      (mapped_more a.map.now c.in-Some.pair.now left (long ∙ size) (subst (λ (l : List ℕ). AllMapped a.map.now l) rest mapped)).1,
      omega (arith, few, ap length rest, length-append c.in-Some.pair.now left, long, size, room),
      owes_put (ap (pair_lines a.map.now a.addr) rest ∙ pair_more a.map.now a.addr c.in-Some.pair.now left (long ∙ size)) owes put,
    )

pub returns : goal.returns
returns c =
    let a = c.args in
    let (size, _, room, owes) = c.loop-pair.invariant in
    let (_, (short, _), _) = c.in-None.ensures.steps in
    (owes_end (pair_end a.map.now a.addr _ (omega (arith, short, size))) owes, omega (arith, room))
