-- The pairs that are left are left to write.
use Rattle.std.proofs.Common.{◌≡◌, ◌+◌, ◌*◌, ◌≤◌, length}
use Rattle.std.specs.Slice.Iter.{chunks_exact_rest, chunks_exact_size}
use Rattle.render.specs.LinesCode.{pair_lines, AllMapped}
use Rattle.render.proofs.Writes.{Owes}
use Rattle.render.proofs.Printer.put_outcomes.Given as goal

abbrev pub invariant-loop-pair : goal.invariant-loop-pair
invariant-loop-pair l =
    (chunks_exact_size l.pair-iterator ≡ 2)
    × AllMapped l.map (chunks_exact_rest l.pair-iterator)
    × (l.self.at + 22 * length (chunks_exact_rest l.pair-iterator) ≤ l.initial.self.at + 22 * length l.pairs)
    × Owes (pair_lines l.map l.addr l.pairs) (pair_lines l.map l.addr (chunks_exact_rest l.pair-iterator)) l.initial.self l.self
