-- Each word becomes its value. At every turn the pairs that are left, stored into the words so far, give the same.
use Rattle.std.proofs.Common.{◌≡◌, length}
use Rattle.std.specs.Slice.Iter.{chunks_exact_size, chunks_exact_rest}
use Rattle.puzzle.specs.Buffers.{with_pairs}
use Rattle.puzzle.specs.PartsCode.{WordsBelow}
use Rattle.puzzle.proofs.store_pairs.Given as goal

abbrev pub invariant-loop-pair : goal.invariant-loop-pair
invariant-loop-pair l =
    (chunks_exact_size l.pair-iterator ≡ 2) × WordsBelow (length l.words) (chunks_exact_rest l.pair-iterator)
    × (with_pairs (chunks_exact_rest l.pair-iterator) l.words ≡ with_pairs l.pairs l.initial.words)
