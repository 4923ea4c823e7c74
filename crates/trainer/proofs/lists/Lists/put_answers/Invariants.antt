-- Question by question. At every turn the lines of the questions passed have been written, and the others are left.
use Rattle.std.specs.Slice.Iter.{chunks_exact_rest, chunks_exact_size}
use mathlib.Core.Path.{◌≡◌}
use Rattle.trainer.specs.PartsCode.{lists_of}
use Rattle.trainer.proofs.Turns.{Passed}
use Rattle.trainer.proofs.lists.Lists.put_answers.Given as goal

abbrev pub invariant-loop-numbers : goal.invariant-loop-numbers
invariant-loop-numbers l =
    (chunks_exact_size l.numbers-iterator ≡ 3) × Passed (lists_of l.self) l.initial.printer (chunks_exact_rest l.numbers-iterator) l.printer
