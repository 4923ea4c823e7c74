-- The machine that the program `run` goes through, as a run of demand 3 that loses no slot.
use Rattle.std.specs.Prelude.{false, List, ℕ, ◌+◌, ◌/◌, length}
use Rattle.rules.specs.Numbers.{events_of}
use Rattle.tables.specs.State.{machine64}
use Rattle.sections.specs.Sections.{Puzzle}
use Rattle.puzzle.specs.Buffers.{words_of}
use Rattle.trainer.specs.Call.{joined}
use Rattle.trainer.specs.Run.{sizes_of, answer_line}
use Rattle.promise.specs.Demand.{Fresh, Run, answer_at}

abbrev pub machine_for : Puzzle → Fresh
machine_for z = record { machine = machine64 (sizes_of z.map z.cr3s); map = z.map; words = words_of z; cr3s = z.cr3s }

abbrev pub run_for : Puzzle → Run
run_for z = record { events = events_of z.events; lost = λ k p j. false }

-- "per event `E index kind value`", of the answers of that run
abbrev pub printed_for : Puzzle → List ℕ
printed_for z = joined (length z.events / 4) (λ k. answer_line (k + 1) (answer_at (machine_for z) (run_for z) k))
