-- The numbers from here on are left to write.
use Rattle.std.proofs.Common.{◌+◌, ◌*◌, ◌≤◌, drop}
use Rattle.cursor.specs.Text.{spaced}
use Rattle.render.proofs.Writes.{Owes}
use Rattle.render.proofs.Printer.put_line.Given as goal

abbrev pub invariant-loop-n : goal.invariant-loop-n
invariant-loop-n l = Owes (spaced l.ns) (spaced (drop l.n-index l.ns)) l.initial.self l.self × (l.self.at ≤ l.initial.self.at + 21 * l.n-index)
