-- At every turn the line is the place's, and from this place on the blanks end where they ended before.
use Rattle.std.proofs.Common.{◌≡◌, ◌+◌}
use Rattle.cursor.specs.Text.{line_at, past_blanks}
use Rattle.cursor.proofs.skip.Given as goal

abbrev pub invariant-loop-i : goal.invariant-loop-i
invariant-loop-i l =
    (l.line ≡ line_at l.text (l.c.at + l.i)) × (past_blanks l.text (l.c.at + l.i) ≡ past_blanks l.text l.c.at)
