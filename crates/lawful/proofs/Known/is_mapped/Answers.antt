-- The frame stands where the hint says.
use Rattle.std.proofs.Common.{sym, ◌∙◌}
use Rattle.lawful.proofs.Hints.{hinted}
use Rattle.lawful.proofs.Known.is_mapped.Goals as goal

pub returns-then-eq : goal.returns-then-eq
returns-then-eq c = c.if-eq.true ∙ hinted _ _ _ _ c.get.ensures.lookup.3 (sym c.eq.ensures ∙ c.if-eq.true)
