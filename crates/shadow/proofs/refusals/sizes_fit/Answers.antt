-- Sizes in range, so that no product wraps.
use mathlib.Core.Path.{sym, ◌∙◌}
use Rattle.tables.specs.State.{machine64}
use Rattle.shadow.proofs.Sizing.{few}
use Rattle.shadow.proofs.refusals.sizes_fit.Goals as goal

pub lengths_fit-requires : goal.lengths_fit-requires
lengths_fit-requires c = few (machine64 c.args.z) (sym c.ranges_fit.ensures ∙ c.if-ranges_fit.true)
