-- `&` is what two rights share, at each pair below 8.
use mathlib.Core.Path.{◌∙◌, ap₂}
use Rattle.paging.specs.Walk.{meet}
use Rattle.paging.proofs.Meets.{and_meet}
use Rattle.paging.proofs.Rights.shared.Goals as goal

pub returns : goal.returns
returns c = and_meet c.self.inside.0 c.other.inside.0 c.self.invariant c.other.invariant ∙ ap₂ meet c.self.view_is c.other.view_is
