-- The code's `&` is what two rights share.
use mathlib.Core.Path.{◌∙◌, ap}
use Rattle.paging.specs.Walk.{with_rights, meet}
use Rattle.paging.proofs.Walk.narrow.Goals as goal

pub returns : goal.returns
returns c = let w = c.args.self in ap (with_rights w) (c.shared.ensures ∙ ap (meet w.rights) c.rights_of.ensures)
