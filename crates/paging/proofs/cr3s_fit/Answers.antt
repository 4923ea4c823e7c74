use mathlib.Core.Path.{◌∙◌}
use lib.Dec.{ltb}
use Rattle.paging.specs.Frame.{cr3s_fit}
use Rattle.paging.proofs.Chains.{all_list}
use Rattle.paging.proofs.cr3s_fit.Goals as goal

pub returns : goal.returns
unfolding cr3s_fit
returns c = let a = c.args in c.are_below.ensures ∙ all_list (λ f. ltb f a.frames) a.cr3s.now
