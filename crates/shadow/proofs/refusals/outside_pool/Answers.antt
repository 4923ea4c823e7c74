-- Each frame is tested.
use Rattle.std.proofs.Common.{not, tests, rules, ◌∙◌}
use Rattle.std.proofs.lemmas.Iterator.Search.{all_from_yields_List}
use Rattle.std.proofs.lemmas.Iterator.{YieldsList-from_slice}
use Rattle.tables.specs.State.{machine64}
use Rattle.shadow.specs.Refusals.{in_pool}
use Rattle.paging.proofs.Chains.{all_list}
use Rattle.shadow.proofs.refusals.outside_pool.Goals as goal

pub returns : goal.returns
returns c =
    let xs = c.args.map.now in
    all_from_yields_List (λ f. not (in_pool (machine64 c.args.m.sizes) f)) _ _ c.all.result c.all.ensures.ran (YieldsList-from_slice xs cc) (λ x b q k. search (rules, tests))
    ∙ all_list (λ f. not (in_pool (machine64 c.args.m.sizes) f)) xs
