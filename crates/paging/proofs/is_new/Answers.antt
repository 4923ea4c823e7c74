use Rattle.std.proofs.iter.runs.Made.{chains}
use Rattle.std.proofs.Common.{rules, ◌≡◌, ◌∙◌, ap, not, take, eqb}
use Rattle.std.specs.List.{list_any}
use Rattle.paging.proofs.Chains.{none_list}
use Rattle.paging.proofs.Frames.{new_cut}
use Rattle.paging.proofs.is_new.Goals as goal

pub returns : goal.returns
returns c =
    let a = c.args in
    let front = take a.n a.map.now in
    let q : c.contains.result ≡ list_any (λ x. eqb x a.f) front = search (rules, chains) in
    ap not q ∙ none_list (λ x. eqb x a.f) front ∙ new_cut a.map.now a.n a.f c.requires
