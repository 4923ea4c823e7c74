use Rattle.std.proofs.Common.{rules, ◌≡◌}
use Rattle.std.specs.Option.{option_map}
use mathlib.Core.Path.{◌∙◌, ap}
use Rattle.paging.specs.Frame.{guest}
use Rattle.paging.proofs.Chains.{origin_position}
use Rattle.paging.proofs.origin_of.Goals as goal

pub returns : goal.returns
returns c =
    let a = c.args in
    let q : c.map.result ≡ option_map guest c.place_of.result = search rules in
    q ∙ ap (option_map guest) c.place_of.ensures ∙ origin_position a.map.now a.h
