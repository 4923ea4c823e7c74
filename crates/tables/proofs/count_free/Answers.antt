use mathlib.Core.Path.{ap, ◌∙◌}
use Prim.Native.Nat.{ℕ}
use native.Mathlib.Omega.{arith}
use borrow.Author.Tests.{tests}
use Rattle.std.proofs.Common.{rules}
use Rattle.std.proofs.lemmas.Iterator.{YieldsList-from_range}
use Rattle.std.proofs.lemmas.Iterator.Consumers.{YieldsList-from_filter, count_from_yields_List}
use Rattle.paging.specs.Numbers.{count}
use Rattle.tables.specs.State.{machine64}
use Rattle.tables.specs.Steps.{may_take, free_count}
use Rattle.tables.proofs.Counted.{counted}
use Rattle.tables.proofs.count_free.Goals as goal

pub returns : goal.returns
unfolding free_count
returns c =
    let a = c.args in
    let test = may_take (machine64 a.m.sizes) a.p a.records.now in
    count_from_yields_List _ c.count.result c.count.ensures.ran
    (YieldsList-from_filter _ test (YieldsList-from_range 0 c.table_count.result c.table_count.result c.filter.ensures.source (omega arith)) c.filter.ensures.closure (λ x b q k. search (rules, tests)))
    ∙ counted test c.table_count.result
    ∙ ap (λ (n : ℕ). count n test) c.table_count.ensures
