use mathlib.Core.Path.{◌≡◌, ap, ◌∙◌}
use mathlib.Core.Bool.{true, false, cond}
use Prim.Native.Nat.{ℕ}
use lib.Dec.{ltb}
use borrow.Author.Tests.{tests}
use Rattle.std.specs.Prelude.{Some, None}
use Rattle.std.proofs.Common.{rules}
use Rattle.std.proofs.lemmas.Iterator.{first_from_Range}
use Rattle.paging.specs.Numbers.{first}
use Rattle.tables.specs.State.{machine64}
use Rattle.tables.specs.Steps.{may_take, taken}
use Rattle.tables.proofs.Takes.{first_by}
use Rattle.tables.proofs.next_free.Goals as goal

pub returns : goal.returns
unfolding taken
returns c =
    let f = may_take (machine64 c.args.m.sizes) c.args.p c.args.records.now in
    first_by f _ c.find.result
    (first_from_Range _ _ _ _ (λ k. f k ≡ true) (λ k. f k ≡ false) c.find.ensures.ran (λ x q k. search (rules, tests)) (λ x q k. search (rules, tests)))
    ∙ ap (λ (n : ℕ). cond (ltb (first n f) n) (Some (first n f)) None) c.table_count.ensures
