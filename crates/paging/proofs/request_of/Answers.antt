-- One test of all six rows, which antt computes.
use Rattle.std.proofs.lemmas.List.{get_or_default}
use mathlib.Core.Path.{ap₂, ◌∙◌}
use mathlib.Core.Bool.{Bool, ◌&&◌}
use mathlib.Core.List.{List, [], ◌∷◌}
use Prim.Native.Nat.{ℕ}
use lib.Dec.{eqb, eqb→eq}
use lib.ListN.{get_or}
use borrow.Author.Rules.{rules}
use Rattle.paging.specs.declared.Request.{Request}
use Rattle.paging.specs.Layout.{tables64}
use Rattle.paging.specs.Request.{request_of}
use Rattle.paging.proofs.Tests.{and_l, and_r}
use Rattle.paging.proofs.Finite.{at-below}
use Rattle.paging.proofs.request_of.Goals as goal

abbrev row : ℕ → ℕ → Request
row n a = record { needs = n; adds = a }

abbrev table : List Request
table = row 0 0 ∷ row 1 2 ∷ row 4 16 ∷ row 2 4 ∷ row 3 6 ∷ row 6 20 ∷ []

abbrev right : ℕ → Bool
unfolding request_of
right k =
    eqb (get_or table k (row 0 0)).needs (request_of tables64 k).needs && eqb (get_or table k (row 0 0)).adds (request_of tables64 k).adds

pub returns : goal.returns
unfolding request_of
returns c =
    let k = c.args.number in
    let t = at-below 6 right tt k (search rules) in
    let q = get_or table k (row 0 0) in
    let s = request_of tables64 k in
    get_or_default table k c.index-number.result (row 0 0) (search rules)
    ∙ ap₂ row (eqb→eq q.needs s.needs (and_l (eqb q.needs s.needs) _ t)) (eqb→eq q.adds s.adds (and_r (eqb q.needs s.needs) _ t))
