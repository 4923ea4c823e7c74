use Rattle.std.proofs.Common.{rules, tests, arith, ◌≡◌, sym, ap, take, eqb, ℕ, ◌*◌, ◌%◌, ◌&&◌, not, true, false}
use Rattle.std.proofs.lemmas.List.{get_or-take, length-take}
use Rattle.std.proofs.lemmas.Iterator.{cases_from_any, YieldsList-from_slice}
use Rattle.std.proofs.lemmas.Iterator.Consumers.{YieldsList-from_enumerate}
use Rattle.paging.specs.Request.{enough}
use Rattle.listing.specs.CollectCode.{lacks_at, lacks}
use Rattle.listing.proofs.Chains.{any_numbered}
use Rattle.listing.proofs.lacks.Goals as goal

pub returns : goal.returns
unfolding lacks
returns c =
    let a = c.args in
    let part = take (8 * a.frames) a.work.now in
    let test = λ (p : ℕ × ℕ). eqb p.1 1 && not (enough a.q.now (p.0 % 8)) in
    any_numbered test part (8 * a.frames) (lacks_at a.q.now a.work.now) (omega (arith, length-take {A = ℕ}, c.requires.bytes))
    (λ k lt. ap (λ (b : ℕ). eqb b 1 && not (enough a.q.now (k % 8))) (sym (get_or-take (8 * a.frames) a.work.now k 0 lt))) _
    (cases_from_any _ _ _ (λ p. test p ≡ true) (λ p. test p ≡ false) c.any.ensures.ran
    (YieldsList-from_enumerate (YieldsList-from_slice part (search rules)) cc) (λ x q k. search (rules, tests)) (λ x q k. search (rules, tests)))
