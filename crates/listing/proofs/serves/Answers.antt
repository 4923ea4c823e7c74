use Rattle.std.proofs.Common.{rules, tests, arith, ◌≡◌, ◌∙◌, sym, ◌<◌, ap, take, drop, eqb, ℕ, ◌*◌, ◌+◌, ◌%◌, ◌&&◌, true, false, get_or}
use Rattle.std.proofs.lemmas.List.{get_or-take, get_or-drop, length-take, length-drop}
use Rattle.std.proofs.lemmas.Iterator.{cases_from_any, YieldsList-from_slice}
use Rattle.std.proofs.lemmas.Iterator.Consumers.{YieldsList-from_enumerate}
use Rattle.paging.specs.Request.{enough}
use Rattle.listing.specs.CollectCode.{serves_with, serves}
use Rattle.listing.proofs.Chains.{any_numbered}
use Rattle.listing.proofs.serves.Goals as goal

pub returns : goal.returns
unfolding serves
returns c =
    let a = c.args in
    let part = take 8 (drop (8 * a.f) a.work.now) in
    let test = λ (p : ℕ × ℕ). eqb p.1 1 && enough a.q.now (p.0 % 8) in
    let place : (k : ℕ) → (0 * a.frames + a.f) * 8 + k ≡ 8 * a.f + k = λ k. omega arith in
    let low : (k : ℕ) → k < 8 → k ≡ k % 8 = λ k lt. omega arith in
    let same : (k : ℕ) → k < 8 → serves_with a.frames a.q.now a.work.now a.f k ≡ test (k, get_or part k 0) =
    λ k lt. ap (λ (b : ℕ). eqb b 1 && enough a.q.now k) (ap (λ (i : ℕ). get_or a.work.now i 0) (place k) ∙ sym (get_or-take 8 (drop (8 * a.f) a.work.now) k 0 lt ∙ get_or-drop (8 * a.f) a.work.now k 0))
    ∙ ap (λ (r : ℕ). eqb (get_or part k 0) 1 && enough a.q.now r) (low k lt) in
    any_numbered test part 8 (serves_with a.frames a.q.now a.work.now a.f) (omega (arith, length-take {A = ℕ}, length-drop {A = ℕ}, c.requires.0.bytes)) (λ k lt. same k lt) _
    (cases_from_any _ _ _ (λ p. test p ≡ true) (λ p. test p ≡ false) c.any.ensures.ran
    (YieldsList-from_enumerate (YieldsList-from_slice part (search rules)) cc) (λ x q k. search (rules, tests)) (λ x q k. search (rules, tests)))
