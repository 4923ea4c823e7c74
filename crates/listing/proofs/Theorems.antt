-- What is proved of the list call. Its promise is `ListCall` in specs/Call; `list` in src/ is proved to keep it.
use mathlib.Core.Path.{◌≡◌, sym, ◌∙◌}
use mathlib.Core.Bool.{Bool, true, false, cond}
use mathlib.Core.Logic.{inl}
use Prim.Native.Nat.{ℕ, zero, suc, ◌/◌, ◌<◌}
use native.Mathlib.Decide.{ℕ_discrete}
use native.Mathlib.Omega.{arith}
use lib.Dec.{eqb}
use lib.ListN.{length}
use Rattle.rules.specs.Numbers.{event_of}
use Rattle.rules.specs.History.{event_refusal}
use Rattle.rules.proofs.Ranges.{below_twelve, event-below_twelve}
use Rattle.std.specs.Prelude.{Result}
use Rattle.rules.specs.declared.Refusal.{Refusal}
use Rattle.rules.specs.Refusal.{refusal_of}
use Rattle.listing.specs.Call.{Asked, Lent, setup_asked, count_of, or_else, first_refusal, list_refusal, ListCall}
use Rattle.listing.proofs.Accepts.{accepted}
use Rattle.listing.proofs.Promise.{same_lists, same_answer}

-- ANY TWO RESULTS THAT THE PROMISE ALLOWS ARE EQUAL, the answer and every buffer, refused or not
pub one_result : (q : Asked) (before : Lent) (r s : Result ℕ Refusal) (x y : Lent) → ListCall q before r x → ListCall q before s y → (r ≡ s) × (x ≡ y)
one_result q before r s x y a b = go (ℕ_discrete (list_refusal q before) 0)
  where
    numbers : refusal_of r ≡ refusal_of s
    numbers = a.number ∙ sym b.number

    go : Dec (list_refusal q before ≡ 0) → (r ≡ s) × (x ≡ y)
    go (no n) =
        let (c, e) = a.refused n in
        let (d, f) = b.refused n in
        (same_answer q before r s numbers (c ∙ sym d), e ∙ sym f)
    go (yes z) =
        let some : 0 < length q.map = (accepted q before z).sizes.some in
        let (buffers, counts, more) = same_lists q before some x y (count_of r) (count_of s) (a.listed z) (b.listed z) in
        (same_answer q before r s numbers counts, buffers)

-- ITS NUMBER IS BELOW 12

either_below : (n m : ℕ) → n < 12 → m < 12 → or_else n m < 12
either_below n m a b = go (eqb n 0)
  where
    go : (t : Bool) → cond t m n < 12
    go true = b
    go false = a

first_below : (n : ℕ) (f : ℕ → ℕ) → ((k : ℕ) → f k < 12) → first_refusal n f < 12
unfolding first_refusal
first_below zero f each = omega arith
first_below (suc n) f each = either_below (first_refusal n f) (f n) (first_below n f each) (each n)

pub list_below_twelve : (q : Asked) (before : Lent) → list_refusal q before < 12
unfolding list_refusal
list_below_twelve q before =
    either_below _ _ (below_twelve _ (inl (omega arith), (inl (omega arith), (inl (omega arith), tt))))
    (either_below _ _
    (first_below (length q.events / 4) (λ k. event_refusal (setup_asked q before) (event_of q.events k)) (λ k. event-below_twelve (setup_asked q before) (event_of q.events k)))
    (event-below_twelve (setup_asked q before) _))
