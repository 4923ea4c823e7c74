-- Tests of all numbers below n, by a loop or by `all` over the range; and RW as the lowest of an entry's rights.
use Rattle.std.proofs.Common.{◌≡◌, Bool, true, false, List, ℕ, zero, suc, ◌%◌, ◌<◌, length, Option, MatchOption, zero-add, sym, arith}
use Rattle.std.specs.Bool.{MatchBool}
use Rattle.std.specs.List.{range_with_len, AllWithin, HoldsAt, FoldsTo}
use Rattle.std.specs.Fn.{Called}
use Rattle.std.specs.Iterator.{YieldsThen}
use Rattle.std.specs.declared.ops.Range.{Range}
use Rattle.std.proofs.lemmas.Iterator.{cases_from_all, YieldsList-from_range}
use Rattle.std.proofs.lemmas.List.FromFn.{length-range_with_len, get_or-range_with_len}
use Rattle.std.proofs.iter.Yields.{nat_range_steps}
use denote.Param.Members.{Mut}
use native.Mathlib.Numerals.{add-one}
use Rattle.paging.specs.Layout.{tables64, bit, rights_of}
use Rattle.paging.specs.Numbers.{all}
use Rattle.paging.proofs.Numbers.{all_none, all_more, all_fails}

pub ruleset alls = (all_none, all_more, all_fails)

module _ (f : ℕ → Bool) where
  all_by : (n : ℕ) → ((k : ℕ) → k < n → f k ≡ true) → all n f ≡ true
  all_by zero h = all_none f
  all_by (suc n) h = rw (← add-one n) (all_more f n (all_by n (λ k l. h k (omega arith))) (h n (omega arith)))

  by_list : (n : ℕ) (r : Bool)
      → MatchBool r (AllWithin (λ k. f k ≡ true) (range_with_len 0 n) 0 (length (range_with_len 0 n))) ((k : ℕ) × (k < length (range_with_len 0 n)) × HoldsAt (λ k. f k ≡ false) (range_with_len 0 n) k)
      → r ≡ all n f
  by_list n true h = sym (all_by n (λ k l. rw (get_or-range_with_len 0 n k 0 l, zero-add k) at (h k 0 (omega arith) (omega (arith, length-range_with_len 0 n)))))
  by_list n false h = let l : h.0 < n = omega (arith, h.1, length-range_with_len 0 n) in sym (all_fails f n h.0 l (rw (get_or-range_with_len 0 n h.0 0 l, zero-add h.0) at (h.2 0)))

  -- what `all` over 0..n answers
  pub all_over : {F : Type 0} {g : Mut F (ℕ × Unit {0}) Bool} {s u : Range ℕ} {c : F} {r : Bool} (n : ℕ) → s ≡ record { start = 0; end = n }
      → (xs : List ℕ) × (o : Option ℕ) × (j : F) × YieldsThen nat_range_steps s xs o u × FoldsTo (λ p x q. Called g p (x, tt) true q) c xs j × MatchOption o (r ≡ true) (λ x. (r ≡ false) × ((h : F) × Called g j (x, tt) false h))
      → ((b : Bool) (x : ℕ) (q : F) → Called g c (x, tt) b q → (q ≡ c) × (b ≡ f x)) → r ≡ all n f
  all_over {F} {g} {s} {u} {c} {r} n e ran calls =
      by_list n r
      (cases_from_all u c r (λ k. f k ≡ true) (λ k. f k ≡ false) ran (YieldsList-from_range 0 n n e (omega arith))
      (λ x q k. let t = calls true x q k in (t.0, sym t.1))
      (λ x q k. sym (calls false x q k).1))

pub low : (e : ℕ) → rights_of tables64 e % 2 ≡ bit e 1
unfolding rights_of
low e = omega arith
