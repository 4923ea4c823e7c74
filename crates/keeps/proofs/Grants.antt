-- "W only if D is now set": what the level 1 entry of a fill grants, against what the guest's walk grants.
use mathlib.Core.Path.{◌≡◌, refl, sym, ap, ◌∙◌}
use mathlib.Core.Bool.{Bool, true, false, not, ◌||◌}
use mathlib.Core.Logic.{◌⊎◌, inl, inr}
use Prim.Native.Nat.{ℕ, zero, suc, ◌+◌, ◌<◌}
use native.Mathlib.Omega.{arith}
use lib.Dec.{T, eqb, eqb→eq}
use Rattle.paging.specs.declared.Request.{Request}
use Rattle.paging.specs.Walk.{meet}
use Rattle.paging.specs.Request.{enough, is_write}
use Rattle.paging.proofs.Finite.{below, at-below, at_below₂}
use Rattle.paging.proofs.Meets.{meet_small, enough-meet}
use Rattle.paging.proofs.Tests.{T_true}

abbrev asks : ℕ → Request
asks n = record { needs = n; adds = 0 }

three-below : (f : ℕ → ℕ → ℕ → Bool) → T (below 8 (λ a. below 8 (λ b. below 8 (f a b)))) → (a b c : ℕ) → a < 8 → b < 8 → c < 8 → T (f a b c)
three-below f t a b c ha hb hc = at-below 8 (f a b) (at_below₂ 8 (λ a b. below 8 (f a b)) t a b ha hb) c hc

meet_assoc : (a b c : ℕ) → a < 8 → b < 8 → c < 8 → meet a (meet b c) ≡ meet (meet a b) c
unfolding meet
meet_assoc a b c ha hb hc = eqb→eq _ _ (three-below (λ a b c. eqb (meet a (meet b c)) (meet (meet a b) c)) tt a b c ha hb hc)

meet_full : (b : ℕ) → b < 8 → meet b 7 ≡ b
unfolding meet
meet_full b hb = eqb→eq _ b (at-below 8 (λ b. eqb (meet b 7) b) tt b hb)

implied : (a b c : Bool) → T (not a || (b || c)) → a ≡ true → b ≡ false → c ≡ true
implied true false c t e q = T_true c t
implied true true c t e q = let z : ◌≡◌ {A = ℕ} 0 1 = cc in absurd (omega arith)
implied false b c t e q = let z : ◌≡◌ {A = ℕ} 0 1 = cc in absurd (omega arith)

-- a request that does not write is served as well without W
without_w : (q : Request) (a b : ℕ) → q.needs < 8 → a < 8 → b < 8 → enough q (meet a b) ≡ true → is_write q ≡ false → enough q (meet a (meet b 6)) ≡ true
unfolding enough meet
without_w q a b hn ha hb =
    implied (enough q (meet a b)) (is_write q) (enough q (meet a (meet b 6)))
    (three-below (λ n a b. not (enough (asks n) (meet a b)) || (is_write (asks n) || enough (asks n) (meet a (meet b 6)))) tt q.needs a b hn ha hb)

bit_cases : (d : ℕ) → d < 2 → (d ≡ 0) ⊎ (d ≡ 1)
bit_cases zero h = inl refl
bit_cases (suc zero) h = inr refl
bit_cases (suc (suc d)) h = absurd (omega arith)

module _ (q : Request) (a b d : ℕ) (hn : q.needs < 8) (ha : a < 8) (hb : b < 8) (hd : d < 2) where
  -- WHAT THE FILL GRANTS, THE GUEST GRANTS
  pub grants_less : enough q (meet a (meet b (6 + d))) ≡ true → enough q (meet a b) ≡ true
  grants_less e = enough-meet q (meet a b) (6 + d) hn (meet_small a b) (omega arith) (ap (enough q) (sym (meet_assoc a b (6 + d) ha hb (omega arith))) ∙ e)

  -- WHAT THE GUEST GRANTS, THE FILL GRANTS, W once D is set
  pub grants_enough : enough q (meet a b) ≡ true → (is_write q ≡ true → d ≡ 1) → enough q (meet a (meet b (6 + d))) ≡ true
  grants_enough e w = go (bit_cases d hd) (is_write q) refl
    where
      go : (d ≡ 0) ⊎ (d ≡ 1) → (c : Bool) → is_write q ≡ c → enough q (meet a (meet b (6 + d))) ≡ true
      go (inr one) c s = ap (λ (x : ℕ). enough q (meet a (meet b (6 + x)))) one ∙ ap (λ (x : ℕ). enough q (meet a x)) (meet_full b hb) ∙ e
      go (inl none) false s = ap (λ (x : ℕ). enough q (meet a (meet b (6 + x)))) none ∙ without_w q a b hn ha hb e s
      go (inl none) true s = absurd (omega (arith, w s))
