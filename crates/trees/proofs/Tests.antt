-- Tests as facts, in the forms that the rules on records, entries and slots are written in.
use mathlib.Core.Path.{◌≡◌, refl}
use mathlib.Core.Bool.{Bool, true, false, beq, ◌&&◌, ◌||◌}
use mathlib.Core.Logic.{◌⊎◌, inl, inr}
use Prim.Native.Nat.{ℕ, zero, suc, ◌<◌}
use native.Mathlib.Omega.{arith}
use Rattle.paging.proofs.Tests.{true_T, both}

pub false_true : {A : Type 0} → false ≡ true → A
false_true e = absurd (true_T false e)

pub beq_true : (a b : Bool) → beq a b ≡ true → a ≡ b
beq_true true true e = refl
beq_true true false e = false_true e
beq_true false true e = false_true e
beq_true false false e = refl

pub beq_same : (a b : Bool) → a ≡ b → beq a b ≡ true
beq_same a b e = rw e (self b)
  where
    self : (b : Bool) → beq b b ≡ true
    self true = refl
    self false = refl

pub five : (a b c d e : Bool) → (a && b && c && d && e) ≡ true → (a ≡ true) × (b ≡ true) × (c ≡ true) × (d ≡ true) × (e ≡ true)
five a b c d e h =
    let (abcd, he) = both (a && b && c && d) e h in
    let (abc, hd) = both (a && b && c) d abcd in
    let (ab, hc) = both (a && b) c abc in
    let (ha, hb) = both a b ab in
    (ha, hb, hc, hd, he)

pub or_true : (a : Bool) → (a || true) ≡ true
or_true true = refl
or_true false = refl

pub zero_one_more : (n : ℕ) → (n ≡ 0) ⊎ (n ≡ 1) ⊎ (1 < n)
zero_one_more zero = inl refl
zero_one_more (suc zero) = inr (inl refl)
zero_one_more (suc (suc n)) = inr (inr (omega arith))
