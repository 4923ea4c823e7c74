-- What an event that is not refused is known to be: each test of its table is not met. And how large a number can be.
use mathlib.Core.Path.{◌≡◌, refl, sym, ◌∙◌}
use mathlib.Core.Logic.{◌⊎◌, inl, inr}
use mathlib.Core.Bool.{Bool, true, false, cond}
use mathlib.Core.List.{List, [], ◌∷◌}
use Prim.Native.Nat.{ℕ, ◌<◌}
use native.Mathlib.Omega.{arith}
use borrow.Author.Tests.{leb-false}
use Rattle.rules.specs.declared.Event.{Event}
use Rattle.rules.specs.Refusal.{Test, refusal}
use Rattle.rules.specs.History.{Setup, is_cr3_write, event_tests, event_refusal}

-- no test of the table is met
abbrev pub Clear : List Test → Type 0
Clear [] = Unit {0}
Clear (t ∷ ts) = (t.met ≡ false) × Clear ts

abbrev Numbered : List Test → Type 0
Numbered [] = Unit {0}
Numbered (t ∷ ts) = (0 < t.number) × Numbered ts

pub clear : (ts : List Test) → Numbered ts → refusal ts ≡ 0 → Clear ts
unfolding refusal
clear [] some e = tt
clear (t ∷ ts) some e = go t.met refl e (clear ts some.1)
  where
    go : (b : Bool) → t.met ≡ b → cond b t.number (refusal ts) ≡ 0 → (refusal ts ≡ 0 → Clear ts) → (t.met ≡ false) × Clear ts
    go true m z rest = absurd (omega (arith, some.0))
    go false m z rest = (m, rest z)

pub event_clear : (U : Setup) (e : Event) → event_refusal U e ≡ 0 → Clear (event_tests U e)
unfolding event_refusal
event_clear U e z =
    clear (event_tests U e)
    (omega arith, (omega arith, (omega arith, (omega arith, (omega arith, (omega arith, (omega arith, tt)))))))
    z

-- every test is numbered below 12, or is not met
abbrev pub Small : List Test → Type 0
Small [] = Unit {0}
Small (t ∷ ts) = ((t.number < 12) ⊎ (t.met ≡ false)) × Small ts

pub below_twelve : (ts : List Test) → Small ts → refusal ts < 12
unfolding refusal
below_twelve [] h = omega arith
below_twelve (t ∷ ts) h = go t.met refl h.0 (below_twelve ts h.1)
  where
    go : (b : Bool) → t.met ≡ b → (t.number < 12) ⊎ (t.met ≡ false) → refusal ts < 12 → cond b t.number (refusal ts) < 12
    go true q (inl l) r = l
    go true q (inr n) r = let z : true ≡ false = sym q ∙ n in let z : ◌≡◌ {A = ℕ} 0 1 = cc in absurd (omega arith)
    go false q s r = r

pub event-below_twelve : (U : Setup) (e : Event) → event_refusal U e < 12
unfolding event_refusal
event-below_twelve U e =
    below_twelve (event_tests U e)
    (inl (omega arith), (inl (omega arith), (inl (omega arith), (inl (omega arith), (inl (omega arith), (inl (omega arith), (inl (omega arith), tt)))))))

pub cr3_within : (U : Setup) (e : Event) → event_refusal U e ≡ 0 → is_cr3_write e ≡ true → e.a < U.frames
cr3_within U e z w = leb-false U.frames e.a (rw w at (event_clear U e z).1.1.1.0)
