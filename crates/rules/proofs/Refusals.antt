-- The refusal of an event, kind by kind, as the code tests it.
use mathlib.Core.Path.{◌≡◌, refl, ap, ◌∙◌}
use mathlib.Core.Logic.{◌⊎◌, inl, inr}
use mathlib.Core.Bool.{Bool, true, false, cond, not, or-false}
use Prim.Native.Nat.{ℕ, ◌*◌, ◌≤◌, ◌<◌}
use native.Mathlib.Omega.{arith}
use native.Mathlib.Decide.{dec_lt}
use lib.Dec.{eqb, ltb, leb}
use borrow.Author.Tests.{ne_eqb, lt-ltb, le-ltb, le-leb, lt-leb}
use Rattle.paging.specs.Layout.{frame_words}
use Rattle.rules.specs.declared.Event.{Event}
use Rattle.rules.specs.declared.Refusal.{Refusal}
use Rattle.rules.specs.declared.Refusal.TheVariants.{WrongSizes, WrongMap, Unlawful, NoProcessor, WrongAddress, NoRequest, NoFrame, NoWord, NoSlot, NoNumber, OutOfRange, TooFewTables}
use Rattle.rules.specs.Refusal.{refusal, number_of}
use Rattle.rules.specs.History.{Setup, event_refusal}

-- a number that is too large, or one that is below
flip : (a n x y : ℕ) → cond (leb n a) x y ≡ cond (ltb a n) y x
flip a n x y = go (dec_lt a n)
  where
    go : Dec (a < n) → cond (leb n a) x y ≡ cond (ltb a n) y x
    go (yes h) = simp (lt-ltb a n h, lt-leb n a h)
    go (no h) = simp (le-ltb a n (omega arith), le-leb n a (omega arith))

turn : (b : Bool) (x y : ℕ) → cond (not b) x y ≡ cond b y x
turn true x y = refl
turn false x y = refl

-- no refusal has number 0
pub some_number : (r : Refusal) → 0 < number_of r
some_number WrongSizes = omega arith
some_number WrongMap = omega arith
some_number Unlawful = omega arith
some_number NoProcessor = omega arith
some_number WrongAddress = omega arith
some_number NoRequest = omega arith
some_number NoFrame = omega arith
some_number NoWord = omega arith
some_number NoSlot = omega arith
some_number NoNumber = omega arith
some_number OutOfRange = omega arith
some_number TooFewTables = omega arith

-- each refusal has a number of its own
pub same_refusal : (r s : Refusal) → number_of r ≡ number_of s → r ≡ s
same_refusal r s e = grind arith

-- of two tests, one after the other: the first refuses, or it passes and the second decides
pub first_refuses : (r : Refusal) (fits : Bool) (m rest : ℕ) → number_of r ≡ cond fits 0 m → number_of r ≡ cond fits rest m
first_refuses r true m rest e = absurd (omega (arith, some_number r))
first_refuses r false m rest e = e

pub second_decides : (fits : Bool) (m rest : ℕ) → 0 < m → ◌≡◌ {A = ℕ} 0 (cond fits 0 m) → rest ≡ cond fits rest m
second_decides true m rest h e = refl
second_decides false m rest h e = absurd (omega arith)

passed : (p n : ℕ) → ◌≡◌ {A = ℕ} 0 (cond (ltb p n) 0 4) → p < n
passed p n e = go (dec_lt p n)
  where
    go : Dec (p < n) → p < n
    go (yes h) = h
    go (no h) = absurd (omega (arith, e ∙ ap (λ (b : Bool). cond b 0 4) (le-ltb p n (omega arith))))

module _ (U : Setup) (e : Event) where
  pub too_many : U.processors ≤ e.proc → event_refusal U e ≡ 4
  unfolding event_refusal refusal
  too_many h = simp (le-leb U.processors e.proc h)

  pub by_processor : event_refusal U e ≡ cond (ltb e.proc U.processors) (event_refusal U e) 4
  by_processor = go (dec_lt e.proc U.processors)
    where
      go : Dec (e.proc < U.processors) → event_refusal U e ≡ cond (ltb e.proc U.processors) (event_refusal U e) 4
      go (yes h) = rw (lt-ltb e.proc U.processors h) refl
      go (no h) = rw (le-ltb e.proc U.processors (omega arith)) (too_many (omega arith))

  -- the processor passed its test
  module _ (p : ◌≡◌ {A = ℕ} 0 (cond (ltb e.proc U.processors) 0 4)) where
    h : e.proc < U.processors
    h = passed e.proc U.processors p

    pub of_store : e.kind ≡ 1 → event_refusal U e ≡ cond (ltb e.a (frame_words * U.frames)) 0 8
    unfolding event_refusal refusal
    of_store k = simp (lt-leb U.processors e.proc h, k) (flip e.a (frame_words * U.frames) 8 0)

    pub of_invlpg : e.kind ≡ 2 → event_refusal U e ≡ cond (U.tables.allowed e.a) (cond (eqb e.b 0) 0 11) 5
    unfolding event_refusal refusal
    of_invlpg k = simp (lt-leb U.processors e.proc h, k, turn)

    pub of_cr3 : e.kind ≡ 3 → event_refusal U e ≡ cond (ltb e.a U.frames) (cond (eqb e.b 0) 0 11) 7
    unfolding event_refusal refusal
    of_cr3 k = simp (lt-leb U.processors e.proc h, k, turn) (flip e.a U.frames 7 _)

    pub of_access : e.kind ≡ 4 → event_refusal U e ≡ cond (U.tables.allowed e.a) (cond (ltb e.b 6) 0 6) 5
    unfolding event_refusal refusal
    of_access k = simp (lt-leb U.processors e.proc h, k, turn, flip e.b 6)

    pub of_begin : e.kind ≡ 5 → event_refusal U e ≡ cond (U.tables.allowed e.a) (cond (ltb e.b 8) 0 9) 5
    unfolding event_refusal refusal
    of_begin k = simp (lt-leb U.processors e.proc h, k, or-false, turn, flip e.b 8)

    pub of_slot : (e.kind ≡ 6) ⊎ (e.kind ≡ 7) → event_refusal U e ≡ cond (ltb e.a 8) (cond (eqb e.b 0) 0 11) 9
    unfolding event_refusal refusal
    of_slot (inl k) = simp (lt-leb U.processors e.proc h, k, turn) (flip e.a 8 9 _)
    of_slot (inr k) = simp (lt-leb U.processors e.proc h, k, turn) (flip e.a 8 9 _)

    pub of_unknown : (e.kind ≡ 0) ⊎ (7 < e.kind) → event_refusal U e ≡ 11
    unfolding event_refusal refusal
    of_unknown (inl k) = simp (lt-leb U.processors e.proc h, k)
    of_unknown (inr k) =
        simp (
          lt-leb U.processors e.proc h,
          ne_eqb e.kind 0 (λ z. omega arith),
          ne_eqb e.kind 1 (λ z. omega arith),
          ne_eqb e.kind 2 (λ z. omega arith),
          ne_eqb e.kind 3 (λ z. omega arith),
          ne_eqb e.kind 4 (λ z. omega arith),
          ne_eqb e.kind 5 (λ z. omega arith),
          ne_eqb e.kind 6 (λ z. omega arith),
          ne_eqb e.kind 7 (λ z. omega arith),
          lt-ltb 7 e.kind k,
        )
