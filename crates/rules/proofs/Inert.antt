-- Events that change nothing can be put in or taken out. First of views, where φ n is the moment of the shorter history
-- at which moment n of the longer one stands; then of histories without the events that fail a test.
use mathlib.Core.Path.{◌≡◌, refl, sym, ◌∙◌, ap}
use mathlib.Core.Logic.Iff
use mathlib.Core.Logic.{◌↔◌, ◌⊎◌, inl, inr}
use mathlib.Core.Bool.{Bool, true, false, cond, not, ◌&&◌, ◌||◌}
use mathlib.Core.List.{List, [], ◌∷◌}
use Prim.Native.Nat.{ℕ, zero, suc}
use native.Mathlib.Omega.{arith}
use lib.Dec.{T}
use lib.ListN.{length}
use borrow.Author.Tests.{eqb-false}
use Rattle.paging.specs.declared.Walk.{Walk}
use Rattle.paging.specs.declared.Request.{Request}
use Rattle.paging.specs.Layout.{page_of, get, index}
use Rattle.paging.specs.Request.{request_of}
use Rattle.paging.specs.Walk.{start, step}
use Rattle.paging.specs.Sound.{Sound}
use Rattle.rules.specs.declared.Event.{Event}
use Rattle.rules.specs.declared.Question.{Question}
use Rattle.rules.specs.declared.Outcome.{Outcome}
use Rattle.rules.specs.History.{Setup, is_store, is_invlpg, is_cr3_write, is_by, event_at, words_at, cr3_at, stored, loaded}
use Rattle.rules.specs.View.{View, view_of, never}
use Rattle.rules.specs.Outcome.{Permitted, RightList, RightAt}
use Rattle.rules.specs.Counts.{keep}
use Rattle.rules.specs.Coherent.{Coherent}
use Rattle.rules.proofs.Views.{coherent, Idle, kind_idle}
use Rattle.rules.specs.Kept.{Kept, begin, extend, stay, ends}
use Rattle.rules.proofs.Steps.{neither, held_is_kept}
use Rattle.rules.specs.Counts.{counts}

module _ (short long : View) (φ : ℕ → ℕ) where
  -- event n + 1 of the longer history ends nothing, or it is the next one of the shorter
  pub record Inserted : Type 0 where
    pub from_start : φ 0 ≡ 0
    pub same_begins : (n : ℕ) → long.begins n ≡ short.begins (φ n)
    pub same_steps : (n : ℕ) (w : Walk) → long.steps n w ≡ short.steps (φ n) w
    pub each : (n : ℕ) → ((φ (suc n) ≡ φ n) × ((w : Walk) → T (not (ends long w n))))
        ⊎ ((φ (suc n) ≡ suc (φ n)) × ((w : Walk) → ends long w n ≡ ends short w (φ n)))

  module _ (i : Inserted) where
    to : {n : ℕ} {w : Walk} → Kept long n w → Kept short (φ n) w
    to {n} (begin e) = begin (e ∙ i.same_begins n)
    to {n} (extend {w = w} h e) = extend (to h) (sym (i.same_steps n w) ∙ e)
    to {w = w} (stay {n = n} h t) = pick (i.each n) (to h)
      where
        pick : ((φ (suc n) ≡ φ n) × ((w : Walk) → T (not (ends long w n)))) ⊎ ((φ (suc n) ≡ suc (φ n)) × ((w : Walk) → ends long w n ≡ ends short w (φ n)))
            → Kept short (φ n) w → Kept short (φ (suc n)) w
        pick (inl (p, q)) k = rw p k
        pick (inr (p, q)) k = let u : T (not (ends short w (φ n))) = rw (← q w) t in rw p (stay k u)

    from : {m : ℕ} {w : Walk} → Kept short m w → (n : ℕ) → φ n ≡ m → Kept long n w
    from (begin e) n p = begin (e ∙ ap short.begins (sym p) ∙ sym (i.same_begins n))
    from (extend {w = w} h e) n p = extend (from h n p) (i.same_steps n w ∙ ap (λ k. short.steps k w) p ∙ e)
    from {w = w} (stay {n = m} h t) n p = down n p (from h)
      where
        down : (n : ℕ) → φ n ≡ suc m → ((j : ℕ) → φ j ≡ m → Kept long j w) → Kept long n w
        down zero p old = absurd (omega (arith, i.from_start))
        down (suc n) p old = pick (i.each n) (λ q. down n q old)
          where
            pick : ((φ (suc n) ≡ φ n) × ((w : Walk) → T (not (ends long w n)))) ⊎ ((φ (suc n) ≡ suc (φ n)) × ((w : Walk) → ends long w n ≡ ends short w (φ n)))
                → (φ n ≡ suc m → Kept long n w) → Kept long (suc n) w
            pick (inl (a, q)) up = stay (up (sym a ∙ p)) (q w)
            pick (inr (a, q)) up = let z : φ n ≡ m = omega arith in let u : T (not (ends long w n)) = rw (q w, z) t in stay (old n z) u

    -- THE SAME WALKS ARE HELD
    pub inserted : (n : ℕ) (w : Walk) → Kept long n w ↔ Kept short (φ n) w
    inserted n w = (to, (λ h. from h n refl))

    -- AND THE SAME LISTS ARE RIGHT
    pub inserted_right : {L G : ℕ} → Coherent short L G → Coherent long L G → (q : Request) (n : ℕ) (os : List Outcome)
        → RightList long q n os ↔ RightList short q (φ n) os
    inserted_right ls ll q n os = (
      (λ r. record { rises = r.rises; exact = λ o. Iff.trans (r.exact o) (same o) }),
      (λ r. record { rises = r.rises; exact = λ o. Iff.trans (r.exact o) (Iff.symm (same o)) }),
    )
      where
        same : (o : Outcome) → Permitted long q n o ↔ Permitted short q (φ n) o
        same o = (
          (λ p. record {
            walk = p.walk;
            held = (held_is_kept short ls (φ n) p.walk).1 (to ((held_is_kept long ll n p.walk).0 p.held));
            gives = rw (i.same_steps n p.walk) at p.gives;
          }),
          (λ p. record {
            walk = p.walk;
            held = (held_is_kept long ll n p.walk).1 (from ((held_is_kept short ls (φ n) p.walk).0 p.held) n refl);
            gives = rw (i.same_steps n p.walk) p.gives;
          }),
        )

-- ---- histories

-- how many of the first n events pass the test
unfoldable pub passed : (Event → Bool) → List Event → ℕ → ℕ
passed f [] n = 0
passed f (e ∷ es) zero = 0
passed f (e ∷ es) (suc n) = cond (f e) (suc (passed f es n)) (passed f es n)

module _ (f : Event → Bool) (only : (e : Event) → f e ≡ false → counts e ≡ false) where
  passed_zero : (es : List Event) → passed f es 0 ≡ 0
  unfolding passed
  passed_zero [] = refl
  passed_zero (e ∷ es) = refl

  passed-all : (es : List Event) → passed f es (length es) ≡ length (keep f es)
  unfolding passed keep
  passed-all [] = refl
  passed-all (e ∷ es) = cases (f e) (passed-all es)
    where
      cases : (b : Bool) → passed f es (length es) ≡ length (keep f es)
          → cond b (suc (passed f es (length es))) (passed f es (length es)) ≡ length (cond b (e ∷ keep f es) (keep f es))
      cases true h = ap suc h
      cases false h = h

  -- event n + 1 is left out, or it is the next one kept
  abbrev Next : List Event → ℕ → Type 0
  Next es n = ((passed f es (suc n) ≡ passed f es n) × (counts (event_at es n) ≡ false))
      ⊎ ((passed f es (suc n) ≡ suc (passed f es n)) × (event_at es n ≡ event_at (keep f es) (passed f es n)))

  next : (es : List Event) (n : ℕ) → Next es n
  unfolding passed keep
  next [] n = inl (refl, refl)
  next (e ∷ es) zero = cases (f e) refl
    where
      cases : (b : Bool) → f e ≡ b
          → ((cond b (suc (passed f es 0)) (passed f es 0) ≡ 0) × (counts e ≡ false))
          ⊎ ((cond b (suc (passed f es 0)) (passed f es 0) ≡ 1) × (e ≡ event_at (cond b (e ∷ keep f es) (keep f es)) 0))
      cases true p = inr (ap suc (passed_zero es), refl)
      cases false p = inl (passed_zero es, only e p)
  next (e ∷ es) (suc n) = cases (f e) (next es n)
    where
      cases : (b : Bool) → Next es n
          → ((cond b (suc (passed f es (suc n))) (passed f es (suc n)) ≡ cond b (suc (passed f es n)) (passed f es n)) × (counts (event_at es n) ≡ false))
          ⊎ ((cond b (suc (passed f es (suc n))) (passed f es (suc n)) ≡ suc (cond b (suc (passed f es n)) (passed f es n)))
          × (event_at es n ≡ event_at (cond b (e ∷ keep f es) (keep f es)) (cond b (suc (passed f es n)) (passed f es n))))
      cases true (inl (p, c)) = inl (ap suc p, c)
      cases true (inr (p, c)) = inr (ap suc p, c)
      cases false h = h

  no_store : (e : Event) → counts e ≡ false → is_store e ≡ false
  no_store e h = first (is_store e) (is_invlpg e) (is_cr3_write e) h
    where
      first : (a b c : Bool) → (a || b || c) ≡ false → a ≡ false
      first false b c h = refl
      first true b c h = h

  no_ends : (e : Event) → counts e ≡ false → (is_invlpg e ≡ false) × (is_cr3_write e ≡ false)
  no_ends e h = rest (is_store e) (is_invlpg e) (is_cr3_write e) h
    where
      rest : (a b c : Bool) → (a || b || c) ≡ false → (b ≡ false) × (c ≡ false)
      rest false false false h = (refl, refl)
      rest false false true h = (refl, h)
      rest false true c h = let z : true ≡ false = h in (z, (cc))
      rest true b c h = let z : true ≡ false = h in ((cc), (cc))

  idle_load : (a b : Bool) → b ≡ false → (a && b) ≡ false
  idle_load false b h = refl
  idle_load true b h = h

  idle : (U : Setup) (es : List Event) (p v n : ℕ) → counts (event_at es n) ≡ false → Idle U es p v never n refl
  idle U es p v n c =
      let (i, r) = no_ends (event_at es n) c in
      kind_idle U es p v never n refl (eqb-false (event_at es n).kind 2 i) (eqb-false (event_at es n).kind 3 r)

  module _ (U : Setup) (es : List Event) where
    words_same : (n : ℕ) → words_at U es n ≡ words_at U (keep f es) (passed f es n)
    unfolding words_at
    words_same zero = rw (passed_zero es)
    words_same (suc n) = pick (next es n) (words_same n)
      where
        pick : Next es n → words_at U es n ≡ words_at U (keep f es) (passed f es n)
            → stored (event_at es n) (words_at U es n) ≡ words_at U (keep f es) (passed f es (suc n))
        pick (inl (p, c)) ih = rw (p, no_store (event_at es n) c) ih
        pick (inr (p, c)) ih = rw (p, c, ih)

    cr3-same : (p n : ℕ) → cr3_at U es p n ≡ cr3_at U (keep f es) p (passed f es n)
    unfolding cr3_at
    cr3-same p zero = rw (passed_zero es)
    cr3-same p (suc n) = pick (next es n) (cr3-same p n)
      where
        pick : Next es n → cr3_at U es p n ≡ cr3_at U (keep f es) p (passed f es n)
            → loaded p (event_at es n) (cr3_at U es p n) ≡ cr3_at U (keep f es) p (passed f es (suc n))
        pick (inl (q, c)) ih = rw (q, idle_load (is_by p (event_at es n)) (is_cr3_write (event_at es n)) (no_ends (event_at es n) c).1) ih
        pick (inr (q, c)) ih = rw (q, c, ih)

    fewer : (p v : ℕ) → Inserted (view_of U (keep f es) p v never) (view_of U es p v never) (passed f es)
    unfolding view_of
    fewer p v = record {
      from_start = passed_zero es;
      same_begins = λ n. ap (start U.tables) (cr3-same p n);
      same_steps = λ n w. ap (λ (ws : List ℕ). step U.tables U.frames w (get U.tables ws w.frame.0 (index U.tables v w.level))) (words_same n);
      each = λ n. pick n (next es n);
    }
      where
        pick : (n : ℕ) → Next es n
            → ((passed f es (suc n) ≡ passed f es n) × ((w : Walk) → T (not (ends (view_of U es p v never) w n))))
            ⊎ ((passed f es (suc n) ≡ suc (passed f es n)) × ((w : Walk) → ends (view_of U es p v never) w n ≡ ends (view_of U (keep f es) p v never) w (passed f es n)))
        pick n (inl (q, c)) = inl (q, λ w. neither _ _ w.level (idle U es p v n c).0 (idle U es p v n c).1)
        pick n (inr (q, c)) = inr (q, λ w. rw c)

    -- A QUESTION'S LIST IS THE SAME WITHOUT THE EVENTS THAT FAIL THE TEST
    pub fewer_right : Sound U.tables → (q : Question) (os : List Outcome)
        → RightAt U es q (length es) os ↔ RightAt U (keep f es) q (length (keep f es)) os
    fewer_right ok q os =
        rw (← passed-all es)
        (inserted_right (view_of U (keep f es) q.proc (page_of U.tables q.addr) never) (view_of U es q.proc (page_of U.tables q.addr) never)
        (passed f es) (fewer q.proc (page_of U.tables q.addr))
        (coherent U (keep f es) q.proc _ never ok) (coherent U es q.proc _ never ok) (request_of U.tables q.request) (length es) os)
