-- The held walks from moment to moment: begin, extend, stay. The rule by moments says the same, in both directions.
use Rattle.std.specs.Prelude.{Ok}
use mathlib.Core.Path.{◌≡◌, refl, sym, ◌∙◌, ap}
use mathlib.Core.Logic.{◌↔◌, ◌⊎◌, inl, inr}
use mathlib.Core.Bool.{Bool, false, not}
use Prim.Native.Nat.{ℕ, zero, suc, ◌≤◌, ◌<◌}
use native.Mathlib.Omega.{arith}
use native.Mathlib.Decide.{le_ind, ℕ_discrete}
use lib.Dec.{T}
use Rattle.paging.specs.declared.Walk.{Walk}
use Rattle.rules.specs.View.{View, Quiet}
use Rattle.rules.specs.Held.{Reads, begun, read, Held, partial, complete}
use Rattle.rules.specs.Coherent.{Coherent}
use Rattle.rules.specs.Kept.{by_level, ends, Kept, begin, extend, stay}

quiet_suc : (e : ℕ → Bool) (a n : ℕ) → Quiet e a n → T (not (e n)) → Quiet e a (suc n)
quiet_suc e a n q t k lo hi = go (ℕ_discrete k n)
  where
    go : Dec (k ≡ n) → T (not (e k))
    go (yes p) = rw p t
    go (no p) = q k lo (omega arith)

as_partial : (p c : Bool) (l : ℕ) → 0 < l → by_level p c l ≡ p
as_partial p c zero h = absurd (omega arith)
as_partial p c (suc l) h = refl

as_complete : (p c : Bool) (l : ℕ) → l ≡ 0 → by_level p c l ≡ c
as_complete p c zero h = refl
as_complete p c (suc l) h = absurd (omega arith)

pub neither : (p c : Bool) (l : ℕ) → p ≡ false → c ≡ false → T (not (by_level p c l))
neither p c zero h k = rw k tt
neither p c (suc l) h k = rw h tt

module _ (seen : View) where
  ends_partial_lem : (w : Walk) (k : ℕ) → 0 < w.level → ends seen w k ≡ seen.ends_partial k
  ends_partial_lem w k h = as_partial (seen.ends_partial k) (seen.ends_complete k) w.level h

  ends_complete_lem : (w : Walk) (k : ℕ) → w.level ≡ 0 → ends seen w k ≡ seen.ends_complete k
  ends_complete_lem w k h = as_complete (seen.ends_partial k) (seen.ends_complete k) w.level h

  -- a walk that nothing ends stays
  pub lasts : {m : ℕ} {w : Walk} → Kept seen m w → (n : ℕ) → m ≤ n → Quiet (ends seen w) m n → Kept seen n w
  lasts {m} {w} h n le q =
      le_ind (λ k. k ≤ n → Kept seen k w) (λ x. h) (λ k lo ih hi. stay (ih (omega arith)) (q k lo hi)) n le (omega arith)

  pub since : {s t : ℕ} {w : Walk} → Reads seen s t w → s ≤ t
  since (begun e _) = omega arith
  since (read d le _) = let h = since d in omega arith

  module _ {L G : ℕ} (law : Coherent seen L G) where
    going : (k : ℕ) (w w' : Walk) → seen.steps k w ≡ Ok w' → 0 < w.level
    going k w w' e = omega (arith, (law.down k w w' e).level)

    partial_lasts : {m : ℕ} {w : Walk} → Kept seen m w → 0 < w.level → (n : ℕ) → m ≤ n → Quiet seen.ends_partial m n → Kept seen n w
    partial_lasts {w = w} h p n le q = lasts h n le (λ k x y. rw (ends_partial_lem w k p) (q k x y))

    arrived : {s t : ℕ} {w : Walk} → Reads seen s t w → Quiet seen.ends_partial s t → Kept seen t w
    arrived (begun a e) q = begin (e ∙ ap seen.begins (sym a))
    arrived {t = u} (read {w = w} {w' = w'} d le e) q =
        let h = since d in
        extend (partial_lasts (arrived d (λ k x y. q k x (omega arith))) (going u w w' e) u le (λ k x y. q k (omega arith) y)) e

    from_rule : (n : ℕ) (w : Walk) → Held seen n w → Kept seen n w
    from_rule n w (partial p r le q) =
        let a = since r in partial_lasts (arrived r (λ k x y. q k x (omega arith))) p n le (λ k x y. q k (omega arith) y)
    from_rule n w (complete z r le q c) = lasts (arrived r q) n le (λ k x y. rw (ends_complete_lem w k z) (c k x y))

    split : (l : ℕ) → (0 < l) ⊎ (l ≡ 0)
    split zero = inr refl
    split (suc l) = inl (omega arith)

    -- a partial walk that is held and goes on is held
    extended : (n : ℕ) (w w' : Walk) → Held seen n w → seen.steps n w ≡ Ok w' → (0 < w'.level) ⊎ (w'.level ≡ 0) → Held seen n w'
    extended n w w' (partial p r le q) e (inl x) = partial x (read r le e) (omega arith) q
    extended n w w' (partial p r le q) e (inr x) = complete x (read r le e) (omega arith) q (λ k a b. absurd (omega arith))
    extended n w w' (complete z r le q c) e d = absurd (omega (arith, going n w w' e))

    stayed : (n : ℕ) (w : Walk) → Held seen n w → T (not (ends seen w n)) → Held seen (suc n) w
    stayed n w (partial p r le q) t = partial p r (omega arith) (quiet_suc seen.ends_partial _ n q (rw (ends_partial_lem w n p) at t))
    stayed n w (complete z r le q c) t = complete z r (omega arith) q (quiet_suc seen.ends_complete _ n c (rw (ends_complete_lem w n z) at t))

    to_rule : {n : ℕ} {w : Walk} → Kept seen n w → Held seen n w
    to_rule {n} (begin e) = partial (rw (e, law.top n) law.some_level) (begun refl e) (omega arith) (λ k a b. absurd (omega arith))
    to_rule {n} (extend {w = w} {w' = w'} h e) = extended n w w' (to_rule h) e (split w'.level)
    to_rule (stay {n = n} {w = w} h t) = stayed n w (to_rule h) t

    -- THE RULE BY MOMENTS IS THE STEP BY STEP ONE
    pub held_is_kept : (n : ℕ) (w : Walk) → Held seen n w ↔ Kept seen n w
    held_is_kept n w = (from_rule n w, to_rule)

    -- a held walk has rights; on a rooted view it stands below G
    pub kept_small : {n : ℕ} {w : Walk} → Kept seen n w → w.rights < 8
    kept_small {n} (begin e) = rw e (law.full n)
    kept_small {n} (extend {w = w} {w' = w'} h e) = (law.down n w w' e).small
    kept_small (stay h t) = kept_small h

    pub kept-level : {n : ℕ} {w : Walk} → Kept seen n w → w.level ≤ L
    kept-level {n} (begin e) = rw (e, law.top n) (omega arith)
    kept-level {n} (extend {w = w} {w' = w'} h e) = omega (arith, (law.down n w w' e).level, kept-level h)
    kept-level (stay h t) = kept-level h

    pub kept_inside : ((k : ℕ) → (seen.begins k).frame.0 < G) → {n : ℕ} {w : Walk} → Kept seen n w → w.frame.0 < G
    kept_inside root {n} (begin e) = rw e (root n)
    kept_inside root {n} (extend {w = w} {w' = w'} h e) = (law.down n w w' e).inside
    kept_inside root (stay h t) = kept_inside root h
