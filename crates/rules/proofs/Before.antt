-- A question's list at moment n is settled by the first n events: what comes later, or whether anything does, is nothing to it.
use mathlib.Core.Path.{◌≡◌, refl, sym, ◌∙◌, ap, ap₂}
use mathlib.Core.Logic.Iff
use mathlib.Core.Logic.{◌↔◌}
use mathlib.Core.Bool.{Bool, ◌||◌}
use mathlib.Core.List.{List}
use Prim.Native.Nat.{ℕ, zero, suc, ◌≤◌, ◌<◌}
use native.Mathlib.Omega.{arith}
use lib.ListN.{take}
use Rattle.paging.specs.declared.Walk.{Walk}
use Rattle.paging.specs.declared.Request.{Request}
use Rattle.paging.specs.Layout.{page_of, get, index}
use Rattle.paging.specs.Request.{request_of}
use Rattle.paging.specs.Walk.{start, step}
use Rattle.paging.specs.Sound.{Sound}
use Rattle.rules.specs.declared.Event.{Event}
use Rattle.rules.specs.declared.Question.{Question}
use Rattle.rules.specs.declared.Outcome.{Outcome}
use Rattle.rules.specs.History.{Setup, event_at, words_at, cr3_at, stored, loaded}
use Rattle.rules.specs.View.{View, view_of, never, ends_partial_of, ends_complete_of}
use Rattle.rules.specs.Outcome.{Permitted, RightList, RightAt}
use Rattle.rules.specs.Coherent.{Coherent}
use Rattle.rules.specs.Kept.{Kept, begin, extend, stay}
use Rattle.rules.proofs.Views.{coherent}
use Rattle.rules.proofs.Steps.{held_is_kept}
use lib.Seq.{get_or-take}

-- ---- two views that agree up to moment n

pub record UpTo (n : ℕ) (seen other : View) : Type 0 where
  pub begins : (k : ℕ) → k ≤ n → seen.begins k ≡ other.begins k
  pub steps : (k : ℕ) → k ≤ n → (w : Walk) → seen.steps k w ≡ other.steps k w
  pub partials : (k : ℕ) → k < n → seen.ends_partial k ≡ other.ends_partial k
  pub completes : (k : ℕ) → k < n → seen.ends_complete k ≡ other.ends_complete k

up_to_sym : {n : ℕ} {seen other : View} → UpTo n seen other → UpTo n other seen
up_to_sym u = record {
  begins = λ k h. sym (u.begins k h);
  steps = λ k h w. sym (u.steps k h w);
  partials = λ k h. sym (u.partials k h);
  completes = λ k h. sym (u.completes k h);
}

module _ (seen other : View) where
  -- a walk is kept in both
  kept_in : {m : ℕ} {w : Walk} → Kept seen m w → (n : ℕ) → m ≤ n → UpTo n seen other → Kept other m w
  kept_in {m} (begin e) n h u = begin (e ∙ u.begins m h)
  kept_in {m} (extend {w = w} d e) n h u = extend (kept_in d n h u) (sym (u.steps m h w) ∙ e)
  kept_in (stay {n = m} {w = w} d t) n h u =
      stay (kept_in d n (omega arith) u) (rw (← u.partials m (omega arith), ← u.completes m (omega arith)) t)

module _ {L G : ℕ} (q : Request) (n : ℕ) where
  permits : {seen other : View} → Coherent seen L G → Coherent other L G → UpTo n seen other → (o : Outcome) → Permitted seen q n o → Permitted other q n o
  permits {seen} {other} law law' u o p = record {
    walk = p.walk;
    held = (held_is_kept other law' n p.walk).1 (kept_in seen other ((held_is_kept seen law n p.walk).0 p.held) n (omega arith) u);
    gives = rw (u.steps n (omega arith) p.walk) at p.gives;
  }

  agreed : {seen other : View} → Coherent seen L G → Coherent other L G → UpTo n seen other → (os : List Outcome) → RightList seen q n os → RightList other q n os
  agreed law law' u os r = record {
    rises = r.rises;
    exact = λ o. Iff.trans (r.exact o) (permits law law' u o, permits law' law (up_to_sym u) o);
  }

-- ---- two histories with the same first n events

abbrev Alike : List Event → List Event → ℕ → Type 0
Alike es ds n = (k : ℕ) → k < n → event_at es k ≡ event_at ds k

module _ (U : Setup) (es ds : List Event) where
  words-before : (n : ℕ) → Alike es ds n → words_at U es n ≡ words_at U ds n
  unfolding words_at
  words-before zero same = refl
  words-before (suc n) same = ap₂ stored (same n (omega arith)) (words-before n (λ k h. same k (omega arith)))

  cr3-before : (p n : ℕ) → Alike es ds n → cr3_at U es p n ≡ cr3_at U ds p n
  unfolding cr3_at
  cr3-before p zero same = refl
  cr3-before p (suc n) same = ap₂ (loaded p) (same n (omega arith)) (cr3-before p n (λ k h. same k (omega arith)))

  views_alike : (p v n : ℕ) (drops drops' : ℕ → Bool) → Alike es ds n → ((k : ℕ) → k < n → drops k ≡ drops' k)
      → UpTo n (view_of U es p v drops) (view_of U ds p v drops')
  unfolding view_of
  views_alike p v n drops drops' same dropped = record {
    begins = λ k h. ap (start U.tables) (cr3-before p k (λ j l. same j (omega arith)));
    steps = λ k h w.
        ap (λ (ws : List ℕ). step U.tables U.frames w (get U.tables ws w.frame.0 (index U.tables v w.level)))
        (words-before k (λ j l. same j (omega arith)));
    partials = λ k h. ap₂ ◌||◌ (dropped k h) (ap (ends_partial_of p) (same k h));
    completes = λ k h. ap₂ ◌||◌ (dropped k h) (ap (ends_complete_of U.tables p v) (same k h));
  }

-- THE LIST AT MOMENT n IS THAT OF THE FIRST n EVENTS
pub list_before : (U : Setup) (es : List Event) (q : Question) → Sound U.tables → (n : ℕ) (os : List Outcome)
    → RightAt U es q n os ↔ RightAt U (take n es) q n os
list_before U es q ok n os =
    let v = page_of U.tables q.addr in
    let there = views_alike U es (take n es) q.proc v n never never (λ k h. sym (get_or-take n es k _ h)) (λ k h. refl) in
    let law = coherent U es q.proc v never ok in
    let law' = coherent U (take n es) q.proc v never ok in
    let r = request_of U.tables q.request in
    (agreed r n law law' there os, agreed r n law' law (up_to_sym there) os)
