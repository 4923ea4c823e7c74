-- The view of a history is coherent, and of a history that fits it is rooted; and which events end nothing in it.
use mathlib.Core.Path.{◌≡◌, refl, ap}
use mathlib.Core.Bool.{Bool, true, false, cond, not, ◌&&◌, and-false}
use mathlib.Core.List.{List}
use Prim.Native.Nat.{ℕ, zero, suc, ◌-◌, ◌<◌}
use native.Mathlib.Omega.{arith}
use native.Mathlib.Decide.{dec_lt}
use lib.Dec.{T, T_not, eqb→eq}
use lib.ListN.{length, get_or-eq_default}
use borrow.Author.Tests.{ne_eqb}
use Rattle.paging.specs.declared.Walk.{Walk}
use Rattle.paging.specs.Frame.{guest}
use Rattle.paging.specs.Layout.{rights_of, page_of}
use Rattle.paging.specs.Walk.{start}
use Rattle.paging.proofs.Steps.{Goes, step_complete, goes, completed}
use Rattle.paging.specs.Sound.{Sound}
use Rattle.paging.proofs.Meets.{meet_small}
use Rattle.paging.proofs.Tests.{T_true, and_l, and_r, or_r}
use Rattle.rules.specs.declared.Event.{Event}
use Rattle.rules.specs.History.{Setup, Fit, is_by, is_cr3_write, event_at, cr3_at}
use Rattle.rules.specs.View.{view_of}
use Rattle.rules.proofs.Ranges.{cr3_within}
use Rattle.rules.specs.Coherent.{Down, Coherent, Rooted}

-- a CR3 write of p ends partial walks
cr3-ends : (U : Setup) (es : List Event) (p v : ℕ) (drops : ℕ → Bool) (k : ℕ) → T (is_by p (event_at es k) && is_cr3_write (event_at es k)) → T ((view_of U es p v drops).ends_partial k)
unfolding view_of
cr3-ends U es p v drops k t =
    let mine = T_true (is_by p (event_at es k)) (and_l (is_by p (event_at es k)) _ t) in
    let write = eqb→eq (event_at es k).kind 3 (and_r (is_by p (event_at es k)) _ t) in
    or_r (drops k) _ (simp (write, mine) tt)

cr3-kept : (U : Setup) (es : List Event) (p v : ℕ) (drops : ℕ → Bool) (k : ℕ) → T (not ((view_of U es p v drops).ends_partial k)) → cr3_at U es p (suc k) ≡ cr3_at U es p k
unfolding cr3_at
cr3-kept U es p v drops k t =
    cases (is_by p (event_at es k) && is_cr3_write (event_at es k)) (λ u. T_not ((view_of U es p v drops).ends_partial k) t (cr3-ends U es p v drops k u))
  where
    cases : (b : Bool) → (T b → ⊥) → cond b (guest (event_at es k).a) (cr3_at U es p k) ≡ cr3_at U es p k
    cases false h = refl
    cases true h = absurd (h tt)

pub coherent : (U : Setup) (es : List Event) (p v : ℕ) (drops : ℕ → Bool) → Sound U.tables → Coherent (view_of U es p v drops) U.tables.levels U.frames
unfolding view_of
coherent U es p v drops ok = record {
  some_level = ok.some_level;
  top = λ k. refl;
  full = λ k. omega arith;
  root_kept = λ k t. ap (start U.tables) (cr3-kept U es p v drops k t);
  down = λ k w w' e. down_by (goes U.tables U.frames w _ w' e);
  done = λ k w z. step_complete U.tables U.frames w _ z;
  undone = λ k w e. completed U.tables U.frames w _ e;
}
  where
    down_by : {w w' : Walk} {e : ℕ} → Goes U.tables U.frames w e w' → Down U.frames w w'
    down_by {w} {w'} {e} g = record {
      level = let h : w'.level ≡ w.level - 1 = ap (λ (x : Walk). x.level) g.is in omega (arith, g.partial);
      inside = rw g.is g.inside;
      small = rw g.is (meet_small w.rights (rights_of U.tables e));
    }

-- a CR3 write that fits is of a frame of the guest
pub rooted : (U : Setup) (es : List Event) (p v : ℕ) (drops : ℕ → Bool) → Fit U es → p < U.processors → Rooted (view_of U es p v drops) U.frames
unfolding view_of cr3_at
rooted U es p v drops fit h k = inside k
  where
    new : (k : ℕ) → Dec (k < length es) → T (is_by p (event_at es k) && is_cr3_write (event_at es k)) → (event_at es k).a < U.frames
    new k (yes lt) t = cr3_within U (event_at es k) (fit.events k lt) (T_true _ (and_r (is_by p (event_at es k)) _ t))
    new k (no ge) t = absurd (rw (get_or-eq_default es (record { proc = 0; kind = 0; a = 0; b = 0 }) {n = k} (omega arith)) at (and_r (is_by p (event_at es k)) _ t))

    inside : (k : ℕ) → (cr3_at U es p k).0 < U.frames
    inside zero = fit.starts p h
    inside (suc k) = cases (is_by p (event_at es k) && is_cr3_write (event_at es k)) (new k (dec_lt k (length es))) (inside k)
      where
        cases : (b : Bool) → (T b → (event_at es k).a < U.frames) → (cr3_at U es p k).0 < U.frames → (cond b (guest (event_at es k).a) (cr3_at U es p k)).0 < U.frames
        cases true f g = f tt
        cases false f g = g

-- ---- AN EVENT THAT DOES NOT DROP ENDS NOTHING IN THE VIEW, UNLESS IT IS AN INVLPG OR A CR3 WRITE OF p

module _ (U : Setup) (es : List Event) (p v : ℕ) (drops : ℕ → Bool) (k : ℕ) (stays : drops k ≡ false) where
  abbrev e : Event
  e = event_at es k

  abbrev pub Idle : Type 0
  Idle = ((view_of U es p v drops).ends_partial k ≡ false) × ((view_of U es p v drops).ends_complete k ≡ false)

  pub other_idle : (e.proc ≡ p → ⊥) → Idle
  unfolding view_of
  other_idle ne = (simp (stays, ne_eqb e.proc p ne), simp (stays, ne_eqb e.proc p ne))

  pub kind_idle : (e.kind ≡ 2 → ⊥) → (e.kind ≡ 3 → ⊥) → Idle
  unfolding view_of
  kind_idle two three = (
    simp (stays, ne_eqb e.kind 2 two, ne_eqb e.kind 3 three, and-false),
    simp (stays, ne_eqb e.kind 2 two, ne_eqb e.kind 3 three, and-false),
  )

  -- an INVLPG spares the complete walks of other pages
  pub page_idle : e.kind ≡ 2 → (page_of U.tables e.a ≡ v → ⊥) → (view_of U es p v drops).ends_complete k ≡ false
  unfolding view_of
  page_idle two ne = simp (stays, two, ne_eqb (page_of U.tables e.a) v ne, and-false)
