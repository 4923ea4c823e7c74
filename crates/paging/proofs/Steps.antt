-- What a step does, case by case, and what a step that goes on tells. Over any layout.
use Rattle.std.specs.Prelude.{Ok, Err}
use mathlib.Core.Path.{◌≡◌, refl}
use mathlib.Core.Bool.{Bool, true, false, cond, not}
use Prim.Native.Nat.{ℕ, ◌≤◌, ◌<◌}
use native.Mathlib.Omega.{arith}
use lib.Dec.{eqb, ltb}
use borrow.Author.Tests.{eq-eqb, ne_eqb, lt-ltb, le-ltb, eqb-true, eqb-false, ltb-true}
use Rattle.paging.specs.declared.Walk.{Walk}
use Rattle.paging.specs.declared.Stop.TheVariants.{Absent, Beyond, Complete}
use Rattle.paging.specs.Frame.{guest}
use Rattle.paging.specs.Layout.{Layout, is_present, frame_of}
use Rattle.paging.specs.Walk.{down_to, narrowed, step}
use Rattle.paging.proofs.Tests.{positive}

module _ (Y : Layout) (G : ℕ) (w : Walk) (e : ℕ) where
  pub step_complete : w.level ≡ 0 → step Y G w e ≡ (Err Complete)
  unfolding step
  step_complete z = simp (eq-eqb w.level 0 z)

  module _ (partial : 0 < w.level) where
    unread : eqb w.level 0 ≡ false
    unread = ne_eqb w.level 0 (λ z. omega arith)

    pub step_absent : is_present e ≡ false → step Y G w e ≡ (Err Absent)
    unfolding step
    step_absent p = simp (unread, p)

    pub step_beyond : is_present e ≡ true → G ≤ frame_of Y e → step Y G w e ≡ (Err Beyond)
    unfolding step
    step_beyond p h = simp (unread, p, le-ltb (frame_of Y e) G h)

    pub step-on : is_present e ≡ true → frame_of Y e < G → step Y G w e ≡ Ok (down_to (narrowed Y w e) (guest (frame_of Y e)))
    unfolding step
    step-on p h = simp (unread, p, lt-ltb (frame_of Y e) G h)

  -- a walk went on to w'
  pub record Goes (w' : Walk) : Type 0 where
    pub partial : 0 < w.level
    pub present : is_present e ≡ true
    pub inside : frame_of Y e < G
    pub is : w' ≡ down_to (narrowed Y w e) (guest (frame_of Y e))

  by_tests : (w' : Walk) (done here in-guest : Bool) → eqb w.level 0 ≡ done → is_present e ≡ here → ltb (frame_of Y e) G ≡ in-guest
      → cond done (Err Complete) (cond (not here) (Err Absent) (cond in-guest (Ok (down_to (narrowed Y w e) (guest (frame_of Y e)))) (Err Beyond))) ≡ Ok w'
      → Goes w'
  by_tests w' true b c p q r s = let z : ◌≡◌ {A = ℕ} 0 1 = cc in absurd (omega arith)
  by_tests w' false false c p q r s = let z : ◌≡◌ {A = ℕ} 0 1 = cc in absurd (omega arith)
  by_tests w' false true false p q r s = let z : ◌≡◌ {A = ℕ} 0 1 = cc in absurd (omega arith)
  by_tests w' false true true p q r s = record {
    partial = positive w.level (eqb-false w.level 0 p);
    present = q;
    inside = ltb-true (frame_of Y e) G r;
    is = cc;
  }

  -- A WALK THAT GOES ON IS PARTIAL, AND ITS ENTRY SAYS WHERE TO
  pub goes : (w' : Walk) → step Y G w e ≡ Ok w' → Goes w'
  unfolding step
  goes w' s = by_tests w' (eqb w.level 0) (is_present e) (ltb (frame_of Y e) G) refl refl refl s

  only_done : (done here in-guest : Bool) → eqb w.level 0 ≡ done
      → cond done (Err Complete) (cond (not here) (Err Absent) (cond in-guest (Ok (down_to (narrowed Y w e) (guest (frame_of Y e)))) (Err Beyond))) ≡ (Err Complete)
      → w.level ≡ 0
  only_done true b c p s = eqb-true w.level 0 p
  only_done false false c p s = let z : ◌≡◌ {A = ℕ} 0 1 = cc in absurd (omega arith)
  only_done false true true p s = let z : ◌≡◌ {A = ℕ} 0 1 = cc in absurd (omega arith)
  only_done false true false p s = let z : ◌≡◌ {A = ℕ} 0 1 = cc in absurd (omega arith)

  pub completed : step Y G w e ≡ (Err Complete) → w.level ≡ 0
  unfolding step
  completed s = only_done (eqb w.level 0) (is_present e) (ltb (frame_of Y e) G) refl s
