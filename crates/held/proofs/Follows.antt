-- Following a chain, turn by turn: the laws that the code's loop cites.
use Rattle.std.specs.Prelude.{Ok, Err}
use mathlib.Core.Path.{◌≡◌, refl, ◌∙◌, ap}
use mathlib.Core.List.{List}
use Prim.Native.Nat.{ℕ, suc, ◌+◌, ◌-◌, ◌*◌, ◌/◌, ◌%◌}
use native.Mathlib.Omega.{arith}
use lib.ListN.{get_or, set}
use borrow.Author.Tests.{eq-eqb, ne_eqb}
use Rattle.paging.specs.Walk.{Step}
use Rattle.paging.specs.declared.Walk.{Walk}
use Rattle.paging.specs.declared.Stop.TheVariants.{Absent, Beyond, Complete}
use Rattle.paging.specs.Layout.{Layout, frame_words, index, rights_of}
use Rattle.paging.proofs.Steps.{Goes, goes}
use Rattle.paging.proofs.Meets.{meet_small}
use Rattle.held.specs.Work.{cell, HasByte}
use Rattle.held.specs.FollowCode.{onward, step_in, follow, followed, reread, reread_all, reread_at, reread_word}

module _ (Y : Layout) (G page : ℕ) (words : List ℕ) where
  -- a walk that has a byte goes on to one that has a byte, one level down
  pub record Below (w w' : Walk) : Type 0 where
    pub level : w.level ≡ suc w'.level
    pub byte : HasByte G w'

  pub below : (w w' : Walk) → HasByte G w → step_in Y G page words w ≡ Ok w' → Below w w'
  unfolding step_in
  below w w' h e = by (goes Y G w _ w' e)
    where
      by : {x : ℕ} → Goes Y G w x w' → Below w w'
      by {x} g =
          let l : w'.level ≡ w.level - 1 = ap (λ (v : Walk). v.level) g.is in
          record {
            level = omega (arith, g.partial);
            byte = record { level = omega (arith, h.level); frame = rw g.is g.inside; rights = rw g.is (meet_small w.rights (rights_of Y x)) };
          }

  pub follow_set : (w : Walk) (work : List ℕ) → get_or work (cell G w) 0 ≡ 1 → followed Y G page words w work ≡ work
  unfolding follow
  follow_set w work m = simp (eq-eqb (get_or work (cell G w) 0) 1 m)

  module _ (w : Walk) (work : List ℕ) (new : get_or work (cell G w) 0 ≡ 1 → ⊥) where
    pub follow_new : (s : Step) → step_in Y G page words w ≡ s
        → followed Y G page words w work ≡ onward (follow Y G page words w.level) s (set work (cell G w) 1)
    unfolding follow
    follow_new s e = simp (ne_eqb (get_or work (cell G w) 0) 1 new, e)

    pub follow-on : (w' : Walk) → HasByte G w → step_in Y G page words w ≡ Ok w'
        → followed Y G page words w work ≡ followed Y G page words w' (set work (cell G w) 1)
    follow-on w' h e =
        follow_new (Ok w') e ∙ ap (λ (n : ℕ). follow Y G page words n w' (set work (cell G w) 1)) (below w w' h e).level

  -- ---- reading again

  pub reread_unmarked : (w : Walk) (work : List ℕ) → (get_or work (cell G w) 0 ≡ 1 → ⊥) → reread Y G page words w work ≡ work
  unfolding reread
  reread_unmarked w work n = simp (ne_eqb (get_or work (cell G w) 0) 1 n)

  pub reread-set : (w : Walk) (work : List ℕ) → get_or work (cell G w) 0 ≡ 1 → (s : Step) → step_in Y G page words w ≡ s
      → reread Y G page words w work ≡ onward (followed Y G page words) s work
  unfolding reread
  reread-set w work m s e = simp (eq-eqb (get_or work (cell G w) 0) 1 m, e)

  pub reread-here : (a l : ℕ) (work : List ℕ) → Y.place (a / frame_words) (index Y page l) ≡ a
      → reread_at Y G page words a l work ≡ reread_all Y G page words l (a / frame_words) work
  unfolding reread_at
  reread-here a l work e = simp (eq-eqb (Y.place (a / frame_words) (index Y page l)) a e)

  pub reread_elsewhere : (a l : ℕ) (work : List ℕ) → (Y.place (a / frame_words) (index Y page l) ≡ a → ⊥) → reread_at Y G page words a l work ≡ work
  unfolding reread_at
  reread_elsewhere a l work n = simp (ne_eqb (Y.place (a / frame_words) (index Y page l)) a n)

  -- the levels from l down, once the first has been taken
  pub reread-turn : (a l k : ℕ) (work : List ℕ) → l ≡ suc k → reread_word Y G page words a l work ≡ reread_word Y G page words a k (reread_at Y G page words a l work)
  unfolding reread_word
  reread-turn a l k work e = rw e

  pub reread_done : (a : ℕ) (work : List ℕ) → reread_word Y G page words a 0 work ≡ work
  unfolding reread_word
  reread_done a work = refl

-- a walk that goes no further leads nowhere
pub stops_unless_on : (f : Walk → List ℕ → List ℕ) (s : Step) (work : List ℕ) → ((w : Walk) → s ≡ Ok w → ⊥) → onward f s work ≡ work
stops_unless_on f (Ok w) work t = absurd (t w refl)
stops_unless_on f (Err Absent) work t = refl
stops_unless_on f (Err Beyond) work t = refl
stops_unless_on f (Err Complete) work t = refl

-- the entry of index i lies in word a, in 64-bit tables
pub here_64 : (a i : ℕ) → i ≡ a % frame_words → frame_words * (a / frame_words) + i ≡ a
here_64 a i e = omega arith

pub there_64 : (a i : ℕ) → frame_words * (a / frame_words) + i ≡ a → i ≡ a % frame_words
there_64 a i e = omega arith
