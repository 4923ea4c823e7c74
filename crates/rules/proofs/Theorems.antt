-- What is proved of the rules, in reading order. Each theorem stands here with its whole statement; the last line names
-- its proof. A view is what one processor and one page see of a history (specs/View); `Coherent` and `Rooted` (specs/Coherent)
-- hold of every view of a history that fits, by the first two.
use mathlib.Core.Path.{◌≡◌}
use mathlib.Core.Logic.{◌↔◌}
use mathlib.Core.Bool.{Bool, false}
use mathlib.Core.List.{List}
use Prim.Native.Nat.{ℕ, ◌+◌, ◌≤◌, ◌<◌}
use lib.ListN.{length, take}
use Rattle.paging.specs.declared.Walk.{Walk}
use Rattle.paging.specs.Layout.{page_of, tables64}
use Rattle.paging.specs.Request.{request_of}
use Rattle.paging.specs.Sound.{Sound}
use Rattle.rules.specs.declared.Event.{Event}
use Rattle.rules.specs.declared.Question.{Question}
use Rattle.rules.specs.declared.Outcome.{Outcome}
use Rattle.rules.specs.History.{Setup, Fit}
use Rattle.rules.specs.View.{View, view_of, never}
use Rattle.rules.specs.Numbers.{events_of, numbers_of}
use Rattle.rules.specs.Held.{Held, Four, FourPartial}
use Rattle.rules.specs.Outcome.{RightAt}
use Rattle.rules.specs.Known.{AllSolved, starred, sides}
use Rattle.rules.specs.Counts.{keep, counts}
use Rattle.rules.specs.Coherent.{Coherent, Rooted}
use Rattle.rules.specs.Kept.{Kept}
use Rattle.rules.proofs.Views as L
use Rattle.rules.proofs.Steps as S
use Rattle.rules.proofs.Four as F
use Rattle.rules.proofs.Inert as I
use Rattle.rules.proofs.Before as E
use Rattle.rules.proofs.Numbers as N
use Rattle.rules.proofs.Lists as R
use Rattle.rules.proofs.Bounds as B
use Rattle.rules.proofs.Answered as K

module _ (U : Setup) (es : List Event) (p v : ℕ) (drops : ℕ → Bool) where
  pub view_coherent : Sound U.tables → Coherent (view_of U es p v drops) U.tables.levels U.frames
  view_coherent = L.coherent U es p v drops

  pub view-rooted : Fit U es → p < U.processors → Rooted (view_of U es p v drops) U.frames
  view-rooted = L.rooted U es p v drops

module _ (seen : View) {levels frames : ℕ} (law : Coherent seen levels frames) where
  -- "there are moments t4 ≤ t3 ≤ t2 ≤ t1 …": the sentence written out is the rule, of complete walks of four levels
  pub four : levels ≡ 4 → (n : ℕ) (w : Walk) → Four seen n w ↔ ((w.level ≡ 0) × Held seen n w)
  four = F.four seen law

  -- "a partial walk is held if its reads lie in such a stretch that reaches the end": at each of the four levels, level 4 included
  pub four_partial : levels ≡ 4 → (n : ℕ) (w : Walk) → FourPartial seen n w ↔ ((0 < w.level) × Held seen n w)
  four_partial = F.four_partial seen law

  -- the rule by moments is the rule step by step: begin, extend, stay
  pub held_is_kept : (n : ℕ) (w : Walk) → Held seen n w ↔ Kept seen n w
  held_is_kept = S.held_is_kept seen law

module _ (U : Setup) (es : List Event) (q : Question) (ok : Sound U.tables) where
  -- two right lists are equal, at every moment
  pub one_list : (n : ℕ) (os os' : List Outcome) → RightAt U es q n os → RightAt U es q n os' → os ≡ os'
  one_list n os os' a b = R.right_unique (view_of U es q.proc (page_of U.tables q.addr) never) (request_of U.tables q.request) n os os' a b

  -- no list is empty
  pub some_outcome : (n : ℕ) (os : List Outcome) → RightAt U es q n os → 0 < length os
  some_outcome n os r = R.right_some _ U.tables.levels _ (view_coherent U es q.proc _ never ok) n os r

  -- there is a right list
  pub a_list : (n : ℕ) → (os : List Outcome) × RightAt U es q n os
  a_list n = (_, R.answers-right _ U.tables.levels _ (view_coherent U es q.proc _ never ok) n)

  -- of a history that fits, it has at most G + 3 members
  pub at_most : Fit U es → q.proc < U.processors → (n : ℕ) (os : List Outcome) → RightAt U es q n os → length os ≤ U.frames + 3
  at_most fit h n os r = B.right-length _ _ (view_coherent U es q.proc _ never ok) (view-rooted U es q.proc _ never fit h) n os r

  -- the list at moment n is that of the first n events
  pub list_before : (n : ℕ) (os : List Outcome) → RightAt U es q n os ↔ RightAt U (take n es) q n os
  list_before = E.list_before U es q ok

-- events that change nothing can be taken out or put in: `f` keeps all events that count
pub without_inert : (f : Event → Bool) → ((e : Event) → f e ≡ false → counts e ≡ false) → (U : Setup) (es : List Event) → Sound U.tables
    → (q : Question) (os : List Outcome) → RightAt U es q (length es) os ↔ RightAt U (keep f es) q (length (keep f es)) os
without_inert = I.fewer_right

-- events that are written as numbers are read back
pub events_back : (es : List Event) → events_of (numbers_of es) ≡ es
events_back = N.events_back

-- the known puzzles
pub starred_solved : AllSolved tables64 starred
starred_solved = K.starred_solved

pub sides_solved : AllSolved tables64 sides
sides_solved = K.sides_solved
