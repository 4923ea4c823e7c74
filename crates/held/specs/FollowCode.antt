-- What the functions of this crate do to the bytes, each in the form of its code. Nobody has to believe these: proofs/
-- shows that they mark exactly the held walks.
use Rattle.std.specs.Prelude.{◌≡◌, Bool, cond, List, ℕ, zero, suc, ◌+◌, ◌-◌, ◌*◌, ◌/◌, ◌≤◌, eqb, length, get_or, set, Ok, Err}
use Rattle.paging.specs.declared.Guest.{Guest}
use Rattle.paging.specs.declared.Walk.{Walk}
use Rattle.paging.specs.declared.Stop.TheVariants.{Absent, Beyond, Complete}
use Rattle.paging.specs.Numbers.{each}
use Rattle.paging.specs.Frame.{guest}
use Rattle.paging.specs.Layout.{Layout, frame_words, get, index}
use Rattle.paging.specs.Walk.{Step, start, step}
use Rattle.held.specs.Work.{cell, work_bytes}

-- what every function below asks of its buffers
pub record Room (G : ℕ) (words work : List ℕ) : Type 0 where
  pub few : G ≤ 256
  pub whole : length words ≡ frame_words * G
  pub bytes : work_bytes G ≤ length work

abbrev pub is_set : ℕ → List ℕ → Walk → Bool
is_set G work w = eqb (get_or work (cell G w) 0) 1

abbrev pub walk_of : ℕ → ℕ → ℕ → Walk
walk_of l f r = record { level = l; frame = guest f; rights = r }

-- on with the walk that a step leads to
abbrev pub onward : (Walk → List ℕ → List ℕ) → Step → List ℕ → List ℕ
onward f (Ok w) work = f w work
onward f (Err Absent) work = work
onward f (Err Beyond) work = work
onward f (Err Complete) work = work

-- n bytes from k on become 0
unfoldable pub cleared : ℕ → ℕ → List ℕ → List ℕ
cleared k zero work = work
cleared k (suc n) work = cleared (k + 1) n (set work k 0)

module _ (Y : Layout) (G page : ℕ) (words : List ℕ) where
  -- what a walk does with these words
  unfoldable pub step_in : Walk → Step
  step_in w = step Y G w (get Y words w.frame.0 (index Y page w.level))

  -- a walk is marked, then what it goes on to, until one is marked already or goes no further
  unfoldable pub follow : ℕ → Walk → List ℕ → List ℕ
  follow zero w work = work
  follow (suc n) w work = cond (is_set G work w) work (onward (follow n) (step_in w) (set work (cell G w) 1))

  abbrev pub followed : Walk → List ℕ → List ℕ
  followed w work = follow (suc w.level) w work

  -- what a marked walk goes on to
  unfoldable pub reread : Walk → List ℕ → List ℕ
  reread w work = cond (is_set G work w) (onward followed (step_in w) work) work

  -- all walks of level l on frame f
  unfoldable pub reread_all : ℕ → ℕ → List ℕ → List ℕ
  reread_all l f work = each 8 (λ r. reread (walk_of l f r)) work

  -- those of level l that read word a, if the page's entry of a walk on that frame lies there
  unfoldable pub reread_at : ℕ → ℕ → List ℕ → List ℕ
  reread_at a l work = cond (eqb (Y.place (a / frame_words) (index Y page l)) a) (reread_all l (a / frame_words) work) work

  -- the levels l to 1, from the upper down
  unfoldable pub reread_word : ℕ → ℕ → List ℕ → List ℕ
  reread_word a zero work = work
  reread_word a (suc l) work = reread_word a l (reread_at a (suc l) work)

  -- the bytes from k on are forgotten, and the walk from the root is followed
  unfoldable pub restarted : ℕ → Guest → List ℕ → List ℕ
  restarted k cr3 work = followed (start Y cr3) (cleared k (work_bytes G - k) work)
