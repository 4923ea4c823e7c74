-- The known puzzles are solved: the computed list is right, and antt computes it to the table's outcomes.
use mathlib.Core.Path.{◌≡◌, refl}
use mathlib.Core.List.{List, [], ◌∷◌}
use lib.ListN.{length}
use Rattle.paging.specs.Layout.{Layout, tables64, page_of, index, get, frame_of, rights_of, is_present}
use Rattle.paging.specs.Walk.{meet, step}
use Rattle.paging.specs.Request.{request_of, enough}
use Rattle.paging.specs.Sound.{Sound}
use Rattle.paging.proofs.Layouts.{tables64_sound}
use Rattle.rules.specs.declared.Outcome.{Outcome}
use Rattle.rules.specs.History.{words_at, cr3_at}
use Rattle.rules.specs.View.{view_of, never}
use Rattle.rules.specs.Known.{Puzzle, filled, known_setup, Solved, AllSolved, starred, sides}
use Rattle.rules.specs.Counts.{keep}
use Rattle.rules.proofs.Views.{coherent}
use Rattle.rules.proofs.Walks.{some, add, chain, closed, walks_at}
use Rattle.rules.proofs.Lists.{insert, insert_all, outcomes, answers, answers-right}

module _ (Y : Layout) (ok : Sound Y) where
  -- the list of a puzzle, computed
  unfoldable pub computed : Puzzle → List Outcome
  computed z =
      answers (view_of (known_setup Y z) z.events z.question.proc (page_of Y z.question.addr) never) Y.levels
      (request_of Y z.question.request) (length z.events)

  solved : (z : Puzzle) → computed z ≡ z.outcomes → Solved Y z
  unfolding computed
  solved z e =
      rw (← e)
      (answers-right (view_of (known_setup Y z) z.events z.question.proc (page_of Y z.question.addr) never) Y.levels
      (request_of Y z.question.request) (coherent (known_setup Y z) z.events z.question.proc _ never ok) (length z.events))

  abbrev pub AllComputed : List Puzzle → Type 0
  AllComputed [] = Unit {0}
  AllComputed (z ∷ zs) = (computed z ≡ z.outcomes) × AllComputed zs

  pub all_solved : (zs : List Puzzle) → AllComputed zs → AllSolved Y zs
  all_solved [] c = tt
  all_solved (z ∷ zs) c = (solved z c.0, all_solved zs c.1)

-- THE STARRED PUZZLES HAVE DOCUMENT 01'S ANSWERS
pub starred_solved : AllSolved tables64 starred
unfolding starred computed filled words_at cr3_at view_of page_of index get frame_of rights_of is_present meet step request_of enough keep some add chain closed walks_at insert insert_all outcomes answers
starred_solved =
    all_solved tables64 tables64_sound starred
    (refl, (refl, (refl, (refl, (refl, (refl, (refl, (refl, (refl, (refl, (refl, (refl, tt))))))))))))

-- SO HAVE THE SIDES
pub sides_solved : AllSolved tables64 sides
unfolding sides computed filled words_at cr3_at view_of page_of index get frame_of rights_of is_present meet step request_of enough keep some add chain closed walks_at insert insert_all outcomes answers
sides_solved =
    all_solved tables64 tables64_sound sides
    (refl, (refl, (refl, (refl, (refl, (refl, (refl, (refl, (refl, (refl, (refl, (refl, (refl, (refl, (refl, tt)))))))))))))))
