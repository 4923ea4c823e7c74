-- A trial: known puzzles of 32-bit tables, solved under the statement that the starred ones have. They stand in proofs/, as
-- `tables32` does, since no call takes such tables yet and nobody has to believe them.
use mathlib.Core.Path.{refl}
use mathlib.Core.List.{List, [], ◌∷◌}
use Prim.Native.Nat.{ℕ, ◌+◌, ◌*◌, ◌^◌}
use Rattle.paging.specs.Layout.{page_of, index, get, frame_of, rights_of, is_present}
use Rattle.paging.specs.Walk.{meet, step}
use Rattle.paging.specs.Request.{request_of, enough}
use Rattle.paging.proofs.Narrow.{tables32, tables32_sound}
use Rattle.rules.specs.declared.Event.{Event}
use Rattle.rules.specs.declared.Outcome.{Outcome}
use Rattle.rules.specs.History.{words_at, cr3_at}
use Rattle.rules.specs.View.{view_of}
use Rattle.rules.specs.Known.{Word, ◌is◌, Puzzle, filled, store, ask, A, F, AllSolved}
use Rattle.rules.specs.Counts.{keep}
use Rattle.rules.proofs.Walks.{some, add, chain, closed, walks_at}
use Rattle.rules.proofs.Lists.{insert, insert_all, outcomes, answers}
use Rattle.rules.proofs.Answered.{computed, all_solved}

abbrev row : List Word → List Event → ℕ → ℕ → List Outcome → Puzzle
row ws es a r os = record { words = ws; cr3s = 0 ∷ []; events = es; question = ask 0 a r; outcomes = os }

unfoldable pub narrow : List Puzzle
narrow =
    -- entry 0 of each level, a fetch
    row (0 is 4103 ∷ 512 is 8199 ∷ []) [] 8 2 (A 2 ∷ [])
    -- entry 1 of level 1 is the upper half of the same word; where it is absent a user's fetch adds 4, not 20
    ∷ row (0 is 4103 ∷ 512 is (2 ^ 32 * 8199) ∷ []) [] 4104 5 (A 2 ∷ [])
    ∷ row (0 is 4103 ∷ 512 is 8199 ∷ []) [] 4104 5 (F 4 ∷ [])
    -- a table that names itself: one store changes the entries of both levels at one moment
    ∷ row (0 is (7 + 2 ^ 32 * 8199) ∷ []) (store 0 0 (4103 + 2 ^ 32 * 12295) ∷ []) 4104 2 (A 2 ∷ A 3 ∷ F 0 ∷ [])
    ∷ []

pub narrow_solved : AllSolved tables32 narrow
unfolding narrow computed filled words_at cr3_at view_of page_of index get frame_of rights_of is_present meet step request_of enough keep some add chain closed walks_at insert insert_all outcomes answers
narrow_solved = all_solved tables32 tables32_sound narrow (refl, (refl, (refl, (refl, tt))))
