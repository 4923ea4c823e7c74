-- Each frame is below the limit and new; the loop has passed, and noted, those below i.
use mathlib.Core.Bool.{Bool, ◌&&◌}
use mathlib.Core.List.{List}
use Prim.Native.Nat.{ℕ, ◌^◌}
use lib.Dec.{ltb}
use lib.ListN.{length, get_or}
use Rattle.paging.specs.NotesCode.{Noted}
use Rattle.paging.specs.Frame.{is_new}
use Rattle.paging.proofs.Loops.{Passed}
use Rattle.paging.proofs.map_fits.Given as goal

abbrev pub fits : List ℕ → ℕ → Bool
fits map i = ltb (get_or map i 0) (2 ^ 40) && is_new map i (get_or map i 0)

abbrev pub invariant-loop-i : goal.invariant-loop-i
invariant-loop-i l = Passed (fits l.map) (length l.map) l.i × Noted l.map l.notes l.i
