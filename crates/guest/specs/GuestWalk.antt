-- "Else the guest tables are walked": each entry that the walk reads, A in those that it extends from, D after a write.
use Rattle.std.specs.Prelude.{cond, List, ℕ, zero, suc, Result, Ok, Err}
use Rattle.paging.specs.declared.Guest.{Guest}
use Rattle.paging.specs.declared.Walk.{Walk}
use Rattle.paging.specs.declared.Stop.{Stop}
use Rattle.paging.specs.declared.Stop.TheVariants.{Absent, Beyond, Complete}
use Rattle.paging.specs.declared.Request.{Request}
use Rattle.paging.specs.Layout.{Layout, get, put, index, with_a, with_d}
use Rattle.paging.specs.Walk.{Step, start, step}
use Rattle.paging.specs.Request.{is_write}
use Rattle.guest.specs.declared.Walked.{Walked}

-- how a walk ended: whole, with the last table it read; or stopped
abbrev pub Ended : Type 0
Ended = Result Walked Stop

abbrev pub whole : Guest → Walk → Ended
whole last w = Ok (record { last = last; walk = w })

-- the guest's words after a walk of its tables, and how the walk ended
pub record GuestWalk : Type 0 where
  pub words : List ℕ
  pub ended : Ended

abbrev pub guest_walk : List ℕ → Ended → GuestWalk
guest_walk w r = record { words = w; ended = r }

-- how a walk ends, or goes on, by what it does at its entry
abbrev pub by_step : List ℕ → Guest → Walk → (Walk → GuestWalk) → Step → GuestWalk
by_step words last w on (Ok w') = on w'
by_step words last w on (Err Absent) = guest_walk words (Err Absent)
by_step words last w on (Err Beyond) = guest_walk words (Err Beyond)
by_step words last w on (Err Complete) = guest_walk words (whole last w)

module _ (Y : Layout) (G : ℕ) (page : ℕ) where
  -- "Each entry extended from gets A." Here with n entries left to read.
  unfoldable pub walk_from : ℕ → List ℕ → Guest → Walk → GuestWalk
  walk_from zero words last w = guest_walk words (whole last w)
  walk_from (suc n) words last w =
      let i = index Y page w.level in
      let e = get Y words w.frame.0 i in
      by_step words last w (λ w'. walk_from n (put Y words w.frame.0 i (with_a e)) w.frame w') (step Y G w e)

  abbrev pub walk_guest : List ℕ → Guest → GuestWalk
  walk_guest words cr3 = walk_from Y.levels words cr3 (start Y cr3)

-- the guest's entry for a table of level l that shadows frame g
abbrev pub guest_entry : Layout → List ℕ → ℕ → ℕ → Guest → ℕ
guest_entry Y words page l g = get Y words g.0 (index Y page l)

-- "On success a write also sets D in the last entry": in the word as it is now
unfoldable pub dirtied : Layout → Request → ℕ → Guest → List ℕ → List ℕ
dirtied Y q page last words =
    let i = index Y page 1 in
    cond (is_write q) (put Y words last.0 i (with_d (get Y words last.0 i))) words
