-- "Entries and requests", second paragraph: a walk, and what it does at an entry.
use Rattle.std.specs.Prelude.{cond, not, ℕ, ◌+◌, ◌-◌, ◌*◌, min, eqb, ltb, Result, Ok, Err}
use Rattle.paging.specs.declared.Guest.{Guest}
use Rattle.paging.specs.declared.Walk.{Walk}
use Rattle.paging.specs.declared.Stop.{Stop}
use Rattle.paging.specs.declared.Stop.TheVariants.{Absent, Beyond, Complete}
use Rattle.paging.specs.Frame.{guest}
use Rattle.paging.specs.Layout.{Layout, bit, frame_of, rights_of, is_present}

-- what a walk does at an entry: it goes on, or it stops
abbrev pub Step : Type 0
Step = Result Walk Stop

-- "P is 0 gives a fault with base code 0; a frame of G or more gives base code 9"; of a completed walk "lacks a needed right … 1"
abbrev pub base_of : Stop → ℕ
base_of Absent = 0
base_of Beyond = 9
base_of Complete = 1

-- the rights, W + 2 U + 4 X, that two numbers share
unfoldable pub meet : ℕ → ℕ → ℕ
meet a b = min (bit a 0) (bit b 0) + 2 * min (bit a 1) (bit b 1) + 4 * min (bit a 2) (bit b 2)

abbrev pub with_rights : Walk → ℕ → Walk
with_rights w r = record { level = w.level; frame = w.frame; rights = r }

-- the walk one level down, on frame f
abbrev pub down_to : Walk → Guest → Walk
down_to w f = record { level = w.level - 1; frame = f; rights = w.rights }

module _ (Y : Layout) where
  -- "A walk starts at level 4 on CR3 with rights 7."
  abbrev pub start : Guest → Walk
  start cr3 = record { level = Y.levels; frame = cr3; rights = 7 }

  -- "Each entry keeps W only if RW is 1, U only if US is 1, X only if NX is 0."
  abbrev pub narrowed : Walk → ℕ → Walk
  narrowed w e = with_rights w (meet w.rights (rights_of Y e))

  -- "At an entry, in this order: P is 0 gives a fault with base code 0; a frame of G or more gives base code 9; else
  -- the walk extends." Level 0 is a completed walk: it has no entry left to read.
  unfoldable pub step : ℕ → Walk → ℕ → Step
  step G w e =
      cond (eqb w.level 0) (Err Complete)
      (cond (not (is_present e)) (Err Absent)
      (cond (ltb (frame_of Y e) G) (Ok (down_to (narrowed w e) (guest (frame_of Y e)))) (Err Beyond)))
