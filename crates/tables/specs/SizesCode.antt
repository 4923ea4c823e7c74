-- What the functions ask for: sizes in range (the type Ranged carries this), records of all tables, a fill that stands on one.
use Rattle.std.specs.Prelude.{◌≡◌, List, ℕ, ◌+◌, ◌*◌, ◌^◌, ◌≤◌, ◌<◌, length}
use Rattle.tables.specs.declared.Sizes.{Sizes}
use Rattle.tables.specs.declared.Spot.{Spot}
use Rattle.tables.specs.State.{machine64, record_size, table_count}

pub record Sized (z : Sizes) : Type 0 where
  pub frames : z.frames ≤ 256
  pub processors : z.processors ≤ 4
  pub some : 0 < z.share
  pub share : z.share ≤ 16
  pub pool : z.base + z.processors * z.share ≤ 2 ^ 40

-- the records of all tables
abbrev pub Room : Sizes → List ℕ → Type 0
Room z records = length records ≡ record_size * table_count (machine64 z)

-- a fill stands on one of the tables
pub record SpotFits (z : Sizes) (w : Spot) : Type 0 where
  pub missing : w.missing ≤ 3
  pub table : w.table < table_count (machine64 z)
  pub frame : w.frame.0 < 2 ^ 40
