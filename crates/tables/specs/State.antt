-- "Shadow state", first paragraph: what a machine is, what its buffers hold, and where each number stands in them.
use Rattle.std.specs.Prelude.{◌≡◌, Bool, true, cond, ◌&&◌, Option, Some, None, List, ℕ, zero, suc, ◌+◌, ◌-◌, ◌*◌, ◌/◌, ◌^◌, ◌<◌, eqb, ltb, leb, get_or, set}
use Rattle.paging.specs.declared.Guest.{Guest}
use Rattle.paging.specs.Frame.{guest}
use Rattle.paging.specs.Layout.{Layout, tables64, get, put, index, frame_of, rights_of, is_present}
use Rattle.paging.specs.Numbers.{first}
use Rattle.paging.specs.Walk.{meet}
use Rattle.paging.proofs.Numbers.{first_found}
use Rattle.tables.specs.declared.Sizes.{Sizes}
use Rattle.tables.specs.declared.Path.{Path}

-- A way to pick one of the numbers below n that pass a test is fair if it picks one that passes, where there is one.
abbrev pub Fair : (ℕ → (ℕ → Bool) → ℕ) → Type 0
Fair pick = (n : ℕ) (f : ℕ → Bool) (k : ℕ) → k < n → f k ≡ true → (pick n f < n) × (f (pick n f) ≡ true)

pub record Choice : Type 0 where
  pub pick : ℕ → (ℕ → Bool) → ℕ
  pub fair : Fair pick

-- "lowest free number first"
abbrev pub lowest : Choice
lowest = record { pick = first; fair = first_found }

-- What never changes: tables of one layout, "G frames", "P processors", "a share of S shadow tables", the pool base, and
-- which of the tables that it may take a processor takes.
pub record Machine : Type 0 where
  pub tables : Layout
  pub frames : ℕ
  pub processors : ℕ
  pub share : ℕ
  pub base : ℕ
  pub choose : Choice

abbrev pub machine64 : Sizes → Machine
machine64 z = record { tables = tables64; frames = z.frames; processors = z.processors; share = z.share; base = z.base; choose = lowest }

-- the shadow tables: their entries, and their records
pub record Shadow : Type 0 where
  pub pool : List ℕ
  pub records : List ℕ

abbrev pub shadow_of : List ℕ → List ℕ → Shadow
shadow_of p r = record { pool = p; records = r }

abbrev pub on_pool : (List ℕ → List ℕ) → Shadow → Shadow
on_pool f s = shadow_of (f s.pool) s.records

abbrev pub on_records : (List ℕ → List ℕ) → Shadow → Shadow
on_records f s = shadow_of s.pool (f s.records)

-- everything that an event may change
pub record State : Type 0 where
  pub words : List ℕ
  pub shadow : Shadow
  pub slots : List ℕ

abbrev pub state_of : List ℕ → Shadow → List ℕ → State
state_of w h l = record { words = w; shadow = h; slots = l }

-- "A record is level (0 free) and guest frame shadowed"
abbrev pub record_size : ℕ
record_size = 2

abbrev pub level_of : List ℕ → ℕ → ℕ
level_of records t = get_or records (record_size * t) 0

abbrev pub shadows : List ℕ → ℕ → Guest
shadows records t = guest (get_or records (record_size * t + 1) 0)

abbrev pub with_record : ℕ → ℕ → Guest → List ℕ → List ℕ
with_record t level g records = set (set records (record_size * t) level) (record_size * t + 1) g.0

abbrev pub is_free : List ℕ → ℕ → Bool
is_free records t = eqb (level_of records t) 0

module _ (M : Machine) where
  -- "Processor p owns tables p×S to p×S+S−1. The first is its root."
  abbrev pub table_count : ℕ
  table_count = M.processors * M.share

  -- the processor in whose share table t lies
  abbrev pub home_of : ℕ → ℕ
  home_of t = t / M.share

  -- the processor that owns it: that of its share, whatever the records say
  unfoldable pub owner_of : List ℕ → ℕ → ℕ
  owner_of records t = home_of t

  abbrev pub root_of : ℕ → ℕ
  root_of p = p * M.share

  abbrev pub owns : ℕ → List ℕ → ℕ → Bool
  owns p records t = eqb (owner_of records t) p

  -- entry i of table t
  abbrev pub entry_count : ℕ
  entry_count = 2 ^ M.tables.index_bits

  abbrev pub entry_of : List ℕ → ℕ → ℕ → ℕ
  entry_of pool t i = get M.tables pool t i

  abbrev pub with_entry : ℕ → ℕ → ℕ → List ℕ → List ℕ
  with_entry t i e pool = put M.tables pool t i e

  -- "the frame is pool base + table number": the table that a present entry names. P×S, the number of tables, is no
  -- table: it stands for none.
  unfoldable pub named : ℕ → ℕ
  named e =
      let f = frame_of M.tables e in
      cond (is_present e && leb M.base f && ltb (f - M.base) table_count) (f - M.base) table_count

  -- the same, as an option
  abbrev pub named_some : ℕ → Option ℕ
  named_some e = cond (ltb (named e) table_count) (Some (named e)) None

  -- A path through the shadow tables, from p's root: the level of its next entry, the table, the rights of all entries
  -- passed. Where an entry names no table, the path stands on none from there on.
  abbrev pub top : ℕ → Path
  top p = record { level = M.tables.levels; table = root_of p; rights = 7 }

  abbrev pub next_entry : List ℕ → ℕ → Path → ℕ
  next_entry pool page w = entry_of pool w.table (index M.tables page w.level)

  abbrev pub down : Path → ℕ → Path
  down w e = record { level = w.level - 1; table = named e; rights = meet w.rights (rights_of M.tables e) }

  unfoldable pub descend : List ℕ → ℕ → ℕ → Path → Path
  descend pool page zero w = w
  descend pool page (suc n) w = descend pool page n (down w (next_entry pool page w))

  -- the path of a page from p's root to level l
  abbrev pub path_to : List ℕ → ℕ → ℕ → ℕ → Path
  path_to pool p page l = descend pool page (M.tables.levels - l) (top p)
