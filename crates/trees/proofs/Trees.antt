-- The shadow tables as trees: what the state rules ask of them, without counting.
use mathlib.Core.Path.{◌≡◌, sym, ◌∙◌}
use mathlib.Core.Bool.{true}
use mathlib.Core.List.{List}
use mathlib.Core.Logic.{◌⊎◌}
use Prim.Native.Nat.{ℕ, ◌+◌, ◌*◌, ◌^◌, ◌≤◌, ◌<◌}
use native.Mathlib.Omega.{arith}
use lib.Dec.{eqb}
use lib.ListN.{length, get_or}
use Rattle.paging.specs.Layout.{frame_words, bit, compose, rights_of}
use Rattle.paging.specs.Sound.{Sound, Laid}
use Rattle.paging.proofs.Layouts.{get-past, above}
use Rattle.tables.specs.State.{Machine, Shadow, record_size, level_of, shadows, table_count, owner_of, entry_count, entry_of, named}
use Rattle.lawful.specs.Rules.{is_leaf, is_branch, is_root}

-- what is asked of the machine: a sound layout, tables in every share, entries that fit, a pool within the frames
pub record Able (M : Machine) : Type 0 where
  pub sound : Sound M.tables
  pub upper : 1 < M.tables.levels
  pub some : 0 < M.share
  pub room : M.base + table_count M ≤ 2 ^ M.tables.frame_bits
  pub fits : (r d f : ℕ) → r < 8 → d < 2 → f < 2 ^ M.tables.frame_bits → compose M.tables r d f < 2 ^ M.tables.entry_bits
  -- where there is no NX, X is always granted
  pub grants : (e : ℕ) → M.tables.nx_alone ≡ 0 → bit (rights_of M.tables e) 2 ≡ 1
  -- past the last table stand zeros
  pub past : (pool : List ℕ) → length pool ≡ frame_words * table_count M → (t i : ℕ) → i < entry_count M → table_count M ≤ t → entry_of M pool t i ≡ 0

-- a machine whose tables are laid so, with tables in every share and a pool within the frames
pub able : (M : Machine) → Laid M.tables → 0 < M.share → M.base + table_count M ≤ 2 ^ M.tables.frame_bits → Able M
able M laid some room = record {
  sound = laid.sound;
  upper = laid.upper;
  some = some;
  room = room;
  fits = laid.fits;
  grants = laid.grants;
  past = λ pool e t i hi h. get-past M.tables laid.sound pool t i (omega (arith, above M.tables laid.sound t (table_count M) i hi h, e));
}

-- no map frame lies in the pool
abbrev pub Outside : Machine → List ℕ → Type 0
Outside M map = (i : ℕ) → i < length map → (M.base ≤ get_or map i 0) → (get_or map i 0 < M.base + table_count M) → ⊥

-- the exact lengths
pub record Exact (M : Machine) (s : Shadow) : Type 0 where
  pub words : length s.pool ≡ frame_words * table_count M
  pub pairs : length s.records ≡ record_size * table_count M

module _ (M : Machine) where
  -- entry i of t
  abbrev pub ent : Shadow → ℕ → ℕ → ℕ
  ent s t i = entry_of M s.pool t i

  abbrev pub lev : Shadow → ℕ → ℕ
  lev s t = level_of s.records t

  abbrev pub shd : Shadow → ℕ → ℕ
  shd s t = (shadows s.records t).0

  -- who owns t
  abbrev pub own : Shadow → ℕ → ℕ
  own s t = owner_of M s.records t

  -- t is another processor's than p
  pub record Another (s : Shadow) (p t : ℕ) : Type 0 where
    pub owned : own s t < M.processors
    pub other : own s t ≡ p → ⊥

  -- entry i of t names u
  pub record Names (s : Shadow) (t i u : ℕ) : Type 0 where
    pub table : t < table_count M
    pub index : i < entry_count M
    pub names : named M (ent s t i) ≡ u
    pub is : u < table_count M

  -- a present entry above level 1: "names a table of the same share, one level lower"
  pub record Branch (s : Shadow) (t e : ℕ) : Type 0 where
    pub made : is_branch M e ≡ true
    pub owner : own s (named M e) ≡ own s t
    pub lower : lev s (named M e) + 1 ≡ lev s t

  -- THE TABLES ARE TREES
  pub record Trees (map : List ℕ) (s : Shadow) : Type 0 where
    pub exact : Exact M s
    pub bound : (t : ℕ) → t < table_count M → lev s t ≤ M.tables.levels
    pub roots : (t : ℕ) → t < table_count M → is_root M t ≡ eqb (lev s t) M.tables.levels
    pub frames : (t : ℕ) → t < table_count M → shd s t < M.frames
    pub free : (t : ℕ) → t < table_count M → lev s t ≡ 0 → (shd s t ≡ 0) × ((i : ℕ) → i < entry_count M → ent s t i ≡ 0)
    pub leaf : (t : ℕ) → t < table_count M → lev s t ≡ 1 → (i : ℕ) → i < entry_count M → (ent s t i ≡ 0) ⊎ (is_leaf M.tables map (ent s t i) ≡ true)
    pub branch : (t : ℕ) → t < table_count M → 1 < lev s t → (i : ℕ) → i < entry_count M → (ent s t i ≡ 0) ⊎ Branch s t (ent s t i)
    pub name : (u : ℕ) → u < table_count M → 0 < lev s u → lev s u < M.tables.levels → (t : ℕ) × (i : ℕ) × Names s t i u
    pub one : {t i t' i' u : ℕ} → Names s t i u → Names s t' i' u → (t ≡ t') × (i ≡ i')

  -- each entry is as it was, or 0
  pub record Less (s s' : Shadow) : Type 0 where
    pub entries : (t : ℕ) → t < table_count M → (i : ℕ) → i < entry_count M → (ent s' t i ≡ ent s t i) ⊎ (ent s' t i ≡ 0)

  -- table t is as it was, its record too
  pub record Same (s s' : Shadow) (t : ℕ) : Type 0 where
    pub entries : (i : ℕ) → i < entry_count M → ent s' t i ≡ ent s t i
    pub level : lev s' t ≡ lev s t
    pub frame : shd s' t ≡ shd s t
    pub owner : own s' t ≡ own s t

pub same_trans : {M : Machine} {s x y : Shadow} {v : ℕ} → Same M s x v → Same M x y v → Same M s y v
same_trans a b = record {
  entries = λ k h. b.entries k h ∙ a.entries k h;
  level = b.level ∙ a.level;
  frame = b.frame ∙ a.frame;
  owner = b.owner ∙ a.owner;
}

-- who owns another's table owns it where the table stays
pub another_still : {M : Machine} {s x : Shadow} {p v : ℕ} → Same M s x v → Another M s p v → Another M x p v
another_still same a = record { owned = rw same.owner a.owned; other = λ q. a.other (sym same.owner ∙ q) }
