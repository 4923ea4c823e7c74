-- "Work byte ((l×G) + frame)×8 + rights is 1 for each held walk at level l (0 is complete) and 0 otherwise, below 40×G;
-- later bytes stay."
use Rattle.std.specs.Prelude.{◌≡◌, ◌⊎◌, List, ℕ, ◌+◌, ◌*◌, ◌≤◌, ◌<◌, length, get_or}
use Rattle.paging.specs.declared.Walk.{Walk}

abbrev pub cell : ℕ → Walk → ℕ
cell G w = (w.level * G + w.frame.0) * 8 + w.rights

-- "40×G": five levels, G frames, eight rights
abbrev pub work_bytes : ℕ → ℕ
work_bytes G = 40 * G

-- the walks that have a byte
pub record HasByte (G : ℕ) (w : Walk) : Type 0 where
  pub level : w.level ≤ 4
  pub frame : w.frame.0 < G
  pub rights : w.rights < 8

-- a byte is 1 if P holds, and 0 otherwise
abbrev pub Tells : ℕ → Type 0 → Type 0
Tells b P = ((b ≡ 1) × P) ⊎ ((b ≡ 0) × (P → ⊥))

-- bytes that say which walks are held, where later ones stay as they were
pub record WorkTells (G : ℕ) (Held : Walk → Type 0) (before after : List ℕ) : Type 0 where
  pub size : length after ≡ length before
  pub each : (w : Walk) → HasByte G w → Tells (get_or after (cell G w) 0) (Held w)
  pub rest : (k : ℕ) → work_bytes G ≤ k → get_or after k 0 ≡ get_or before k 0
