-- What theorems ask of a view: that it is one of tables with L levels and frames below G.
use Rattle.std.specs.Prelude.{◌≡◌, not, ℕ, suc, ◌<◌, T, Ok, Err}
use Rattle.paging.specs.declared.Walk.{Walk}
use Rattle.paging.specs.declared.Stop.TheVariants.{Complete}
use Rattle.rules.specs.View.{View}

-- a walk went on one level down, to a frame below G, with rights
pub record Down (G : ℕ) (w w' : Walk) : Type 0 where
  pub level : w.level ≡ suc w'.level
  pub inside : w'.frame.0 < G
  pub small : w'.rights < 8

-- L levels, frames below G
pub record Coherent (seen : View) (L G : ℕ) : Type 0 where
  pub some_level : 0 < L
  pub top : (k : ℕ) → (seen.begins k).level ≡ L
  pub full : (k : ℕ) → (seen.begins k).rights < 8
  -- CR3 changes only where partial walks end
  pub root_kept : (k : ℕ) → T (not (seen.ends_partial k)) → seen.begins (suc k) ≡ seen.begins k
  pub down : (k : ℕ) (w w' : Walk) → seen.steps k w ≡ Ok w' → Down G w w'
  -- exactly the walks of level 0 are complete
  pub done : (k : ℕ) (w : Walk) → w.level ≡ 0 → seen.steps k w ≡ (Err Complete)
  pub undone : (k : ℕ) (w : Walk) → seen.steps k w ≡ (Err Complete) → w.level ≡ 0

-- the walks that begin stand below G too: this needs a history that fits
abbrev pub Rooted : View → ℕ → Type 0
Rooted seen G = (k : ℕ) → (seen.begins k).frame.0 < G
