-- From held walks to outcomes: an address that a held walk backs is permitted, and so are the faults of held walks.
use Rattle.std.specs.Prelude.{Err}
use mathlib.Core.Path.{◌≡◌, refl}
use mathlib.Core.Bool.{true, false}
use mathlib.Core.List.Memᴰ
use Prim.Native.Nat.{ℕ, ◌+◌, ◌<◌}
use Rattle.paging.specs.Walk.{Step}
use Rattle.paging.specs.declared.Guest.{Guest}
use Rattle.paging.specs.declared.Walk.{Walk}
use Rattle.paging.specs.declared.Request.{Request}
use Rattle.paging.specs.declared.Stop.TheVariants.{Absent, Beyond, Complete}
use Rattle.paging.specs.Request.{enough}
use Rattle.rules.specs.declared.Outcome.{Outcome}
use Rattle.rules.specs.declared.Outcome.TheVariants.{Address, Fault}
use Rattle.rules.specs.View.{View}
use Rattle.rules.specs.Outcome.{given, Permitted}
use Rattle.rules.proofs.Order.{Mem}
use Rattle.rules.specs.Coherent.{Coherent}
use Rattle.rules.specs.Kept.{Kept}
use Rattle.rules.proofs.Steps.{held_is_kept}

-- a held completed walk to a frame, with at least these rights
pub record Backed (seen : View) (k : ℕ) (g : Guest) (rights : ℕ) : Type 0 where
  pub walk : Walk
  pub kept : Kept seen k walk
  pub complete : walk.level ≡ 0
  pub frame : walk.frame ≡ g
  pub covers : (q : Request) → q.needs < 8 → enough q rights ≡ true → enough q walk.rights ≡ true

module _ (seen : View) {L G : ℕ} (law : Coherent seen L G) (q : Request) (k : ℕ) where
  permit : (w : Walk) (s : Step) (o : Outcome) → Kept seen k w → seen.steps k w ≡ s → Mem o (given q w s) → Permitted seen q k o
  permit w s o h e m = record { walk = w; held = (held_is_kept seen law k w).1 h; gives = rw e m }

  -- an address that a held walk backs
  pub address_permitted : (g : Guest) (rights : ℕ) → q.needs < 8 → Backed seen k g rights → enough q rights ≡ true → Permitted seen q k (Address g)
  address_permitted g rights small b e =
      let good : enough q b.walk.rights ≡ true = b.covers q small e in
      permit b.walk (Err Complete) (Address g) b.kept (law.done k b.walk b.complete)
      (rw (good, b.frame) (Memᴰ.head refl))

  -- the faults
  pub absent_permitted : (w : Walk) → Kept seen k w → seen.steps k w ≡ (Err Absent) → Permitted seen q k (Fault (0 + q.adds))
  absent_permitted w h e = permit w (Err Absent) (Fault (0 + q.adds)) h e (Memᴰ.head refl)

  pub beyond_permitted : (w : Walk) → Kept seen k w → seen.steps k w ≡ (Err Beyond) → Permitted seen q k (Fault (9 + q.adds))
  beyond_permitted w h e = permit w (Err Beyond) (Fault (9 + q.adds)) h e (Memᴰ.head refl)

  pub lacking_permitted : (w : Walk) → Kept seen k w → w.level ≡ 0 → enough q w.rights ≡ false → Permitted seen q k (Fault (1 + q.adds))
  lacking_permitted w h z bad = permit w (Err Complete) (Fault (1 + q.adds)) h (law.done k w z) (rw bad (Memᴰ.head refl))
