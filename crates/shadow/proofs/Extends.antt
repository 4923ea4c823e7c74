-- Places are small: a guest frame that the map has is below the map's length.
use Rattle.std.specs.Prelude.{Option, Some, None}
use mathlib.Core.Path.{◌≡◌, refl, ap}
use mathlib.Core.Bool.{Bool, true, false, cond}
use mathlib.Core.List.{List, [], ◌∷◌}
use Prim.Native.Nat.{ℕ, suc, ◌+◌, ◌<◌}
use native.Mathlib.Omega.{arith}
use lib.Dec.{eqb, ltb}
use lib.ListN.{length}
use Rattle.paging.specs.declared.Guest.{Guest}
use Rattle.paging.specs.declared.Host.{Host}
use Rattle.paging.specs.Frame.{guest, host, origin_from, origin_of}
use Rattle.paging.specs.Layout.{frame_of}
use Rattle.tables.specs.State.{Machine, named, table_count}
use Rattle.tables.proofs.Names.{named_small}
use Rattle.shadow.specs.Moves.{place_of, place_below}

pub origin_small : (map : List ℕ) (h : Host) (k : ℕ) (g : Guest) → origin_from k map h ≡ Some g → g.0 < k + length map
unfolding origin_from
origin_small [] h k g e = let z : ◌≡◌ {A = ℕ} 0 1 = cc in absurd (omega arith)
origin_small (x ∷ xs) h k g e = go (eqb x h.0) e (origin_small xs h (k + 1) g)
  where
    go : (b : Bool) → cond b (Some (guest k)) (origin_from (k + 1) xs h) ≡ Some g → (origin_from (k + 1) xs h ≡ Some g → g.0 < k + 1 + length xs) → g.0 < k + suc (length xs)
    go true e more = let q : guest k ≡ g = cc in omega (arith, ap (λ (y : Guest). y.0) q)
    go false e more = omega (arith, more e)

pub place_small : (M : Machine) (map : List ℕ) (l e x : ℕ) → place_below M map l e ≡ Some x → x < length map + table_count M + 1
unfolding place_below
place_small M map l e x q = go (eqb l 1) (origin_of map (host (frame_of M.tables e))) refl (ltb (named M e) (table_count M)) q
  where
    go : (b : Bool) (o : Option Guest) → origin_of map (host (frame_of M.tables e)) ≡ o → (t : Bool) → cond b (place_of o) (cond t (Some (named M e)) None) ≡ Some x → x < length map + table_count M + 1
    go true (Some g) eo t q = let r : g.0 ≡ x = cc in omega (arith, origin_small map (host (frame_of M.tables e)) 0 g eo)
    go true None eo t q = let z : ◌≡◌ {A = ℕ} 0 1 = cc in absurd (omega arith)
    go false o eo true q = let r : named M e ≡ x = cc in omega (arith, named_small M e)
    go false o eo false q = let z : ◌≡◌ {A = ℕ} 0 1 = cc in absurd (omega arith)
