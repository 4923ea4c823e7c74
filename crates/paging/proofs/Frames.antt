-- Between guest and host: the search for a guest frame says the same of what is left, and finds what the map sent.
use Rattle.std.specs.Prelude.{Some, None}
use mathlib.Core.Path.{◌≡◌, refl, sym, ◌∙◌, ap}
use mathlib.Core.Bool.{true, not, ◌&&◌}
use mathlib.Core.List.{List}
use Prim.Native.Nat.{ℕ, zero, suc, ◌+◌, ◌≤◌, ◌<◌}
use native.Mathlib.Numerals.{add-one}
use native.Mathlib.Omega.{arith}
use native.Mathlib.Decide.{dec_lt}
use lib.Dec.{eqb, ltb}
use lib.ListN.{length, get_or, take, drop, drop_of_length-le}
use lib.Seq.{drop-cons, length-take-le, get_or-take}
use borrow.Author.Tests.{eq-eqb, ne_eqb, eqb-false, not-true}
use Rattle.paging.specs.declared.Guest.{Guest}
use Rattle.paging.specs.declared.Host.{Host}
use Rattle.paging.specs.Frame.{guest, host_of, origin_from, origin_of, is_new, Distinct, map_fits}
use Rattle.paging.proofs.Tests.{both}
use Rattle.paging.proofs.Numbers.{all-at, all_same}

module _ (map : List ℕ) (h : Host) where
  pub origin_here : (i : ℕ) → i < length map → get_or map i 0 ≡ h.0 → origin_from i (drop i map) h ≡ Some (guest i)
  unfolding origin_from
  origin_here i lt e = rw (drop-cons map i 0 lt) (simp (eq-eqb (get_or map i 0) h.0 e))

  pub origin_next : (i : ℕ) → i < length map → (get_or map i 0 ≡ h.0 → ⊥) → origin_from i (drop i map) h ≡ origin_from (i + 1) (drop (i + 1) map) h
  unfolding origin_from
  origin_next i lt ne = rw (drop-cons map i 0 lt, add-one i) (simp (ne_eqb (get_or map i 0) h.0 ne))

  pub origin_end : (i : ℕ) → length map ≤ i → origin_from i (drop i map) h ≡ None
  unfolding origin_from
  origin_end i le = rw (drop_of_length-le map le)

-- frames of which none has its like before it
pub distinct : (map : List ℕ) → ((i j : ℕ) → i < j → j < length map → get_or map i 0 ≡ get_or map j 0 → ⊥) → Distinct map
distinct map new i j hi hj e = go (dec_lt i j) (dec_lt j i)
  where
    go : Dec (i < j) → Dec (j < i) → i ≡ j
    go (yes p) d = absurd (new i j p hj e)
    go (no p) (yes q) = absurd (new j i q hi (sym e))
    go (no p) (no q) = omega arith

pub new_differs : (map : List ℕ) (n f : ℕ) → is_new map n f ≡ true → (i : ℕ) → i < n → get_or map i 0 ≡ f → ⊥
new_differs map n f new i lt = eqb-false _ _ (not-true _ (all-at (λ j. not (eqb (get_or map j 0) f)) n new i lt))

-- a map cut after n frames says the same of them
pub new_cut : (map : List ℕ) (n f : ℕ) → n ≤ length map → is_new (take n map) (length (take n map)) f ≡ is_new map n f
new_cut map n f h =
    ap (λ (k : ℕ). is_new (take n map) k f) (length-take-le n map h)
    ∙ all_same (λ j. not (eqb (get_or (take n map) j 0) f)) (λ j. not (eqb (get_or map j 0) f)) n (λ j lt. ap (λ (x : ℕ). not (eqb x f)) (get_or-take n map j 0 lt))

-- a map that fits has no frame twice
pub fits_distinct : (limit : ℕ) (map : List ℕ) → map_fits limit map ≡ true → Distinct map
unfolding map_fits
fits_distinct limit map h = distinct map (λ i j lt hj. new_differs map j (get_or map j 0) (new j hj) i lt)
  where
    new : (k : ℕ) → k < length map → is_new map k (get_or map k 0) ≡ true
    new k lt = (both (ltb (get_or map k 0) limit) _ (all-at (λ k. ltb (get_or map k 0) limit && is_new map k (get_or map k 0)) (length map) h k lt)).1

-- THE SEARCH FINDS THE FRAME THAT THE MAP SENT
pub origin_host : (map : List ℕ) → Distinct map → (g : Guest) → g.0 < length map → origin_of map (host_of map g) ≡ Some g
origin_host map one g lt = sym (passed g.0 (omega arith)) ∙ origin_here map (host_of map g) g.0 lt refl
  where
    passed : (i : ℕ) → i ≤ g.0 → origin_from i (drop i map) (host_of map g) ≡ origin_of map (host_of map g)
    passed zero le = refl
    passed (suc i) le =
        let other : get_or map i 0 ≡ get_or map g.0 0 → ⊥ = λ e. let same = one i g.0 (omega arith) lt e in omega arith in
        let turn = origin_next map (host_of map g) i (omega arith) other in
        (rw (add-one i) at (sym turn)) ∙ passed i (omega arith)
