-- How a walk of the guest's tables ends: its last table and its rights are in range, and so is a fault's code.
use Rattle.std.specs.Prelude.{Ok, Err, IfOk}
use mathlib.Core.Path.{◌≡◌, refl, ap}
use mathlib.Core.List.{List}
use Prim.Native.Nat.{ℕ, zero, suc, ◌<◌, ◌≤◌}
use native.Mathlib.Omega.{arith}
use Rattle.paging.specs.declared.Guest.{Guest}
use Rattle.paging.specs.declared.Walk.{Walk}
use Rattle.paging.specs.declared.Stop.{Stop}
use Rattle.paging.specs.declared.Stop.TheVariants.{Absent, Beyond, Complete}
use Rattle.paging.specs.Layout.{Layout, get, put, index, with_a, rights_of}
use Rattle.paging.specs.Walk.{Step, base_of, start, step}
use Rattle.paging.proofs.Meets.{meet_small}
use Rattle.paging.proofs.Steps.{goes}
use Rattle.guest.specs.GuestWalk.{Ended, GuestWalk, guest_walk, whole, by_step, walk_from, walk_guest}

abbrev pub InRange : ℕ → Ended → Type 0
InRange limit (Ok x) = (x.last.0 < limit) × (x.walk.rights < 8)
InRange limit (Err stop) = base_of stop ≤ 9

-- the same but for rights, which are in range where those that the walk starts with are
abbrev pub EndsBelow : ℕ → Ended → Type 0
EndsBelow limit (Ok x) = x.last.0 < limit
EndsBelow limit (Err stop) = base_of stop ≤ 9

abbrev pub HasRights : Ended → Type 0
HasRights r = IfOk r (λ x. x.walk.rights < 8)

ends_in_range : (limit : ℕ) (r : Ended) → EndsBelow limit r → HasRights r → InRange limit r
ends_in_range limit (Ok x) below rights = (below, rights)
ends_in_range limit (Err stop) below rights = below

code_small : (stop : Stop) → base_of stop ≤ 9
code_small Absent = omega arith
code_small Beyond = omega arith
code_small Complete = omega arith

-- a walk ends whole or at a stop, or it goes on
by_end : (P : Ended → Type 0) (words : List ℕ) (last : Guest) (w : Walk) (on : Walk → GuestWalk) (r : Step)
    → P (whole last w) → ((stop : Stop) → P (Err stop)) → ((w' : Walk) → r ≡ Ok w' → P (on w').ended) → P (by_step words last w on r).ended
by_end P words last w on (Ok w') ends stops more = more w' refl
by_end P words last w on (Err Absent) ends stops more = stops Absent
by_end P words last w on (Err Beyond) ends stops more = stops Beyond
by_end P words last w on (Err Complete) ends stops more = ends

module _ (Y : Layout) (G page limit : ℕ) (most : G ≤ limit) where
  walk_range : (n : ℕ) (words : List ℕ) (last : Guest) (w : Walk) → last.0 < limit → w.frame.0 < limit
      → EndsBelow limit (walk_from Y G page n words last w).ended
  unfolding walk_from
  walk_range zero words last w hl hf = hl
  walk_range (suc n) words last w hl hf =
      by_end (EndsBelow limit) words last w _ (step Y G w e) hl code_small (λ w' q. let g = goes Y G w e w' q in
      walk_range n (put Y words w.frame.0 (index Y page w.level) (with_a e)) w.frame w' hf
      (omega (arith, ap (λ (x : Walk). x.frame.0) g.is, g.inside)))
    where
      e : ℕ
      e = get Y words w.frame.0 (index Y page w.level)

  walk_small : (n : ℕ) (words : List ℕ) (last : Guest) (w : Walk) → w.rights < 8 → HasRights (walk_from Y G page n words last w).ended
  unfolding walk_from
  walk_small zero words last w hr = hr
  walk_small (suc n) words last w hr =
      by_end HasRights words last w _ (step Y G w e) hr (λ stop. tt) (λ w' q. let g = goes Y G w e w' q in
      walk_small n (put Y words w.frame.0 (index Y page w.level) (with_a e)) w.frame w'
      (omega (arith, ap (λ (x : Walk). x.rights) g.is, meet_small w.rights (rights_of Y e))))
    where
      e : ℕ
      e = get Y words w.frame.0 (index Y page w.level)

  walk_in_range : (n : ℕ) (words : List ℕ) (last : Guest) (w : Walk) → last.0 < limit → w.frame.0 < limit → w.rights < 8
      → InRange limit (walk_from Y G page n words last w).ended
  walk_in_range n words last w hl hf hr = ends_in_range limit _ (walk_range n words last w hl hf) (walk_small n words last w hr)

  pub guest_range : (words : List ℕ) (cr3 : Guest) → cr3.0 < limit → {words' : List ℕ} {r : Ended} → guest_walk words' r ≡ walk_guest Y G page words cr3 → InRange limit r
  guest_range words cr3 h e =
      let q = ap (λ (d : GuestWalk). d.ended) e in
      rw q (walk_in_range Y.levels words cr3 (start Y cr3) h h (omega arith))
