-- Settling and building, turn by turn: what is left to do says the same.
use mathlib.Core.Path.{◌≡◌, refl, sym, ap, ap₂, ◌∙◌}
use mathlib.Core.Bool.{Bool, true, false, cond, ◌&&◌}
use mathlib.Core.List.{List}
use Prim.Native.Nat.{ℕ, zero, suc, ◌+◌, ◌-◌, ◌<◌}
use native.Mathlib.Omega.{arith}
use lib.Dec.{ltb}
use borrow.Author.Tests.{ltb-true}
use Rattle.paging.specs.declared.Guest.{Guest}
use Rattle.std.specs.Prelude.{Some, None}
use Rattle.paging.specs.Frame.{guest}
use Rattle.paging.specs.Layout.{index, frame_of}
use Rattle.tables.specs.declared.Spot.{Spot}
use Rattle.tables.specs.State.{Machine, Shadow, on_pool, with_entry, entry_of, named, table_count}
use Rattle.tables.specs.Steps.{Settled, settled_at, spot, cut, leaf_of, agrees, agreeing, settle, hang_next, build}
use Rattle.tables.proofs.Names.{some_is, none_is}
use Rattle.guest.specs.GuestWalk.{guest_entry}

first_of_three : (a b c : Bool) → a && b && c ≡ true → a ≡ true
first_of_three true b c e = refl
first_of_three false b c e = e

-- an entry that agrees names a table
pub agrees-named : (M : Machine) (records : List ℕ) (h e : ℕ) → agrees M records h e ≡ true → named M h < table_count M
agrees-named M records h e same = ltb-true (named M h) (table_count M) (first_of_three (ltb (named M h) (table_count M)) _ _ same)

pub agreeing-named : (M : Machine) (records : List ℕ) (h e u : ℕ) → Some u ≡ agreeing M records h e → u < table_count M
agreeing-named M records h e u q =
    let (same-is, eu) = some_is (agrees M records h e) (named M h) u q in
    let n = agrees-named M records h e same-is in omega arith

module _ (M : Machine) (words : List ℕ) (page : ℕ) where
  -- the guest's entry for a table with m tables below it
  abbrev guest_at : ℕ → Guest → ℕ
  guest_at m g = guest_entry M.tables words page (m + 1) g

  -- the shadow's
  abbrev shadow_at : ℕ → ℕ → Shadow → ℕ
  shadow_at m t s = entry_of M s.pool t (index M.tables page (m + 1))

  module _ (m t : ℕ) (g : Guest) (s : Shadow) where
    pub settle-end : m ≡ 0 → settled_at (spot m t g) s ≡ settle M words page m t g s
    unfolding settle
    settle-end q = rw q

    settle-by : 0 < m → settle M words page m t g s ≡ cond (agrees M s.records (shadow_at m t s) (guest_at m g))
        (settle M words page (m - 1) (named M (shadow_at m t s)) (guest (frame_of M.tables (guest_at m g))) s)
        (settled_at (spot m t g) (cut M m t (index M.tables page (m + 1)) s))
    unfolding settle
    settle-by h = go m h
      where
        go : (k : ℕ) → 0 < k → settle M words page k t g s ≡ cond (agrees M s.records (shadow_at k t s) (guest_at k g))
            (settle M words page (k - 1) (named M (shadow_at k t s)) (guest (frame_of M.tables (guest_at k g))) s)
            (settled_at (spot k t g) (cut M k t (index M.tables page (k + 1)) s))
        go zero h = absurd (omega arith)
        go (suc n) h =
            let q : n + 2 ≡ suc n + 1 = omega arith in
            let w : n ≡ suc n - 1 = omega arith in
            ap₂ (λ (l k : ℕ). cond (agrees M s.records (entry_of M s.pool t (index M.tables page l)) (guest_entry M.tables words page l g))
            (settle M words page k (named M (entry_of M s.pool t (index M.tables page l))) (guest (frame_of M.tables (guest_entry M.tables words page l g))) s)
            (settled_at (spot (suc n) t g) (cut M (suc n) t (index M.tables page l) s))) q w

    module _ (pos : 0 < m) {h e : ℕ} (eh : h ≡ shadow_at m t s) (ee : e ≡ guest_at m g) where
      tested : agrees M s.records (shadow_at m t s) (guest_at m g) ≡ agrees M s.records h e
      tested = ap₂ (agrees M s.records) (sym eh) (sym ee)

      -- the entries agree
      pub settle-on : {u f : ℕ} → Some u ≡ agreeing M s.records h e → f ≡ frame_of M.tables e
          → settle M words page (m - 1) u (guest f) s ≡ settle M words page m t g s
      settle-on {u = u} same ef =
          let (same-is, eu) = some_is (agrees M s.records h e) (named M h) u same in
          (λ j. settle M words page (m - 1) ((eu ∙ ap (named M) eh) j) (guest ((ef ∙ ap (frame_of M.tables) ee) j)) s)
          ∙ sym (settle-by pos ∙ ap (λ (b : Bool). cond b
          (settle M words page (m - 1) (named M (shadow_at m t s)) (guest (frame_of M.tables (guest_at m g))) s)
          (settled_at (spot m t g) (cut M m t (index M.tables page (m + 1)) s))) (tested ∙ same-is))

      -- they do not
      pub settle-cut : None ≡ agreeing M s.records h e → {i : ℕ} {s' : Shadow} → i ≡ index M.tables page (m + 1) → s' ≡ cut M m t i s
          → settled_at (spot m t g) s' ≡ settle M words page m t g s
      settle-cut differs ei es =
          ap (settled_at (spot m t g)) (es ∙ ap (λ (i : ℕ). cut M m t i s) ei)
          ∙ sym (settle-by pos ∙ ap (λ (b : Bool). cond b
          (settle M words page (m - 1) (named M (shadow_at m t s)) (guest (frame_of M.tables (guest_at m g))) s)
          (settled_at (spot m t g) (cut M m t (index M.tables page (m + 1)) s))) (tested ∙ none_is (agrees M s.records h e) (named M h) differs))

    module _ (map : List ℕ) (p : ℕ) where
      pub build-end : m ≡ 0 → {e x i : ℕ} {s' : Shadow} → e ≡ guest_entry M.tables words page 1 g → x ≡ leaf_of M.tables map e
          → i ≡ index M.tables page 1 → s' ≡ on_pool (with_entry M t i x) s → s' ≡ build M map words p page m t g s
      unfolding build
      build-end q ee ex ei es =
          es ∙ (λ j. on_pool (with_entry M t (ei j) ((ex ∙ ap (leaf_of M.tables map) ee) j)) s) ∙ sym (rw q)

      pub build-on : 0 < m → {w : Spot} {s' : Shadow} → settled_at w s' ≡ hang_next M words p page (m - 1) t g s
          → build M map words p page w.missing w.table w.frame s' ≡ build M map words p page m t g s
      unfolding build
      build-on pos e =
          let q : suc (m - 1) ≡ m = omega arith in
          ap (λ (d : Settled). build M map words p page d.spot.missing d.spot.table d.spot.frame d.shadow) e
          ∙ ap (λ (k : ℕ). build M map words p page k t g s) q
