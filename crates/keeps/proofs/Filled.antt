-- A fill keeps the state rules: with tables enough, or after the share is emptied.
use mathlib.Core.Path.{◌≡◌, refl, subst, ◌∙◌}
use mathlib.Core.Bool.{Bool, true, false, cond}
use mathlib.Core.List.{List}
use mathlib.Core.Logic.{◌⊎◌, inl, inr}
use Prim.Native.Nat.{ℕ, suc, ◌-◌, ◌*◌, ◌^◌, ◌≤◌, ◌<◌}
use native.Mathlib.Omega.{arith}
use lib.Dec.{ltb}
use lib.ListN.{length}
use borrow.Author.Tests.{ltb-false}
use Rattle.paging.specs.declared.Guest.{Guest}
use Rattle.tables.specs.State.{Machine, State, state_of, shadows, root_of}
use Rattle.tables.specs.Steps.{Settled, settle, build, free_count, empty_share}
use Rattle.shadow.proofs.Shares.{enough_free}
use Rattle.trees.proofs.Trees.{Able}
use Rattle.trees.proofs.Settles.{Leads}
use Rattle.trees.proofs.Builds.{Built, filled, refilled}
use Rattle.trees.proofs.Slots.{SameSlot, Empty, Room, same-on, same_empty, empty_slots-length, empty_slots_other, empty_slots-here, flush-length, flush_others, flush-here}
use Rattle.keeps.proofs.RightStates.{Mapped, RightState, room, Reshaped}
use Rattle.keeps.proofs.Takes.{flush_leaves}
use Rattle.slots.specs.Slots.{slot_count, mark_of, flush, empty_slots}
use Rattle.paging.proofs.Counts.{by_cases}
use Rattle.shadow.specs.Fill.{fill}

module _ (M : Machine) (ok : Able M) (spare : M.tables.levels ≤ M.share) (map : List ℕ) (fits : Mapped M map) (p : ℕ) (hp : p < M.processors) (s : State) (r : RightState M map s)
    (page : ℕ) (paged : page < 2 ^ (M.tables.index_bits * M.tables.levels)) (last f : Guest) (x : ℕ) (leads : Leads M s.words page last f x M.tables.levels (shadows s.shadow.records (root_of M p)) 7) where
  abbrev ready : Able M
  ready = ok

  abbrev cr3 : Guest
  cr3 = shadows s.shadow.records (root_of M p)

  here : Room s.slots p
  here = room M ok map fits s.slots r.triples p hp

  from_root : Leads M s.words page last f x (suc (M.tables.levels - 1)) cr3 7
  from_root =
      let q : M.tables.levels ≡ suc (M.tables.levels - 1) = omega (arith, ok.upper) in
      subst (λ (n : ℕ). Leads M s.words page last f x n cr3 7) q leads

  abbrev d : Settled
  d = settle M s.words page (M.tables.levels - 1) (root_of M p) cr3 s.shadow

  -- what a fill leaves of the tables, and of the slots
  pub record Fills (s' : State) : Type 0 where
    pub built : Built M ready map fits.outside s.words p hp page last f x s.shadow s'.shadow
    pub words : s'.words ≡ s.words
    pub beside : (q : ℕ) → (q ≡ p → ⊥) → (k : ℕ) → k < slot_count → SameSlot s.slots s'.slots q k
    pub own : (k : ℕ) → k < slot_count → Empty s'.slots p k ⊎ (SameSlot s.slots s'.slots p k × (mark_of s.slots p k ≤ 1))
    pub triples : length s'.slots ≡ length s.slots

  enough_tables : d.spot.missing ≤ free_count M p d.shadow.records
      → Fills (state_of s.words (build M map s.words p page d.spot.missing d.spot.table d.spot.frame d.shadow) (flush p page s.slots))
  enough_tables free = record {
    built = filled M ready map fits.outside s.words p hp page last f x fits.within fits.guests paged cr3 from_root s.shadow r.law.trees free;
    words = refl;
    beside = λ q ne k hk. flush_others p page s.slots q k hk ne;
    own = λ k hk. flush_leaves p page s.slots k hk here;
    triples = flush-length p page s.slots;
  }

  emptied_share : Fills (state_of s.words (build M map s.words p page (M.tables.levels - 1) (root_of M p) cr3 (empty_share M p d.shadow)) (flush p page (empty_slots p s.slots)))
  emptied_share = record {
    built = refilled M ready map fits.outside s.words p hp page last f x fits.within fits.guests paged cr3 from_root s.shadow r.law.trees
        (enough_free M ok.some spare p hp d.shadow);
    words = refl;
    beside = λ q ne k hk. same-on (empty_slots_other p s.slots q k hk ne) (flush_others p page (empty_slots p s.slots) q k hk ne);
    own = λ k hk. inl (by_cases (flush-here p page (empty_slots p s.slots) k hk (omega (arith, empty_slots-length p s.slots)))
        (λ y. same_empty y.0 (empty_slots-here p s.slots k hk here)) (λ y. y));
    triples = flush-length p page (empty_slots p s.slots) ∙ empty_slots-length p s.slots;
  }

  -- A FILL
  pub fills : Fills (fill M map p page s)
  unfolding fill
  fills = go (ltb (free_count M p d.shadow.records) d.spot.missing) refl
    where
      go : (b : Bool) → ltb (free_count M p d.shadow.records) d.spot.missing ≡ b
          → Fills (cond b (state_of s.words (build M map s.words p page (M.tables.levels - 1) (root_of M p) cr3 (empty_share M p d.shadow)) (flush p page (empty_slots p s.slots)))
          (state_of s.words (build M map s.words p page d.spot.missing d.spot.table d.spot.frame d.shadow) (flush p page s.slots)))
      go true q = emptied_share
      go false q = enough_tables (ltb-false (free_count M p d.shadow.records) d.spot.missing q)

  pub fill_reshapes : Reshaped M ok map fits p s (fill M map p page s)
  fill_reshapes = record {
    trees = fills.built.trees;
    others = fills.built.stays.others;
    beside = fills.beside;
    own = λ k hk. by_cases (fills.own k hk) (λ x. inl x) (λ x. inr (x.0, λ lo. absurd (omega (arith, x.1))));
    triples = fills.triples;
  }
