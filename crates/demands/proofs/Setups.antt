-- What a setup that is not refused says, whatever its buffers held: the fresh machine is within the ranges of demand 3.
use mathlib.Core.Path.{◌≡◌}
use mathlib.Core.Bool.{Bool, true, not, ◌&&◌}
use mathlib.Core.List.{List, [], ◌∷◌}
use Prim.Native.Nat.{ℕ, ◌*◌, ◌<◌}
use native.Mathlib.Omega.{arith}
use lib.Dec.{eqb, ltb}
use lib.ListN.{length, get_or}
use borrow.Author.Tests.{eq-eqb, ltb-true, not-false}
use Rattle.paging.specs.Frame.{cr3s_fit}
use Rattle.paging.specs.Layout.{frame_words}
use Rattle.paging.proofs.Numbers.{all-at}
use Rattle.paging.proofs.Tests.{both}
use Rattle.rules.specs.Refusal.{test, refusal}
use Rattle.rules.proofs.Ranges.{clear}
use Rattle.tables.specs.declared.Sizes.{Sizes}
use Rattle.tables.specs.State.{Machine, State, machine64, table_count}
use Rattle.shadow.specs.Refusals.{ranges_fit, lengths_fit, frames_fit, setup_refusal}
use Rattle.shadow.proofs.Starting.{accepted_sizes, setup_exact, setup_cr3s, setup_sized}
use Rattle.trees.proofs.Entries.{able64}
use Rattle.promise.specs.Demand as D
use Rattle.promise.specs.Demand.{Fresh}
use Rattle.promise.proofs.Begun.{begun_trees, begun_triples}

module _ (z : Sizes) (map cr3s : List ℕ) (found : State) (ok : setup_refusal (machine64 z) map cr3s found ≡ 0) where
  abbrev M : Machine
  M = machine64 z

  abbrev sizes? : State → Bool
  sizes? s = ranges_fit M && lengths_fit M map s.shadow s.slots && eqb (length cr3s) M.processors

  shown : (sizes? found ≡ true) × (frames_fit M map ≡ true)
  shown = accepted_sizes M map cr3s found ok

  pub guests : length map ≡ z.frames
  guests = (setup_exact M map cr3s found shown.0 shown.1).guests

  pub starts : length cr3s ≡ z.processors
  starts = setup_cr3s M map cr3s found shown.0 shown.1

  pub frames_fit_lem : frames_fit M map ≡ true
  frames_fit_lem = shown.1

  pub cr3s_fit_lem : cr3s_fit z.frames cr3s ≡ true
  unfolding setup_refusal
  cr3s_fit_lem =
      let tests = test 1 (not (sizes? found)) ∷ test 2 (not (frames_fit M map)) ∷ test 7 (not (cr3s_fit z.frames cr3s)) ∷ [] in
      not-false _ (clear tests (omega arith, (omega arith, (omega arith, tt))) ok).1.1.0

  pub start-below : (q : ℕ) → q < z.processors → get_or cr3s q 0 < z.frames
  unfolding cr3s_fit
  start-below q h = ltb-true _ _ (all-at (λ q. ltb (get_or cr3s q 0) z.frames) (length cr3s) cr3s_fit_lem q (omega (arith, starts)))

  module _ (words : List ℕ) where
    abbrev pub fresh : Fresh
    fresh = record { machine = M; map = map; words = words; cr3s = cr3s }

    -- the buffers that setup leaves would be taken too
    begun-fits : sizes? (D.begun fresh) ≡ true
    unfolding lengths_fit
    begun-fits =
        let able = able64 z (setup_sized z map cr3s found shown.0 shown.1) in
        let exact = (begun_trees M able cr3s words map start-below).exact in
        let s = D.begun fresh in
        let h = both (ranges_fit M && lengths_fit M map found.shadow found.slots) (eqb (length cr3s) M.processors) shown.0 in
        simp (
          (both (ranges_fit M) (lengths_fit M map found.shadow found.slots) h.0).0,
          h.1,
          eq-eqb (length map) M.frames guests,
          eq-eqb (length s.shadow.pool) (frame_words * table_count M) exact.words,
          eq-eqb (length s.shadow.records) (2 * table_count M) exact.pairs,
          eq-eqb (length s.slots) (24 * M.processors) (begun_triples M able cr3s words),
        )

    pub setup_fits_lem : length words ≡ frame_words * z.frames → D.SetupFits fresh
    unfolding setup_refusal refusal
    setup_fits_lem long = record { setup = simp (begun-fits, shown.1, cr3s_fit_lem); words = long }
