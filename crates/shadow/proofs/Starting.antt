-- A setup that no test refuses: what it is known to be, and the state that it leaves.
use mathlib.Core.Path.{◌≡◌, sym, ap, ◌∙◌}
use mathlib.Core.Bool.{Bool, true, not, ◌&&◌}
use mathlib.Core.List.{List, [], ◌∷◌}
use Prim.Native.Nat.{ℕ, ◌+◌, ◌^◌, ◌≤◌}
use native.Mathlib.Omega.{arith}
use lib.Dec.{eqb}
use lib.ListN.{length, get_or, replicate}
use borrow.Author.Tests.{eq-eqb, eqb-true, not-false}
use Rattle.paging.specs.Frame.{map_fits, cr3s_fit}
use Rattle.paging.specs.Numbers.{all}
use Rattle.paging.proofs.Tests.{both}
use Rattle.rules.specs.Refusal.{test}
use Rattle.rules.proofs.Ranges.{clear}
use Rattle.tables.specs.declared.Sizes.{Sizes}
use Rattle.tables.specs.State.{Machine, shadow_of, State, state_of, machine64, table_count}
use Rattle.shadow.specs.declared.Answer.TheVariants.{Done}
use Rattle.shadow.specs.Answer.{gives}
use Rattle.shadow.specs.Refusals.{ranges_fit, lengths_fit, pool_fits, in_pool, frames_fit, setup_refusal}
use Rattle.shadow.specs.Setup.{rooted, after_setup}
use Rattle.shadow.proofs.Sizing.{Ranged, ranged, pool_room, Exact, exact}
use Rattle.tables.specs.SizesCode.{Sized}

module _ (M : Machine) (map cr3s : List ℕ) (s : State) where
  abbrev sizes : Bool
  sizes = ranges_fit M && lengths_fit M map s.shadow s.slots && eqb (length cr3s) M.processors

  -- the facts behind the first two tests
  module _ (fits : sizes ≡ true) (frames : frames_fit M map ≡ true) where
    pub setup_exact : Exact M map s.shadow s.slots
    setup_exact =
        let h = both (ranges_fit M && lengths_fit M map s.shadow s.slots) (eqb (length cr3s) M.processors) fits in
        exact M map s.shadow s.slots (both (ranges_fit M) (lengths_fit M map s.shadow s.slots) h.0).1

    pub setup_cr3s : length cr3s ≡ M.processors
    setup_cr3s =
        eqb-true (length cr3s) M.processors
        (both (ranges_fit M && lengths_fit M map s.shadow s.slots) (eqb (length cr3s) M.processors) fits).1

    pub setup_ranged : Ranged M
    setup_ranged =
        let h = both (ranges_fit M && lengths_fit M map s.shadow s.slots) (eqb (length cr3s) M.processors) fits in
        ranged M (both (ranges_fit M) (lengths_fit M map s.shadow s.slots) h.0).0

    pub setup_room : M.base + table_count M ≤ 2 ^ M.tables.frame_bits
    unfolding frames_fit
    setup_room =
        let g = both (pool_fits M && map_fits (2 ^ M.tables.frame_bits) map) (all (length map) (λ i. not (in_pool M (get_or map i 0)))) frames in
        pool_room M (both (pool_fits M) (map_fits (2 ^ M.tables.frame_bits) map) g.0).0

  module _ (ok : setup_refusal M map cr3s s ≡ 0) where
    pub accepted_sizes : (sizes ≡ true) × (frames_fit M map ≡ true)
    unfolding setup_refusal
    accepted_sizes =
        let c = clear (test 1 (not sizes) ∷ test 2 (not (frames_fit M map)) ∷ test 7 (not (cr3s_fit M.frames cr3s)) ∷ []) (omega arith, (omega arith, (omega arith, tt))) ok in
        (not-false _ c.0, not-false _ c.1.0)

  -- a setup that is accepted
  pub setup_done : setup_refusal M map cr3s s ≡ 0 → {pool records records' slots : List ℕ}
      → pool ≡ replicate (length s.shadow.pool) 0 → records ≡ replicate (length s.shadow.records) 0 → slots ≡ replicate (length s.slots) 0
      → records' ≡ rooted M cr3s records → gives Done (state_of s.words (shadow_of pool records') slots) ≡ after_setup M map cr3s s
  unfolding after_setup
  setup_done ok ep er es em =
      let x = setup_exact (accepted_sizes ok).0 (accepted_sizes ok).1 in
      let zeros : ℕ → List ℕ = λ n. replicate n 0 in
      (λ j. gives Done (state_of s.words (shadow_of ((ep ∙ ap zeros x.words) j) ((em ∙ ap (rooted M cr3s) (er ∙ ap zeros x.pairs)) j)) ((es ∙ ap zeros x.triples) j)))
      ∙ sym (simp (eq-eqb (setup_refusal M map cr3s s) 0 ok))

-- the sizes that the functions ask for
pub setup_sized : (z : Sizes) (map cr3s : List ℕ) (s : State) → sizes (machine64 z) map cr3s s ≡ true → frames_fit (machine64 z) map ≡ true → Sized z
setup_sized z map cr3s s fits frames =
    let r = setup_ranged (machine64 z) map cr3s s fits frames in
    record {
      frames = r.frames.1;
      processors = r.processors.1;
      some = omega (arith, r.share);
      share = r.share.1;
      pool = setup_room (machine64 z) map cr3s s fits frames;
    }
