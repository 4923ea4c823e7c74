-- What the tests of sizes and frames say once they are passed.
use mathlib.Core.Path.{◌≡◌}
use mathlib.Core.Bool.{true, ◌&&◌}
use mathlib.Core.List.{List}
use Prim.Native.Nat.{ℕ, ◌+◌, ◌*◌, ◌^◌, ◌<◌, ◌≤◌}
use native.Mathlib.Nat.{mul-le-mul}
use native.Mathlib.Decide.{dec_lt}
use native.Mathlib.Omega.{arith}
use lib.Dec.{eqb, ltb}
use lib.ListN.{length, get_or, get_or-eq_default}
use borrow.Author.Tests.{leb-true, ltb-true, eqb-true}
use Rattle.paging.specs.Frame.{is_new, map_fits}
use Rattle.paging.specs.Layout.{frame_words}
use Rattle.paging.specs.Numbers.{is_between}
use Rattle.paging.proofs.Tests.{both}
use Rattle.paging.proofs.Numbers.{all-at, between}
use Rattle.tables.specs.declared.Sizes.{Sizes}
use Rattle.tables.specs.State.{Machine, Shadow, machine64, record_size, table_count}
use Rattle.shadow.specs.Refusals.{ranges_fit, lengths_fit, pool_fits}
use Rattle.tables.specs.SizesCode.{Sized}

pub record Ranged (M : Machine) : Type 0 where
  pub frames : (1 ≤ M.frames) × (M.frames ≤ 256)
  pub processors : (1 ≤ M.processors) × (M.processors ≤ 4)
  pub share : (M.tables.levels ≤ M.share) × (M.share ≤ 16)

module _ (M : Machine) where
  pub ranged : ranges_fit M ≡ true → Ranged M
  unfolding ranges_fit
  ranged e =
      let h = both (is_between 1 256 M.frames && is_between 1 4 M.processors) (is_between M.tables.levels 16 M.share) e in
      let k = both (is_between 1 256 M.frames) (is_between 1 4 M.processors) h.0 in
      record {
        frames = between 1 256 M.frames k.0;
        processors = between 1 4 M.processors k.1;
        share = between M.tables.levels 16 M.share h.1;
      }

  pub ranged_few : Ranged M → M.processors * M.share ≤ 64
  ranged_few h = mul-le-mul h.processors.1 h.share.1

  pub few : ranges_fit M ≡ true → (M.processors ≤ 4) × (M.processors * M.share ≤ 64)
  few e = let h = ranged e in (h.processors.1, ranged_few h)

  -- the exact lengths
  pub record Exact (map : List ℕ) (s : Shadow) (slots : List ℕ) : Type 0 where
    pub guests : length map ≡ M.frames
    pub words : length s.pool ≡ frame_words * table_count M
    pub pairs : length s.records ≡ record_size * table_count M
    pub triples : length slots ≡ 24 * M.processors

  pub exact : (map : List ℕ) (s : Shadow) (slots : List ℕ) → lengths_fit M map s slots ≡ true → Exact map s slots
  unfolding lengths_fit
  exact map s slots e =
      let a = eqb (length map) M.frames in
      let b = eqb (length s.pool) (frame_words * table_count M) in
      let c = eqb (length s.records) (record_size * table_count M) in
      let h = both (a && b && c) (eqb (length slots) (24 * M.processors)) e in
      let k = both (a && b) c h.0 in
      let l = both a b k.0 in
      record {
        guests = eqb-true (length map) M.frames l.0;
        words = eqb-true (length s.pool) (frame_words * table_count M) l.1;
        pairs = eqb-true (length s.records) (record_size * table_count M) k.1;
        triples = eqb-true (length slots) (24 * M.processors) h.1;
      }

  pub pool_room : pool_fits M ≡ true → M.base + table_count M ≤ 2 ^ M.tables.frame_bits
  unfolding pool_fits
  pool_room e = leb-true (M.base + table_count M) (2 ^ M.tables.frame_bits) e

-- the sizes that the functions ask for
pub sized : (z : Sizes) → ranges_fit (machine64 z) ≡ true → pool_fits (machine64 z) ≡ true → Sized z
sized z r e =
    let h = ranged (machine64 z) r in
    record {
      frames = h.frames.1;
      processors = h.processors.1;
      some = omega (arith, h.share);
      share = h.share.1;
      pool = pool_room (machine64 z) e;
    }

-- every frame of a map that fits is below the limit; past its end stands 0
pub hosts_below : (limit : ℕ) → 0 < limit → (map : List ℕ) → map_fits limit map ≡ true → (i : ℕ) → get_or map i 0 < limit
unfolding map_fits
hosts_below limit pos map e i = go (dec_lt i (length map))
  where
    go : Dec (i < length map) → get_or map i 0 < limit
    go (yes h) = ltb-true (get_or map i 0) limit (both (ltb (get_or map i 0) limit) (is_new map i (get_or map i 0)) (all-at (λ k. ltb (get_or map k 0) limit && is_new map k (get_or map k 0)) (length map) e i h)).0
    go (no h) = omega (arith, get_or-eq_default map 0 {n = i} (omega (arith, h)))
