-- A share that was emptied has a free table for each level below the root: those after its root.
use mathlib.Core.Path.{◌≡◌, sym, ap, ◌∙◌}
use mathlib.Core.Bool.{Bool, true, false, cond}
use mathlib.Core.List.{List}
use mathlib.Core.Logic.{⊎_elim}
use Prim.Native.Nat.{ℕ, zero, suc, ◌+◌, ◌-◌, ◌*◌, ◌<◌, ◌≤◌}
use native.Mathlib.Nat.{eq-or-lt_of_le, div-eq_of_lt-le, mul-le-mul_right, add-mul, one-mul}
use native.Mathlib.Decide.{ℕ_discrete}
use native.Mathlib.Omega.{arith}
use lib.Dec.{eqb}
use lib.ListN.{set}
use lib.Seq.{get_or-set_other}
use borrow.Author.Tests.{eq-eqb, ne_eqb}
use Rattle.paging.specs.Frame.{guest}
use Rattle.paging.specs.Numbers.{sum, count, each}
use Rattle.paging.proofs.Numbers.{set_zero}
use Rattle.tables.specs.State.{Machine, Shadow, on_pool, on_records, record_size, level_of, with_record, table_count, home_of, owner_of, root_of, owns}
use Rattle.tables.specs.Steps.{zeroed, may_take, free_count, empty_own, empty_share}
use Rattle.tables.proofs.Takes.{level_other}
use Rattle.tables.proofs.Owners.{owner_home}

-- a run of numbers that pass
count-run : (f : ℕ → Bool) (a n m : ℕ) → a + m ≤ n → ((k : ℕ) → a ≤ k → k < a + m → f k ≡ true) → m ≤ count n f
unfolding sum
count-run f a zero m h all = omega arith
count-run f a (suc n) zero h all = omega arith
count-run f a (suc n) (suc m) h all =
    ⊎_elim
    (λ (q : a + suc m ≡ suc n). last (count-run f a n m (omega arith) (λ k lo hi. all k lo (omega arith))) (all n (omega arith) (omega arith)))
    (λ (l : a + suc m < suc n). grown (f n) (count-run f a n (suc m) (omega arith) all))
    (eq-or-lt_of_le h)
  where
    last : m ≤ count n f → f n ≡ true → suc m ≤ count n f + cond (f n) 1 0
    last i e = omega (arith, ap {B = ℕ} (λ (b : Bool). cond b 1 0) e)

    grown : (b : Bool) → suc m ≤ count n f → suc m ≤ count n f + cond b 1 0
    grown true i = omega arith
    grown false i = omega arith

-- the level that a free record says
level_free : (records : List ℕ) (t : ℕ) → level_of (with_record t 0 (guest 0) records) t ≡ 0
level_free records t = get_or-set_other (set records (record_size * t) 0) (record_size * t + 1) (record_size * t) 0 0 (λ q. omega arith) ∙ set_zero records (record_size * t)

module _ (M : Machine) (p t : ℕ) (home : home_of M t ≡ p) (below : eqb t (root_of M p) ≡ false) where
  -- the turn at t frees it, and no other turn gives it a level
  own_turn : (s : Shadow) → level_of (empty_own M p t s).records t ≡ 0
  own_turn s = simp (eq-eqb (owner_of M s.records t) p (owner_home M s.records t ∙ home), below) (level_free s.records t)

  other_turn : (k : ℕ) (s : Shadow) → (t ≡ k → ⊥) → level_of s.records t ≡ 0 → level_of (empty_own M p k s).records t ≡ 0
  other_turn k s ne z = go (owns M p s.records k) (eqb k (root_of M p))
    where
      go : (a b : Bool) → level_of (cond a (cond b (on_pool (zeroed M.tables k) s) (on_records (with_record k 0 (guest 0)) (on_pool (zeroed M.tables k) s))) s).records t ≡ 0
      go false b = z
      go true true = z
      go true false = level_other M p s.records k 0 (guest 0) t ne ∙ z

  emptied-level : (n : ℕ) (s : Shadow) → t < n → level_of (each n (empty_own M p) s).records t ≡ 0
  unfolding each
  emptied-level zero s h = absurd (omega arith)
  emptied-level (suc n) s h = go (ℕ_discrete t n) (emptied-level n s)
    where
      go : Dec (t ≡ n) → (t < n → level_of (each n (empty_own M p) s).records t ≡ 0) → level_of (empty_own M p n (each n (empty_own M p) s)).records t ≡ 0
      go (yes q) more = ap (λ (k : ℕ). level_of (empty_own M p k (each n (empty_own M p) s)).records t) (sym q) ∙ own_turn (each n (empty_own M p) s)
      go (no ne) more = other_turn n (each n (empty_own M p) s) ne (more (omega (arith, ne)))

module _ (M : Machine) (some : 0 < M.share) (spare : M.tables.levels ≤ M.share) (p : ℕ) (h : p < M.processors) where
  -- a share lies within the pool
  share_within : root_of M p + M.share ≤ table_count M
  share_within = let l = mul-le-mul_right M.share h in omega (arith, add-mul p 1 M.share, one-mul M.share)

  -- the tables after the root are of p's share
  after_root : (k : ℕ) → root_of M p + 1 ≤ k → k < root_of M p + 1 + (M.tables.levels - 1) → home_of M k ≡ p
  after_root k lo hi = div-eq_of_lt-le M.share (omega arith) (omega (arith, add-mul p 1 M.share, one-mul M.share))

  -- AFTER EMPTYING, AS MANY TABLES ARE FREE AS LIE BELOW THE ROOT
  pub enough_free : (s : Shadow) → M.tables.levels - 1 ≤ free_count M p (empty_share M p s).records
  unfolding free_count empty_share
  enough_free s =
      count-run (may_take M p (each (table_count M) (empty_own M p) s).records) (root_of M p + 1) (table_count M) (M.tables.levels - 1) (omega (arith, share_within)) may
    where
      may : (k : ℕ) → root_of M p + 1 ≤ k → k < root_of M p + 1 + (M.tables.levels - 1) → may_take M p (each (table_count M) (empty_own M p) s).records k ≡ true
      may k lo hi =
          let home = after_root k lo hi in
          let below = ne_eqb k (root_of M p) (λ q. omega arith) in
          let free = emptied-level M p k home below (table_count M) s (omega (arith, share_within)) in
          simp (eq-eqb (home_of M k) p home, eq-eqb _ 0 free)
