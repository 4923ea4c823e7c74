-- Where a free table is left one is found, and to hang it uses up one.
use mathlib.Core.Path.{◌≡◌, refl, sym, ap, ap₂, ◌∙◌}
use mathlib.Core.Bool.{Bool, true, false, cond, ◌&&◌}
use mathlib.Core.List.{List}
use Prim.Native.Nat.{ℕ, zero, suc, ◌+◌, ◌*◌, ◌<◌, ◌≤◌}
use native.Mathlib.Decide.{ℕ_discrete}
use native.Mathlib.Omega.{arith}
use lib.Dec.{eqb, ltb}
use borrow.Author.Tests.{lt-ltb, le-ltb}
use lib.ListN.{set}
use lib.Seq.{get_or-set_other}
use Rattle.paging.specs.declared.Guest.{Guest}
use Rattle.std.specs.Prelude.{Option, Some, None, MatchOption}
use Rattle.paging.specs.Numbers.{sum, count, first_from, first}
use Rattle.tables.specs.State.{Machine, record_size, level_of, with_record, table_count, home_of}
use Rattle.tables.specs.Steps.{may_take, free_count, taken}

-- ---- counting and searching

pub count-some : (f : ℕ → Bool) (n : ℕ) → 0 < count n f → (k : ℕ) × (k < n) × (f k ≡ true)
unfolding sum
count-some f zero h = absurd (omega arith)
count-some f (suc n) h = go (f n) refl (count-some f n)
  where
    go : (b : Bool) → f n ≡ b → (0 < count n f → (k : ℕ) × (k < n) × (f k ≡ true)) → (k : ℕ) × (k < suc n) × (f k ≡ true)
    go true e more = (n, omega arith, e)
    go false e more =
        let r = more (omega (arith, h, ap {B = ℕ} (λ (b : Bool). cond b 1 0) e)) in
        (r.0, omega (arith, r.1), r.2)

pub count_same : (f g : ℕ → Bool) (n : ℕ) → ((k : ℕ) → k < n → f k ≡ g k) → count n f ≡ count n g
unfolding sum
count_same f g zero same = refl
count_same f g (suc n) same =
    ap₂ ◌+◌ (count_same f g n (λ k h. same k (omega arith))) (ap {B = ℕ} (λ (b : Bool). cond b 1 0) (same n (omega arith)))

-- two tests that agree but at u
pub count_near : (f g : ℕ → Bool) (u : ℕ) → ((k : ℕ) → (k ≡ u → ⊥) → f k ≡ g k) → (n : ℕ) → count n f ≤ count n g + 1
unfolding sum
count_near f g u same zero = omega arith
count_near f g u same (suc n) = go (ℕ_discrete n u) (f n) (g n) refl refl (count_near f g u same n)
  where
    go : Dec (n ≡ u) → (a b : Bool) → f n ≡ a → g n ≡ b → count n f ≤ count n g + 1 → count n f + cond a 1 0 ≤ count n g + cond b 1 0 + 1
    go (yes q) true b ea eb h = let e = count_same f g n (λ k l. same k (λ s. omega arith)) in omega arith
    go (yes q) false b ea eb h = let e = count_same f g n (λ k l. same k (λ s. omega arith)) in omega arith
    go (no ne) true true ea eb h = omega arith
    go (no ne) true false ea eb h = let z : true ≡ false = sym ea ∙ same n ne ∙ eb in let z : ◌≡◌ {A = ℕ} 0 1 = cc in absurd (omega arith)
    go (no ne) false b ea eb h = omega arith

-- a search ends at the first number that passes, if there is one
module _ (f : ℕ → Bool) where
  first_is : (n i k : ℕ) → i ≤ k → k < i + n → f k ≡ true → ((j : ℕ) → i ≤ j → j < k → f j ≡ false) → first_from i n f ≡ k
  unfolding first_from
  first_is zero i k lo hi here before = absurd (omega arith)
  first_is (suc n) i k lo hi here before =
      go (ℕ_discrete i k) (λ l. first_is n (i + 1) k l (omega arith) here (λ j m h. before j (omega arith) h))
    where
      go : Dec (i ≡ k) → (i + 1 ≤ k → first_from (i + 1) n f ≡ k) → cond (f i) i (first_from (i + 1) n f) ≡ k
      go (yes q) later = rw (ap f q ∙ here) q
      go (no ne) later = rw (before i (omega arith) (omega arith)) (later (omega arith))

  first_is_none : (n i : ℕ) → ((j : ℕ) → i ≤ j → j < i + n → f j ≡ false) → first_from i n f ≡ i + n
  unfolding first_from
  first_is_none zero i none = omega arith
  first_is_none (suc n) i none =
      rw (none i (omega arith) (omega arith)) (first_is_none n (i + 1) (λ j l h. none j (omega arith) (omega arith)) ∙ omega arith)

  -- so says what `find` gives
  pub first_by : (n : ℕ) (r : Option ℕ)
      → MatchOption r ((k : ℕ) → 0 ≤ k → k < n → f k ≡ false) (λ i. (0 ≤ i) × (i < n) × (f i ≡ true) × ((k : ℕ) → 0 ≤ k → k < i → f k ≡ false))
      → r ≡ cond (ltb (first n f) n) (Some (first n f)) None
  first_by n None none =
      let q : first n f ≡ n = first_is_none n 0 (λ j l h. none j l (omega arith)) ∙ omega arith in
      sym (rw (q, le-ltb n n (omega arith)))
  first_by n (Some i) (lo, hi, here, before) = sym (rw (first_is n 0 i lo (omega arith) here before, lt-ltb i n hi))

-- ---- tables

module _ (M : Machine) (p : ℕ) (records : List ℕ) where
  -- A TABLE THAT p MAY TAKE
  pub taken_may : 0 < free_count M p records → (taken M p records < table_count M) × (may_take M p records (taken M p records) ≡ true)
  unfolding free_count taken
  taken_may h =
      let r = count-some (may_take M p records) (table_count M) h in
      M.choose.fair (table_count M) (may_take M p records) r.0 r.1 r.2

  -- a record says nothing of other tables
  pub level_other : (t level : ℕ) (g : Guest) (k : ℕ) → (k ≡ t → ⊥) → level_of (with_record t level g records) k ≡ level_of records k
  level_other t level g k ne =
      get_or-set_other (set records (record_size * t) level) (record_size * t + 1) (record_size * k) g.0 0 (λ q. omega arith)
      ∙ get_or-set_other records (record_size * t) (record_size * k) level 0 (λ q. ne (omega arith))

  pub hang-count : (t level : ℕ) (g : Guest) → free_count M p records ≤ free_count M p (with_record t level g records) + 1
  unfolding free_count
  hang-count t level g =
      count_near (may_take M p records) (may_take M p (with_record t level g records)) t
      (λ k ne. ap (λ (l : ℕ). eqb (home_of M k) p && eqb l 0) (sym (level_other t level g k ne)))
      (table_count M)
