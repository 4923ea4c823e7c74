-- Counting names, entry by entry: the counts say how often each table is named so far.
use mathlib.Core.Path.{◌≡◌, refl, sym, ap, ◌∙◌}
use mathlib.Core.Bool.{Bool, true, false, cond}
use mathlib.Core.List.{List}
use Prim.Native.Nat.{ℕ, zero, suc, ◌+◌, ◌*◌, ◌<◌, ◌≤◌}
use native.Mathlib.Decide.{ℕ_discrete}
use native.Mathlib.Omega.{arith}
use lib.Dec.{eqb}
use lib.ListN.{length, get_or, set, replicate, get_or-replicate}
use lib.Seq.{get_or-set_same, get_or-set_other}
use borrow.Author.Tests.{eq-eqb, ne_eqb}
use Rattle.paging.specs.Numbers.{sum, count}
use Rattle.tables.specs.declared.Sizes.{Sizes}
use Rattle.tables.specs.State.{machine64, table_count, entry_of, named}
use Rattle.tables.proofs.Names.{few}
use Rattle.paging.proofs.Counts.{sum_none, sum_more, count_hit, count_miss, count_small}
use Rattle.lawful.specs.TallyCode.{names_below, Tallied}
use Rattle.tables.specs.SizesCode.{Sized}

-- the entries of t below i are counted too
pub record Tallying (z : Sizes) (pool counts : List ℕ) (t i : ℕ) : Type 0 where
  pub told : (u : ℕ) → u < table_count (machine64 z) → get_or counts u 0 ≡ names_below z pool t u + count i (λ k. eqb (named (machine64 z) (entry_of (machine64 z) pool t k)) u)

pub tally_begin : {z : Sizes} {pool counts : List ℕ} {t : ℕ} → Tallied z pool counts t → Tallying z pool counts t 0
tally_begin {z} {pool} {counts} {t} h = record {
  told = λ u l. omega (arith, h.told u l, sum_none (λ k. cond (eqb (named (machine64 z) (entry_of (machine64 z) pool t k)) u) 1 0));
}

pub tally_end : {z : Sizes} {pool counts : List ℕ} {t i : ℕ} → Tallying z pool counts t i → i ≡ 512 → Tallied z pool counts (t + 1)
tally_end {z} {pool} {counts} {t} h q = record {
  told = λ u l.
      h.told u l
      ∙ ap (λ (n : ℕ). names_below z pool t u + count n (λ k. eqb (named (machine64 z) (entry_of (machine64 z) pool t k)) u)) q
      ∙ sum_more t (λ x. count 512 (λ k. eqb (named (machine64 z) (entry_of (machine64 z) pool x k)) u));
}

-- no table has so many names that they do not fit
sum_small : (f : ℕ → ℕ) → ((k : ℕ) → f k ≤ 512) → (n : ℕ) → sum n f ≤ 512 * n
unfolding sum
sum_small f h zero = omega arith
sum_small f h (suc n) = omega (arith, sum_small f h n, h n)

names_small : (z : Sizes) (pool : List ℕ) (u n : ℕ) → names_below z pool n u ≤ 512 * n
names_small z pool u n =
    sum_small (λ t. count 512 (λ i. eqb (named (machine64 z) (entry_of (machine64 z) pool t i)) u))
    (λ t. count_small 512 (λ i. eqb (named (machine64 z) (entry_of (machine64 z) pool t i)) u)) n

pub tally_small : {z : Sizes} {pool counts : List ℕ} {t i : ℕ} → Tallying z pool counts t i → i ≤ 512 → (u : ℕ) → u < table_count (machine64 z) → get_or counts u 0 ≤ 512 * t + 512
tally_small {z} {pool} {counts} {t} {i} h within u l =
    omega (arith, h.told u l, within, names_small z pool u t, count_small i (λ k. eqb (named (machine64 z) (entry_of (machine64 z) pool t k)) u))

module _ {z : Sizes} {pool counts : List ℕ} {t i v : ℕ} (h : Tallying z pool counts t i) (ev : v ≡ named (machine64 z) (entry_of (machine64 z) pool t i)) where
  -- entry i names another than u, or u
  passed : (u : ℕ) → u < table_count (machine64 z) → (u ≡ v → ⊥) → get_or counts u 0 ≡ names_below z pool t u + count (i + 1) (λ k. eqb (named (machine64 z) (entry_of (machine64 z) pool t k)) u)
  passed u l ne =
      let f : ℕ → Bool = λ k. eqb (named (machine64 z) (entry_of (machine64 z) pool t k)) u in
      let miss : f i ≡ false = ne_eqb (named (machine64 z) (entry_of (machine64 z) pool t i)) u (λ q. ne (sym q ∙ sym ev)) in
      h.told u l ∙ ap (λ (n : ℕ). names_below z pool t u + n) (count_miss i f refl miss)

  counted : (u : ℕ) → u < table_count (machine64 z) → u ≡ v → get_or counts u 0 + 1 ≡ names_below z pool t u + count (i + 1) (λ k. eqb (named (machine64 z) (entry_of (machine64 z) pool t k)) u)
  counted u l q =
      let f : ℕ → Bool = λ k. eqb (named (machine64 z) (entry_of (machine64 z) pool t k)) u in
      let hit : f i ≡ true = eq-eqb (named (machine64 z) (entry_of (machine64 z) pool t i)) u (sym ev ∙ sym q) in
      omega (arith, h.told u l, count_hit i f refl hit)

  pub tally_miss : table_count (machine64 z) ≤ v → Tallying z pool counts t (i + 1)
  tally_miss none = record { told = λ u l. passed u l (λ q. omega arith) }

  pub tally_hit : v < length counts → Tallying z pool (set counts v (get_or counts v 0 + 1)) t (i + 1)
  tally_hit on = record { told = λ u l. go u l (ℕ_discrete u v) }
    where
      go : (u : ℕ) → u < table_count (machine64 z) → Dec (u ≡ v) → get_or (set counts v (get_or counts v 0 + 1)) u 0 ≡ names_below z pool t u + count (i + 1) (λ k. eqb (named (machine64 z) (entry_of (machine64 z) pool t k)) u)
      go u l (yes q) =
          ap (λ (x : ℕ). get_or (set counts v (get_or counts v 0 + 1)) x 0) q
          ∙ get_or-set_same counts v (get_or counts v 0 + 1) 0 on
          ∙ ap (λ (x : ℕ). get_or counts x 0 + 1) (sym q)
          ∙ counted u l q
      go u l (no ne) = get_or-set_other counts v u (get_or counts v 0 + 1) 0 ne ∙ passed u l ne

-- 64 zeros count nothing
pub tally_zero : (z : Sizes) → Sized z → (pool : List ℕ) → Tallied z pool (replicate 64 0) 0
tally_zero z ok pool = record {
  told = λ u l. get_or-replicate 64 u 0 0 (omega (arith, few ok)) ∙ sum_none (λ t. count 512 (λ i. eqb (named (machine64 z) (entry_of (machine64 z) pool t i)) u));
}
