-- Emptying a share, by turns: its tables become all zeros and free, but the root keeps its record; all others stay.
use mathlib.Core.Path.{◌≡◌, refl, sym, ap, ◌∙◌}
use mathlib.Core.Bool.{Bool, true, false, cond}
use Prim.Native.Nat.{ℕ, zero, suc, ◌≤◌, ◌<◌}
use native.Mathlib.Decide.{ℕ_discrete, dec_lt}
use native.Mathlib.Omega.{arith}
use lib.Dec.{eqb}
use lib.Pow.{pow_pos}
use borrow.Author.Tests.{eqb-true, eqb-false}
use Rattle.paging.specs.Frame.{guest}
use Rattle.paging.specs.Layout.{put}
use Rattle.paging.specs.Numbers.{each}
use Rattle.tables.specs.State.{Machine, Shadow, on_pool, on_records, with_record, table_count, root_of, owns, entry_count, with_entry}
use Rattle.tables.specs.Steps.{zeroed, empty_own, empty_share}
use Rattle.tables.proofs.Owners.{owner_kept}
use Rattle.trees.proofs.Trees.{Able, Exact, ent, lev, shd, own, Same, same_trans}
use Rattle.trees.proofs.Entries.{entry_here, entry_other, entry_exact, level-here, frame_here, level_other, frame_other, record_exact}

module _ (M : Machine) (ok : Able M) where
  -- ---- zeroing a table

  -- the first n entries of t became 0
  record Zeroed (t n : ℕ) (s s' : Shadow) : Type 0 where
    exact : Exact M s'
    zeros : (k : ℕ) → k < n → k < entry_count M → ent M s' t k ≡ 0
    others : (v k : ℕ) → k < entry_count M → (v ≡ t → ⊥) → ent M s' v k ≡ ent M s v k

  zeroed_more : {t n : ℕ} {s x : Shadow} → t < table_count M → n < entry_count M → Zeroed t n s x → Zeroed t (suc n) s (on_pool (with_entry M t n 0) x)
  zeroed_more {t} {n} {s} {x} ht hn z = record {
    exact = entry_exact M ok x z.exact t n 0 ht hn (pow_pos M.tables.entry_bits);
    zeros = λ k lt hk. at k lt hk (ℕ_discrete k n);
    others = λ v k hk ne. beside v k hk (λ p q. ne (sym p)) ∙ z.others v k hk ne;
  }
    where
      beside : (v k : ℕ) → k < entry_count M → (t ≡ v → n ≡ k → ⊥) → ent M (on_pool (with_entry M t n 0) x) v k ≡ ent M x v k
      beside = entry_other M ok x z.exact t n 0 ht hn (pow_pos M.tables.entry_bits)

      at : (k : ℕ) → k < suc n → k < entry_count M → Dec (k ≡ n) → ent M (on_pool (with_entry M t n 0) x) t k ≡ 0
      at k lt hk (yes q) = ap (ent M (on_pool (with_entry M t n 0) x) t) q ∙ entry_here M ok x z.exact t n 0 ht hn (pow_pos M.tables.entry_bits)
      at k lt hk (no ne) = beside t k hk (λ p q. ne (sym q)) ∙ z.zeros k (omega (arith, ne)) hk

  zeroed_turns : (s : Shadow) → Exact M s → (t n : ℕ) → t < table_count M → n ≤ entry_count M → Zeroed t n s (on_pool (each n (λ i l. put M.tables l t i 0)) s)
  unfolding each
  zeroed_turns s exact t zero ht hn = record { exact = exact; zeros = λ k lt. absurd (omega arith); others = λ v k hk ne. refl }
  zeroed_turns s exact t (suc n) ht hn = zeroed_more ht (omega arith) (zeroed_turns s exact t n ht (omega arith))

  table_zeroed : (s : Shadow) → Exact M s → (t : ℕ) → t < table_count M → Zeroed t (entry_count M) s (on_pool (zeroed M.tables t) s)
  unfolding zeroed
  table_zeroed s exact t ht = zeroed_turns s exact t (entry_count M) ht (omega arith)

  -- ---- emptying a share

  -- of the tables from lo to below hi, those of p were emptied
  pub record Emptied (p lo hi : ℕ) (s s' : Shadow) : Type 0 where
    pub exact : Exact M s'
    pub zeros : (v : ℕ) → lo ≤ v → v < hi → own M s v ≡ p → (k : ℕ) → k < entry_count M → ent M s' v k ≡ 0
    pub free : (v : ℕ) → lo ≤ v → v < hi → own M s v ≡ p → (v ≡ root_of M p → ⊥) → (lev M s' v ≡ 0) × (shd M s' v ≡ 0)
    pub root : (lev M s' (root_of M p) ≡ lev M s (root_of M p)) × (shd M s' (root_of M p) ≡ shd M s (root_of M p))
    pub others : (v : ℕ) → (lo ≤ v → v < hi → own M s v ≡ p → ⊥) → Same M s s' v

  emptied_on : {p lo mid hi : ℕ} {s x y : Shadow} → lo ≤ mid → mid ≤ hi → Emptied p lo mid s x → Emptied p mid hi x y → Emptied p lo hi s y
  emptied_on {p} {lo} {mid} {hi} {s} {x} {y} h₁ h₂ a b = record {
    exact = b.exact;
    zeros = λ v l u o k hk. zeros v l u o k hk (dec_lt v mid);
    free = λ v l u o ne. free v l u o ne (dec_lt v mid);
    root = (b.root.0 ∙ a.root.0, b.root.1 ∙ a.root.1);
    others = λ v no_one.
        let first = a.others v (λ l u o. no_one l (omega arith) o) in
        same_trans first (b.others v (λ l u o. no_one (omega arith) u (sym first.owner ∙ o)));
  }
    where
      kept : (v : ℕ) → v < mid → Same M x y v
      kept v lt = b.others v (λ l u o. omega arith)

      -- a table whose turn comes later has its owner still
      owned : (v : ℕ) → (v < mid → ⊥) → own M s v ≡ p → own M x v ≡ p
      owned v ge o = (a.others v (λ l u o. ge u)).owner ∙ o

      zeros : (v : ℕ) → lo ≤ v → v < hi → own M s v ≡ p → (k : ℕ) → k < entry_count M → Dec (v < mid) → ent M y v k ≡ 0
      zeros v l u o k hk (yes lt) = (kept v lt).entries k hk ∙ a.zeros v l lt o k hk
      zeros v l u o k hk (no ge) = b.zeros v (omega arith) u (owned v ge o) k hk

      free : (v : ℕ) → lo ≤ v → v < hi → own M s v ≡ p → (v ≡ root_of M p → ⊥) → Dec (v < mid) → (lev M y v ≡ 0) × (shd M y v ≡ 0)
      free v l u o ne (yes lt) = let f = a.free v l lt o ne in ((kept v lt).level ∙ f.0, (kept v lt).frame ∙ f.1)
      free v l u o ne (no ge) = b.free v (omega arith) u (owned v ge o) ne

  module _ (p n : ℕ) (x : Shadow) (exact : Exact M x) (table : n < table_count M) where
    abbrev z : Shadow
    z = on_pool (zeroed M.tables n) x

    cleared : Zeroed n (entry_count M) x z
    cleared = table_zeroed x exact n table

    only : {v : ℕ} → n ≤ v → v < suc n → v ≡ n
    only l u = omega arith

    bare : (v : ℕ) → n ≤ v → v < suc n → (k : ℕ) → k < entry_count M → ent M z v k ≡ 0
    bare v l u k hk = ap (λ (t : ℕ). ent M z t k) (only l u) ∙ cleared.zeros k hk hk

    not_mine : (own M x n ≡ p → ⊥) → Emptied p n (suc n) x x
    not_mine ne = record {
      exact = exact;
      zeros = λ v l u o. absurd (ne (ap (own M x) (sym (only l u)) ∙ o));
      free = λ v l u o. absurd (ne (ap (own M x) (sym (only l u)) ∙ o));
      root = (refl, refl);
      others = λ v no_one. record { entries = λ k hk. refl; level = refl; frame = refl; owner = refl };
    }

    other : (v : ℕ) → own M x n ≡ p → (n ≤ v → v < suc n → own M x v ≡ p → ⊥) → v ≡ n → ⊥
    other v mine no_one q = no_one (omega arith) (omega arith) (ap (own M x) q ∙ mine)

    the_root : own M x n ≡ p → n ≡ root_of M p → Emptied p n (suc n) x z
    the_root mine is = record {
      exact = cleared.exact;
      zeros = λ v l u o. bare v l u;
      free = λ v l u o ne. absurd (ne (only l u ∙ is));
      root = (refl, refl);
      others = λ v no_one. record { entries = λ k hk. cleared.others v k hk (other v mine no_one); level = refl; frame = refl; owner = refl };
    }

    below_root : own M x n ≡ p → (n ≡ root_of M p → ⊥) → Emptied p n (suc n) x (on_records (with_record n 0 (guest 0)) z)
    below_root mine below = record {
      exact = record_exact M ok z cleared.exact n 0 (guest 0) table;
      zeros = λ v l u o. bare v l u;
      free = λ v l u o ne. (
        ap (lev M (on_records (with_record n 0 (guest 0)) z)) (only l u) ∙ level-here M ok z cleared.exact n 0 (guest 0) table,
        ap (shd M (on_records (with_record n 0 (guest 0)) z)) (only l u) ∙ frame_here M ok z cleared.exact n 0 (guest 0) table,
      );
      root = (level (root_of M p) (λ q. below (sym q)), frame (root_of M p) (λ q. below (sym q)));
      others = λ v no_one. record {
        entries = λ k hk. cleared.others v k hk (other v mine no_one);
        level = level v (other v mine no_one);
        frame = frame v (other v mine no_one);
        owner = owner_kept M x.records _ v;
      };
    }
      where
        level : (v : ℕ) → (v ≡ n → ⊥) → lev M (on_records (with_record n 0 (guest 0)) z) v ≡ lev M x v
        level = level_other M ok z cleared.exact n 0 (guest 0) table

        frame : (v : ℕ) → (v ≡ n → ⊥) → shd M (on_records (with_record n 0 (guest 0)) z) v ≡ shd M x v
        frame = frame_other M ok z cleared.exact n 0 (guest 0) table

    emptied-turn : Emptied p n (suc n) x (empty_own M p n x)
    emptied-turn = go (owns M p x.records n) (eqb n (root_of M p)) refl refl
      where
        go : (b c : Bool) → owns M p x.records n ≡ b → eqb n (root_of M p) ≡ c → Emptied p n (suc n) x (cond b (cond c z (on_records (with_record n 0 (guest 0)) z)) x)
        go false c e f = not_mine (eqb-false (own M x n) p e)
        go true true e f = the_root (eqb-true (own M x n) p e) (eqb-true n (root_of M p) f)
        go true false e f = below_root (eqb-true (own M x n) p e) (eqb-false n (root_of M p) f)

  emptied-turns : (p : ℕ) (s : Shadow) → Exact M s → (n : ℕ) → n ≤ table_count M → Emptied p 0 n s (each n (empty_own M p) s)
  unfolding each
  emptied-turns p s exact zero h = record {
    exact = exact;
    zeros = λ v l u. absurd (omega arith);
    free = λ v l u. absurd (omega arith);
    root = (refl, refl);
    others = λ v no_one. record { entries = λ k hk. refl; level = refl; frame = refl; owner = refl };
  }
  emptied-turns p s exact (suc n) h =
      let a = emptied-turns p s exact n (omega arith) in
      emptied_on (omega arith) (omega arith) a (emptied-turn p n (each n (empty_own M p) s) a.exact (omega arith))

  pub share_emptied : (p : ℕ) (s : Shadow) → Exact M s → Emptied p 0 (table_count M) s (empty_share M p s)
  unfolding empty_share
  share_emptied p s exact = emptied-turns p s exact (table_count M) (omega arith)
