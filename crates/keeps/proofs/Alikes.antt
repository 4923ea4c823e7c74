-- Words whose entries agree but for A and D: stores keep that, setting A or D keeps it, and walks do the same on them.
use mathlib.Core.Path.{◌≡◌, refl, sym, ◌∙◌}
use mathlib.Core.List.{List}
use Prim.Native.Nat.{ℕ, ◌^◌, ◌<◌}
use native.Mathlib.Decide.{ℕ_discrete, dec_lt}
use native.Mathlib.Omega.{arith}
use lib.ListN.{length, get_or, set, length-set}
use lib.Seq.{get_or-set_same, get_or-set_other, set_out}
use Rattle.paging.specs.declared.Walk.{Walk}
use Rattle.paging.specs.Layout.{Layout, get, put, with_bit}
use Rattle.paging.specs.Walk.{step}
use Rattle.paging.specs.Sound.{Alike, Flag, Sound}
use Rattle.paging.proofs.Layouts.{alike_refl, alike_sym, alike_trans, length-put, with_bit_keeps, step_alike}

-- two lists of words, entry by entry
pub record Same (Y : Layout) (xs ys : List ℕ) : Type 0 where
  pub size : length xs ≡ length ys
  pub each : (f i : ℕ) → i < 2 ^ Y.index_bits → Alike (get Y xs f i) (get Y ys f i)

module _ (Y : Layout) where
  pub same_refl : (xs : List ℕ) → Same Y xs xs
  same_refl xs = record { size = refl; each = λ f i h. alike_refl (get Y xs f i) }

  pub same_sym : {xs ys : List ℕ} → Same Y xs ys → Same Y ys xs
  same_sym a = record { size = sym a.size; each = λ f i h. alike_sym (a.each f i h) }

  pub same_trans : {xs ys zs : List ℕ} → Same Y xs ys → Same Y ys zs → Same Y xs zs
  same_trans a b = record { size = a.size ∙ b.size; each = λ f i h. alike_trans (a.each f i h) (b.each f i h) }

  -- a store into both: all entries of its word are those of the new word
  pub same_store : {xs ys : List ℕ} (a b : ℕ) → Same Y xs ys → Same Y (set xs a b) (set ys a b)
  unfolding get
  same_store {xs} {ys} a b s = record {
    size = length-set xs a b ∙ s.size ∙ sym (length-set ys a b);
    each = λ f i h. at f i h (ℕ_discrete (Y.place f i) a) (dec_lt a (length xs));
  }
    where
      at : (f i : ℕ) → i < 2 ^ Y.index_bits → Dec (Y.place f i ≡ a) → Dec (a < length xs)
          → Alike (Y.part i (get_or (set xs a b) (Y.place f i) 0)) (Y.part i (get_or (set ys a b) (Y.place f i) 0))
      at f i h (no n) d = rw (get_or-set_other xs a (Y.place f i) b 0 n, get_or-set_other ys a (Y.place f i) b 0 n) (s.each f i h)
      at f i h (yes e) (yes lt) = rw (e, get_or-set_same xs a b 0 lt, get_or-set_same ys a b 0 (omega (arith, s.size))) (alike_refl (Y.part i b))
      at f i h (yes e) (no ge) = rw (set_out xs a b (omega arith), set_out ys a b (omega (arith, s.size))) (s.each f i h)

module _ (Y : Layout) (ok : Sound Y) where
  -- A or D set in an entry
  pub same_with_bit : (k : ℕ) → Flag k → (xs : List ℕ) (f i : ℕ) → i < 2 ^ Y.index_bits → Same Y (put Y xs f i (with_bit k (get Y xs f i))) xs
  same_with_bit k flag xs f i h = record { size = length-put Y ok xs f i (with_bit k (get Y xs f i)); each = λ g j hj. with_bit_keeps Y ok xs k f i flag h g j hj }

  -- A WALK DOES THE SAME ON BOTH
  pub same_step : {xs ys : List ℕ} → Same Y xs ys → (G : ℕ) (w : Walk) (f i : ℕ) → i < 2 ^ Y.index_bits → step Y G w (get Y xs f i) ≡ step Y G w (get Y ys f i)
  same_step s G w f i h = step_alike Y ok G w (s.each f i h)
