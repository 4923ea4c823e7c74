-- The 64-bit layout is sound, and what follows of every sound layout.
use Rattle.std.specs.Prelude.{Ok, Err}
use mathlib.Core.Path.{◌≡◌, refl, sym, ◌∙◌, ap, ap₂}
use mathlib.Core.Bool.{Bool, true, cond, not}
use mathlib.Core.List.{List}
use mathlib.Core.Logic.{inl, inr}
use Prim.Native.Nat.{ℕ, ◌+◌, ◌-◌, ◌*◌, ◌/◌, ◌%◌, ◌^◌, ◌≤◌, ◌<◌}
use native.Mathlib.Nat.{mul_assoc, mul_comm, add-mul-div_right}
use native.Mathlib.Omega.{arith}
use native.Mathlib.Decide.{ℕ_discrete, dec_lt}
use lib.Dec.{eqb, ltb, eqb→eq}
use borrow.Author.Tests.{eq-eqb}
use lib.Pow.{pow_pos, shr-shr}
use lib.ListN.{length, get_or, set, length-set, get_or-eq_default}
use lib.Seq.{get_or-set_same, get_or-set_other, set_out}
use Rattle.paging.specs.declared.Walk.{Walk}
use Rattle.paging.specs.declared.Stop.TheVariants.{Absent, Beyond, Complete}
use Rattle.paging.specs.Frame.{guest}
use Rattle.paging.specs.Layout.{Layout, tables64, frame_words, bit, get, put, frame_of, rights_of, compose, is_present, with_bit}
use Rattle.paging.specs.Walk.{Step, meet, with_rights, down_to, step}
use Rattle.paging.proofs.Finite.{at-below}
use Rattle.paging.specs.Sound.{Alike, Flag, Sound}

-- bits above A and D, by way of bit 7
above_seven : (e k : ℕ) → e / 2 ^ (7 + k) ≡ e / 128 / 2 ^ k
above_seven e k = sym (shr-shr e 7 k)

module _ (a b d f x : ℕ) (ha : a < 2) (hb : b < 2) (hd : d < 2) (hf : f < 2 ^ tables64.frame_bits) (hx : x < 2) where
  sum-frame : (1 + 2 * a + 4 * b + 32 + 64 * d + 2 ^ 12 * f + x * 2 ^ 63) / 2 ^ 12 % 2 ^ tables64.frame_bits ≡ f
  sum-frame = omega arith

  sum_nx : (1 + 2 * a + 4 * b + 32 + 64 * d + 2 ^ 12 * f + x * 2 ^ 63) / 2 ^ 63 % 2 ≡ x
  sum_nx = omega arith

bit_small : (e k : ℕ) → bit e k < 2
bit_small e k = omega arith

-- the low twelve bits of a composed entry
low_sum : (a b d f x : ℕ) → a < 2 → b < 2 → d < 2 → x % 2 ^ 12 ≡ 0
    → (1 + 2 * a + 4 * b + 32 + 64 * d + 2 ^ 12 * f + x) % 2 ^ 12 ≡ 1 + 2 * a + 4 * b + 32 + 64 * d
low_sum a b d f x ha hb hd h = omega arith

low_present : (e a b d : ℕ) → e % 2 ^ 12 ≡ 1 + 2 * a + 4 * b + 32 + 64 * d → bit e 0 ≡ 1
low_present e a b d h = omega arith

module _ (e a b d : ℕ) (ha : a < 2) (hb : b < 2) (hd : d < 2) (h : e % 2 ^ 12 ≡ 1 + 2 * a + 4 * b + 32 + 64 * d) where
  low_rw : bit e 1 ≡ a
  low_rw = omega arith

  low_us : bit e 2 ≡ b
  low_us = omega arith

  low_dirty : bit e 6 ≡ d
  low_dirty = omega arith

three_bits : (r : ℕ) → r < 8 → bit r 0 + 2 * bit r 1 + 4 * (1 - (1 - bit r 2)) ≡ r
three_bits r h = eqb→eq _ r (at-below 8 (λ r. eqb (bit r 0 + 2 * bit r 1 + 4 * (1 - (1 - bit r 2))) r) tt r h)

-- bits below 5
low_zero : (e d : ℕ) → e % 32 ≡ d % 32 → bit e 0 ≡ bit d 0
low_zero e d h = omega arith

low_one : (e d : ℕ) → e % 32 ≡ d % 32 → bit e 1 ≡ bit d 1
low_one e d h = omega arith

low_two : (e d : ℕ) → e % 32 ≡ d % 32 → bit e 2 ≡ bit d 2
low_two e d h = omega arith

low_with_bit : (e x m : ℕ) → (e + x * (32 * m)) % 32 ≡ e % 32
low_with_bit e x m = ap (λ (y : ℕ). (e + y) % 32) (ap (λ (y : ℕ). x * y) (mul_comm 32 m) ∙ sym (mul_assoc x m 32)) ∙ omega arith

pub tables64_sound : Sound tables64
unfolding compose frame_of
tables64_sound = record {
  some_level = omega arith;
  few_levels = omega arith;
  in_frame = λ f i h. omega arith;
  joined = λ i w e h. refl;
  beside = λ f i j w e hi hj ne same. absurd (ne (omega arith));
  bit_set = λ k i w h. refl;
  bit_beside = λ k f i j w h hi hj ne same. absurd (ne (omega arith));
  zero_part = λ i. refl;
  nx_alike = λ {e} {d} a. ap (λ (x : ℕ). x % 2) (above_seven e 56 ∙ ap (λ (x : ℕ). x / 2 ^ 56) a.high ∙ sym (above_seven d 56));
  composed_frame = λ r d f hd hf. sum-frame (bit r 0) (bit r 1) d f (1 - bit r 2) (bit_small r 0) (bit_small r 1) hd hf (omega arith);
  composed_nx = λ r d f hd hf x. sum_nx (bit r 0) (bit r 1) d f (1 - bit r 2) (bit_small r 0) (bit_small r 1) hd hf (omega arith);
  nx_high = λ x. omega arith;
}

-- a step reads P, the frame and the rights, and nothing else
abbrev by_fields : ℕ → Walk → Bool → ℕ → ℕ → Step
by_fields G w here f r =
    cond (eqb w.level 0) (Err Complete)
    (cond (not here) (Err Absent) (cond (ltb f G) (Ok (down_to (with_rights w (meet w.rights r)) (guest f))) (Err Beyond)))

module _ (Y : Layout) (ok : Sound Y) where
  -- entries of different frames lie in different words, and all in the words of their frame
  pub apart : (f g i j : ℕ) → i < 2 ^ Y.index_bits → j < 2 ^ Y.index_bits → Y.place f i ≡ Y.place g j → f ≡ g
  apart f g i j hi hj e = sym (ok.in_frame f i hi) ∙ ap (λ (w : ℕ). w / frame_words) e ∙ ok.in_frame g j hj

  pub inside : (f G i : ℕ) → i < 2 ^ Y.index_bits → f < G → Y.place f i < frame_words * G
  inside f G i hi h = omega (arith, ok.in_frame f i hi)

  pub above : (f G i : ℕ) → i < 2 ^ Y.index_bits → G ≤ f → frame_words * G ≤ Y.place f i
  above f G i hi h = omega (arith, ok.in_frame f i hi)

  pub length-put : (ws : List ℕ) (f i e : ℕ) → length (put Y ws f i e) ≡ length ws
  unfolding put
  length-put ws f i e = simp length-set

  pub get-put : (ws : List ℕ) (f i e : ℕ) → Y.place f i < length ws → e < 2 ^ Y.entry_bits → get Y (put Y ws f i e) f i ≡ e
  unfolding get put
  get-put ws f i e h s = ap (Y.part i) (get_or-set_same ws (Y.place f i) _ 0 h) ∙ ok.joined i _ e s

  -- another entry stays: it lies in another word, or beside this one
  pub get-put_other : (ws : List ℕ) (f g i j e : ℕ) → i < 2 ^ Y.index_bits → j < 2 ^ Y.index_bits → Y.place f i < length ws
      → e < 2 ^ Y.entry_bits → (f ≡ g → i ≡ j → ⊥) → get Y (put Y ws f i e) g j ≡ get Y ws g j
  unfolding get put
  get-put_other ws f g i j e hi hj h s ne = go (ℕ_discrete (Y.place g j) (Y.place f i))
    where
      word : ℕ
      word = Y.join i (get_or ws (Y.place f i) 0) e

      go : Dec (Y.place g j ≡ Y.place f i) → Y.part j (get_or (set ws (Y.place f i) word) (Y.place g j) 0) ≡ Y.part j (get_or ws (Y.place g j) 0)
      go (no other) = ap (Y.part j) (get_or-set_other ws (Y.place f i) (Y.place g j) word 0 other)
      go (yes same) =
          let fg : f ≡ g = apart f g i j hi hj (sym same) in
          let at_f : Y.place f i ≡ Y.place f j = sym same ∙ ap (λ (x : ℕ). Y.place x j) (sym fg) in
          ap (λ (k : ℕ). Y.part j (get_or (set ws (Y.place f i) word) k 0)) same
          ∙ ap (Y.part j) (get_or-set_same ws (Y.place f i) word 0 h)
          ∙ ok.beside f i j _ e hi hj (ne fg) at_f s
          ∙ ap (λ (k : ℕ). Y.part j (get_or ws k 0)) (sym same)

  -- past the words stand zeros
  pub get-past : (ws : List ℕ) (f i : ℕ) → length ws ≤ Y.place f i → get Y ws f i ≡ 0
  unfolding get
  get-past ws f i h = ap (Y.part i) (get_or-eq_default ws 0 {n = Y.place f i} h) ∙ ok.zero_part i

  -- ---- the fields of a composed entry

  module _ (r d f : ℕ) (hr : r < 8) (hd : d < 2) (hf : f < 2 ^ Y.frame_bits) where
    low_bits : compose Y r d f % 2 ^ 12 ≡ 1 + 2 * bit r 0 + 4 * bit r 1 + 32 + 64 * d
    unfolding compose
    low_bits = low_sum (bit r 0) (bit r 1) d f ((1 - bit r 2) * Y.nx_alone) (bit_small r 0) (bit_small r 1) hd (ok.nx_high (1 - bit r 2))

    pub composed_present : is_present (compose Y r d f) ≡ true
    unfolding is_present
    composed_present = eq-eqb _ 1 (low_present _ (bit r 0) (bit r 1) d low_bits)

    pub composed_dirty : bit (compose Y r d f) 6 ≡ d
    composed_dirty = low_dirty (compose Y r d f) (bit r 0) (bit r 1) d (bit_small r 0) (bit_small r 1) hd low_bits

    pub composed_rights : (Y.nx_alone ≡ 0 → bit r 2 ≡ 1) → rights_of Y (compose Y r d f) ≡ r
    unfolding rights_of
    composed_rights x =
        let w = low_rw (compose Y r d f) (bit r 0) (bit r 1) d (bit_small r 0) (bit_small r 1) hd low_bits in
        let u = low_us (compose Y r d f) (bit r 0) (bit r 1) d (bit_small r 0) (bit_small r 1) hd low_bits in
        let n = ok.composed_nx r d f hd hf x in
        rw (w, u, n) (three_bits r hr)

  -- ---- A and D never matter

  pub rights_alike : {e d : ℕ} → Alike e d → rights_of Y e ≡ rights_of Y d
  unfolding rights_of
  rights_alike {e} {d} a = rw (low_one e d a.low, low_two e d a.low, ok.nx_alike a)

  pub frame_alike : {e d : ℕ} → Alike e d → frame_of Y e ≡ frame_of Y d
  unfolding frame_of
  frame_alike {e} {d} a = ap (λ (x : ℕ). x % 2 ^ Y.frame_bits) (above_seven e 5 ∙ ap (λ (x : ℕ). x / 2 ^ 5) a.high ∙ sym (above_seven d 5))

  pub present_alike : {e d : ℕ} → Alike e d → is_present e ≡ is_present d
  unfolding is_present
  present_alike {e} {d} a = rw (low_zero e d a.low)

  -- A AND D NEVER MATTER
  pub step_alike : (G : ℕ) (w : Walk) {e d : ℕ} → Alike e d → step Y G w e ≡ step Y G w d
  unfolding step
  step_alike G w {e} {d} a =
      ap (λ (b : Bool). by_fields G w b (frame_of Y e) (rights_of Y e)) (present_alike a)
      ∙ ap₂ (by_fields G w (is_present d)) (frame_alike a) (rights_alike a)

-- ---- setting A and D

-- what stands above a bit that is set, and below it
with_bit_above : (e k m : ℕ) → with_bit k e / 2 ^ (k + (1 + m)) ≡ e / 2 ^ (k + (1 + m))
unfolding with_bit
with_bit_above e k m =
    sym (shr-shr (with_bit k e) k (1 + m))
    ∙ ap (λ (x : ℕ). x / 2 ^ (1 + m)) (add-mul-div_right e (1 - bit e k) (pow_pos k))
    ∙ sym (shr-shr (e / 2 ^ k + (1 - bit e k)) 1 m)
    ∙ ap (λ (x : ℕ). x / 2 ^ m) (odd (e / 2 ^ k))
    ∙ shr-shr (e / 2 ^ k) 1 m
    ∙ shr-shr e k (1 + m)
  where
    odd : (q : ℕ) → (q + (1 - q % 2)) / 2 ≡ q / 2
    odd q = omega arith

pub with_a_alike : (e : ℕ) → Alike (with_bit 5 e) e
unfolding with_bit
with_a_alike e = record { low = low_with_bit e (1 - bit e 5) 1; high = with_bit_above e 5 1 }

pub with_d_alike : (e : ℕ) → Alike (with_bit 6 e) e
unfolding with_bit
with_d_alike e = record { low = low_with_bit e (1 - bit e 6) 2; high = with_bit_above e 6 0 }

pub with_bit_alike : (k e : ℕ) → Flag k → Alike (with_bit k e) e
with_bit_alike k e (inl a) = rw a (with_a_alike e)
with_bit_alike k e (inr d) = rw d (with_d_alike e)

pub alike_refl : (e : ℕ) → Alike e e
alike_refl e = record { low = refl; high = refl }

pub alike_sym : {e d : ℕ} → Alike e d → Alike d e
alike_sym a = record { low = sym a.low; high = sym a.high }

pub alike_trans : {e d c : ℕ} → Alike e d → Alike d c → Alike e c
alike_trans a b = record { low = a.low ∙ b.low; high = a.high ∙ b.high }

-- ---- a bit of an entry is set in its word: the entry reads with it, and every other entry of the words stays

module _ (Y : Layout) (ok : Sound Y) (ws : List ℕ) (k f i : ℕ) (flag : Flag k) (hi : i < 2 ^ Y.index_bits) where
  abbrev pub with_flag : List ℕ
  with_flag = put Y ws f i (with_bit k (get Y ws f i))

  pub get_with_bit : Y.place f i < length ws → get Y with_flag f i ≡ with_bit k (get Y ws f i)
  unfolding get put
  get_with_bit h = ap (Y.part i) (get_or-set_same ws (Y.place f i) _ 0 h) ∙ ok.bit_set k i (get_or ws (Y.place f i) 0) flag

  pub get_with_bit_other : (g j : ℕ) → j < 2 ^ Y.index_bits → (f ≡ g → i ≡ j → ⊥) → get Y with_flag g j ≡ get Y ws g j
  unfolding get put
  get_with_bit_other g j hj ne = go (ℕ_discrete (Y.place g j) (Y.place f i)) (dec_lt (Y.place f i) (length ws))
    where
      word : ℕ
      word = Y.join i (get_or ws (Y.place f i) 0) (with_bit k (Y.part i (get_or ws (Y.place f i) 0)))

      go : Dec (Y.place g j ≡ Y.place f i) → Dec (Y.place f i < length ws)
          → Y.part j (get_or (set ws (Y.place f i) word) (Y.place g j) 0) ≡ Y.part j (get_or ws (Y.place g j) 0)
      go (no other) d = ap (Y.part j) (get_or-set_other ws (Y.place f i) (Y.place g j) word 0 other)
      go (yes same) (no out) = ap (λ (l : List ℕ). Y.part j (get_or l (Y.place g j) 0)) (set_out ws (Y.place f i) word (omega arith))
      go (yes same) (yes h) =
          let fg : f ≡ g = apart Y ok f g i j hi hj (sym same) in
          let at_f : Y.place f i ≡ Y.place f j = sym same ∙ ap (λ (x : ℕ). Y.place x j) (sym fg) in
          ap (λ (k : ℕ). Y.part j (get_or (set ws (Y.place f i) word) k 0)) same
          ∙ ap (Y.part j) (get_or-set_same ws (Y.place f i) word 0 h)
          ∙ ok.bit_beside k f i j (get_or ws (Y.place f i) 0) flag hi hj (ne fg) at_f
          ∙ ap (λ (k : ℕ). Y.part j (get_or ws k 0)) (sym same)

  -- SO ALL ENTRIES STAY BUT FOR A AND D
  pub with_bit_keeps : (g j : ℕ) → j < 2 ^ Y.index_bits → Alike (get Y with_flag g j) (get Y ws g j)
  with_bit_keeps g j hj = go (ℕ_discrete f g) (ℕ_discrete i j) (dec_lt (Y.place f i) (length ws))
    where
      go : Dec (f ≡ g) → Dec (i ≡ j) → Dec (Y.place f i < length ws) → Alike (get Y with_flag g j) (get Y ws g j)
      go (no a) d e = rw (get_with_bit_other g j hj (λ x y. a x)) (alike_refl (get Y ws g j))
      go (yes a) (no b) e = rw (get_with_bit_other g j hj (λ x y. b y)) (alike_refl (get Y ws g j))
      go (yes a) (yes b) (yes h) = rw (← a, ← b) (rw (get_with_bit h) (with_bit_alike k (get Y ws f i) flag))
      go (yes a) (yes b) (no h) =
          let q : with_flag ≡ ws = unfold put in set_out ws (Y.place f i) _ (omega arith) in
          rw q (alike_refl (get Y ws g j))
