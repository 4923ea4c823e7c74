-- The index at a level, once for every level and width.
use mathlib.Core.Path.{◌≡◌, sym, ◌∙◌, ap}
use Prim.Native.Nat.{ℕ, zero, suc, ◌+◌, ◌-◌, ◌*◌, ◌/◌, ◌%◌, ◌^◌, ◌≤◌, ◌<◌}
use native.Mathlib.Nat.{mod-lt, mul-suc, mul-add}
use native.Mathlib.Omega.{arith}
use lib.Pow.{pow_pos, shr-shr, field, mod-mod-pow}
use Rattle.paging.specs.Layout.{Layout, page_of, index}

pub index_small : (Y : Layout) (page l : ℕ) → index Y page l < 2 ^ Y.index_bits
unfolding index
index_small Y page l = mod-lt (page / 2 ^ (Y.index_bits * (l - 1))) (pow_pos Y.index_bits)

-- w bits from k on, of the lowest n bits
window : (x w k m : ℕ) → x % 2 ^ (m + w + k) / 2 ^ k % 2 ^ w ≡ x / 2 ^ k % 2 ^ w
window x w k m = ap (λ (y : ℕ). y % 2 ^ w) (field x (m + w) k) ∙ mod-mod-pow (x / 2 ^ k) m w

-- below the page's highest bit there is room for the levels above l, for l's own index, and for those below
room : (w l m : ℕ) → w * (suc l + m) ≡ w * m + w + w * l
room w l m = simp (mul-add, mul-suc) (omega arith)

above : (l L : ℕ) → suc l ≤ L → suc l + (L - suc l) ≡ L
above l L h = omega arith

-- THE INDEX IS THE ADDRESS BITS FROM 12 + 9×(l−1) ON
pub index_of_address : (Y : Layout) (a l : ℕ) → 1 ≤ l → l ≤ Y.levels
    → index Y (page_of Y a) l ≡ a / 2 ^ (12 + Y.index_bits * (l - 1)) % 2 ^ Y.index_bits
unfolding index page_of
index_of_address Y a zero lo hi = absurd (omega arith)
index_of_address Y a (suc l) lo hi =
    let w = Y.index_bits in
    let m = Y.levels - suc l in
    let pred : suc l - 1 ≡ l = omega arith in
    let wide : w * Y.levels ≡ w * m + w + w * l = ap (λ (n : ℕ). w * n) (sym (above l Y.levels hi)) ∙ room w l m in
    rw pred
    (ap (λ (n : ℕ). a / 2 ^ 12 % 2 ^ n / 2 ^ (w * l) % 2 ^ w) wide
    ∙ window (a / 2 ^ 12) w (w * l) (w * m)
    ∙ ap (λ (n : ℕ). n % 2 ^ w) (shr-shr a 12 (w * l)))
