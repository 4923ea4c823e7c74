-- Where the byte of a walk lies: below 40×G, and each walk has its own.
use mathlib.Core.Path.{◌≡◌, refl, sym, ◌∙◌, ap}
use mathlib.Core.Logic.{◌↔◌}
use Prim.Native.Nat.{ℕ, zero, suc, ◌+◌, ◌*◌, ◌/◌, ◌≤◌, ◌<◌}
use native.Mathlib.Nat.{mul-le-mul_right, add_comm, add-mul-div_right, div-eq_of_lt}
use native.Mathlib.Omega.{arith}
use Rattle.paging.specs.declared.Walk.{Walk}
use Rattle.held.specs.Work.{cell, work_bytes, HasByte}

pub row_below : (G : ℕ) (w : Walk) → HasByte G w → w.level * G + w.frame.0 < 5 * G
row_below G w h = omega (arith, mul-le-mul_right G h.level)

pub cell_below : (G : ℕ) (w : Walk) → HasByte G w → cell G w < work_bytes G
cell_below G w h = omega (arith, row_below G w h)

-- ---- each walk has its own byte

high_part : (a b r s : ℕ) → r < 8 → s < 8 → a * 8 + r ≡ b * 8 + s → (a ≡ b) × (r ≡ s)
high_part a b r s hr hs e = (omega arith, omega arith)

row_part : (G l k f g : ℕ) → f < G → g < G → l * G + f ≡ k * G + g → (l ≡ k) × (f ≡ g)
row_part G l k f g hf hg e = (levels, frames levels)
  where
    div : (l f : ℕ) → f < G → (l * G + f) / G ≡ l
    div l f h = ap (λ (x : ℕ). x / G) (add_comm (l * G) f) ∙ add-mul-div_right f l (omega arith) ∙ omega (arith, div-eq_of_lt h)

    levels : l ≡ k
    levels = sym (div l f hf) ∙ ap (λ (x : ℕ). x / G) e ∙ div k g hg

    frames : l ≡ k → f ≡ g
    frames p = let q : l * G ≡ k * G = ap (λ (x : ℕ). x * G) p in omega arith

pub cell-own : (G : ℕ) (v w : Walk) → HasByte G v → HasByte G w → cell G v ≡ cell G w → v ≡ w
cell-own G v w hv hw e =
    let (row, r) = high_part (v.level * G + v.frame.0) (w.level * G + w.frame.0) v.rights w.rights hv.rights hw.rights e in
    let (l, f) = row_part G v.level w.level v.frame.0 w.frame.0 hv.frame hw.frame row in
    λ i. record { level = l i; frame = record { 0 = f i }; rights = r i }

-- the bytes of complete walks come first
pub complete_first : (G : ℕ) (w : Walk) → HasByte G w → (cell G w < 8 * G) ↔ (w.level ≡ 0)
complete_first G w h = (to w.level refl, from)
  where
    to : (l : ℕ) → w.level ≡ l → cell G w < 8 * G → w.level ≡ 0
    to zero e lt = e
    to (suc l) e lt =
        let one : 1 * G ≤ w.level * G = mul-le-mul_right G (omega arith) in
        absurd (omega arith)

    from : w.level ≡ 0 → cell G w < 8 * G
    from e = let z : w.level * G ≡ 0 * G = ap (λ (x : ℕ). x * G) e in omega (arith, h.frame, h.rights)
