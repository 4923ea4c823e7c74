-- A frame that is not noted differs from all that are; noting one more keeps the notes.
use mathlib.Core.Path.{◌≡◌, refl, sym, ap, ◌∙◌}
use mathlib.Core.Bool.{true}
use mathlib.Core.List.{List}
use Prim.Native.Nat.{ℕ, zero, suc, ◌+◌, ◌<◌}
use native.Mathlib.Decide.{ℕ_discrete}
use native.Mathlib.Omega.{arith}
use lib.ListN.{get_or, set, length-set}
use lib.Seq.{get_or-set_same, get_or-set_other}
use borrow.Author.Tests.{ne_eqb}
use Rattle.paging.specs.Numbers.{all}
use Rattle.paging.specs.NotesCode.{noted_at, Noted}
use Rattle.paging.specs.Frame.{is_new}

pub not_noted : (map notes : List ℕ) (n f : ℕ) → Noted map notes n → (get_or notes (noted_at f) 0 ≡ 1 → ⊥) → is_new map n f ≡ true
unfolding all
not_noted map notes zero f h no_note = refl
not_noted map notes (suc n) f h no_note =
    let fewer : Noted map notes n = record { room = h.room; each = λ k lt. h.each k (omega arith) } in
    let other = ne_eqb (get_or map n 0) f (λ e. no_note (ap (λ (x : ℕ). get_or notes (noted_at x) 0) (sym e) ∙ h.each n (omega arith))) in
    simp (not_noted map notes n f fewer no_note, other)

pub noted_more : (map notes : List ℕ) (n place : ℕ) → Noted map notes n → place ≡ noted_at (get_or map n 0) → place < 4096
    → Noted map (set notes place 1) (n + 1)
noted_more map notes n place h e low = record { room = length-set notes place 1 ∙ h.room; each = λ k lt. at k lt (ℕ_discrete (noted_at (get_or map k 0)) place) (ℕ_discrete k n) }
  where
    at : (k : ℕ) → k < n + 1 → Dec (noted_at (get_or map k 0) ≡ place) → Dec (k ≡ n) → get_or (set notes place 1) (noted_at (get_or map k 0)) 0 ≡ 1
    at k lt (yes p) d = ap (λ (i : ℕ). get_or (set notes place 1) i 0) p ∙ get_or-set_same notes place 1 0 (omega (arith, h.room))
    at k lt (no p) (yes q) = absurd (p (ap (λ (i : ℕ). noted_at (get_or map i 0)) q ∙ sym e))
    at k lt (no p) (no q) = get_or-set_other notes place (noted_at (get_or map k 0)) 1 0 p ∙ h.each k (omega arith)
