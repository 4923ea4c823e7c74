-- A right list has at most G + 3 members: each has a rank below G + 3, and the ranks rise with the list.
use Rattle.std.specs.Prelude.{Ok, Err}
use mathlib.Core.Path.{◌≡◌, refl}
use mathlib.Core.Logic.{◌⊎◌, inl, inr}
use mathlib.Core.Bool.{Bool, true, false, cond}
use mathlib.Core.List.Memᴰ
use mathlib.Core.List.{List, [], ◌∷◌}
use Prim.Native.Nat.{ℕ, suc, ◌+◌, ◌≤◌, ◌<◌}
use native.Mathlib.Omega.{arith}
use lib.ListN.{length}
use Rattle.paging.specs.Walk.{Step}
use Rattle.paging.specs.declared.Guest.{Guest}
use Rattle.paging.specs.declared.Walk.{Walk}
use Rattle.paging.specs.declared.Request.{Request}
use Rattle.paging.specs.declared.Stop.TheVariants.{Absent, Beyond, Complete}
use Rattle.paging.specs.Request.{enough}
use Rattle.rules.specs.declared.Outcome.{Outcome}
use Rattle.rules.specs.declared.Outcome.TheVariants.{Address, Fault}
use Rattle.rules.specs.View.{View}
use Rattle.rules.specs.Outcome.{given, Permitted, Before, Rises, RightList}
use Rattle.rules.proofs.Order.{Mem}
use Rattle.rules.specs.Coherent.{Coherent, Rooted}
use Rattle.rules.proofs.Steps.{held_is_kept, kept_inside}

-- an outcome's place among the frames 0 to G - 1 and the codes a, 1 + a, 9 + a
data Rank (G a : ℕ) : Outcome → ℕ → Type 0 where
  frame : {f : Guest} {r : ℕ} → f.0 < G → r ≡ f.0 → Rank G a (Address f) r
  absent : {c r : ℕ} → c ≡ 0 + a → r ≡ G → Rank G a (Fault c) r
  lacking : {c r : ℕ} → c ≡ 1 + a → r ≡ G + 1 → Rank G a (Fault c) r
  beyond : {c r : ℕ} → c ≡ 9 + a → r ≡ G + 2 → Rank G a (Fault c) r

module _ {G a : ℕ} where
  rank_below : {x : Outcome} {r : ℕ} → Rank G a x r → r < G + 3
  rank_below (frame h e) = omega arith
  rank_below (absent h e) = omega arith
  rank_below (lacking h e) = omega arith
  rank_below (beyond h e) = omega arith

  rank_rises : {x y : Outcome} {r s : ℕ} → Rank G a x r → Rank G a y s → Before x y → r < s
  rank_rises (frame h e) (frame k d) b = omega arith
  rank_rises (frame h e) (absent k d) b = omega arith
  rank_rises (frame h e) (lacking k d) b = omega arith
  rank_rises (frame h e) (beyond k d) b = omega arith
  rank_rises (absent h e) (frame k d) b = absurd b
  rank_rises (absent h e) (absent k d) b = absurd (omega arith)
  rank_rises (absent h e) (lacking k d) b = omega arith
  rank_rises (absent h e) (beyond k d) b = omega arith
  rank_rises (lacking h e) (frame k d) b = absurd b
  rank_rises (lacking h e) (absent k d) b = absurd (omega arith)
  rank_rises (lacking h e) (lacking k d) b = absurd (omega arith)
  rank_rises (lacking h e) (beyond k d) b = omega arith
  rank_rises (beyond h e) (frame k d) b = absurd b
  rank_rises (beyond h e) (absent k d) b = absurd (omega arith)
  rank_rises (beyond h e) (lacking k d) b = absurd (omega arith)
  rank_rises (beyond h e) (beyond k d) b = absurd (omega arith)

  -- a rising list whose first member has rank r has at most G + 3 - r members
  short : (x : Outcome) (xs : List Outcome) (r : ℕ) → Rank G a x r → ((y : Outcome) → Mem y xs → (s : ℕ) × Rank G a y s) → Rises (x ∷ xs) → r + suc (length xs) ≤ G + 3
  short x [] r k all up = omega (arith, rank_below k)
  short x (y ∷ ys) r k all up =
      let (s, j) = all y (Memᴰ.head refl) in
      let le = short y ys s j (λ z m. all z (Memᴰ.tail m)) up.1 in
      omega (arith, rank_rises k j (up.0 y (Memᴰ.head refl)))

  all_short : (xs : List Outcome) → ((y : Outcome) → Mem y xs → (s : ℕ) × Rank G a y s) → Rises xs → length xs ≤ G + 3
  all_short [] all up = omega arith
  all_short (x ∷ xs) all up =
      let (r, k) = all x (Memᴰ.head refl) in
      omega (arith, short x xs r k (λ z m. all z (Memᴰ.tail m)) up)

module _ (seen : View) (q : Request) {L G : ℕ} (law : Coherent seen L G) (root : Rooted seen G) where
  -- what a walk below G gives has a rank
  ranked : (w : Walk) → w.frame.0 < G → (s : Step) (o : Outcome) → Mem o (given q w s) → (r : ℕ) × Rank G q.adds o r
  ranked w h (Ok w') o m = absurd (Memᴰ.not-nil m)
  ranked w h (Err Absent) o m = one (Memᴰ.cases_cons m)
    where
      one : (o ≡ Fault (0 + q.adds)) ⊎ Mem o [] → (r : ℕ) × Rank G q.adds o r
      one (inl e) = rw e (G, absent refl refl)
      one (inr k) = absurd (Memᴰ.not-nil k)
  ranked w h (Err Beyond) o m = one (Memᴰ.cases_cons m)
    where
      one : (o ≡ Fault (9 + q.adds)) ⊎ Mem o [] → (r : ℕ) × Rank G q.adds o r
      one (inl e) = rw e (G + 2, beyond refl refl)
      one (inr k) = absurd (Memᴰ.not-nil k)
  ranked w h (Err Complete) o m = one (enough q w.rights) (Memᴰ.cases_cons m)
    where
      one : (b : Bool) → (o ≡ cond b (Address w.frame) (Fault (1 + q.adds))) ⊎ Mem o [] → (r : ℕ) × Rank G q.adds o r
      one true (inl e) = rw e (w.frame.0, frame h refl)
      one false (inl e) = rw e (G + 1, lacking refl refl)
      one b (inr k) = absurd (Memᴰ.not-nil k)

  -- A RIGHT LIST HAS AT MOST G + 3 MEMBERS
  pub right-length : (n : ℕ) (os : List Outcome) → RightList seen q n os → length os ≤ G + 3
  right-length n os r = all_short os (λ o m. permitted_rank o ((r.exact o).0 m)) r.rises
    where
      permitted_rank : (o : Outcome) → Permitted seen q n o → (r : ℕ) × Rank G q.adds o r
      permitted_rank o p = ranked p.walk (kept_inside seen law root ((held_is_kept seen law n p.walk).0 p.held)) (seen.steps n p.walk) o p.gives
