-- Clearing: the bytes from k on are 0, all others stay. So forgetting and beginning anew marks the held walks again.
use mathlib.Core.Path.{◌≡◌, refl, sym, ◌∙◌, ap}
use mathlib.Core.Logic.{◌⊎◌, inl}
use mathlib.Core.Bool.{not}
use mathlib.Core.List.{List, ◌++◌}
use Prim.Native.Nat.{ℕ, zero, suc, ◌+◌, ◌-◌, ◌≤◌, ◌<◌}
use native.Mathlib.Decide.{ℕ_discrete, dec_lt}
use native.Mathlib.Omega.{arith}
use lib.Dec.{T}
use borrow.Rule.Slice.PartMut.{put_mid}
use Rattle.std.proofs.lemmas.List.{drop-drop, take-append-drop}
use Rattle.std.proofs.lemmas.Grind.{common_steps}
use lib.ListN.{take, drop, replicate, length-take, length-drop, length, get_or, set, length-set}
use lib.Seq.{get_or-set_other}
use Rattle.paging.specs.declared.Guest.{Guest}
use Rattle.paging.specs.declared.Walk.{Walk}
use Rattle.paging.specs.Layout.{Layout}
use Rattle.paging.specs.Walk.{start}
use Rattle.paging.proofs.Numbers.{set_zero}
use Rattle.rules.specs.View.{View}
use Rattle.rules.specs.Kept.{Kept, stay, ends}
use Rattle.held.specs.Work.{cell, work_bytes, HasByte}
use Rattle.held.specs.FollowCode.{cleared, restarted}
use Rattle.held.proofs.Cells.{cell_below}
use Rattle.held.proofs.Closing.{ByteSet, Bits, Grows, follow_grows}
use Rattle.held.proofs.Tracks.{Told, Tracks, begun, kept_byte}

pub cleared_size : (k n : ℕ) (work : List ℕ) → length (cleared k n work) ≡ length work
unfolding cleared
cleared_size k zero work = refl
cleared_size k (suc n) work = cleared_size (k + 1) n (set work k 0) ∙ length-set work k 0

cleared-below : (k n j : ℕ) (work : List ℕ) → j < k → get_or (cleared k n work) j 0 ≡ get_or work j 0
unfolding cleared
cleared-below k zero j work h = refl
cleared-below k (suc n) j work h = cleared-below (k + 1) n j (set work k 0) (omega arith) ∙ get_or-set_other work k j 0 0 (λ e. omega arith)

pub cleared_above : (k n j : ℕ) (work : List ℕ) → k + n ≤ j → get_or (cleared k n work) j 0 ≡ get_or work j 0
unfolding cleared
cleared_above k zero j work h = refl
cleared_above k (suc n) j work h = cleared_above (k + 1) n j (set work k 0) (omega arith) ∙ get_or-set_other work k j 0 0 (λ e. omega arith)

cleared_in : (k n j : ℕ) (work : List ℕ) → k ≤ j → j < k + n → get_or (cleared k n work) j 0 ≡ 0
unfolding cleared
cleared_in k zero j work lo hi = absurd (omega arith)
cleared_in k (suc n) j work lo hi = go (ℕ_discrete j k) (cleared_in (k + 1) n j (set work k 0))
  where
    go : Dec (j ≡ k) → (k + 1 ≤ j → j < k + 1 + n → get_or (cleared (k + 1) n (set work k 0)) j 0 ≡ 0) → get_or (cleared (k + 1) n (set work k 0)) j 0 ≡ 0
    go (yes e) ih = cleared-below (k + 1) n j (set work k 0) (omega arith) ∙ ap (λ (i : ℕ). get_or (set work k 0) i 0) e ∙ set_zero work k
    go (no ne) ih = ih (omega arith) (omega arith)

-- what is cleared, in one piece
piece : (k n : ℕ) (work : List ℕ) → k + n ≤ length work → cleared k n work ≡ take k work ++ (replicate n 0 ++ drop (k + n) work)
unfolding cleared
piece k zero work h = sym (take-append-drop k work) ∙ ap (λ (n : ℕ). take k work ++ drop n work) (omega arith)
piece k (suc n) work h =
    piece (k + 1) n (set work k 0) (omega (arith, length-set work k 0))
    ∙ grind (arith, common_steps)

-- a part that was filled with zeros
pub filled : (k n : ℕ) (work part : List ℕ) → k + n ≤ length work → part ≡ replicate (length (take n (drop k work))) 0 → put_mid k n work part ≡ cleared k n work
filled k n work part fits e =
    let size : length (take n (drop k work)) ≡ n = omega (arith, length-take {A = ℕ}, length-drop {A = ℕ}) in
    rw (e, size, drop-drop, piece k n work fits)

module _ (G from : ℕ) (work : List ℕ) (le : from ≤ work_bytes G) (room : work_bytes G ≤ length work) where
  abbrev kept : List ℕ
  kept = cleared from (work_bytes G - from) work

  kept_room : work_bytes G ≤ length kept
  kept_room = omega (arith, cleared_size from (work_bytes G - from) work)

  kept_bits : Bits G work → Bits G kept
  kept_bits b k lt = go (dec_lt k from)
    where
      go : Dec (k < from) → (get_or kept k 0 ≡ 0) ⊎ (get_or kept k 0 ≡ 1)
      go (yes h) = rw (cleared-below from (work_bytes G - from) k work h) (b k lt)
      go (no h) = inl (cleared_in from (work_bytes G - from) k work (omega arith) (omega arith))

  -- what is still marked lies below, and was marked
  still : (w : Walk) → HasByte G w → ByteSet G kept w → (cell G w < from) × ByteSet G work w
  still w h m = go (dec_lt (cell G w) from)
    where
      go : Dec (cell G w < from) → (cell G w < from) × ByteSet G work w
      go (yes lt) = (lt, sym (cleared-below from (work_bytes G - from) (cell G w) work lt) ∙ m)
      go (no ge) =
          let z = cleared_in from (work_bytes G - from) (cell G w) work (omega arith) (omega (arith, cell_below G w h)) in
          let one : ◌≡◌ {A = ℕ} 0 1 = sym z ∙ m in
          absurd (omega arith)

  below-kept : (w : Walk) → cell G w < from → ByteSet G work w → ByteSet G kept w
  below-kept w lt m = cleared-below from (work_bytes G - from) (cell G w) work lt ∙ m

module _ (Y : Layout) (seen : View) (G page : ℕ) (words : ℕ → List ℕ) (t : Told Y seen G page words) (work : List ℕ) (room : work_bytes G ≤ length work) (cr3 : Guest) where
  -- AT THE START all bytes are forgotten
  pub from_start : seen.begins 0 ≡ start Y cr3 → Tracks Y seen G page words 0 (restarted Y G page (words 0) 0 cr3 work)
  unfolding restarted
  from_start root =
      begun Y seen G page words t 0 (kept G 0 work (omega arith) room) (kept_room G 0 work (omega arith) room)
      (λ k lt. inl (cleared_in 0 (work_bytes G - 0) k work (omega arith) (omega arith)))
      (λ x hx m. absurd (omega (arith, (still G 0 work (omega arith) room x hx m).0)))
      (λ x hx m. absurd (omega (arith, (still G 0 work (omega arith) room x hx m).0)))
      (λ k w e. absurd (omega arith))
      (start Y cr3) root

  -- AFTER AN EVENT THAT ENDS WALKS the bytes of those that it ends are forgotten; what stays is complete
  pub after-end : (n from : ℕ) → from ≤ work_bytes G
      → ((x : Walk) → HasByte G x → cell G x < from → T (not (ends seen x n)))
      → ((x : Walk) → HasByte G x → T (not (ends seen x n)) → cell G x < from)
      → ((x : Walk) → HasByte G x → cell G x < from → x.level ≡ 0)
      → seen.begins (suc n) ≡ start Y cr3 → Tracks Y seen G page words n work
      → Tracks Y seen G page words (suc n) (restarted Y G page (words (suc n)) from cr3 work)
  unfolding restarted
  after-end n from le stays leaves done root old =
      begun Y seen G page words t (suc n) (kept G from work le room) (kept_room G from work le room) (kept_bits G from work le room old.bits)
      (λ x hx m. let (lt, was) = still G from work le room x hx m in stay (old.sound x hx was) (stays x hx lt))
      (λ x hx m. done x hx (still G from work le room x hx m).0)
      (λ k w e h u. let q : k ≡ n = omega arith in left w (rw q at h) (rw q at u))
      (start Y cr3) root
    where
      left : (w : Walk) → Kept seen n w → T (not (ends seen w n)) → ByteSet G (kept G from work le room) w
      left w h u = below-kept G from work le room w (leaves w (kept_byte Y seen G page words t h) u) (old.full w h)

  -- and later bytes stay
  pub restart_grows : (n from : ℕ) → from ≤ work_bytes G → HasByte G (start Y cr3)
      → Grows G (cleared from (work_bytes G - from) work) (restarted Y G page (words n) from cr3 work)
  unfolding restarted
  restart_grows n from le has = follow_grows Y G page (words n) (suc Y.levels) (start Y cr3) (kept G from work le room) (kept_room G from work le room) has
