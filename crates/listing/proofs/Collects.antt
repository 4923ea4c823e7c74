-- The outcomes collected from the bytes of the held walks are the right list.
use Rattle.std.specs.Prelude.{Ok, Err}
use mathlib.Core.Path.{◌≡◌, refl, sym, ◌∙◌, ap, subst}
use mathlib.Core.Logic.{◌⊎◌, inl, inr}
use mathlib.Core.Bool.{Bool, true, false, cond}
use mathlib.Core.List.Memᴰ
use mathlib.Core.List.{List, [], ◌∷◌, ◌++◌, append-nil}
use Prim.Native.Nat.{ℕ, zero, suc, ◌+◌, ◌-◌, ◌*◌, ◌%◌, ◌≤◌, ◌<◌}
use native.Mathlib.Decide.{ℕ_discrete, dec_lt}
use native.Mathlib.Omega.{arith}
use lib.Dec.{eqb}
use lib.ListN.{length, get_or, length-append}
use borrow.Author.Tests.{eq-eqb, eqb-true, not-true}
use Rattle.paging.specs.Walk.{Step}
use Rattle.paging.specs.declared.Walk.{Walk}
use Rattle.paging.specs.declared.Request.{Request}
use Rattle.paging.specs.declared.Stop.TheVariants.{Absent, Beyond, Complete}
use Rattle.paging.specs.Numbers.{each}
use Rattle.paging.specs.Frame.{guest}
use Rattle.paging.specs.Request.{enough}
use Rattle.paging.proofs.Tests.{and_l, and_r, T_true, true_T}
use Rattle.paging.proofs.Numbers.{some_i, some_e}
use Rattle.rules.specs.declared.Outcome.{Outcome}
use Rattle.rules.specs.declared.Outcome.TheVariants.{Address, Fault}
use Rattle.rules.specs.View.{View}
use Rattle.rules.specs.Outcome.{given, Permitted, Before, Rises, RightList}
use Rattle.rules.proofs.Order.{Mem}
use Rattle.rules.specs.Kept.{Kept}
use Rattle.rules.proofs.Steps.{held_is_kept}
use Rattle.held.specs.Work.{cell, work_bytes, HasByte}
use Rattle.held.specs.FollowCode.{is_set, walk_of, step_in}
use Rattle.held.proofs.Cells.{cell_below, cell-own, complete_first}
use Rattle.held.proofs.Closing.{ByteSet}
use Rattle.held.proofs.Tracks.{Told, Tracks, kept_byte}
use Rattle.listing.specs.CollectCode.{Out, out_of, pushed, walk_at, is_absent, is_beyond, serves_with, serves, lacks_at, lacks, stops_at, stops, addresses, collected}
use Rattle.listing.proofs.Bytes.{byte_walk, byte_cell}
use Rattle.listing.proofs.Pairs.{ifs, Wrote, wrote_none, wrote_push}
use Rattle.paging.specs.Layout.{tables64}

-- ---- rising lists grow at their end

rises_snoc : (os : List Outcome) (x : Outcome) → Rises os → ((y : Outcome) → Mem y os → Before y x) → Rises (os ++ (x ∷ []))
rises_snoc [] x h before = ((λ y m. absurd (Memᴰ.not-nil m)), tt)
rises_snoc (o ∷ os) x h before = ((λ y m. pick y (Memᴰ.append_cases os m)), rises_snoc os x h.1 (λ y m. before y (Memᴰ.tail m)))
  where
    pick : (y : Outcome) → Mem y os ⊎ Mem y (x ∷ []) → Before o y
    pick y (inl m) = h.0 y m
    pick y (inr m) = one (Memᴰ.cases_cons m)
      where
        one : (y ≡ x) ⊎ Mem y [] → Before o y
        one (inl e) = rw e (before o (Memᴰ.head refl))
        one (inr k) = absurd (Memᴰ.not-nil k)

rises_ifs : (os : List Outcome) (b : Bool) (x : Outcome) → Rises os → ((y : Outcome) → Mem y os → Before y x) → Rises (os ++ ifs b x)
rises_ifs os true x h before = rises_snoc os x h before
rises_ifs os false x h before = rw (append-nil os) h

-- a member of a list that may have grown
mem_ifs : (os : List Outcome) (b : Bool) (x y : Outcome) → Mem y (os ++ ifs b x) → Mem y os ⊎ ((b ≡ true) × (y ≡ x))
mem_ifs os b x y m = pick (Memᴰ.append_cases os m)
  where
    last : (b : Bool) → Mem y (ifs b x) → (b ≡ true) × (y ≡ x)
    last true k = one (Memᴰ.cases_cons k)
      where
        one : (y ≡ x) ⊎ Mem y [] → (true ≡ true) × (y ≡ x)
        one (inl e) = (refl, e)
        one (inr j) = absurd (Memᴰ.not-nil j)
    last false k = absurd (Memᴰ.not-nil k)

    pick : Mem y os ⊎ Mem y (ifs b x) → Mem y os ⊎ ((b ≡ true) × (y ≡ x))
    pick (inl k) = inl k
    pick (inr k) = inr (last b k)

ifs_new : (os : List Outcome) (b : Bool) (x : Outcome) → b ≡ true → Mem x (os ++ ifs b x)
ifs_new os b x e = rw e (Memᴰ.append_right os (Memᴰ.head refl))

ifs-length : (b : Bool) (x : Outcome) → length (ifs b x) ≤ 1
ifs-length true x = omega arith
ifs-length false x = omega arith

module _ (G page : ℕ) (q : Request) (words work : List ℕ) where
  -- the frames below n that serve
  unfoldable pub found : ℕ → List Outcome
  found zero = []
  found (suc n) = found n ++ ifs (serves G q work n) (Address (guest n))

  -- and the faults that are there, by rising code
  abbrev pub absents : List Outcome
  absents = found G ++ ifs (stops G page words work is_absent) (Fault (0 + q.adds))

  abbrev pub lackings : List Outcome
  lackings = absents ++ ifs (lacks G q work) (Fault (1 + q.adds))

  abbrev pub listed : List Outcome
  listed = lackings ++ ifs (stops G page words work is_beyond) (Fault (9 + q.adds))

  found_e : (n : ℕ) (o : Outcome) → Mem o (found n) → (f : ℕ) × (f < n) × (serves G q work f ≡ true) × (o ≡ Address (guest f))
  unfolding found
  found_e zero o m = absurd (Memᴰ.not-nil m)
  found_e (suc n) o m = pick (mem_ifs (found n) (serves G q work n) (Address (guest n)) o m) (found_e n o)
    where
      pick : Mem o (found n) ⊎ ((serves G q work n ≡ true) × (o ≡ Address (guest n)))
          → (Mem o (found n) → (f : ℕ) × (f < n) × (serves G q work f ≡ true) × (o ≡ Address (guest f)))
          → (f : ℕ) × (f < suc n) × (serves G q work f ≡ true) × (o ≡ Address (guest f))
      pick (inl k) ih = let (f, h, s, e) = ih k in (f, omega arith, s, e)
      pick (inr (s, e)) ih = (n, omega arith, s, e)

  found_i : (n f : ℕ) → f < n → serves G q work f ≡ true → Mem (Address (guest f)) (found n)
  unfolding found
  found_i zero f h s = absurd (omega arith)
  found_i (suc n) f h s = pick (ℕ_discrete f n) (found_i n f)
    where
      pick : Dec (f ≡ n) → (f < n → serves G q work f ≡ true → Mem (Address (guest f)) (found n)) → Mem (Address (guest f)) (found n ++ ifs (serves G q work n) (Address (guest n)))
      pick (yes e) ih = rw e (ifs_new (found n) (serves G q work n) (Address (guest n)) (rw e at s))
      pick (no d) ih = Memᴰ.append_left _ (ih (omega arith) s)

  found_rises : (n : ℕ) → Rises (found n)
  unfolding found
  found_rises zero = tt
  found_rises (suc n) = rises_ifs (found n) (serves G q work n) (Address (guest n)) (found_rises n) (λ y m. let (f, h, s, e) = found_e n y m in rw e h)

  listed_rises : Rises listed
  listed_rises =
      rises_ifs lackings (stops G page words work is_beyond) (Fault (9 + q.adds)) (rises_ifs absents (lacks G q work) (Fault (1 + q.adds)) (rises_ifs (found G) (stops G page words work is_absent) (Fault (0 + q.adds)) (found_rises G) (address (0 + q.adds))) first) second
    where
      address : (c : ℕ) (y : Outcome) → Mem y (found G) → Before y (Fault c)
      address c y m = let (f, h, s, e) = found_e G y m in rw e tt

      first : (y : Outcome) → Mem y absents → Before y (Fault (1 + q.adds))
      first y m = pick (mem_ifs (found G) (stops G page words work is_absent) (Fault (0 + q.adds)) y m)
        where
          pick : Mem y (found G) ⊎ ((stops G page words work is_absent ≡ true) × (y ≡ Fault (0 + q.adds))) → Before y (Fault (1 + q.adds))
          pick (inl k) = address (1 + q.adds) y k
          pick (inr (s, e)) = let lt : 0 + q.adds < 1 + q.adds = omega arith in rw e lt

      second : (y : Outcome) → Mem y lackings → Before y (Fault (9 + q.adds))
      second y m = pick (mem_ifs absents (lacks G q work) (Fault (1 + q.adds)) y m)
        where
          low : Mem y (found G) ⊎ ((stops G page words work is_absent ≡ true) × (y ≡ Fault (0 + q.adds))) → Before y (Fault (9 + q.adds))
          low (inl k) = address (9 + q.adds) y k
          low (inr (s, e)) = let lt : 0 + q.adds < 9 + q.adds = omega arith in rw e lt

          pick : Mem y absents ⊎ ((lacks G q work ≡ true) × (y ≡ Fault (1 + q.adds))) → Before y (Fault (9 + q.adds))
          pick (inl k) = low (mem_ifs (found G) (stops G page words work is_absent) (Fault (0 + q.adds)) y k)
          pick (inr (s, e)) = let lt : 1 + q.adds < 9 + q.adds = omega arith in rw e lt

  -- ---- the writers write it

  addresses_wrote : (before : List ℕ) → 2 * (G + 3) ≤ length before → (n : ℕ) → n ≤ G
      → Wrote before (found n) (each n (λ f. pushed (serves G q work f) (Address (guest f))) (out_of 0 before)) × (length (found n) ≤ n)
  unfolding found each
  addresses_wrote before room zero le = (wrote_none before, omega arith)
  addresses_wrote before room (suc n) le =
      let (w, few) = addresses_wrote before room n (omega arith) in (
        wrote_push before (found n) _ w (omega arith) (serves G q work n) (Address (guest n)),
        omega (arith, length-append (found n) (ifs (serves G q work n) (Address (guest n))), ifs-length (serves G q work n) (Address (guest n))),
      )

  pub collected_wrote : (before : List ℕ) → 2 * (G + 3) ≤ length before → Wrote before listed (collected G page q words work before)
  unfolding collected addresses
  collected_wrote before room =
      let (w, few) = addresses_wrote before room G (omega arith) in
      let s = stops G page words work is_absent in
      let l₀ : length absents ≤ G + 1 = omega (arith, length-append (found G) (ifs s (Fault (0 + q.adds))), ifs-length s (Fault (0 + q.adds))) in
      let m = lacks G q work in
      let l₁ : length lackings ≤ G + 2 = omega (arith, length-append absents (ifs m (Fault (1 + q.adds))), ifs-length m (Fault (1 + q.adds))) in
      let zero-code : 0 + q.adds ≡ q.adds = omega arith in
      let w₀ = ap (λ (n : ℕ). pushed s (Fault n) (each G (λ f. pushed (serves G q work f) (Address (guest f))) (out_of 0 before))) zero-code in
      let w₁ : Wrote before absents (pushed s (Fault q.adds) (each G (λ f. pushed (serves G q work f) (Address (guest f))) (out_of 0 before))) =
      subst (λ (o : Out). Wrote before absents o) w₀ (wrote_push before (found G) _ w (omega arith) s (Fault (0 + q.adds))) in
      wrote_push before lackings _ (wrote_push before absents _ w₁ (omega arith) m (Fault (1 + q.adds))) (omega arith) (stops G page words work is_beyond) (Fault (9 + q.adds))

-- ---- and it is the right one

absent_is : (s : Step) → is_absent s ≡ true → s ≡ Err Absent
absent_is (Ok w) e = cc
absent_is (Err Absent) e = refl
absent_is (Err Beyond) e = cc
absent_is (Err Complete) e = cc

beyond_is : (s : Step) → is_beyond s ≡ true → s ≡ Err Beyond
beyond_is (Ok w) e = cc
beyond_is (Err Absent) e = cc
beyond_is (Err Beyond) e = refl
beyond_is (Err Complete) e = cc

module _ (seen : View) (G page : ℕ) (words : ℕ → List ℕ) (t : Told tables64 seen G page words) (some-frame : 0 < G) (q : Request) (n : ℕ) (work : List ℕ)
    (tracks : Tracks tables64 seen G page words n work) where
  -- the walk of a marked byte is held
  held_at : (k : ℕ) → k < work_bytes G → get_or work k 0 ≡ 1 → Kept seen n (walk_at G k)
  held_at k h m = tracks.sound (walk_at G k) (byte_walk G k some-frame h) (ap (λ (j : ℕ). get_or work j 0) (byte_cell G k some-frame) ∙ m)

  permit : (w : Walk) (s : Step) (o : Outcome) → Kept seen n w → seen.steps n w ≡ s → Mem o (given q w s) → Permitted seen q n o
  permit w s o h e m = record { walk = w; held = (held_is_kept seen t.law n w).1 h; gives = rw e m }

  from_serves : (f : ℕ) → f < G → serves G q work f ≡ true → Permitted seen q n (Address (guest f))
  unfolding serves
  from_serves f hf e =
      let (r, hr, u) = some_e (serves_with G q work f) 8 e in
      let m = eqb-true _ 1 (T_true _ (and_l (is_set G work (walk_of 0 f r)) _ (true_T _ u))) in
      let good : enough q r ≡ true = T_true _ (and_r (is_set G work (walk_of 0 f r)) _ (true_T _ u)) in
      let w = walk_of 0 f r in
      let h = tracks.sound w (record { level = omega arith; frame = hf; rights = hr }) m in
      permit w (Err Complete) (Address (guest f)) h (t.law.done n w refl) (rw good (Memᴰ.head refl))

  from_lacks : lacks G q work ≡ true → Permitted seen q n (Fault (1 + q.adds))
  unfolding lacks
  from_lacks e =
      let (k, hk, u) = some_e (lacks_at q work) (8 * G) e in
      let m = eqb-true (get_or work k 0) 1 (T_true _ (and_l (eqb (get_or work k 0) 1) _ (true_T _ u))) in
      let bad : enough q (k % 8) ≡ false = not-true _ (T_true _ (and_r (eqb (get_or work k 0) 1) _ (true_T _ u))) in
      let in-work : k < work_bytes G = omega arith in
      let w = walk_at G k in
      let top : w.level ≡ 0 = (complete_first G w (byte_walk G k some-frame in-work)).0 (omega (arith, byte_cell G k some-frame)) in
      permit w (Err Complete) (Fault (1 + q.adds)) (held_at k in-work m) (t.law.done n w top) (rw bad (Memᴰ.head refl))

  from_stops : (so : Step → Bool) (s : Step) → ((x : Step) → so x ≡ true → x ≡ s) → (o : Outcome) → ((w : Walk) → Mem o (given q w s))
      → stops G page (words n) work so ≡ true → Permitted seen q n o
  unfolding stops
  from_stops so s is o gives e =
      let (j, hj, u) = some_e (λ j. stops_at G page (words n) work so (8 * G + j)) (32 * G) e in
      let k = 8 * G + j in
      let m = eqb-true (get_or work k 0) 1 (T_true _ (and_l (eqb (get_or work k 0) 1) _ (true_T _ u))) in
      let stopped = T_true _ (and_r (eqb (get_or work k 0) 1) _ (true_T _ u)) in
      permit (walk_at G k) s o (held_at k (omega arith) m) (t.reads n (walk_at G k) ∙ is _ stopped) (gives (walk_at G k))

  -- ---- the other way

  module _ (w : Walk) (h : Kept seen n w) where
    byte : HasByte G w
    byte = kept_byte tables64 seen G page words t h

    walk_back : walk_at G (cell G w) ≡ w
    walk_back =
        cell-own G (walk_at G (cell G w)) w (byte_walk G (cell G w) some-frame (cell_below G w byte)) byte (byte_cell G (cell G w) some-frame)

    to_serves : w.level ≡ 0 → enough q w.rights ≡ true → serves G q work w.frame.0 ≡ true
    unfolding serves
    to_serves z good =
        let m : ByteSet G work (walk_of 0 w.frame.0 w.rights) =
        ap (λ (l : ℕ). get_or work (cell G (walk_of l w.frame.0 w.rights)) 0) (sym z) ∙ tracks.full w h in
        some_i (serves_with G q work w.frame.0) 8 w.rights byte.rights (simp (eq-eqb _ 1 m) good)

    to_lacks : w.level ≡ 0 → enough q w.rights ≡ false → lacks G q work ≡ true
    unfolding lacks
    to_lacks z bad =
        let low : cell G w % 8 ≡ w.rights = omega (arith, byte.rights) in
        let fails : enough q (cell G w % 8) ≡ false = ap (enough q) low ∙ bad in
        some_i (lacks_at q work) (8 * G) (cell G w) ((complete_first G w byte).1 z) (simp (eq-eqb (get_or work (cell G w) 0) 1 (tracks.full w h), fails))

    to_stops : (so : Step → Bool) → (w.level ≡ 0 → ⊥) → so (seen.steps n w) ≡ true → stops G page (words n) work so ≡ true
    unfolding stops
    to_stops so up stopped =
        let high : 8 * G ≤ cell G w = above in
        let j = cell G w - 8 * G in
        let at : 8 * G + j ≡ cell G w = omega arith in
        let m : get_or work (8 * G + j) 0 ≡ 1 = ap (λ (k : ℕ). get_or work k 0) at ∙ tracks.full w h in
        let c : so (step_in tables64 G page (words n) (walk_at G (8 * G + j))) ≡ true =
        ap (λ (k : ℕ). so (step_in tables64 G page (words n) (walk_at G k))) at ∙ ap (λ (v : Walk). so (step_in tables64 G page (words n) v)) walk_back
        ∙ ap so (sym (t.reads n w)) ∙ stopped in
        some_i (λ j. stops_at G page (words n) work so (8 * G + j)) (32 * G) j (omega (arith, cell_below G w byte)) (simp (eq-eqb (get_or work (8 * G + j) 0) 1 m, c))
      where
        above : 8 * G ≤ cell G w
        above = go (dec_lt (cell G w) (8 * G))
          where
            go : Dec (cell G w < 8 * G) → 8 * G ≤ cell G w
            go (yes lt) = absurd (up ((complete_first G w byte).0 lt))
            go (no ge) = omega arith

  -- THE LIST IS RIGHT
  pub listed-right : RightList seen q n (listed G page q (words n) work)
  listed-right = record { rises = listed_rises G page q (words n) work; exact = λ o. (to o, from o) }
    where
      to : (o : Outcome) → Mem o (listed G page q (words n) work) → Permitted seen q n o
      to o m = third (mem_ifs (lackings G page q (words n) work) (stops G page (words n) work is_beyond) (Fault (9 + q.adds)) o m)
        where
          first : Mem o (found G page q (words n) work G) ⊎ ((stops G page (words n) work is_absent ≡ true) × (o ≡ Fault (0 + q.adds))) → Permitted seen q n o
          first (inl k) = let (f, hf, s, e) = found_e G page q (words n) work G o k in rw e (from_serves f hf s)
          first (inr (s, e)) = rw e (from_stops is_absent (Err Absent) absent_is (Fault (0 + q.adds)) (λ w. Memᴰ.head refl) s)

          second : Mem o (absents G page q (words n) work) ⊎ ((lacks G q work ≡ true) × (o ≡ Fault (1 + q.adds))) → Permitted seen q n o
          second (inl k) = first (mem_ifs (found G page q (words n) work G) (stops G page (words n) work is_absent) (Fault (0 + q.adds)) o k)
          second (inr (s, e)) = rw e (from_lacks s)

          third : Mem o (lackings G page q (words n) work) ⊎ ((stops G page (words n) work is_beyond ≡ true) × (o ≡ Fault (9 + q.adds))) → Permitted seen q n o
          third (inl k) = second (mem_ifs (absents G page q (words n) work) (lacks G q work) (Fault (1 + q.adds)) o k)
          third (inr (s, e)) = rw e (from_stops is_beyond (Err Beyond) beyond_is (Fault (9 + q.adds)) (λ w. Memᴰ.head refl) s)

      from : (o : Outcome) → Permitted seen q n o → Mem o (listed G page q (words n) work)
      from o p = by (seen.steps n p.walk) refl p.gives
        where
          h : Kept seen n p.walk
          h = (held_is_kept seen t.law n p.walk).0 p.held

          up : {s : Step} → seen.steps n p.walk ≡ s → (s ≡ (Err Complete) → ⊥) → p.walk.level ≡ 0 → ⊥
          up e d z = d (sym e ∙ t.law.done n p.walk z)

          one : {x : Outcome} → Mem o (x ∷ []) → o ≡ x
          one m = go (Memᴰ.cases_cons m)
            where
              go : {x : Outcome} → (o ≡ x) ⊎ Mem o [] → o ≡ x
              go (inl e) = e
              go (inr k) = absurd (Memᴰ.not-nil k)

          judged : (b : Bool) → enough q p.walk.rights ≡ b → p.walk.level ≡ 0 → o ≡ cond b (Address p.walk.frame) (Fault (1 + q.adds)) → Mem o (listed G page q (words n) work)
          judged true g z e =
              rw e (Memᴰ.append_left _ (Memᴰ.append_left _ (Memᴰ.append_left _ (found_i G page q (words n) work G p.walk.frame.0 (byte p.walk h).frame (to_serves p.walk h z g)))))
          judged false g z e =
              rw e (Memᴰ.append_left _ (ifs_new (absents G page q (words n) work) (lacks G q work) (Fault (1 + q.adds)) (to_lacks p.walk h z g)))

          by : (s : Step) → seen.steps n p.walk ≡ s → Mem o (given q p.walk s) → Mem o (listed G page q (words n) work)
          by (Ok x) e m = absurd (Memᴰ.not-nil m)
          by (Err Absent) e m =
              rw (one m) (Memᴰ.append_left _ (Memᴰ.append_left _ (ifs_new (found G page q (words n) work G) (stops G page (words n) work is_absent) (Fault (0 + q.adds))
              (to_stops p.walk h is_absent (up e (λ d. let z : ◌≡◌ {A = ℕ} 0 1 = cc in omega arith)) (ap is_absent e)))))
          by (Err Beyond) e m =
              rw (one m) (ifs_new (lackings G page q (words n) work) (stops G page (words n) work is_beyond) (Fault (9 + q.adds))
              (to_stops p.walk h is_beyond (up e (λ d. let z : ◌≡◌ {A = ℕ} 0 1 = cc in omega arith)) (ap is_beyond e)))
          by (Err Complete) e m = judged (enough q p.walk.rights) refl (t.law.undone n p.walk e) (one m)
