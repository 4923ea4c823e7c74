-- What the functions of Follow do to the set of marked walks: it grows; it stays within every set that is closed under
-- steps; and it is closed under steps but for the walks that are still to be read again.
use Rattle.std.specs.Prelude.{Ok, Err}
use mathlib.Core.Path.{◌≡◌, refl, sym, ◌∙◌, ap}
use mathlib.Core.Logic.{◌⊎◌, inl, inr}
use mathlib.Core.Bool.{Bool, true, false, cond}
use mathlib.Core.List.{List}
use Prim.Native.Nat.{ℕ, zero, suc, ◌*◌, ◌/◌, ◌≤◌, ◌<◌}
use native.Mathlib.Decide.{ℕ_discrete}
use native.Mathlib.Omega.{arith}
use lib.Dec.{eqb}
use lib.ListN.{length, get_or, set, length-set}
use lib.Seq.{get_or-set_same, get_or-set_other}
use borrow.Author.Tests.{eqb-true, eqb-false}
use Rattle.paging.specs.Walk.{Step}
use Rattle.paging.specs.declared.Walk.{Walk}
use Rattle.paging.specs.declared.Stop.TheVariants.{Absent, Beyond, Complete}
use Rattle.paging.specs.Numbers.{each}
use Rattle.paging.specs.Layout.{Layout, frame_words, index}
use Rattle.held.specs.Work.{cell, work_bytes, HasByte}
use Rattle.held.specs.FollowCode.{is_set, walk_of, onward, step_in, follow, followed, reread, reread_all, reread_at, reread_word}
use Rattle.held.proofs.Cells.{cell_below, cell-own}
use Rattle.held.proofs.Follows.{below}

abbrev pub ByteSet : ℕ → List ℕ → Walk → Type 0
ByteSet G work w = get_or work (cell G w) 0 ≡ 1

-- each byte is 0 or 1
abbrev pub Bits : ℕ → List ℕ → Type 0
Bits G work = (k : ℕ) → k < work_bytes G → (get_or work k 0 ≡ 0) ⊎ (get_or work k 0 ≡ 1)

pub record Grows (G : ℕ) (work work' : List ℕ) : Type 0 where
  pub size : length work' ≡ length work
  pub more : (w : Walk) → ByteSet G work w → ByteSet G work' w
  pub bits : Bits G work → Bits G work'
  pub rest : (k : ℕ) → work_bytes G ≤ k → get_or work' k 0 ≡ get_or work k 0

module _ {G : ℕ} where
  pub grows_refl : (work : List ℕ) → Grows G work work
  grows_refl work = record { size = refl; more = λ w m. m; bits = λ b. b; rest = λ k h. refl }

  pub grows_trans : {a b c : List ℕ} → Grows G a b → Grows G b c → Grows G a c
  grows_trans g h = record {
    size = h.size ∙ g.size;
    more = λ w m. h.more w (g.more w m);
    bits = λ b. h.bits (g.bits b);
    rest = λ k le. h.rest k le ∙ g.rest k le;
  }

  module _ (work : List ℕ) (w : Walk) (room : work_bytes G ≤ length work) (h : HasByte G w) where
    inside : cell G w < length work
    inside = omega (arith, cell_below G w h)

    pub set_here : ByteSet G (set work (cell G w) 1) w
    set_here = get_or-set_same work (cell G w) 1 0 inside

    -- a byte is that of w, or it stays
    abbrev Byte : ℕ → Type 0
    Byte k = ((get_or (set work (cell G w) 1) k 0 ≡ 1) × (k ≡ cell G w)) ⊎ (get_or (set work (cell G w) 1) k 0 ≡ get_or work k 0)

    byte : (k : ℕ) → Byte k
    byte k = go (ℕ_discrete k (cell G w))
      where
        go : Dec (k ≡ cell G w) → Byte k
        go (yes e) = inl (rw e set_here, e)
        go (no n) = inr (get_or-set_other work (cell G w) k 1 0 n)

    pub set_grows : Grows G work (set work (cell G w) 1)
    set_grows = record { size = length-set work (cell G w) 1; more = more; bits = bits; rest = rest }
      where
        more : (x : Walk) → ByteSet G work x → ByteSet G (set work (cell G w) 1) x
        more x m = go (byte (cell G x))
          where
            go : Byte (cell G x) → ByteSet G (set work (cell G w) 1) x
            go (inl (e, _)) = e
            go (inr e) = e ∙ m

        bits : Bits G work → Bits G (set work (cell G w) 1)
        bits b k lt = go (byte k) (b k lt)
          where
            go : Byte k
                → (get_or work k 0 ≡ 0) ⊎ (get_or work k 0 ≡ 1) → (get_or (set work (cell G w) 1) k 0 ≡ 0) ⊎ (get_or (set work (cell G w) 1) k 0 ≡ 1)
            go (inl (e, _)) o = inr e
            go (inr e) (inl o) = inl (e ∙ o)
            go (inr e) (inr o) = inr (e ∙ o)

        rest : (k : ℕ) → work_bytes G ≤ k → get_or (set work (cell G w) 1) k 0 ≡ get_or work k 0
        rest k le = get_or-set_other work (cell G w) k 1 0 (λ e. omega (arith, cell_below G w h))

    pub set_e : (x : Walk) → HasByte G x → ByteSet G (set work (cell G w) 1) x → (x ≡ w) ⊎ ByteSet G work x
    set_e x hx m = go (byte (cell G x))
      where
        go : Byte (cell G x) → (x ≡ w) ⊎ ByteSet G work x
        go (inl (_, e)) = inl (cell-own G x w hx h e)
        go (inr e) = inr (sym e ∙ m)

module _ (Y : Layout) (G page : ℕ) (words : List ℕ) where
  -- every marked walk that goes on, goes on to a marked one, or it passes Pend
  abbrev pub Closed : (Walk → Walk → Type 0) → List ℕ → Type 0
  Closed Pend work = (x y : Walk) → HasByte G x → ByteSet G work x → step_in Y G page words x ≡ Ok y → ByteSet G work y ⊎ Pend x y

  -- all marked walks are of Q, which is closed under steps
  abbrev pub Within : (Walk → Type 0) → List ℕ → Type 0
  Within Q work = (x : Walk) → HasByte G x → ByteSet G work x → Q x

  abbrev pub Onto : (Walk → Type 0) → Type 0
  Onto Q = (x y : Walk) → Q x → step_in Y G page words x ≡ Ok y → Q y

  -- ---- following

  -- one turn: the walk was marked; or it is marked and goes no further; or it is marked and what it goes on to is followed
  data Turn (n : ℕ) (w : Walk) (work : List ℕ) : List ℕ → Type 0 where
    was : {r : List ℕ} → ByteSet G work w → r ≡ work → Turn n w work r
    ends : {r : List ℕ} → ((y : Walk) → step_in Y G page words w ≡ Ok y → ⊥) → r ≡ set work (cell G w) 1 → Turn n w work r
    goes : {r : List ℕ} {w' : Walk} → step_in Y G page words w ≡ Ok w' → r ≡ follow Y G page words n w' (set work (cell G w) 1) → Turn n w work r

  turn : (n : ℕ) (w : Walk) (work : List ℕ) → Turn n w work (follow Y G page words (suc n) w work)
  unfolding follow
  turn n w work = go (is_set G work w) refl (step_in Y G page words w) refl
    where
      never : (s : Step) → step_in Y G page words w ≡ s → ((y : Walk) → s ≡ Ok y → ⊥) → (y : Walk) → step_in Y G page words w ≡ Ok y → ⊥
      never s e n y q = n y (sym e ∙ q)

      go : (b : Bool) → is_set G work w ≡ b → (s : Step) → step_in Y G page words w ≡ s
          → Turn n w work (cond b work (onward (follow Y G page words n) s (set work (cell G w) 1)))
      go true m s e = was (eqb-true _ 1 m) refl
      go false m (Ok w') e = goes e refl
      go false m (Err Absent) e = ends (never (Err Absent) e (λ y q. let z : ◌≡◌ {A = ℕ} 0 1 = cc in omega arith)) refl
      go false m (Err Beyond) e = ends (never (Err Beyond) e (λ y q. let z : ◌≡◌ {A = ℕ} 0 1 = cc in omega arith)) refl
      go false m (Err Complete) e = ends (never (Err Complete) e (λ y q. let z : ◌≡◌ {A = ℕ} 0 1 = cc in omega arith)) refl

  set_size : (work : List ℕ) (w : Walk) → work_bytes G ≤ length work → work_bytes G ≤ length (set work (cell G w) 1)
  set_size work w room = omega (arith, length-set work (cell G w) 1)

  pub follow_grows : (n : ℕ) (w : Walk) (work : List ℕ) → work_bytes G ≤ length work → HasByte G w → Grows G work (follow Y G page words n w work)
  unfolding follow
  follow_grows zero w work room h = grows_refl work
  follow_grows (suc n) w work room h = by (turn n w work) (λ w' e. follow_grows n w' (set work (cell G w) 1) (set_size work w room) (below Y G page words w w' h e).byte)
    where
      by : {r : List ℕ} → Turn n w work r
          → ((w' : Walk) → step_in Y G page words w ≡ Ok w' → Grows G (set work (cell G w) 1) (follow Y G page words n w' (set work (cell G w) 1))) → Grows G work r
      by (was m e) ih = rw e (grows_refl work)
      by (ends s e) ih = rw e (set_grows work w room h)
      by (goes {w' = w'} s e) ih = rw e (grows_trans (set_grows work w room h) (ih w' s))

  pub follow_has : (w : Walk) (work : List ℕ) → work_bytes G ≤ length work → HasByte G w → ByteSet G (followed Y G page words w work) w
  follow_has w work room h = by (turn w.level w work)
    where
      by : {r : List ℕ} → Turn w.level w work r → ByteSet G r w
      by (was m e) = rw e m
      by (ends s e) = rw e (set_here work w room h)
      by (goes {w' = w'} s e) =
          rw e ((follow_grows w.level w' (set work (cell G w) 1) (set_size work w room) (below Y G page words w w' h s).byte).more w (set_here work w room h))

  pub follow_within : (Q : Walk → Type 0) → Onto Q → (n : ℕ) (w : Walk) (work : List ℕ) → work_bytes G ≤ length work → HasByte G w
      → Q w → Within Q work → Within Q (follow Y G page words n w work)
  unfolding follow
  follow_within Q on zero w work room h q in-q = in-q
  follow_within Q on (suc n) w work room h q in-q =
      by (turn n w work) (λ w' e. follow_within Q on n w' (set work (cell G w) 1) (set_size work w room) (below Y G page words w w' h e).byte (on w w' q e) marked)
    where
      marked : Within Q (set work (cell G w) 1)
      marked x hx m = pick (set_e work w room h x hx m)
        where
          pick : (x ≡ w) ⊎ ByteSet G work x → Q x
          pick (inl e) = rw e q
          pick (inr k) = in-q x hx k

      by : {r : List ℕ} → Turn n w work r
          → ((w' : Walk) → step_in Y G page words w ≡ Ok w' → Within Q (follow Y G page words n w' (set work (cell G w) 1))) → Within Q r
      by (was m e) ih = rw e in-q
      by (ends s e) ih = rw e marked
      by (goes {w' = w'} s e) ih = rw e (ih w' s)

  -- a walk goes on to one walk
  one-step : (x y z : Walk) → step_in Y G page words x ≡ Ok y → step_in Y G page words x ≡ Ok z → y ≡ z
  one-step x y z p q = cc

  module _ (Pend : Walk → Walk → Type 0) where
    -- those that go on to w may wait: w is about to be marked
    abbrev Waiting : Walk → Walk → Walk → Type 0
    Waiting w x y = Pend x y ⊎ (y ≡ w)

    pub follow-closed : (n : ℕ) (w : Walk) (work : List ℕ) → w.level < n → work_bytes G ≤ length work → HasByte G w
        → Closed (Waiting w) work → Closed Pend (follow Y G page words n w work)
    follow-closed zero w work lt room h c = absurd (omega arith)
    follow-closed (suc n) w work lt room h c =
        by (turn n w work)
        (λ w' e. follow-closed n w' (set work (cell G w) 1) (omega (arith, (below Y G page words w w' h e).level)) (set_size work w room) (below Y G page words w w' h e).byte)
      where
        g : Grows G work (set work (cell G w) 1)
        g = set_grows work w room h

        -- what was closed is closed once w is marked
        old : (x y : Walk) → ByteSet G work y ⊎ Waiting w x y → ByteSet G (set work (cell G w) 1) y ⊎ Pend x y
        old x y (inl m) = inl (g.more y m)
        old x y (inr (inl p)) = inr p
        old x y (inr (inr e)) = inl (rw e (set_here work w room h))

        -- w was marked already
        same : ByteSet G work w → Closed Pend work
        same m x y hx mx s = pick (c x y hx mx s)
          where
            pick : ByteSet G work y ⊎ Waiting w x y → ByteSet G work y ⊎ Pend x y
            pick (inl k) = inl k
            pick (inr (inl p)) = inr p
            pick (inr (inr e)) = inl (rw e m)

        last : ((y : Walk) → step_in Y G page words w ≡ Ok y → ⊥) → Closed Pend (set work (cell G w) 1)
        last no_step x y hx mx s = pick (set_e work w room h x hx mx)
          where
            pick : (x ≡ w) ⊎ ByteSet G work x → ByteSet G (set work (cell G w) 1) y ⊎ Pend x y
            pick (inl e) = absurd (no_step y (rw e at s))
            pick (inr k) = old x y (c x y hx k s)

        more : (w' : Walk) → step_in Y G page words w ≡ Ok w' → Closed (Waiting w') (set work (cell G w) 1)
        more w' e x y hx mx s = pick (set_e work w room h x hx mx)
          where
            up : ByteSet G (set work (cell G w) 1) y ⊎ Pend x y → ByteSet G (set work (cell G w) 1) y ⊎ Waiting w' x y
            up (inl k) = inl k
            up (inr p) = inr (inl p)

            pick : (x ≡ w) ⊎ ByteSet G work x → ByteSet G (set work (cell G w) 1) y ⊎ Waiting w' x y
            pick (inl q) = inr (inr (one-step w y w' (rw q at s) e))
            pick (inr k) = up (old x y (c x y hx k s))

        by : {r : List ℕ} → Turn n w work r
            → ((w' : Walk) → step_in Y G page words w ≡ Ok w' → Closed (Waiting w') (set work (cell G w) 1) → Closed Pend (follow Y G page words n w' (set work (cell G w) 1)))
            → Closed Pend r
        by (was m e) ih = rw e (same m)
        by (ends s e) ih = rw e (last s)
        by (goes {w' = w'} s e) ih = rw e (ih w' s (more w' s))

  -- ---- reading again

  -- the walk is not marked; or it goes no further; or what it goes on to is followed
  data Again (w : Walk) (work : List ℕ) : List ℕ → Type 0 where
    unmarked : {r : List ℕ} → (ByteSet G work w → ⊥) → r ≡ work → Again w work r
    stuck : {r : List ℕ} → ((y : Walk) → step_in Y G page words w ≡ Ok y → ⊥) → r ≡ work → Again w work r
    onto : {r : List ℕ} {y : Walk} → ByteSet G work w → step_in Y G page words w ≡ Ok y → r ≡ followed Y G page words y work → Again w work r

  again : (w : Walk) (work : List ℕ) → Again w work (reread Y G page words w work)
  unfolding reread
  again w work = go (is_set G work w) refl (step_in Y G page words w) refl
    where
      never : (s : Step) → step_in Y G page words w ≡ s → ((y : Walk) → s ≡ Ok y → ⊥) → (y : Walk) → step_in Y G page words w ≡ Ok y → ⊥
      never s e n y q = n y (sym e ∙ q)

      go : (b : Bool) → is_set G work w ≡ b → (s : Step) → step_in Y G page words w ≡ s → Again w work (cond b (onward (followed Y G page words) s work) work)
      go false m s e = unmarked (eqb-false _ 1 m) refl
      go true m (Ok y) e = onto (eqb-true _ 1 m) e refl
      go true m (Err Absent) e = stuck (never (Err Absent) e (λ y q. let z : ◌≡◌ {A = ℕ} 0 1 = cc in omega arith)) refl
      go true m (Err Beyond) e = stuck (never (Err Beyond) e (λ y q. let z : ◌≡◌ {A = ℕ} 0 1 = cc in omega arith)) refl
      go true m (Err Complete) e = stuck (never (Err Complete) e (λ y q. let z : ◌≡◌ {A = ℕ} 0 1 = cc in omega arith)) refl

  reread_grows : (w : Walk) (work : List ℕ) → work_bytes G ≤ length work → HasByte G w → Grows G work (reread Y G page words w work)
  reread_grows w work room h = by (again w work)
    where
      by : {r : List ℕ} → Again w work r → Grows G work r
      by (unmarked n e) = rw e (grows_refl work)
      by (stuck n e) = rw e (grows_refl work)
      by (onto {y = y} m s e) = rw e (follow_grows (suc y.level) y work room (below Y G page words w y h s).byte)

  reread_within : (Q : Walk → Type 0) → Onto Q → (w : Walk) (work : List ℕ) → work_bytes G ≤ length work → HasByte G w
      → Within Q work → Within Q (reread Y G page words w work)
  reread_within Q on w work room h q = by (again w work)
    where
      by : {r : List ℕ} → Again w work r → Within Q r
      by (unmarked n e) = rw e q
      by (stuck n e) = rw e q
      by (onto {y = y} m s e) = rw e (follow_within Q on (suc y.level) y work room (below Y G page words w y h s).byte (on w y (q w h m) s) q)

  -- w itself need wait no longer
  reread-closed : (Pend : Walk → Walk → Type 0) (w : Walk) (work : List ℕ) → work_bytes G ≤ length work → HasByte G w
      → Closed (λ x y. Pend x y ⊎ (x ≡ w)) work → Closed Pend (reread Y G page words w work)
  reread-closed Pend w work room h c = by (again w work)
    where
      still : (ByteSet G work w → (y : Walk) → step_in Y G page words w ≡ Ok y → ⊥) → Closed Pend work
      still none x y hx mx s = pick (c x y hx mx s)
        where
          pick : ByteSet G work y ⊎ (Pend x y ⊎ (x ≡ w)) → ByteSet G work y ⊎ Pend x y
          pick (inl k) = inl k
          pick (inr (inl p)) = inr p
          pick (inr (inr e)) = absurd (none (rw e at mx) y (rw e at s))

      followed-closed : (y : Walk) → step_in Y G page words w ≡ Ok y → Closed Pend (followed Y G page words y work)
      followed-closed y s x z hx mx q = pick (first x z hx mx q)
        where
          waiting : Closed (Waiting (λ x y. Pend x y ⊎ (x ≡ w)) y) work
          waiting x z hx mx q = up (c x z hx mx q)
            where
              up : ByteSet G work z ⊎ (Pend x z ⊎ (x ≡ w)) → ByteSet G work z ⊎ Waiting (λ x y. Pend x y ⊎ (x ≡ w)) y x z
              up (inl k) = inl k
              up (inr p) = inr (inl p)

          first : Closed (λ x y. Pend x y ⊎ (x ≡ w)) (followed Y G page words y work)
          first = follow-closed (λ x y. Pend x y ⊎ (x ≡ w)) (suc y.level) y work (omega arith) room (below Y G page words w y h s).byte waiting

          pick : ByteSet G (followed Y G page words y work) z ⊎ (Pend x z ⊎ (x ≡ w)) → ByteSet G (followed Y G page words y work) z ⊎ Pend x z
          pick (inl k) = inl k
          pick (inr (inl p)) = inr p
          pick (inr (inr e)) = inl (rw (one-step w z y (rw e at q) s) (follow_has y work room (below Y G page words w y h s).byte))

      by : {r : List ℕ} → Again w work r → Closed Pend r
      by (unmarked n e) = rw e (still (λ m y s. n m))
      by (stuck n e) = rw e (still (λ m y s. n y s))
      by (onto {y = y} m s e) = rw e (followed-closed y s)

  -- ---- all rights of a level and a frame

  module _ (l f : ℕ) (hl : l ≤ 4) (hf : f < G) where
    abbrev turns : ℕ → List ℕ → List ℕ
    turns r work = reread Y G page words (walk_of l f r) work

    has : (r : ℕ) → r < 8 → HasByte G (walk_of l f r)
    has r hr = record { level = hl; frame = hf; rights = hr }

    each_grows : (n : ℕ) (work : List ℕ) → n ≤ 8 → work_bytes G ≤ length work → Grows G work (each n turns work)
    unfolding each
    each_grows zero work le room = grows_refl work
    each_grows (suc n) work le room =
        let g = each_grows n work (omega arith) room in
        grows_trans g (reread_grows (walk_of l f n) (each n turns work) (omega (arith, g.size)) (has n (omega arith)))

    each_within : (Q : Walk → Type 0) → Onto Q → (n : ℕ) (work : List ℕ) → n ≤ 8 → work_bytes G ≤ length work → Within Q work → Within Q (each n turns work)
    unfolding each
    each_within Q on zero work le room q = q
    each_within Q on (suc n) work le room q =
        reread_within Q on (walk_of l f n) (each n turns work) (omega (arith, (each_grows n work (omega arith) room).size)) (has n (omega arith))
        (each_within Q on n work (omega arith) room q)

    -- those with rights n and above wait
    abbrev Rest : ℕ → Walk → Type 0
    Rest n x = (r : ℕ) × (n ≤ r) × (x ≡ walk_of l f r)

    each-closed : (Pend : Walk → Walk → Type 0) (n : ℕ) (work : List ℕ) → n ≤ 8 → work_bytes G ≤ length work
        → Closed (λ x y. Pend x y ⊎ Rest 0 x) work → Closed (λ x y. Pend x y ⊎ Rest n x) (each n turns work)
    unfolding each
    each-closed Pend zero work le room c = c
    each-closed Pend (suc n) work le room c =
        reread-closed (λ x y. Pend x y ⊎ Rest (suc n) x) (walk_of l f n) (each n turns work) (omega (arith, (each_grows n work (omega arith) room).size)) (has n (omega arith))
        (λ x y hx mx s. split x y (each-closed Pend n work (omega arith) room c x y hx mx s))
      where
        next : (x y : Walk) → Rest n x → (Pend x y ⊎ Rest (suc n) x) ⊎ (x ≡ walk_of l f n)
        next x y (r, lo, e) = go (ℕ_discrete r n)
          where
            go : Dec (r ≡ n) → (Pend x y ⊎ Rest (suc n) x) ⊎ (x ≡ walk_of l f n)
            go (yes p) = inr (e ∙ ap (walk_of l f) p)
            go (no p) = inl (inr (r, omega arith, e))

        split : (x y : Walk) → ByteSet G (each n turns work) y ⊎ (Pend x y ⊎ Rest n x)
            → ByteSet G (each n turns work) y ⊎ ((Pend x y ⊎ Rest (suc n) x) ⊎ (x ≡ walk_of l f n))
        split x y (inl k) = inl k
        split x y (inr (inl p)) = inr (inl (inl p))
        split x y (inr (inr t)) = inr (next x y t)

    all_closed : (Pend : Walk → Walk → Type 0) (work : List ℕ) → work_bytes G ≤ length work
        → Closed (λ x y. Pend x y ⊎ Rest 0 x) work → Closed Pend (reread_all Y G page words l f work)
    unfolding reread_all
    all_closed Pend work room c x y hx mx s = pick (each-closed Pend 8 work (omega arith) room c x y hx mx s)
      where
        pick : ByteSet G (each 8 turns work) y ⊎ (Pend x y ⊎ Rest 8 x) → ByteSet G (each 8 turns work) y ⊎ Pend x y
        pick (inl k) = inl k
        pick (inr (inl p)) = inr p
        pick (inr (inr (r, lo, e))) = absurd (omega (arith, hx.rights, ap (λ (v : Walk). v.rights) e))

    pub all_grows : (work : List ℕ) → work_bytes G ≤ length work → Grows G work (reread_all Y G page words l f work)
    unfolding reread_all
    all_grows work room = each_grows 8 work (omega arith) room

    all_within : (Q : Walk → Type 0) → Onto Q → (work : List ℕ) → work_bytes G ≤ length work → Within Q work → Within Q (reread_all Y G page words l f work)
    unfolding reread_all
    all_within Q on work room q = each_within Q on 8 work (omega arith) room q

  -- ---- the walks that stand on a word

  module _ (a : ℕ) (ha : a < frame_words * G) where
    -- at level l or below, their entry lies in word a
    pub record Stands (l : ℕ) (x : Walk) : Type 0 where
      pub frame : x.frame.0 ≡ a / frame_words
      pub place : Y.place (a / frame_words) (index Y page x.level) ≡ a
      pub level : x.level ≤ l

    frame_in : a / frame_words < G
    frame_in = omega arith

    at_by : (P : List ℕ → Type 0) (l : ℕ) (work : List ℕ) → (Y.place (a / frame_words) (index Y page l) ≡ a → P (reread_all Y G page words l (a / frame_words) work))
        → ((Y.place (a / frame_words) (index Y page l) ≡ a → ⊥) → P work) → P (reread_at Y G page words a l work)
    unfolding reread_at
    at_by P l work here there = go (eqb (Y.place (a / frame_words) (index Y page l)) a) refl
      where
        go : (b : Bool) → eqb (Y.place (a / frame_words) (index Y page l)) a ≡ b → P (cond b (reread_all Y G page words l (a / frame_words) work) work)
        go true e = here (eqb-true _ _ e)
        go false e = there (eqb-false _ _ e)

    at_grows : (l : ℕ) (work : List ℕ) → l ≤ 4 → work_bytes G ≤ length work → Grows G work (reread_at Y G page words a l work)
    at_grows l work le room = at_by (λ r. Grows G work r) l work (λ e. all_grows l (a / frame_words) le frame_in work room) (λ n. grows_refl work)

    at_within : (Q : Walk → Type 0) → Onto Q → (l : ℕ) (work : List ℕ) → l ≤ 4 → work_bytes G ≤ length work → Within Q work → Within Q (reread_at Y G page words a l work)
    at_within Q on l work le room q = at_by (λ r. Within Q r) l work (λ e. all_within l (a / frame_words) le frame_in Q on work room q) (λ n. q)

    at_closed : (l : ℕ) (work : List ℕ) → suc l ≤ 4 → work_bytes G ≤ length work
        → Closed (λ x y. Stands (suc l) x) work → Closed (λ x y. Stands l x) (reread_at Y G page words a (suc l) work)
    at_closed l work le room c = at_by (λ r. Closed (λ x y. Stands l x) r) (suc l) work here there
      where
        lower : (x : Walk) → Stands (suc l) x → (x.level ≡ suc l → ⊥) → Stands l x
        lower x t n = record { frame = t.frame; place = t.place; level = omega (arith, t.level) }

        here : Y.place (a / frame_words) (index Y page (suc l)) ≡ a → Closed (λ x y. Stands l x) (reread_all Y G page words (suc l) (a / frame_words) work)
        here e = all_closed (suc l) (a / frame_words) le frame_in (λ x y. Stands l x) work room (λ x y hx mx s. pick x y (c x y hx mx s))
          where
            level : (x : Walk) → Stands (suc l) x → Dec (x.level ≡ suc l) → Stands l x ⊎ Rest (suc l) (a / frame_words) le frame_in 0 x
            level x t (no n) = inl (lower x t n)
            level x t (yes p) = inr (x.rights, omega arith, λ i. record { level = p i; frame = record { 0 = t.frame i }; rights = x.rights })

            pick : (x y : Walk) → ByteSet G work y ⊎ Stands (suc l) x → ByteSet G work y ⊎ (Stands l x ⊎ Rest (suc l) (a / frame_words) le frame_in 0 x)
            pick x y (inl k) = inl k
            pick x y (inr t) = inr (level x t (ℕ_discrete x.level (suc l)))

        there : (Y.place (a / frame_words) (index Y page (suc l)) ≡ a → ⊥) → Closed (λ x y. Stands l x) work
        there n x y hx mx s = pick (c x y hx mx s)
          where
            pick : ByteSet G work y ⊎ Stands (suc l) x → ByteSet G work y ⊎ Stands l x
            pick (inl k) = inl k
            pick (inr t) = inr (lower x t (λ p. n (ap (λ (l : ℕ). Y.place (a / frame_words) (index Y page l)) (sym p) ∙ t.place)))

    pub word_grows : (l : ℕ) (work : List ℕ) → l ≤ 4 → work_bytes G ≤ length work → Grows G work (reread_word Y G page words a l work)
    unfolding reread_word
    word_grows zero work le room = grows_refl work
    word_grows (suc l) work le room =
        let g = at_grows (suc l) work le room in
        grows_trans g (word_grows l (reread_at Y G page words a (suc l) work) (omega arith) (omega (arith, g.size)))

    pub word_within : (Q : Walk → Type 0) → Onto Q → (l : ℕ) (work : List ℕ) → l ≤ 4 → work_bytes G ≤ length work
        → Within Q work → Within Q (reread_word Y G page words a l work)
    unfolding reread_word
    word_within Q on zero work le room q = q
    word_within Q on (suc l) work le room q =
        word_within Q on l (reread_at Y G page words a (suc l) work) (omega arith) (omega (arith, (at_grows (suc l) work le room).size)) (at_within Q on (suc l) work le room q)

    -- THE MARKED WALKS ARE CLOSED AGAIN
    pub word_closed : (l : ℕ) (work : List ℕ) → l ≤ 4 → work_bytes G ≤ length work
        → Closed (λ x y. Stands l x) work → Closed (λ x y. ⊥) (reread_word Y G page words a l work)
    unfolding reread_word
    word_closed zero work le room c = λ x y hx mx s. pick x y hx s (c x y hx mx s)
      where
        pick : (x y : Walk) → HasByte G x → step_in Y G page words x ≡ Ok y → ByteSet G work y ⊎ Stands 0 x → ByteSet G work y ⊎ ⊥
        pick x y hx s (inl k) = inl k
        pick x y hx s (inr t) = absurd (omega (arith, t.level, (below Y G page words x y hx s).level))
    word_closed (suc l) work le room c =
        word_closed l (reread_at Y G page words a (suc l) work) (omega arith) (omega (arith, (at_grows (suc l) work le room).size)) (at_closed l work le room c)
