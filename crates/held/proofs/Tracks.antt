-- The marked walks are the held ones, from moment to moment: after a store that reads its word again, after an event
-- that changes nothing, and after an INVLPG or CR3 write that forgets and begins anew.
use Rattle.std.specs.Prelude.{Ok, Err}
use mathlib.Core.Path.{◌≡◌, refl, sym, ◌∙◌, ap}
use mathlib.Core.Logic.{◌⊎◌, inl, inr}
use mathlib.Core.Bool.{not}
use mathlib.Core.List.{List}
use Prim.Native.Nat.{ℕ, suc, ◌*◌, ◌/◌, ◌≤◌, ◌<◌}
use native.Mathlib.Decide.{ℕ_discrete}
use native.Mathlib.Omega.{arith}
use lib.Dec.{T}
use lib.ListN.{length, set}
use lib.Seq.{get_or-set_other}
use Rattle.paging.specs.declared.Walk.{Walk}
use Rattle.paging.specs.declared.Stop.TheVariants.{Complete}
use Rattle.paging.specs.Layout.{Layout, frame_words, get, index}
use Rattle.paging.specs.Walk.{step}
use Rattle.paging.specs.Sound.{Sound}
use Rattle.paging.proofs.Indices.{index_small}
use Rattle.rules.specs.View.{View}
use Rattle.rules.specs.Coherent.{Coherent, Rooted}
use Rattle.rules.specs.Kept.{Kept, begin, extend, stay, ends}
use Rattle.rules.proofs.Steps.{kept-level, kept_small, kept_inside}
use Rattle.held.specs.Work.{work_bytes, HasByte}
use Rattle.held.specs.FollowCode.{step_in, followed, reread_word}
use Rattle.held.proofs.Closing.{ByteSet, Bits, Grows, Closed, Within, Onto, Stands, word_grows, word_within, word_closed, follow_grows, follow_has, follow_within, follow-closed}

module _ (Y : Layout) (seen : View) (G page : ℕ) (words : ℕ → List ℕ) where
  -- the view reads these words, of a layout and G frames
  pub record Told : Type 0 where
    pub reads : (n : ℕ) (w : Walk) → seen.steps n w ≡ step_in Y G page (words n) w
    pub sound : Sound Y
    pub law : Coherent seen Y.levels G
    pub root : Rooted seen G

  -- THE MARKED WALKS ARE THE HELD ONES AT MOMENT n
  pub record Tracks (n : ℕ) (work : List ℕ) : Type 0 where
    pub bits : Bits G work
    pub sound : (w : Walk) → HasByte G w → ByteSet G work w → Kept seen n w
    pub full : (w : Walk) → Kept seen n w → ByteSet G work w

  module _ (t : Told) where
    pub kept_byte : {n : ℕ} {w : Walk} → Kept seen n w → HasByte G w
    kept_byte h = record { level = omega (arith, kept-level seen t.law h, t.sound.few_levels); frame = kept_inside seen t.law t.root h; rights = kept_small seen t.law h }

    on : (n : ℕ) → Onto Y G page (words n) (Kept seen n)
    on n x y h e = extend h (t.reads n x ∙ e)

    -- ---- a store

    same-entry : (ws : List ℕ) (a b : ℕ) (x : Walk) → (Y.place x.frame.0 (index Y page x.level) ≡ a → ⊥)
        → step_in Y G page (set ws a b) x ≡ step_in Y G page ws x
    unfolding step_in get
    same-entry ws a b x n = ap (λ (w : ℕ). step Y G x (Y.part (index Y page x.level) w)) (get_or-set_other ws a (Y.place x.frame.0 (index Y page x.level)) b 0 n)

    stands : (a : ℕ) (ha : a < frame_words * G) (x : Walk) → x.level ≤ Y.levels → Y.place x.frame.0 (index Y page x.level) ≡ a
        → Stands Y G page (words 0) a ha Y.levels x
    stands a ha x hx e =
        let frame : x.frame.0 ≡ a / frame_words =
        sym (t.sound.in_frame x.frame.0 (index Y page x.level) (index_small Y page x.level)) ∙ ap (λ (w : ℕ). w / frame_words) e in
        record { frame = frame; place = ap (λ (f : ℕ). Y.place f (index Y page x.level)) (sym frame) ∙ e; level = hx }

    module _ (n a b : ℕ) (ha : a < frame_words * G) (store : words (suc n) ≡ set (words n) a b) (root : seen.begins (suc n) ≡ seen.begins n)
        (quiet : (w : Walk) → T (not (ends seen w n))) (work : List ℕ) (room : work_bytes G ≤ length work) (old : Tracks n work) where
      after : List ℕ
      after = reread_word Y G page (words (suc n)) a Y.levels work

      g : Grows G work (reread_word Y G page (words (suc n)) a Y.levels work)
      g = word_grows Y G page (words (suc n)) a ha Y.levels work t.sound.few_levels room

      pending : Closed Y G page (words (suc n)) (λ x y. Stands Y G page (words (suc n)) a ha Y.levels x) work
      pending x y hx mx s = go (ℕ_discrete (Y.place x.frame.0 (index Y page x.level)) a)
        where
          go : Dec (Y.place x.frame.0 (index Y page x.level) ≡ a) → ByteSet G work y ⊎ Stands Y G page (words (suc n)) a ha Y.levels x
          go (yes e) = let u = stands a ha x (kept-level seen t.law (old.sound x hx mx)) e in inr (record { frame = u.frame; place = u.place; level = u.level })
          go (no ne) =
              let was : step_in Y G page (words n) x ≡ Ok y = sym (same-entry (words n) a b x ne) ∙ ap (λ (ws : List ℕ). step_in Y G page ws x) (sym store) ∙ s in
              inl (old.full y (on n x y (old.sound x hx mx) was))

      pub after_store : Tracks (suc n) (reread_word Y G page (words (suc n)) a Y.levels work)
      after_store = record {
        bits = g.bits old.bits;
        sound = word_within Y G page (words (suc n)) a ha (Kept seen (suc n)) (on (suc n)) Y.levels work t.sound.few_levels room (λ x hx mx. stay (old.sound x hx mx) (quiet x));
        full = λ w h. full h refl;
      }
        where
          closed : Closed Y G page (words (suc n)) (λ x y. ⊥) (reread_word Y G page (words (suc n)) a Y.levels work)
          closed = word_closed Y G page (words (suc n)) a ha Y.levels work t.sound.few_levels room pending

          next : (x y : Walk) → ByteSet G (reread_word Y G page (words (suc n)) a Y.levels work) y ⊎ ⊥ → ByteSet G (reread_word Y G page (words (suc n)) a Y.levels work) y
          next x y (inl m) = m
          next x y (inr f) = absurd f

          full : {m : ℕ} {w : Walk} → Kept seen m w → m ≡ suc n → ByteSet G (reread_word Y G page (words (suc n)) a Y.levels work) w
          full {w = w} (begin e) p = g.more w (old.full w (begin (e ∙ ap seen.begins p ∙ root)))
          full (extend {w = w} {w' = w'} h e) p =
              next w w' (closed w w' (kept_byte h) (full h p) (ap (λ (ws : List ℕ). step_in Y G page ws w) (ap words (sym p)) ∙ sym (t.reads _ w) ∙ e))
          full {w = w} (stay {n = k} h u) p = let q : k ≡ n = omega arith in g.more w (old.full w (rw q at h))

    -- ---- an event that changes nothing

    pub after_idle : (n : ℕ) → words (suc n) ≡ words n → seen.begins (suc n) ≡ seen.begins n → ((w : Walk) → T (not (ends seen w n)))
        → (work : List ℕ) → Tracks n work → Tracks (suc n) work
    after_idle n same root quiet work old = record {
      bits = old.bits;
      sound = λ w hw m. stay (old.sound w hw m) (quiet w);
      full = λ w h. full h refl;
    }
      where
        full : {m : ℕ} {w : Walk} → Kept seen m w → m ≡ suc n → ByteSet G work w
        full {w = w} (begin e) p = old.full w (begin (e ∙ ap seen.begins p ∙ root))
        full (extend {w = w} {w' = w'} h e) p =
            let step : step_in Y G page (words n) w ≡ Ok w' = ap (λ (ws : List ℕ). step_in Y G page ws w) (sym same ∙ ap words (sym p)) ∙ sym (t.reads _ w) ∙ e in
            old.full w' (on n w w' (old.sound w (kept_byte h) (full h p)) step)
        full {w = w} (stay {n = k} h u) p = let q : k ≡ n = omega arith in old.full w (rw q at h)

    -- ---- beginning anew

    -- from bytes that mark only complete walks, among them all that the last event left
    pub begun : (m : ℕ) (work : List ℕ) → work_bytes G ≤ length work → Bits G work → Within Y G page (words m) (Kept seen m) work
        → ((x : Walk) → HasByte G x → ByteSet G work x → x.level ≡ 0)
        → ((k : ℕ) (w : Walk) → m ≡ suc k → Kept seen k w → T (not (ends seen w k)) → ByteSet G work w)
        → (w₀ : Walk) → seen.begins m ≡ w₀ → Tracks m (followed Y G page (words m) w₀ work)
    begun m work room bits sound done left w₀ root = record {
      bits = g.bits bits;
      sound = follow_within Y G page (words m) (Kept seen m) (on m) (suc w₀.level) w₀ work room has (begin (sym root)) sound;
      full = λ w h. full h refl;
    }
      where
        has : HasByte G w₀
        has = kept_byte (begin (sym root))

        g : Grows G work (followed Y G page (words m) w₀ work)
        g = follow_grows Y G page (words m) (suc w₀.level) w₀ work room has

        -- a complete walk goes nowhere
        still : Closed Y G page (words m) (λ x y. ⊥ ⊎ (y ≡ w₀)) work
        still x y hx mx s =
            let c : seen.steps m x ≡ (Err Complete) = t.law.done m x (done x hx mx) in
            let e : seen.steps m x ≡ Ok y = t.reads m x ∙ s in
            let z : ◌≡◌ {A = ℕ} 0 1 = cc in
            absurd (omega arith)

        closed : Closed Y G page (words m) (λ x y. ⊥) (followed Y G page (words m) w₀ work)
        closed = follow-closed Y G page (words m) (λ x y. ⊥) (suc w₀.level) w₀ work (omega arith) room has still

        next : (x y : Walk) → ByteSet G (followed Y G page (words m) w₀ work) y ⊎ ⊥ → ByteSet G (followed Y G page (words m) w₀ work) y
        next x y (inl k) = k
        next x y (inr f) = absurd f

        full : {i : ℕ} {w : Walk} → Kept seen i w → i ≡ m → ByteSet G (followed Y G page (words m) w₀ work) w
        full {w = w} (begin e) p = rw (e ∙ ap seen.begins p ∙ root) (follow_has Y G page (words m) w₀ work room has)
        full (extend {w = w} {w' = w'} h e) p =
            next w w' (closed w w' (kept_byte h) (full h p) (ap (λ (ws : List ℕ). step_in Y G page ws w) (ap words (sym p)) ∙ sym (t.reads _ w) ∙ e))
        full {w = w} (stay {n = k} h u) p = g.more w (left k w (sym p) h u)
