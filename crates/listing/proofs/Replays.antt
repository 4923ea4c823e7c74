-- Taking the events one by one keeps the words, the CR3 and the marked walks of each moment.
use mathlib.Core.Path.{◌≡◌, refl, sym, ◌∙◌, ap, subst}
use mathlib.Core.Bool.{Bool, true, false, not, and-false}
use mathlib.Core.List.{List}
use Prim.Native.Nat.{ℕ, zero, suc, ◌-◌, ◌*◌, ◌≤◌, ◌<◌}
use native.Mathlib.Decide.{ℕ_discrete}
use native.Mathlib.Omega.{arith}
use lib.Dec.{T, eqb}
use lib.ListN.{length, get_or, set}
use borrow.Author.Tests.{eq-eqb, ne_eqb}
use Rattle.paging.specs.declared.Guest.{Guest}
use Rattle.paging.specs.declared.Walk.{Walk}
use Rattle.paging.specs.Numbers.{each}
use Rattle.paging.specs.Frame.{guest}
use Rattle.paging.specs.Layout.{tables64, page_of}
use Rattle.paging.specs.Walk.{start}
use Rattle.paging.proofs.Layouts.{tables64_sound}
use Rattle.rules.specs.declared.Event.{Event}
use Rattle.rules.specs.History.{Setup, setup64, Fit, event_at, words_at, cr3_at}
use Rattle.rules.specs.View.{View, view_of, never, ends_partial_of, ends_complete_of}
use Rattle.rules.proofs.Views.{coherent, rooted}
use Rattle.rules.specs.Kept.{ends, by_level}
use Rattle.rules.proofs.Steps.{neither}
use Rattle.held.specs.Work.{cell, work_bytes, HasByte}
use Rattle.held.specs.FollowCode.{step_in, reread_word, restarted}
use Rattle.held.proofs.Cells.{complete_first}
use Rattle.held.proofs.Closing.{word_grows}
use Rattle.held.proofs.Tracks.{Told, Tracks, after_store, after_idle}
use Rattle.held.proofs.Clears.{cleared_size, cleared_above, from_start, after-end, restart_grows}
use Rattle.rules.specs.Numbers.{event_of}
use Rattle.listing.specs.ReplayCode.{Replay, replay_of, Reach, forgets, applied, replayed}
use Rattle.listing.proofs.Applies.{forgets-all, forgets_partial, applied-store, applied_other, applied-invlpg, applied-cr3, applied_quiet}

-- ---- which walks an event ends

always : (a c : Bool) (l : ℕ) → a ≡ true → c ≡ true → T (not (by_level a c l)) → ⊥
always a c zero h k t = rw k at t
always a c (suc l) h k t = rw h at t

only_complete : (a c : Bool) (l : ℕ) → a ≡ true → T (not (by_level a c l)) → l ≡ 0
only_complete a c zero h t = refl
only_complete a c (suc l) h t = absurd (rw h at t)

as_complete : (a c : Bool) (l : ℕ) → l ≡ 0 → c ≡ false → T (not (by_level a c l))
as_complete a c zero h k = rw k tt
as_complete a c (suc l) h k = absurd (omega arith)

module _ (p page : ℕ) (e : Event) where
  abbrev Quiet : Type 0
  Quiet = (ends_partial_of p e ≡ false) × (ends_complete_of tables64 p page e ≡ false)

  quiet_store : e.kind ≡ 1 → Quiet
  quiet_store k = (simp (k, and-false), simp (k, and-false))

  quiet_other : (e.proc ≡ p → ⊥) → Quiet
  quiet_other n = (simp (ne_eqb e.proc p n), simp (ne_eqb e.proc p n))

  quiet_kind : (e.kind ≡ 2 → ⊥) → (e.kind ≡ 3 → ⊥) → Quiet
  quiet_kind n m = (simp (ne_eqb e.kind 2 n, ne_eqb e.kind 3 m, and-false), simp (ne_eqb e.kind 2 n, ne_eqb e.kind 3 m, and-false))

  module _ (mine : e.proc ≡ p) where
    cr3-ends : e.kind ≡ 3 → (ends_partial_of p e ≡ true) × (ends_complete_of tables64 p page e ≡ true)
    cr3-ends k = (simp (eq-eqb e.proc p mine, k), simp (eq-eqb e.proc p mine, k))

    invlpg-ends : e.kind ≡ 2 → (ends_partial_of p e ≡ true) × (ends_complete_of tables64 p page e ≡ eqb (page_of tables64 e.a) page)
    invlpg-ends k = (simp (eq-eqb e.proc p mine, k), simp (eq-eqb e.proc p mine, k))

module _ (G P : ℕ) (ws cs : List ℕ) (es : List Event) (p page : ℕ) where
  abbrev U : Setup
  U = setup64 G P ws cs

  abbrev seen : View
  seen = view_of U es p page never

  read_is : (n : ℕ) (w : Walk) → seen.steps n w ≡ step_in tables64 G page (words_at U es n) w
  unfolding view_of step_in
  read_is n w = refl

  pub told : Fit U es → p < P → Told tables64 seen G page (words_at U es)
  told fit h = record { reads = read_is; sound = tables64_sound; law = coherent U es p page never tables64_sound; root = rooted U es p page never fit h }

  -- after n events
  pub record Follows (work₀ : List ℕ) (n : ℕ) (s : Replay) : Type 0 where
    pub words_are : s.words ≡ words_at U es n
    pub cr3_is : guest s.cr3 ≡ cr3_at U es p n
    pub size : length s.work ≡ length work₀
    pub tracks : Tracks tables64 seen G page (words_at U es) n s.work
    pub rest : (k : ℕ) → work_bytes G ≤ k → get_or s.work k 0 ≡ get_or work₀ k 0

  module _ (fit : Fit U es) (hp : p < P) (work₀ : List ℕ) (room : work_bytes G ≤ length work₀) where
    root_byte : (g : Guest) → g.0 < G → HasByte G (start tables64 g)
    root_byte g h = record { level = omega arith; frame = h; rights = omega arith }

    cr3_in : (n : ℕ) → (cr3_at U es p n).0 < G
    unfolding view_of
    cr3_in n = rooted U es p page never fit hp n

    begins_is : (n : ℕ) (g : Guest) → cr3_at U es p n ≡ g → seen.begins n ≡ start tables64 g
    unfolding view_of
    begins_is n g e = ap (start tables64) e

    -- forgetting and beginning anew keeps the number of bytes and the later ones
    restart_size : (n from : ℕ) (g : Guest) (work : List ℕ) → from ≤ work_bytes G → work_bytes G ≤ length work → g.0 < G
        → length (restarted tables64 G page (words_at U es n) from g work) ≡ length work
    restart_size n from g work le r h =
        (restart_grows tables64 seen G page (words_at U es) (told fit hp) work r g n from le (root_byte g h)).size ∙ cleared_size from (work_bytes G - from) work

    restart_rest : (n from : ℕ) (g : Guest) (work : List ℕ) → from ≤ work_bytes G → work_bytes G ≤ length work → g.0 < G
        → (k : ℕ) → work_bytes G ≤ k → get_or (restarted tables64 G page (words_at U es n) from g work) k 0 ≡ get_or work k 0
    restart_rest n from g work le r h k hk =
        (restart_grows tables64 seen G page (words_at U es) (told fit hp) work r g n from le (root_byte g h)).rest k hk
        ∙ cleared_above from (work_bytes G - from) k work (omega arith)

    pub started : Follows work₀ 0 (replay_of (get_or cs p 0) ws (restarted tables64 G page ws 0 (guest (get_or cs p 0)) work₀))
    unfolding words_at cr3_at
    started = record {
      words_are = words_zero;
      cr3_is = cr3_zero;
      size = ap (λ (l : List ℕ). length (restarted tables64 G page l 0 (guest (get_or cs p 0)) work₀)) words_zero ∙ restart_size 0 0 (guest (get_or cs p 0)) work₀ (omega arith) room zero_in;
      tracks = subst (λ (l : List ℕ). Tracks tables64 seen G page (words_at U es) 0 (restarted tables64 G page l 0 (guest (get_or cs p 0)) work₀)) (sym words_zero)
          (from_start tables64 seen G page (words_at U es) (told fit hp) work₀ room (guest (get_or cs p 0)) (begins_is 0 (guest (get_or cs p 0)) (sym cr3_zero)));
      rest = λ k hk. ap (λ (l : List ℕ). get_or (restarted tables64 G page l 0 (guest (get_or cs p 0)) work₀) k 0) words_zero ∙ restart_rest 0 0 (guest (get_or cs p 0)) work₀ (omega arith) room zero_in k hk;
    }
      where
        words_zero : ws ≡ words_at U es 0
        words_zero = refl

        cr3_zero : guest (get_or cs p 0) ≡ cr3_at U es p 0
        cr3_zero = refl

        zero_in : get_or cs p 0 < G
        zero_in = fit.starts p hp

    module _ (n : ℕ) (s : Replay) (old : Follows work₀ n s) (ha : Reach G (event_at es n)) where
      abbrev e : Event
      e = event_at es n

      room_n : work_bytes G ≤ length s.work
      room_n = omega (arith, old.size)

      cr3_s : s.cr3 < G
      cr3_s = let h = cr3_in n in omega (arith, ap (λ (g : Guest). g.0) old.cr3_is)

      -- what the event leaves as it is
      words-kept : (e.kind ≡ 1 → ⊥) → words_at U es (suc n) ≡ words_at U es n
      unfolding words_at
      words-kept no_store = simp (ne_eqb e.kind 1 no_store)

      words-stored : e.kind ≡ 1 → words_at U es (suc n) ≡ set (words_at U es n) e.a e.b
      unfolding words_at
      words-stored k = simp (eq-eqb e.kind 1 k)

      cr3-kept : (e.kind ≡ 3 → ⊥) → cr3_at U es p (suc n) ≡ cr3_at U es p n
      unfolding cr3_at
      cr3-kept no-cr3 = simp (ne_eqb e.kind 3 no-cr3, and-false)

      cr3_other : (e.proc ≡ p → ⊥) → cr3_at U es p (suc n) ≡ cr3_at U es p n
      unfolding cr3_at
      cr3_other n' = simp (ne_eqb e.proc p n')

      cr3-loaded : e.proc ≡ p → e.kind ≡ 3 → cr3_at U es p (suc n) ≡ guest e.a
      unfolding cr3_at
      cr3-loaded mine k = simp (eq-eqb e.proc p mine, eq-eqb e.kind 3 k)

      same_begins : cr3_at U es p (suc n) ≡ cr3_at U es p n → seen.begins (suc n) ≡ seen.begins n
      unfolding view_of
      same_begins q = ap (start tables64) q

      quiet : Quiet p page e → (w : Walk) → T (not (ends seen w n))
      unfolding view_of
      quiet q w = neither _ _ w.level q.0 q.1

      after_nothing : words_at U es (suc n) ≡ words_at U es n → cr3_at U es p (suc n) ≡ cr3_at U es p n → Quiet p page e → Follows work₀ (suc n) s
      after_nothing w c q = record {
        words_are = old.words_are ∙ sym w;
        cr3_is = old.cr3_is ∙ sym c;
        size = old.size;
        tracks = after_idle tables64 seen G page (words_at U es) (told fit hp) n w (same_begins c) (quiet q) s.work old.tracks;
        rest = old.rest;
      }

      stored_follows : (k : e.kind ≡ 1)
          → Follows work₀ (suc n) (replay_of s.cr3 (set s.words e.a e.b) (reread_word tables64 G page (set s.words e.a e.b) e.a 4 s.work))
      stored_follows k =
          let new : set s.words e.a e.b ≡ words_at U es (suc n) = ap (λ (l : List ℕ). set l e.a e.b) old.words_are ∙ sym (words-stored k) in
          let no-cr3 : e.kind ≡ 3 → ⊥ = λ z. omega arith in
          let grown = word_grows tables64 G page (words_at U es (suc n)) e.a (ha.word k) 4 s.work (omega arith) room_n in
          record {
            words_are = new;
            cr3_is = old.cr3_is ∙ sym (cr3-kept no-cr3);
            size = ap (λ (l : List ℕ). length (reread_word tables64 G page l e.a 4 s.work)) new ∙ grown.size ∙ old.size;
            tracks = subst (λ (l : List ℕ). Tracks tables64 seen G page (words_at U es) (suc n) (reread_word tables64 G page l e.a 4 s.work)) (sym new)
                (after_store tables64 seen G page (words_at U es) (told fit hp) n e.a e.b (ha.word k) (words-stored k) (same_begins (cr3-kept no-cr3)) (quiet (quiet_store p page e k)) s.work room_n old.tracks);
            rest = λ j hj. ap (λ (l : List ℕ). get_or (reread_word tables64 G page l e.a 4 s.work) j 0) new ∙ grown.rest j hj ∙ old.rest j hj;
          }

      -- what beginning anew follows, whatever the CR3 and the bytes forgotten
      anew : (c from : ℕ) → from ≤ 8 * G → c < G → words_at U es (suc n) ≡ words_at U es n → cr3_at U es p (suc n) ≡ guest c
          → ((x : Walk) → HasByte G x → cell G x < from → T (not (ends seen x n)))
          → ((x : Walk) → HasByte G x → T (not (ends seen x n)) → cell G x < from)
          → ((x : Walk) → HasByte G x → cell G x < from → x.level ≡ 0)
          → Follows work₀ (suc n) (replay_of c s.words (restarted tables64 G page s.words from (guest c) s.work))
      anew c from le hc w root stays leaves done =
          let new : s.words ≡ words_at U es (suc n) = old.words_are ∙ sym w in
          let in-work : from ≤ work_bytes G = omega arith in
          record {
            words_are = new;
            cr3_is = sym root;
            size = ap (λ (l : List ℕ). length (restarted tables64 G page l from (guest c) s.work)) new ∙ restart_size (suc n) from (guest c) s.work in-work room_n hc ∙ old.size;
            tracks = subst (λ (l : List ℕ). Tracks tables64 seen G page (words_at U es) (suc n) (restarted tables64 G page l from (guest c) s.work)) (sym new)
                (after-end tables64 seen G page (words_at U es) (told fit hp) s.work room_n (guest c) n from in-work stays leaves done (begins_is (suc n) (guest c) root) old.tracks);
            rest = λ j hj. ap (λ (l : List ℕ). get_or (restarted tables64 G page l from (guest c) s.work) j 0) new
                ∙ restart_rest (suc n) from (guest c) s.work in-work room_n hc j hj ∙ old.rest j hj;
          }

      -- an event that ends all walks
      anew_all : (c : ℕ) → c < G → words_at U es (suc n) ≡ words_at U es n → cr3_at U es p (suc n) ≡ guest c
          → ends_partial_of p e ≡ true → ends_complete_of tables64 p page e ≡ true
          → Follows work₀ (suc n) (replay_of c s.words (restarted tables64 G page s.words 0 (guest c) s.work))
      unfolding view_of
      anew_all c hc w root part comp =
          anew c 0 (omega arith) hc w root (λ x hx lt. absurd (omega arith)) (λ x hx t. absurd (always _ _ x.level part comp t)) (λ x hx lt. absurd (omega arith))

      -- an event that ends the partial ones
      anew_partial : (c : ℕ) → c < G → words_at U es (suc n) ≡ words_at U es n → cr3_at U es p (suc n) ≡ guest c
          → ends_partial_of p e ≡ true → ends_complete_of tables64 p page e ≡ false
          → Follows work₀ (suc n) (replay_of c s.words (restarted tables64 G page s.words (8 * G) (guest c) s.work))
      unfolding view_of
      anew_partial c hc w root part comp =
          anew c (8 * G) (omega arith) hc w root
          (λ x hx lt. as_complete _ _ x.level ((complete_first G x hx).0 lt) comp)
          (λ x hx t. (complete_first G x hx).1 (only_complete _ _ x.level part t))
          (λ x hx lt. (complete_first G x hx).0 lt)

      invlpg_follows : (e.kind ≡ 1 → ⊥) → e.proc ≡ p → e.kind ≡ 2
          → Follows work₀ (suc n) (replay_of s.cr3 s.words (restarted tables64 G page s.words (forgets G page e.a) (guest s.cr3) s.work))
      invlpg_follows no_store mine k = go (ℕ_discrete (page_of tables64 e.a) page)
        where
          root : cr3_at U es p (suc n) ≡ guest s.cr3
          root = cr3-kept (λ z. omega arith) ∙ sym old.cr3_is

          go : Dec (page_of tables64 e.a ≡ page)
              → Follows work₀ (suc n) (replay_of s.cr3 s.words (restarted tables64 G page s.words (forgets G page e.a) (guest s.cr3) s.work))
          go (yes q) =
              rw (forgets-all G page e.a q)
              (anew_all s.cr3 cr3_s (words-kept no_store) root (invlpg-ends p page e mine k).0 ((invlpg-ends p page e mine k).1 ∙ eq-eqb _ _ q))
          go (no q) =
              rw (forgets_partial G page e.a q)
              (anew_partial s.cr3 cr3_s (words-kept no_store) root (invlpg-ends p page e mine k).0 ((invlpg-ends p page e mine k).1 ∙ ne_eqb _ _ q))

      -- ONE EVENT
      pub follows : Follows work₀ (suc n) (applied G p page e s)
      follows = by_kind (ℕ_discrete e.kind 1)
        where
          ours : (e.kind ≡ 1 → ⊥) → e.proc ≡ p → Dec (e.kind ≡ 2) → Dec (e.kind ≡ 3) → Follows work₀ (suc n) (applied G p page e s)
          ours no_store mine (yes k) d = rw (applied-invlpg G p page e s no_store mine k) (invlpg_follows no_store mine k)
          ours no_store mine (no n₂) (yes k) =
              rw (applied-cr3 G p page e s no_store mine n₂ k)
              (anew_all e.a (ha.cr3 k) (words-kept no_store) (cr3-loaded mine k) (cr3-ends p page e mine k).0 (cr3-ends p page e mine k).1)
          ours no_store mine (no n₂) (no n₃) =
              rw (applied_quiet G p page e s no_store n₂ n₃) (after_nothing (words-kept no_store) (cr3-kept n₃) (quiet_kind p page e n₂ n₃))

          by_proc : (e.kind ≡ 1 → ⊥) → Dec (e.proc ≡ p) → Follows work₀ (suc n) (applied G p page e s)
          by_proc no_store (yes mine) = ours no_store mine (ℕ_discrete e.kind 2) (ℕ_discrete e.kind 3)
          by_proc no_store (no other) =
              rw (applied_other G p page e s no_store other) (after_nothing (words-kept no_store) (cr3_other other) (quiet_other p page e other))

          by_kind : Dec (e.kind ≡ 1) → Follows work₀ (suc n) (applied G p page e s)
          by_kind (yes k) = rw (applied-store G p page e s k) (stored_follows k)
          by_kind (no no_store) = by_proc no_store (ℕ_discrete e.proc p)

    -- ALL EVENTS
    pub replayed_follows : (ns : List ℕ) (m : ℕ) → ((k : ℕ) → k < m → event_at es k ≡ event_of ns k) → ((k : ℕ) → k < m → Reach G (event_of ns k)) → (s₀ : Replay)
        → Follows work₀ 0 s₀ → Follows work₀ m (replayed G p page ns m s₀)
    unfolding replayed each
    replayed_follows ns zero at reach s₀ f = f
    replayed_follows ns (suc m) at reach s₀ f =
        let before = replayed_follows ns m (λ k h. at k (omega arith)) (λ k h. reach k (omega arith)) s₀ f in
        let q = at m (omega arith) in
        subst (λ (e : Event). Follows work₀ (suc m) (applied G p page e (each m (λ k. applied G p page (event_of ns k)) s₀))) q
        (follows m (each m (λ k. applied G p page (event_of ns k)) s₀) before (subst (λ (e : Event). Reach G e) (sym q) (reach m (omega arith))))
