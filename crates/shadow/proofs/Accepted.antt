-- A call that no test refuses: what it is known to be. And how the tables of tests are joined.
use mathlib.Core.Path.{◌≡◌, refl, sym, ap, ◌∙◌}
use mathlib.Core.Bool.{Bool, true, false, cond, not, ◌&&◌, ◌||◌, beq}
use mathlib.Core.List.{List, [], ◌∷◌, ◌++◌}
use Prim.Native.Nat.{ℕ, zero, suc, ◌+◌, ◌-◌, ◌*◌, ◌^◌, ◌<◌, ◌≤◌}
use native.Mathlib.Decide.{dec_lt}
use native.Mathlib.Omega.{arith}
use lib.Dec.{eqb, ltb, leb}
use lib.ListN.{length, get_or}
use Rattle.std.proofs.lemmas.Bool.{false_from_ne_true}
use borrow.Author.Tests.{eq-eqb, lt-ltb, le-ltb, le-leb, eqb-true, ltb-true, ltb-false, leb-true, leb-false, not-false}
use Rattle.paging.specs.Layout.{frame_words}
use Rattle.paging.specs.Frame.{map_fits}
use Rattle.paging.specs.Numbers.{all}
use Rattle.paging.proofs.Numbers.{all-at}
use Rattle.paging.proofs.Tests.{both}
use Rattle.rules.specs.declared.Event.{Event}
use Rattle.rules.specs.declared.Refusal.{Refusal}
use Rattle.rules.specs.Refusal.{Test, test, refusal, number_of}
use Rattle.rules.specs.History.{is_store, is_cr3_write, is_access, is_begin, is_extend, is_drop, event_tests, event_refusal}
use Rattle.rules.proofs.Ranges.{Clear, clear, event_clear}
use Rattle.rules.proofs.Refusals.{some_number}
use Rattle.tables.specs.declared.Sizes.{Sizes}
use Rattle.tables.specs.State.{Machine, Shadow, State, machine64, table_count, root_of, entry_count, entry_of, level_of, shadows, is_free, path_to}
use Rattle.slots.specs.Slots.{mark_of, page_in, place_in, rights_in}
use Rattle.tables.proofs.Names.{few, root_small}
use Rattle.lawful.specs.Rules.{lawful, table_right, table_whole, record_right, entry_right, is_root, names_of, slot_right, is_on_path}
use Rattle.shadow.specs.Refusals.{as_setup, ranges_fit, lengths_fit, pool_fits, in_pool, frames_fit, too_few, call_refusal}
use Rattle.shadow.specs.ReadyCode.{Ready, Standing, Fitting}
use Rattle.shadow.proofs.Sizing.{Ranged, ranged, sized, pool_room, Exact, exact, hosts_below}
use Rattle.tables.specs.SizesCode.{Sized}

-- ---- a test and its refusal

-- what a test that was passed says
pub passes : (b : Bool) {m : ℕ} → 0 < m → ◌≡◌ {A = ℕ} 0 (cond b 0 m) → b ≡ true
passes true h e = refl
passes false h e = absurd (omega arith)

-- and one that refuses
pub fails : (r : Refusal) (b : Bool) {m n : ℕ} → number_of r ≡ cond b 0 m → (b ≡ false → m ≡ n) → number_of r ≡ n
fails r true e f = absurd (omega (arith, some_number r))
fails r false e f = e ∙ f refl

-- ---- tables of tests

pub refusal_more : (ts us : List Test) → {n : ℕ} → n ≡ refusal ts → (n ≡ 0 → ⊥) → n ≡ refusal (ts ++ us)
unfolding refusal
refusal_more [] us e some = absurd (some e)
refusal_more (t ∷ ts) us {n} e some = go t.met refl (refusal_more ts us)
  where
    go : (b : Bool) → t.met ≡ b → ((e : n ≡ refusal ts) → (n ≡ 0 → ⊥) → n ≡ refusal (ts ++ us)) → n ≡ cond b t.number (refusal (ts ++ us))
    go true q more = e ∙ ap (λ (b : Bool). cond b t.number (refusal ts)) q
    go false q more = more (e ∙ ap (λ (b : Bool). cond b t.number (refusal ts)) q) some

pub refusal_then : (ts us : List Test) → Clear ts → refusal (ts ++ us) ≡ refusal us
unfolding refusal
refusal_then [] us c = refl
refusal_then (t ∷ ts) us c = ap (λ (b : Bool). cond b t.number (refusal (ts ++ us))) c.0 ∙ refusal_then ts us c.1

pub refusal_none : (ts : List Test) → Clear ts → refusal ts ≡ 0
unfolding refusal
refusal_none [] c = refl
refusal_none (t ∷ ts) c = ap (λ (b : Bool). cond b t.number (refusal ts)) c.0 ∙ refusal_none ts c.1

-- ---- what tests say that are not met

no_and : (a b : Bool) → a && b ≡ false → a ≡ true → b ≡ false
no_and true b e q = e
no_and false b e q = let z : ◌≡◌ {A = ℕ} 0 1 = cc in absurd (omega arith)

no_or : (a b : Bool) → (a || b) ≡ false → (a ≡ false) × (b ≡ false)
no_or true b e = let z : ◌≡◌ {A = ℕ} 0 1 = cc in absurd (omega arith)
no_or false b e = (refl, e)

or_true : (a b : Bool) → b ≡ true → (a || b) ≡ true
or_true true b q = refl
or_true false b q = q

some_kind : (n : ℕ) → eqb n 0 ≡ false → 1 ≤ n
some_kind zero e = let z : ◌≡◌ {A = ℕ} 0 1 = cc in absurd (omega arith)
some_kind (suc n) e = omega arith

-- ---- slots and roots of a lawful state

module _ (z : Sizes) (ok : Sized z) (pool slots : List ℕ) (p k : ℕ) where
  on-path_small : (page level place rights : ℕ) → is_on_path (machine64 z) pool p page level place rights ≡ true → place < 2 ^ 40
  unfolding is_on_path
  on-path_small page level place rights e =
      let w = path_to (machine64 z) pool p page level in
      let h = both (ltb w.table (table_count (machine64 z)) && eqb place w.table) (eqb rights w.rights) e in
      let g = both (ltb w.table (table_count (machine64 z))) (eqb place w.table) h.0 in
      omega (arith, ltb-true w.table (table_count (machine64 z)) g.0, eqb-true place w.table g.1, few ok)

  pub standing : slot_right (machine64 z) pool slots p k ≡ true → Standing slots p k
  unfolding slot_right
  standing e =
      go (eqb (mark_of slots p k) 0) (eqb (mark_of slots p k) 1) refl refl
      (both (ltb (page_in slots p k) (2 ^ 36)) _ e).1
    where
      go : (a b : Bool) → eqb (mark_of slots p k) 0 ≡ a → eqb (mark_of slots p k) 1 ≡ b
          → cond a (eqb (page_in slots p k) 0 && eqb (place_in slots p k) 0 && eqb (rights_in slots p k) 0)
          (cond b (ltb (place_in slots p k) z.frames)
          (leb (mark_of slots p k) 5 && is_on_path (machine64 z) pool p (page_in slots p k) (mark_of slots p k - 1) (place_in slots p k) (rights_in slots p k))) ≡ true
          → Standing slots p k
      go true b ea eb h = let q = eqb-true (mark_of slots p k) 0 ea in record { level = omega arith; table = λ l. absurd (omega arith) }
      go false true ea eb h = let q = eqb-true (mark_of slots p k) 1 eb in record { level = omega arith; table = λ l. absurd (omega arith) }
      go false false ea eb h =
          let g = both (leb (mark_of slots p k) 5) (is_on_path (machine64 z) pool p (page_in slots p k) (mark_of slots p k - 1) (place_in slots p k) (rights_in slots p k)) h in
          record {
            level = leb-true (mark_of slots p k) 5 g.0;
            table = λ l. on-path_small (page_in slots p k) (mark_of slots p k - 1) (place_in slots p k) (rights_in slots p k) g.1;
          }

pub shadows_within : (M : Machine) (map : List ℕ) (s : Shadow) (t : ℕ) → table_right M map s t ≡ true → (shadows s.records t).0 < M.frames
unfolding table_right record_right
shadows_within M map s t e =
    let records = s.records in
    let h = (both (record_right M records (names_of M s.pool t) t) (all (entry_count M) (λ i. entry_right M map records t (entry_of M s.pool t i))) e).0 in
    ltb-true (shadows records t).0 M.frames
    (both (leb (level_of records t) M.tables.levels && (not (is_free records t) || eqb (shadows records t).0 0) && beq (is_root M t) (eqb (level_of records t) M.tables.levels) && (is_root M t || is_free records t || eqb (names_of M s.pool t) 1))
    (ltb (shadows records t).0 M.frames) h).1

-- ---- the number of a call, test by test

module _ (M : Machine) (map : List ℕ) (s : State) (e : Event) where
  module _ (sizes : (ranges_fit M && lengths_fit M map s.shadow s.slots) ≡ true) where
    pub call_short : eqb (length s.words) (frame_words * M.frames) ≡ false → 1 ≡ call_refusal M map s e
    unfolding call_refusal refusal
    call_short q = simp (sizes, q)

    module _ (long : eqb (length s.words) (frame_words * M.frames) ≡ true) (frames : frames_fit M map ≡ true) (right : lawful M map s ≡ true) where
      passed : refusal (event_tests (as_setup M s) e ++ (test 12 (too_few M) ∷ [])) ≡ call_refusal M map s e
      unfolding call_refusal refusal
      passed = sym (simp (sizes, long, frames, right))

      pub call_event : {m : ℕ} → m ≡ event_refusal (as_setup M s) e → (m ≡ 0 → ⊥) → m ≡ call_refusal M map s e
      unfolding event_refusal
      call_event em some = refusal_more (event_tests (as_setup M s) e) (test 12 (too_few M) ∷ []) em some ∙ passed

      last : 0 ≡ event_refusal (as_setup M s) e → refusal (test 12 (too_few M) ∷ []) ≡ call_refusal M map s e
      last fits =
          sym (refusal_then (event_tests (as_setup M s) e) (test 12 (too_few M) ∷ []) (event_clear (as_setup M s) e (sym fits)))
          ∙ passed

      -- the last test decides
      pub call_last : 0 < M.share → 0 ≡ event_refusal (as_setup M s) e → cond (ltb (M.tables.levels - 1) M.share) 0 12 ≡ call_refusal M map s e
      unfolding refusal
      call_last some fits = enough (dec_lt (M.tables.levels - 1) M.share) ∙ last fits
        where
          enough : Dec (M.tables.levels - 1 < M.share) → cond (ltb (M.tables.levels - 1) M.share) 0 12 ≡ refusal (test 12 (too_few M) ∷ [])
          enough (yes h) = simp (lt-ltb (M.tables.levels - 1) M.share h, le-ltb (M.share - 1) (M.tables.levels - 1) (omega arith))
          enough (no h) = simp (le-ltb (M.tables.levels - 1) M.share (omega arith), lt-ltb (M.share - 1) (M.tables.levels - 1) (omega arith))

      pub call_few : M.share - 1 < M.tables.levels - 1 → 0 ≡ event_refusal (as_setup M s) e → 12 ≡ call_refusal M map s e
      unfolding refusal
      call_few h fits = simp (lt-ltb (M.share - 1) (M.tables.levels - 1) h) at (last fits)

      pub call_accepted : M.tables.levels - 1 ≤ M.share - 1 → 0 ≡ event_refusal (as_setup M s) e → 0 ≡ call_refusal M map s e
      unfolding refusal
      call_accepted h fits = simp (le-ltb (M.share - 1) (M.tables.levels - 1) h) at (last fits)

-- ---- an accepted call

module _ (M : Machine) (map : List ℕ) (s : State) (e : Event) where
  abbrev tests : List Test
  tests =
      test 1 (not (ranges_fit M && lengths_fit M map s.shadow s.slots && eqb (length s.words) (frame_words * M.frames)))
      ∷ test 2 (not (frames_fit M map))
      ∷ test 3 (not (lawful M map s))
      ∷ event_tests (as_setup M s) e ++ (test 12 (too_few M) ∷ [])

  module _ (ok : call_refusal M map s e ≡ 0) where
    none_met : Clear tests
    unfolding call_refusal
    none_met =
        clear tests
        (omega arith, (omega arith, (omega arith, (omega arith, (omega arith, (omega arith, (omega arith, (omega arith, (omega arith, (omega arith, (omega arith, tt)))))))))))
        ok

    lengths : (ranges_fit M ≡ true) × (lengths_fit M map s.shadow s.slots ≡ true) × (length s.words ≡ frame_words * M.frames)
    lengths =
        let h = both (ranges_fit M && lengths_fit M map s.shadow s.slots) (eqb (length s.words) (frame_words * M.frames)) (not-false _ none_met.0) in
        let g = both (ranges_fit M) (lengths_fit M map s.shadow s.slots) h.0 in
        (g.0, g.1, eqb-true (length s.words) (frame_words * M.frames) h.1)

    pub accepted_ranged : Ranged M
    accepted_ranged = ranged M lengths.0

    pub accepted_exact : Exact M map s.shadow s.slots
    accepted_exact = exact M map s.shadow s.slots lengths.1

    pub accepted_words : length s.words ≡ frame_words * M.frames
    accepted_words = lengths.2

    pub accepted_frames : frames_fit M map ≡ true
    accepted_frames = not-false _ none_met.1.0

    frames : (pool_fits M ≡ true) × (map_fits (2 ^ M.tables.frame_bits) map ≡ true)
    unfolding frames_fit
    frames =
        let h = both (pool_fits M && map_fits (2 ^ M.tables.frame_bits) map) (all (length map) (λ i. not (in_pool M (get_or map i 0)))) accepted_frames in
        both (pool_fits M) (map_fits (2 ^ M.tables.frame_bits) map) h.0

    pub accepted_room : M.base + table_count M ≤ 2 ^ M.tables.frame_bits
    accepted_room = pool_room M frames.0

    pub accepted_map : map_fits (2 ^ M.tables.frame_bits) map ≡ true
    accepted_map = frames.1

    pub accepted_lawful : lawful M map s ≡ true
    accepted_lawful = not-false _ none_met.1.1.0

    pub accepted_own : e.proc < M.processors
    accepted_own = leb-false M.processors e.proc none_met.1.1.1.0

    by_rule : (all (table_count M) (table_right M map s.shadow) ≡ true) × (all M.processors (λ p. all 8 (slot_right M s.shadow.pool s.slots p)) ≡ true)
    unfolding lawful
    by_rule =
        let h = both (all (table_count M) (table_right M map s.shadow) && all M.processors (λ p. table_whole M map s.shadow.pool M.tables.levels (root_of M p))) (all M.processors (λ p. all 8 (slot_right M s.shadow.pool s.slots p))) accepted_lawful in
        ((both (all (table_count M) (table_right M map s.shadow)) (all M.processors (λ p. table_whole M map s.shadow.pool M.tables.levels (root_of M p))) h.0).0, h.1)

    pub accepted_event : event_refusal (as_setup M s) e ≡ 0
    unfolding event_refusal
    accepted_event =
        let t = none_met.1.1.1 in
        refusal_none (event_tests (as_setup M s) e) (t.0, (t.1.0, (t.1.1.0, (t.1.1.1.0, (t.1.1.1.1.0, (t.1.1.1.1.1.0, (t.1.1.1.1.1.1.0, tt)))))))

    pub accepted_cr3 : is_cr3_write e ≡ true → e.a < M.frames
    accepted_cr3 q = leb-false M.frames e.a (no_and (is_cr3_write e) (leb M.frames e.a) none_met.1.1.1.1.1.1.0 q)

    -- the roots' frames, and the slots
    pub accepted_frame : (t : ℕ) → t < table_count M → (shadows s.shadow.records t).0 < M.frames
    accepted_frame t h = shadows_within M map s.shadow t (all-at (table_right M map s.shadow) (table_count M) by_rule.0 t h)

    pub accepted_slot : (k : ℕ) → k < 8 → slot_right M s.shadow.pool s.slots e.proc k ≡ true
    accepted_slot k h =
        all-at (slot_right M s.shadow.pool s.slots e.proc) 8
        (all-at (λ p. all 8 (slot_right M s.shadow.pool s.slots p)) M.processors by_rule.1 e.proc accepted_own) k h

    -- the numbers of its event, by kind
    pub record Numbers : Type 0 where
      pub kind : (1 ≤ e.kind) × (e.kind ≤ 7)
      pub stores : e.kind ≡ 1 → e.a < length s.words
      pub requests : e.kind ≡ 4 → e.b < 6
      pub begins : e.kind ≡ 5 → e.b < 8
      pub extends : e.kind ≡ 6 → e.a < 8
      pub drops : e.kind ≡ 7 → e.a < 8

    pub accepted_numbers : Numbers
    accepted_numbers =
        let t = none_met.1.1.1 in
        let kinds = (no_or (eqb e.kind 0 || ltb 7 e.kind) _ t.1.1.1.1.1.1.0).0 in
        let kind = no_or (eqb e.kind 0) (ltb 7 e.kind) kinds in
        let slot = no_or (is_begin e && ltb 7 e.b) ((is_extend e || is_drop e) && ltb 7 e.a) t.1.1.1.1.1.0 in
        record {
          kind = (some_kind e.kind kind.0, ltb-false 7 e.kind kind.1);
          stores = λ q. omega (arith, accepted_words, leb-false (frame_words * M.frames) e.a (no_and (is_store e) _ t.1.1.1.1.0 (eq-eqb e.kind 1 q)));
          requests = λ q. omega (arith, ltb-false 5 e.b (no_and (is_access e) _ t.1.1.0 (eq-eqb e.kind 4 q)));
          begins = λ q. omega (arith, ltb-false 7 e.b (no_and (is_begin e) _ slot.0 (eq-eqb e.kind 5 q)));
          extends = λ q. omega (arith, ltb-false 7 e.a (no_and (is_extend e || is_drop e) _ slot.1 (ap (λ (b : Bool). b || is_drop e) (eq-eqb e.kind 6 q))));
          drops = λ q. omega (arith, ltb-false 7 e.a (no_and (is_extend e || is_drop e) _ slot.1 (or_true (is_extend e) (is_drop e) (eq-eqb e.kind 7 q))));
        }

-- ---- what the functions ask for

pub frames_sized : (z : Sizes) (map : List ℕ) → ranges_fit (machine64 z) ≡ true → frames_fit (machine64 z) map ≡ true → Sized z
unfolding frames_fit
frames_sized z map ranges frames =
    let g = both (pool_fits (machine64 z) && map_fits (2 ^ 40) map) (all (length map) (λ i. not (in_pool (machine64 z) (get_or map i 0)))) frames in
    sized z ranges (both (pool_fits (machine64 z)) (map_fits (2 ^ 40) map) g.0).0

-- sizes out of range do not fit
pub fits_unsized : (z : Sizes) (map : List ℕ) → ranges_fit (machine64 z) ≡ true → (Sized z → ⊥) → frames_fit (machine64 z) map ≡ false
fits_unsized z map ranges out = false_from_ne_true (frames_fit (machine64 z) map) (λ fits. out (frames_sized z map ranges fits))

-- a pool of sizes in range does
pub pool_sized : (z : Sizes) → Sized z → pool_fits (machine64 z) ≡ true
unfolding pool_fits
pool_sized z ok = le-leb (z.base + table_count (machine64 z)) (2 ^ 40) ok.pool

module _ (z : Sizes) (map : List ℕ) (s : State) (e : Event) (ok : call_refusal (machine64 z) map s e ≡ 0) where
  accepted_sized : Sized z
  accepted_sized =
      let r = accepted_ranged (machine64 z) map s e ok in
      record {
        frames = r.frames.1;
        processors = r.processors.1;
        some = omega (arith, r.share);
        share = r.share.1;
        pool = accepted_room (machine64 z) map s e ok;
      }

  pub ready : Ready z map s.shadow.records s.slots e.proc
  ready =
      let own = accepted_own (machine64 z) map s e ok in
      let x = accepted_exact (machine64 z) map s e ok in
      let r = accepted_ranged (machine64 z) map s e ok in
      let root = root_small accepted_sized e.proc own in
      record {
        owner = record { own = own; triples = omega (arith, x.triples) };
        spare = r.share.0;
        guests = omega (arith, x.guests, r.frames);
        hosts = hosts_below (2 ^ 40) (omega arith) map (accepted_map (machine64 z) map s e ok);
        pairs = x.pairs;
        cr3 = omega (arith, accepted_frame (machine64 z) map s e ok (root_of (machine64 z) e.proc) root, r.frames);
      }

  pub fitting : Fitting s.words s.slots e
  fitting =
      let n = accepted_numbers (machine64 z) map s e ok in
      record {
        kind = n.kind;
        stores = n.stores;
        requests = n.requests;
        begins = n.begins;
        extends = n.extends;
        drops = n.drops;
        stands = λ k h. standing z accepted_sized s.shadow.pool s.slots e.proc k (accepted_slot (machine64 z) map s e ok k h);
      }
