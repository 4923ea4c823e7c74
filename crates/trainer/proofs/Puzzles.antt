-- What an accepted text stands for: the list call takes each of its questions, and its lists stand in front of the buffers.
use mathlib.Core.Path.{◌≡◌, refl, ◌∙◌}
use mathlib.Core.Bool.{Bool, true, not, ◌&&◌}
use mathlib.Core.List.{List, [], ◌∷◌}
use Prim.Native.Nat.{ℕ, zero, suc, ◌+◌, ◌*◌, ◌/◌, ◌%◌, ◌^◌, ◌≤◌, ◌<◌}
use native.Mathlib.Omega.{arith}
use lib.Dec.{eqb, ltb, leb}
use lib.ListN.{length, get_or}
use borrow.Author.Tests.{eq-eqb, ne_eqb, lt-ltb, lt-leb, le-leb, leb-true}
use Rattle.paging.specs.Numbers.{all}
use Rattle.paging.specs.Layout.{frame_words}
use Rattle.paging.specs.Frame.{is_new, map_fits, cr3s_fit}
use Rattle.paging.proofs.Numbers.{between}
use Rattle.rules.specs.History.{event_refusal}
use Rattle.rules.specs.Outcome.{question_refusal}
use Rattle.listing.specs.Call.{Asked, Lent, asked, lent, setup_asked, sizes_fit, first_refusal, list_refusal}
use Rattle.rules.specs.Numbers.{event_of, question_of}
use Rattle.listing.proofs.Refuses.{or_second, list_later}
use Rattle.sections.specs.Sections.{got, Puzzle, puzzle_of}
use Rattle.puzzle.specs.Buffers.{words_of}
use Rattle.puzzle.proofs.Accepted.{accepted}
use Rattle.puzzle.specs.Lines.{InRange}
use Rattle.tables.specs.State.{machine64, shadow_of, state_of, record_size}
use Rattle.rules.specs.Refusal.{test, refusal}
use Rattle.trainer.specs.Call.{posed}
use Rattle.trainer.specs.Run.{sizes_of, Startable}
use Rattle.trainer.specs.Ready.{Posed, Printable}
use Rattle.puzzle.proofs.Theorems as reads
use Rattle.shadow.specs.Refusals as machine

all-each : (n : ℕ) (f : ℕ → Bool) → ((k : ℕ) → k < n → f k ≡ true) → all n f ≡ true
unfolding all
all-each zero f h = refl
all-each (suc n) f h = simp (all-each n f (λ k l. h k (omega arith)), h n (omega arith))

pub first-all : (n : ℕ) (f : ℕ → ℕ) → ((k : ℕ) → k < n → f k ≡ 0) → first_refusal n f ≡ 0
unfolding first_refusal
first-all zero f h = refl
first-all (suc n) f h = or_second (first_refusal n f) (f n) (first-all n f (λ k l. h k (omega arith))) ∙ h n (omega arith)

no_test : (a b c : Bool) → a ≡ true → b ≡ true → c ≡ true → refusal (test 1 (not a) ∷ test 2 (not b) ∷ test 7 (not c) ∷ []) ≡ 0
unfolding refusal
no_test a b c p q r = simp (p, q, r)

-- ---- a puzzle whose numbers are in range

pub record Sizes (z : Puzzle) : Type 0 where
  pub some : 1 ≤ length z.map
  pub frames : length z.map ≤ 16
  pub one : 1 ≤ length z.cr3s
  pub processors : length z.cr3s ≤ 4
  pub fours : length z.events % 4 ≡ 0
  pub events : length z.events ≤ 1024
  pub threes : length z.questions % 3 ≡ 0
  pub questions : length z.questions ≤ 48

pub sizes : (z : Puzzle) → InRange z → Sizes z
sizes z r =
    let g = r.map.count in
    let p = r.cr3s.count in
    let e = r.events.count in
    let q = r.questions.count in
    record {
      some = omega (arith, r.map.long, (between 1 16 g r.map.counted).0);
      frames = omega (arith, r.map.long, (between 1 16 g r.map.counted).1);
      one = omega (arith, r.cr3s.long, (between 1 4 p r.cr3s.counted).0);
      processors = omega (arith, r.cr3s.long, (between 1 4 p r.cr3s.counted).1);
      fours = omega (arith, r.events.long);
      events = omega (arith, r.events.long, leb-true e 256 r.events.counted);
      threes = omega (arith, r.questions.long);
      questions = omega (arith, r.questions.long, (between 1 16 q r.questions.counted).1);
    }

pub sizes_fit_lem : (m p e w k o : ℕ) → (1 ≤ m) × (m ≤ 256) → (1 ≤ p) × (p ≤ 4) → e % 4 ≡ 0 → e / 4 ≤ 4096 → w ≡ frame_words * m → 40 * m ≤ k → 2 * (m + 3) ≤ o
    → sizes_fit m p e w k o ≡ true
unfolding sizes_fit
sizes_fit_lem m p e w k o a b four f g h i =
    simp (
      le-leb 1 m a.0,
      le-leb m 256 a.1,
      le-leb 1 p b.0,
      le-leb p 4 b.1,
      eq-eqb (e % 4) 0 four,
      le-leb (e / 4) 4096 f,
      eq-eqb w (frame_words * m) g,
      le-leb (40 * m) k h,
      le-leb (2 * (m + 3)) o i,
    )

module _ (text : List ℕ) (z : Puzzle) (at : ℕ) (e : puzzle_of text ≡ got z at) where
  range : Sizes z
  range = sizes z (accepted text e)

  map-fits : map_fits (2 ^ 40) z.map ≡ true
  unfolding map_fits
  map-fits = all-each (length z.map) (λ i. ltb (get_or z.map i 0) (2 ^ 40) && is_new z.map i (get_or z.map i 0)) each
    where
      other : (i : ℕ) → i < length z.map → (j : ℕ) → j < i → not (eqb (get_or z.map j 0) (get_or z.map i 0)) ≡ true
      other i h j k = simp (ne_eqb (get_or z.map j 0) (get_or z.map i 0) (λ (d : get_or z.map j 0 ≡ get_or z.map i 0). omega (arith, reads.map_distinct text e j i (omega arith) h d)))

      each : (i : ℕ) → i < length z.map → (ltb (get_or z.map i 0) (2 ^ 40) && is_new z.map i (get_or z.map i 0)) ≡ true
      each i h =
          simp (lt-ltb (get_or z.map i 0) (2 ^ 40) (omega (arith, reads.map_below text e i h)), all-each i (λ j. not (eqb (get_or z.map j 0) (get_or z.map i 0))) (other i h))

  cr3s_fit_lem : cr3s_fit (length z.map) z.cr3s ≡ true
  unfolding cr3s_fit
  cr3s_fit_lem = all-each (length z.cr3s) (λ p. ltb (get_or z.cr3s p 0) (length z.map)) (λ p h. lt-ltb (get_or z.cr3s p 0) (length z.map) (reads.cr3s_below text e p h))

  posed-each : (k : ℕ) → k < length z.questions / 3 → Posed (posed z) (question_of z.questions k)
  posed-each k h = record { taken = taken; hosts = λ f l. omega (arith, reads.map_below text e f l) }
    where
      taken : (work outcomes : List ℕ) → length work ≡ 640 → length outcomes ≡ 38
          → list_refusal (asked z.map z.cr3s z.events (question_of z.questions k)) (lent (words_of z) work outcomes) ≡ 0
      taken work outcomes w o =
          let a : Asked = asked z.map z.cr3s z.events (question_of z.questions k) in
          let b : Lent = lent (words_of z) work outcomes in
          let r = range in
          let f : ℕ → ℕ = λ j. event_refusal (setup_asked a b) (event_of z.events j) in
          list_later a b (sizes_fit_lem _ _ _ _ _ _ (r.some, omega (arith, r.frames)) (r.one, r.processors) r.fours (omega (arith, r.events)) (reads.words_long text e) (omega (arith, r.frames)) (omega (arith, r.frames))) map-fits cr3s_fit_lem
          ∙ or_second (first_refusal (length z.events / 4) f) (question_refusal (setup_asked a b) (question_of z.questions k)) (first-all (length z.events / 4) f (λ j l. reads.events_fit text e j (omega arith)))
          ∙ reads.questions_fit text e k (omega arith)

  -- setup's own tests: P and G are in range, the lengths are exact, and map frames lie below the pool
  frames_fit_lem : machine.frames_fit (machine64 (sizes_of z.map z.cr3s)) z.map ≡ true
  unfolding machine.frames_fit machine.pool_fits machine.in_pool
  frames_fit_lem =
      let P = length z.cr3s in
      simp (le-leb (2 ^ 20 + P * 4) (2 ^ 40) (omega (arith, range.processors)), map-fits, all-each (length z.map) (λ i. not (leb (2 ^ 20) (get_or z.map i 0) && ltb (get_or z.map i 0) (2 ^ 20 + P * 4))) (λ i h. simp (lt-leb (2 ^ 20) (get_or z.map i 0) (reads.map_below text e i h))))

  starts : Startable z.map z.cr3s
  unfolding cr3s_fit machine.setup_refusal machine.ranges_fit machine.lengths_fit
  starts = record { few = range.processors; taken = taken }
    where
      taken : (pool records slots : List ℕ) → length pool ≡ 2048 * length z.cr3s → length records ≡ 8 * length z.cr3s → length slots ≡ 24 * length z.cr3s
          → machine.setup_refusal (machine64 (sizes_of z.map z.cr3s)) z.map z.cr3s (state_of [] (shadow_of pool records) slots) ≡ 0
      taken pool records slots a b c =
          let G = length z.map in
          let P = length z.cr3s in
          let r = range in
          let M = machine64 (sizes_of z.map z.cr3s) in
          no_test (machine.ranges_fit M && machine.lengths_fit M z.map (shadow_of pool records) slots && eqb P P) (machine.frames_fit M z.map) (cr3s_fit G z.cr3s)
          (simp (le-leb 1 G r.some, le-leb G 256 (omega (arith, r.frames)), le-leb 1 P r.one, le-leb P 4 r.processors, eq-eqb G G refl, eq-eqb P P refl, eq-eqb (length pool) (512 * (P * 4)) (omega arith), eq-eqb (length records) (record_size * (P * 4)) (omega arith), eq-eqb (length slots) (24 * P) c))
          frames_fit_lem cr3s_fit_lem

  pub ready : Printable (posed z)
  ready = record { words = omega (arith, reads.words_long text e, range.frames); few = range.questions; events = range.events; starts = starts; each = posed-each }
