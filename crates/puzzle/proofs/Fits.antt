-- Numbers in range are what the rules ask for: map frames, CR3s, events and questions.
use mathlib.Core.Path.{◌≡◌, refl, sym, ap, ◌∙◌}
use mathlib.Core.Bool.{Bool, true, false, cond, ◌||◌, ◌&&◌, and-false}
use mathlib.Core.List.{List, [], ◌∷◌}
use Prim.Native.Nat.{ℕ, ◌+◌, ◌-◌, ◌*◌, ◌%◌, ◌^◌, ◌<◌}
use native.Mathlib.Omega.{arith}
use lib.Dec.{eqb, ltb, leb}
use lib.ListN.{length, take, get_or}
use lib.Seq.{length-take-le, get_or-take}
use borrow.Author.Tests.{lt-leb, le-ltb, ltb-true, leb-true, eqb-true}
use Rattle.paging.specs.Layout.{tables64, frame_words}
use Rattle.paging.proofs.Tests.{both, true_T}
use Rattle.paging.specs.Frame.{Distinct}
use Rattle.paging.proofs.Frames.{distinct, new_differs, new_cut}
use Rattle.rules.specs.Refusal.{refusal, Test}
use Rattle.rules.specs.History.{event_refusal, setup64, is_begin, event_tests}
use Rattle.rules.specs.Outcome.{question_refusal}
use Rattle.sections.specs.declared.Section.TheVariants.{Map, Cr3s, Events, Questions}
use Rattle.sections.specs.Sections.{map_range, event_range, question_range, RangedSection}
use Rattle.rules.specs.Numbers.{event_of, question_of}
use Rattle.puzzle.specs.Setup.{InEvent}
use Rattle.rules.specs.declared.Event.{Event}
use Rattle.rules.proofs.Ranges.{Clear, event_clear}

-- ---- map frames

module _ {l : List ℕ} (r : RangedSection Map 0 0 l) where
  pub frame_below : (i : ℕ) → i < length l → get_or l i 0 < 2 ^ 20
  unfolding map_range
  frame_below i h = ltb-true (get_or l i 0) (2 ^ 20) (both (ltb (get_or l i 0) (2 ^ 20)) _ (r.each i h)).0

  pub frames_differ : Distinct l
  unfolding map_range
  frames_differ = distinct l new
    where
      new : (i j : ℕ) → i < j → j < length l → get_or l i 0 ≡ get_or l j 0 → ⊥
      new i j h k =
          let e = (both (ltb (get_or l j 0) (2 ^ 20)) _ (r.each j k)).1 in
          new_differs l j (get_or l j 0) (sym (new_cut l j (get_or l j 0) (omega arith)) ∙ e) i h

pub cr3-below : {G : ℕ} {l : List ℕ} → RangedSection Cr3s G 0 l → (i : ℕ) → i < length l → get_or l i 0 < G
cr3-below {G} {l} r i h = ltb-true (get_or l i 0) G (r.each i h)

-- ---- an event whose numbers are in range

-- an event's tests read neither words nor CR3s
same_tests : (G P : ℕ) (words cr3s : List ℕ) (e : Event) → event_refusal (setup64 G P [] []) e ≡ event_refusal (setup64 G P words cr3s) e
unfolding event_refusal
same_tests G P words cr3s e = refl

clear_refusal : (ts : List Test) → Clear ts → refusal ts ≡ 0
unfolding refusal
clear_refusal [] c = refl
clear_refusal (t ∷ ts) c = ap (λ (b : Bool). cond b t.number (refusal ts)) c.0 ∙ clear_refusal ts c.1

neither : (a b : Bool) → a || b ≡ false → (a ≡ false) × (b ≡ false)
neither true b e = absurd (true_T false (sym e))
neither false b e = (refl, e)

-- an event that the rules take can be written: each of its beginnings fits
module _ (G P : ℕ) (some : 0 < G) where
  in_range_lem : (e : Event) → Clear (event_tests (setup64 G P [] []) e) → eqb (event_refusal (setup64 G P [] []) e) 0 ≡ true
  unfolding event_refusal
  in_range_lem e c = ap (λ (n : ℕ). eqb n 0) (clear_refusal (event_tests (setup64 G P [] []) e) c)

  pub event-written : (words cr3s : List ℕ) (e : Event) → event_refusal (setup64 G P words cr3s) e ≡ 0 → InEvent G P e
  unfolding event_range
  event-written words cr3s e z =
      let t = event_clear (setup64 G P words cr3s) e z in
      let slot = neither (is_begin e && ltb 7 e.b) _ t.1.1.1.1.1.0 in
      let kind = neither (eqb e.kind 0 || ltb 7 e.kind) _ t.1.1.1.1.1.1.0 in
      let frame : leb G 0 ≡ false = lt-leb G 0 some in
      let word : leb (frame_words * G) 0 ≡ false = lt-leb (frame_words * G) 0 (omega arith) in
      record {
        processor = in_range_lem (record { proc = e.proc; kind = 1; a = 0; b = 0 }) (t.0, (refl, (refl, (refl, (word, (refl, (refl, tt)))))));
        kind =
            in_range_lem (record { proc = e.proc; kind = e.kind; a = 0; b = 0 })
            (t.0, (simp and-false, (simp and-false, (simp (frame, and-false), (simp (word, and-false), (simp and-false, (simp (kind.0, and-false), tt)))))));
        first =
            in_range_lem (record { proc = e.proc; kind = e.kind; a = e.a; b = 0 })
            (t.0, (t.1.0, (simp and-false, (t.1.1.1.0, (t.1.1.1.1.0, (simp (slot.1, and-false), (simp (kind.0, and-false), tt)))))));
        second = in_range_lem e t;
      }

pub written-event : (G P : ℕ) (words cr3s : List ℕ) (e : Event) → InEvent G P e → event_refusal (setup64 G P words cr3s) e ≡ 0
unfolding event_range
written-event G P words cr3s e i = sym (same_tests G P words cr3s e) ∙ eqb-true (event_refusal (setup64 G P [] []) e) 0 i.second

-- with its last number an event is whole
module _ {G P : ℕ} {l : List ℕ} (r : RangedSection Events G P l) (k : ℕ) (h : 4 * k < length l) where
  pub event-fits : (words cr3s : List ℕ) → event_refusal (setup64 G P words cr3s) (event_of l k) ≡ 0
  unfolding event_range
  event-fits words cr3s =
      let long : 4 * k + 3 < length l = omega (arith, r.long) in
      let n = length-take-le (4 * k + 3) l (omega arith) in
      let part : (4 * k + 3) % 4 ≡ 3 = omega arith in
      let i : 4 * k + 3 - 3 ≡ 4 * k = omega arith in
      let j : 4 * k + 3 - 2 ≡ 4 * k + 1 = omega arith in
      let m : 4 * k + 3 - 1 ≡ 4 * k + 2 = omega arith in
      let whole : eqb (event_refusal (setup64 G P [] []) (event_of l k)) 0 ≡ true =
      simp (n, part, i, j, m, get_or-take (4 * k + 3) l (4 * k) 0 (omega arith), get_or-take (4 * k + 3) l (4 * k + 1) 0 (omega arith), get_or-take (4 * k + 3) l (4 * k + 2) 0 (omega arith)) at (r.each (4 * k + 3) long) in
      sym (same_tests G P words cr3s (event_of l k)) ∙ eqb-true _ 0 whole

-- ---- a question, which is tested as an access

module _ {G P : ℕ} {l : List ℕ} (r : RangedSection Questions G P l) (k : ℕ) (h : 3 * k < length l) where
  whole_question : 3 * k + 2 < length l
  whole_question = omega (arith, r.long)

  asker_in : get_or l (3 * k) 0 < P
  unfolding question_range
  asker_in =
      let n = length-take-le (3 * k) l (omega (arith, whole_question)) in
      let e : length (take (3 * k) l) % 3 ≡ 0 = omega arith in
      ltb-true (get_or l (3 * k) 0) P (simp e at (r.each (3 * k) h))

  address_in : tables64.allowed (get_or l (3 * k + 1) 0) ≡ true
  unfolding question_range
  address_in =
      let n = length-take-le (3 * k + 1) l (omega (arith, whole_question)) in
      let e : length (take (3 * k + 1) l) % 3 ≡ 1 = omega arith in
      simp e at (r.each (3 * k + 1) (omega (arith, whole_question)))

  request_in : leb (get_or l (3 * k + 2) 0) 5 ≡ true
  unfolding question_range
  request_in =
      let n = length-take-le (3 * k + 2) l (omega (arith, whole_question)) in
      let e : length (take (3 * k + 2) l) % 3 ≡ 2 = omega arith in
      simp e at (r.each (3 * k + 2) whole_question)

  pub question-fits : (words cr3s : List ℕ) → question_refusal (setup64 G P words cr3s) (question_of l k) ≡ 0
  unfolding event_refusal refusal
  question-fits words cr3s =
      simp (lt-leb P (get_or l (3 * k) 0) asker_in, address_in, le-ltb 5 (get_or l (3 * k + 2) 0) (leb-true (get_or l (3 * k + 2) 0) 5 request_in))
