-- What is proved of `answers` and `run`. Their promises are `AnswersCall` and `RunCall` in specs/; the functions in src/ are proved to keep them.
use mathlib.Core.Path.{◌≡◌, sym, ap, ◌∙◌, refl}
use mathlib.Core.List.{List, [], ◌++◌}
use Prim.Native.Nat.{ℕ, ◌/◌, ◌<◌, ◌≤◌}
use native.Mathlib.Omega.{arith}
use native.Mathlib.Decide.{ℕ_discrete}
use lib.Dec.{leb}
use lib.ListN.{length, drop}
use Rattle.std.specs.Prelude.{Result, Ok, Err}
use Rattle.rules.specs.declared.Refusal.{Refusal}
use Rattle.rules.specs.Refusal.{number_of}
use Rattle.rules.proofs.Refusals.{same_refusal}
use Rattle.rules.specs.declared.Outcome.{Outcome}
use Rattle.rules.specs.History.{setup64, event_at, event_refusal, Fit}
use Rattle.rules.specs.Numbers.{events_of, question_of}
use Rattle.listing.proofs.Accepts.{event-at, events_length}
use Rattle.tables.specs.State.{machine64, State}
use Rattle.sections.specs.Sections.{Got, got, refused, Puzzle, puzzle_of}
use Rattle.puzzle.specs.Buffers.{Buffers, words_of}
use Rattle.puzzle.proofs.Accepted.{accepted}
use Rattle.puzzle.proofs.Fits.{event-fits}
use Rattle.render.specs.Render.{render_question}
use Rattle.trainer.specs.declared.Written.{Written}
use Rattle.trainer.specs.declared.Written.TheVariants.{Lines as Wrote, Refused as RefusedOne}
use Rattle.trainer.specs.declared.Told.{Told}
use Rattle.trainer.specs.Call.{posed, puzzle_in, Lines, Prints, Call, told, told_of, bytes_of}
use Rattle.trainer.specs.Answers.{AnswersOf, AnswersCall}
use Rattle.trainer.specs.Run.{sizes_of, RunOf, RunCall, Startable}
use Rattle.trainer.proofs.Turns.{joined_same, one_right}
use Rattle.trainer.proofs.Puzzles.{ready}
use Rattle.trainer.proofs.Wholes.{in_text}
use Rattle.shadow.specs.Refusals.{as_setup}
use Rattle.puzzle.proofs.Theorems as reads

-- of one puzzle one list of bytes is printed: then a call has one result
module _ (Of : Lines) (one : (b : Buffers) (x y : List ℕ) → Of b x → Of b y → x ≡ y) where
  prints_same : (m : Got Puzzle) (x y : List ℕ) → Prints Of m x → Prints Of m y → x ≡ y
  prints_same (refused n l) x y a b = a ∙ sym b
  prints_same (got z at) x y a b = one (posed z) x y a b

  call_same : (text before : List ℕ) (r s : Told) (x y : List ℕ) → Call Of text before r x → Call Of text before s y → (r ≡ s) × (x ≡ y)
  call_same text before r s x y a b = go (ℕ_discrete (length before) 16384)
    where
      go : Dec (length before ≡ 16384) → (r ≡ s) × (x ≡ y)
      go (no n) = let (c, e) = a.refused n in let (d, f) = b.refused n in (c ∙ sym d, e ∙ sym f)
      go (yes h) =
          let p = a.printed h in
          let q = b.printed h in
          let same = prints_same (puzzle_in text) p.bytes q.bytes p.prints q.prints in
          (p.counted ∙ ap (λ (l : List ℕ). told_of (puzzle_in text) (length l)) same ∙ sym q.counted, p.holds ∙ ap (λ (l : List ℕ). l ++ drop (length l) before) same ∙ sym q.holds)

answers-same : (b : Buffers) (x y : List ℕ) → AnswersOf b x → AnswersOf b y → x ≡ y
answers-same b x y p q =
    p.are
    ∙ joined_same (length b.questions / 3) _ _
    (λ k h. ap (λ (os : List Outcome). render_question b.map (question_of b.questions k) os) (one_right b k (p.lists k) (q.lists k) (p.right k h) (q.right k h)))
    ∙ sym q.are

-- ANY TWO RESULTS THAT A PROMISE ALLOWS ARE EQUAL, the answer and the buffer, refused or not
pub one-answers : (text before : List ℕ) (r s : Told) (x y : List ℕ) → AnswersCall text before r x → AnswersCall text before s y → (r ≡ s) × (x ≡ y)
one-answers = call_same AnswersOf answers-same

pub one-run : (text before : List ℕ) (r s : Told) (x y : List ℕ) → RunCall text before r x → RunCall text before s y → (r ≡ s) × (x ≡ y)
one-run = call_same RunOf (λ b x y p q. p ∙ sym q)

-- and what a result tells is that result's alone
pub same_told : (x y : Result Written Refusal) → told x ≡ told y → x ≡ y
same_told (Ok (Wrote m)) (Ok (Wrote n)) e = let bytes : m ≡ n = cc in ap (λ (k : ℕ). Ok (Wrote k)) bytes
same_told (Ok (Wrote m)) (Ok (RefusedOne g n)) e = cc
same_told (Ok (Wrote m)) (Err s) e = cc
same_told (Ok (RefusedOne f m)) (Ok (Wrote n)) e = cc
same_told (Ok (RefusedOne f m)) (Ok (RefusedOne g n)) e =
    let number : number_of f.refusal ≡ number_of g.refusal = cc in
    let line : f.line ≡ g.line = cc in
    let bytes : m ≡ n = cc in
    let refusal = same_refusal f.refusal g.refusal number in
    λ i. Ok (RefusedOne (record { refusal = refusal i; line = line i }) (bytes i))
same_told (Ok (RefusedOne f m)) (Err s) e = cc
same_told (Err r) (Ok (Wrote n)) e = cc
same_told (Err r) (Ok (RefusedOne g n)) e = cc
same_told (Err r) (Err s) e = let number : number_of r ≡ number_of s = cc in ap Err (same_refusal r s number)

-- WHAT IS TO BE PRINTED LIES IN THE BUFFER
told_bytes : (m : Got Puzzle) (n : ℕ) → bytes_of (told_of m n) ≡ n
told_bytes (got z at) n = refl
told_bytes (refused number line) n = refl

pub bytes_inside : (Of : Lines) (text before : List ℕ) (r : Told) (after : List ℕ) → length before ≡ 16384 → Call Of text before r after → bytes_of r ≤ 16384
bytes_inside Of text before r after long c =
    let p = c.printed long in
    omega (arith, p.fits, ap bytes_of p.counted ∙ told_bytes (puzzle_in text) (length p.bytes))

-- OF AN ACCEPTED TEXT `run` FINDS NOTHING OUT OF RANGE
module _ (text : List ℕ) {z : Puzzle} {at : ℕ} (e : puzzle_in text ≡ got z at) where
  pub read : puzzle_of text ≡ got z at
  read = in_text text (leb (length text) 65536) e

  -- setup takes its map and its CR3s
  pub starts : Startable z.map z.cr3s
  starts = (ready text z at read).starts

  -- its events are a history that fits
  pub fits : Fit (setup64 (length z.map) (length z.cr3s) (words_of z) z.cr3s) (events_of z.events)
  fits = record {
    starts = reads.cr3s_below text read;
    events = λ k h.
        let lt : k < length z.events / 4 = omega (arith, events_length z.events) in
        ap (event_refusal (setup64 (length z.map) (length z.cr3s) (words_of z) z.cr3s)) (event-at z.events k lt) ∙ reads.events_fit text read k (omega arith);
  }

  -- and no state makes the event call refuse one with 4 to 9 or 11
  pub in_range_lem : (s : State) (k : ℕ) → k < length z.events / 4
      → event_refusal (as_setup (machine64 (sizes_of z.map z.cr3s)) s) (event_at (events_of z.events) k) ≡ 0
  in_range_lem s k h =
      ap (event_refusal (as_setup (machine64 (sizes_of z.map z.cr3s)) s)) (event-at z.events k h)
      ∙ event-fits (accepted text read).events k (omega arith) s.words []
