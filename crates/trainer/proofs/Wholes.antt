-- The whole call: what was read, and what has been written from the first byte on, as the promise says.
use mathlib.Core.Path.{◌≡◌, refl, sym, ap, ap₂, subst⁻¹, ◌∙◌}
use mathlib.Core.Bool.{Bool, true, false, cond, ◌&&◌}
use mathlib.Core.List.{List}
use Prim.Native.Nat.{ℕ, ◌+◌, ◌*◌, ◌/◌, ◌≤◌}
use native.Mathlib.Decide.{ℕ_discrete}
use native.Mathlib.Omega.{arith}
use lib.Dec.{eqb, leb}
use lib.ListN.{length, take, drop, replicate, length-append, length-replicate}
use lib.Seq.{take_at}
use borrow.Author.Tests.{eq-eqb, ne_eqb}
use Rattle.paging.specs.Layout.{frame_words}
use Rattle.sections.specs.Sections.{Got, got, refused, Puzzle, puzzle_of}
use Rattle.puzzle.specs.Buffers.{ReadResult, Accepted, Refused as Unread, Buffers, buffers, After, after, laid, words_of, answer, read_call}
use Rattle.puzzle.specs.PartsCode.{Lengths}
use Rattle.puzzle.proofs.Accepted.{accepted}
use Rattle.render.specs.declared.Printer.{Printer}
use Rattle.render.specs.WrittenCode.{Out, out_of, place_of, written, Puts}
use Rattle.render.proofs.Writes.{written_front}
use Rattle.trainer.specs.declared.Written.{Written}
use Rattle.trainer.specs.Call.{posed, puzzle_in, Lines, Prints, Call, text_told, told_of, output_size}
use Rattle.trainer.specs.PartsCode.{PrintedTo}
use Rattle.trainer.specs.Ready.{Printable}
use Rattle.trainer.proofs.Puzzles.{Sizes, sizes, ready}
use Rattle.puzzle.proofs.Theorems as reads

abbrev pub zeros : Buffers
zeros = buffers (replicate 16 0) (replicate 4 0) (replicate 8192 0) (replicate 1024 0) (replicate 48 0)

-- ---- what `read` says

judged-by : (b : Buffers) → Lengths b → (text : List ℕ) → read_call text b ≡ answer (puzzle_in text) b
unfolding read_call
judged-by b l text = go (leb (length text) 65536)
  where
    go : (t : Bool) → cond (t && eqb (length b.map) 16 && eqb (length b.cr3s) 4 && eqb (length b.words) 8192 && eqb (length b.events) 1024 && eqb (length b.questions) 48) (answer (puzzle_of text) b) (after (Unread 1 0) b)
        ≡ answer (cond t (puzzle_of text) (refused 1 0)) b
    go true =
        simp (eq-eqb (length b.map) 16 l.map, eq-eqb (length b.cr3s) 4 l.cr3s, eq-eqb (length b.words) 8192 l.words, eq-eqb (length b.events) 1024 l.events, eq-eqb (length b.questions) 48 l.questions)
    go false = refl

judged : (text : List ℕ) → read_call text zeros ≡ answer (puzzle_in text) zeros
judged =
    judged-by zeros
    (record { map = length-replicate {A = ℕ} 16 0; cr3s = length-replicate {A = ℕ} 4 0; words = length-replicate {A = ℕ} 8192 0; events = length-replicate {A = ℕ} 1024 0; questions = length-replicate {A = ℕ} 48 0 })

-- a result that is known, in the words of the promise
pub says : (text : List ℕ) (new : Buffers) {r s : ReadResult} → r ≡ s → after r new ≡ read_call text zeros → after s new ≡ answer (puzzle_in text) zeros
says text new e h = ap (λ (x : ReadResult). after x new) (sym e) ∙ h ∙ judged text

pub read_refused : (m : Got Puzzle) (old new : Buffers) {n l : ℕ} → after (Unread n l) new ≡ answer m old → m ≡ refused n l
read_refused (refused k j) old new {n} {l} e = let h : Unread n l ≡ Unread k j = ap (λ (x : After). x.result) e in cc
read_refused (got z at) old new {n} {l} e = let h = ap (λ (x : After). x.result) e in let y : ◌≡◌ {A = ℕ} 0 1 = cc in absurd (omega arith)

-- ---- an accepted text

-- the counts of a puzzle that stands in front of longer buffers
pub record Counts (b : Buffers) (g p e q : ℕ) : Type 0 where
  pub map : 1 * g ≤ length b.map
  pub cr3s : 1 * p ≤ length b.cr3s
  pub words : frame_words * g ≤ length b.words
  pub events : 4 * e ≤ length b.events
  pub questions : 3 * q ≤ length b.questions

abbrev pub cut : Buffers → ℕ → ℕ → ℕ → ℕ → Buffers
cut b g p e q =
    buffers (take (1 * g) b.map) (take (1 * p) b.cr3s) (take (frame_words * g) b.words) (take (4 * e) b.events) (take (3 * q) b.questions)

pub record Took (text : List ℕ) (b : Buffers) (g p e q : ℕ) : Type 0 where
  pub puzzle : Puzzle
  pub place : ℕ
  pub is : puzzle_in text ≡ got puzzle place
  pub fronts : cut b g p e q ≡ posed puzzle
  pub counts : Counts b g p e q
  pub ready : Printable (posed puzzle)

pub in_text : (text : List ℕ) (t : Bool) {z : Puzzle} {at : ℕ} → cond t (puzzle_of text) (refused 1 0) ≡ got z at → puzzle_of text ≡ got z at
in_text text true e = e
in_text text false e = let y : ◌≡◌ {A = ℕ} 0 1 = cc in absurd (omega arith)

-- the front of a buffer
front : (new old : List ℕ) {l : List ℕ} {n : ℕ} → l ≡ laid new old → n ≡ length new → (take n l ≡ new) × (n ≤ length l)
unfolding laid
front new old {l} {n} e h =
    (ap (take n) e ∙ take_at new (drop (length new) old) n (sym h), omega (arith, ap length e ∙ length-append new (drop (length new) old)))

took_by : (text : List ℕ) (old new : Buffers) (m : Got Puzzle) {g p w e q : ℕ} → puzzle_in text ≡ m → after (Accepted g p w e q) new ≡ answer m old → Took text new g p e q
took_by text old new (refused k j) says eq = let h = ap (λ (x : After). x.result) eq in let y : ◌≡◌ {A = ℕ} 0 1 = cc in absurd (omega arith)
took_by text old new (got z at) {g} {p} {w} {e} {q} says eq =
    let is : puzzle_of text ≡ got z at = in_text text (leb (length text) 65536) says in
    let r : Sizes z = sizes z (accepted text is) in
    let h : Accepted g p w e q ≡ Accepted (length z.map) (length z.cr3s) (length z.pairs / 2) (length z.events / 4) (length z.questions / 3) = ap (λ (x : After). x.result) eq in
    let hg : g ≡ length z.map = cc in
    let hp : p ≡ length z.cr3s = cc in
    let he : e ≡ length z.events / 4 = cc in
    let hq : q ≡ length z.questions / 3 = cc in
    let hw : 512 * g ≡ length (words_of z) = omega (arith, reads.words_long text is) in
    let fg = front z.map old.map {n = 1 * g} (ap (λ (x : After). x.buffers.map) eq) (omega (arith, hg)) in
    let fp = front z.cr3s old.cr3s {n = 1 * p} (ap (λ (x : After). x.buffers.cr3s) eq) (omega (arith, hp)) in
    let fw = front (words_of z) old.words (ap (λ (x : After). x.buffers.words) eq) hw in
    let fe = front z.events old.events {n = 4 * e} (ap (λ (x : After). x.buffers.events) eq) (omega (arith, r.fours)) in
    let fq = front z.questions old.questions {n = 3 * q} (ap (λ (x : After). x.buffers.questions) eq) (omega (arith, r.threes)) in
    record {
      puzzle = z;
      place = at;
      is = says;
      fronts = λ i. buffers (fg.0 i) (fp.0 i) (fw.0 i) (fe.0 i) (fq.0 i);
      counts = record { map = fg.1; cr3s = fp.1; words = fw.1; events = fe.1; questions = fq.1 };
      ready = ready text z at is;
    }

pub took : (text : List ℕ) (new : Buffers) {g p w e q : ℕ} → after (Accepted g p w e q) new ≡ answer (puzzle_in text) zeros → Took text new g p e q
took text new eq = took_by text zeros new (puzzle_in text) refl eq

-- the fronts are the puzzle's lists
pub fronts_are : {text : List ℕ} {b : Buffers} {g p e q : ℕ} (t : Took text b g p e q) {map cr3s words events questions : List ℕ}
    → map ≡ take (1 * g) b.map → cr3s ≡ take (1 * p) b.cr3s → words ≡ take (frame_words * g) b.words → events ≡ take (4 * e) b.events
    → questions ≡ take (3 * q) b.questions → buffers map cr3s words events questions ≡ posed t.puzzle
fronts_are t m c w e q = (λ i. buffers (m i) (c i) (w i) (e i) (q i)) ∙ t.fronts

-- ---- what was written

pub printed : {Of : Lines} {text bytes : List ℕ} (m : Got Puzzle) → puzzle_in text ≡ m → Prints Of m bytes
    → {before after : Printer} → Puts bytes before after → before.at ≡ 0 → after.at ≤ before.at + output_size
    → {w : Written} → text_told w ≡ told_of m after.at → PrintedTo Of text w before after
printed {Of} {bytes} m is p {after} put none few counted =
    let n : after.at ≡ length bytes = omega (arith, put.at, none) in
    record {
      bytes = bytes;
      prints = subst⁻¹ (λ (x : Got Puzzle). Prints Of x bytes) is p;
      counted = counted ∙ ap (told_of m) n ∙ ap (λ (x : Got Puzzle). told_of x (length bytes)) (sym is);
      puts = put;
      few = few;
    }

pub call_by : {Of : Lines} {text before after : List ℕ} {w : Written} {new last : Printer} → PrintedTo Of text w new last
    → new.at ≡ 0 → new.out.now ≡ before → after ≡ last.out.now → length before ≡ output_size → Call Of text before (text_told w) after
call_by {before} {new} {last} p none same behind long =
    let h : length p.bytes ≤ length before = omega (arith, p.puts.at, p.few, none, long) in
    let start : place_of new ≡ out_of 0 before = ap₂ out_of none same in
    let w = p.puts.wrote ∙ ap (written p.bytes) start ∙ written_front p.bytes before h in
    record {
      refused = λ d. absurd (d long);
      printed = λ d. record { bytes = p.bytes; prints = p.prints; fits = h; counted = p.counted; holds = behind ∙ ap (λ (o : Out). o.buffer) w };
    }

pub fits_output : (n : ℕ) → ◌≡◌ {A = ℕ} 0 (cond (eqb n output_size) 0 1) → n ≡ output_size
fits_output n e = go (ℕ_discrete n output_size)
  where
    go : Dec (n ≡ output_size) → n ≡ output_size
    go (yes h) = h
    go (no h) = absurd (omega (arith, e ∙ ap (λ (b : Bool). cond b 0 1) (ne_eqb n output_size h)))
