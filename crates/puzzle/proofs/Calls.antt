-- What the calls say of the whole: the answer of a refused and of an accepted text.
use mathlib.Core.Path.{◌≡◌, sym, ap, ap₂, ◌∙◌, subst, subst⁻¹}
use mathlib.Core.Bool.{true}
use mathlib.Core.List.{List}
use Prim.Native.Nat.{ℕ, ◌*◌, ◌%◌, ◌≤◌, ◌<◌}
use native.Mathlib.Omega.{arith}
use lib.Dec.{ltb}
use lib.ListN.{length, take, get_or, replicate, length-replicate}
use lib.Seq.{length-take-le}
use borrow.Author.Tests.{eq-eqb, ltb-true}
use Rattle.sections.specs.declared.Section.TheVariants.{Words}
use Rattle.std.specs.Prelude.{Ok}
use Rattle.puzzle.specs.declared.Counts.{Counts}
use Rattle.sections.specs.Sections.{Got, got, refused, Puzzle, puzzle_of, word_range, RangedSection}
use Rattle.puzzle.specs.Buffers.{Buffers, buffers, ReadResult, Refused, result_of, after, with_pairs, words_of, laid, verdict_of, answer}
use Rattle.puzzle.specs.PartsCode.{WordsBelow, fronts, Whole}
use Rattle.paging.proofs.Tests.{both}
use Rattle.puzzle.proofs.Accepted.{accepted}
use Rattle.puzzle.proofs.Fills.{kept-laid, stored-laid, counts_are}

-- a refused text
pub refused_answer : (m : Got Puzzle) (b : Buffers) {number line : ℕ} → Refused number line ≡ verdict_of m → after (Refused number line) b ≡ answer m b
refused_answer (refused k l) b e = ap (λ (r : ReadResult). after r b) e
refused_answer (got z at) b e = cc

-- the words of accepted pairs
word_below : (G v i : ℕ) (l : List ℕ) → i * 2 ≤ length l → word_range G (take (i * 2) l) v ≡ true → v < 512 * G
unfolding word_range
word_below G v i l h e =
    let n = length-take-le (i * 2) l h in
    let even : length (take (i * 2) l) % 2 ≡ 0 = omega arith in
    ltb-true v (512 * G) (both (ltb v (512 * G)) _ (simp (eq-eqb (length (take (i * 2) l) % 2) 0 even) at e)).0

pub words-below : {G P : ℕ} {l : List ℕ} → RangedSection Words G P l → WordsBelow (512 * G) l
words-below {G} {P} {l} r = λ i h. word_below G (get_or l (i * 2) 0) i l (omega arith) (r.each (i * 2) h)

module _ {text : List ℕ} {old new : Puzzle} {n : Counts} (k : Whole text old new n) where
  frames_are : length (take n.frames new.map) ≡ n.frames
  frames_are = length-take-le n.frames new.map k.map.fits

  pub pairs_below : WordsBelow (512 * n.frames) (take (n.words * 2) new.pairs)
  pairs_below =
      subst (λ (k : ℕ). WordsBelow (512 * k) (take (n.words * 2) new.pairs)) frames_are (words-below (accepted text k.says).pairs)

  -- an accepted text, with its words stored
  pub accepted_answer : (words : List ℕ) {last : List ℕ} → last ≡ with_pairs (take (n.words * 2) new.pairs) (laid (replicate (512 * n.frames) 0) words)
      → after (result_of (Ok n)) (buffers new.map new.cr3s last new.events new.questions)
      ≡ answer (puzzle_of text) (buffers old.map old.cr3s words old.events old.questions)
  unfolding words_of
  accepted_answer words {last} s =
      let z = fronts new n.frames n.processors (n.words * 2) (n.events * 4) (n.questions * 3) in
      let zeros = length-replicate {A = ℕ} (512 * n.frames) 0 in
      let stores : last ≡ laid (words_of z) words =
      s ∙ stored-laid (take (n.words * 2) new.pairs) (replicate (512 * n.frames) 0) words (subst⁻¹ (λ (k : ℕ). WordsBelow k (take (n.words * 2) new.pairs)) zeros pairs_below)
      ∙ ap (λ (k : ℕ). laid (with_pairs (take (n.words * 2) new.pairs) (replicate (512 * k) 0)) words) (sym frames_are) in
      ap₂ after (counts_are k)
      (λ i. buffers (kept-laid k.map i) (kept-laid k.cr3s i) (stores i) (kept-laid k.events i) (kept-laid k.questions i))
      ∙ sym (ap (λ (m : Got Puzzle). answer m (buffers old.map old.cr3s words old.events old.questions)) k.says)
