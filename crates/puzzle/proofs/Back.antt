-- A puzzle in range is read back from its five lines: each section's count is the next number, at once or behind the line
-- feed of the section before, and behind the last one stands nothing.
use mathlib.Core.Path.{◌≡◌, refl, sym, ap, ◌∙◌}
use mathlib.Core.List.{List, [], ◌∷◌, ◌++◌, append_assoc, append-nil}
use Prim.Native.Nat.{ℕ, ◌+◌, ◌-◌, ◌*◌, ◌/◌, ◌≤◌}
use native.Mathlib.Omega.{arith}
use lib.ListN.{length, drop, length-drop}
use lib.Seq.{drop-drop}
use borrow.Author.Tests.{eq-eqb}
use Rattle.paging.proofs.Numbers.{between}
use Rattle.cursor.specs.Text.{blanks, past_blanks, digits_of, spaced}
use Rattle.cursor.proofs.Back.{at_once, past_one}
use Rattle.sections.specs.declared.Section.{Section}
use Rattle.sections.specs.declared.Section.TheVariants.{Map, Cr3s, Words, Events, Questions}
use Rattle.sections.specs.Sections.{got, width, RangedSection, section, Puzzle, ended, puzzle_of}
use Rattle.sections.proofs.Back.{UpTo, section_back}
use Rattle.puzzle.specs.Lines.{InRange, line_of, lines_of}

quotient : (k : Section) (n : ℕ) → n * width k / width k ≡ n
quotient Map n = omega arith
quotient Cr3s n = omega arith
quotient Words n = omega arith
quotient Events n = omega arith
quotient Questions n = omega arith

module _ {k : Section} {G P : ℕ} {ns : List ℕ} (r : RangedSection k G P ns) (few : G ≤ 16) (text : List ℕ) (at : ℕ) (rest : List ℕ) where
  line_is : line_of k ns ++ rest ≡ digits_of r.count ++ (spaced ns ++ rest)
  line_is =
      append_assoc (digits_of (length ns / width k)) (spaced ns) rest
      ∙ ap (λ (n : ℕ). digits_of n ++ (spaced ns ++ rest)) (ap (λ (n : ℕ). n / width k) r.long ∙ quotient k r.count)

  first_back : drop at text ≡ line_of k ns ++ rest → UpTo (section k G P text at) text ns rest
  first_back d = section_back r few text rest at at (at_once text at r.count (spaced ns ++ rest) (d ∙ line_is)) (d ∙ line_is)

  later_back : drop at text ≡ 10 ∷ (line_of k ns ++ rest) → UpTo (section k G P text at) text ns rest
  later_back d =
      let e : drop at text ≡ 10 ∷ (digits_of r.count ++ (spaced ns ++ rest)) = d ∙ ap (λ (l : List ℕ). 10 ∷ l) line_is in
      section_back r few text rest at (at + 1) (past_one text at r.count (spaced ns ++ rest) 10 refl e) (sym (drop-drop 1 at text) ∙ ap (drop 1) e)

ended_back : (z : Puzzle) (text : List ℕ) (at : ℕ) → drop at text ≡ 10 ∷ [] → ended z text at ≡ got z (length text)
unfolding ended blanks
ended_back z text at d =
    let n : length text - at ≡ 1 = sym (length-drop at text) ∙ ap length d in
    let b : blanks (drop at text) ≡ 1 = ap blanks d in
    simp (eq-eqb (past_blanks text at) (length text) (omega arith))

pub lines_back : (z : Puzzle) → InRange z → puzzle_of (lines_of z) ≡ got z (length (lines_of z))
unfolding puzzle_of
lines_back z r =
    let text = lines_of z in
    let few : length z.map ≤ 16 = omega (arith, r.map.long, between 1 16 r.map.count r.map.counted) in
    let last = line_of Questions z.questions in
    let fourth = line_of Events z.events ++ last in
    let third = line_of Words z.pairs ++ fourth in
    let m = first_back r.map (omega arith) text 0 (line_of Cr3s z.cr3s ++ third) (unfold lines_of in refl) in
    let c = later_back r.cr3s few text m.to third m.left in
    let w = later_back r.pairs few text c.to fourth c.left in
    let e = later_back r.events few text w.to last w.left in
    let q = later_back r.questions few text e.to [] (e.left ∙ ap (λ (l : List ℕ). 10 ∷ l) (sym (append-nil last))) in
    rw (m.says, c.says, w.says, e.says, q.says) (ended_back z text q.to q.left)
