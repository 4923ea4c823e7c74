-- All sections of an accepted text are in range.
use mathlib.Core.Path.{◌≡◌, subst}
use mathlib.Core.Bool.{Bool, true, false, cond}
use mathlib.Core.List.{List}
use Prim.Native.Nat.{ℕ}
use lib.Dec.{eqb}
use lib.ListN.{length}
use Rattle.cursor.specs.Text.{line_at, past_blanks}
use Rattle.sections.specs.declared.Section.TheVariants.{Map, Cr3s, Words, Events, Questions}
use Rattle.sections.specs.Sections.{got, refused, section, Puzzle, ended, puzzle_of}
use Rattle.sections.proofs.Ranged.{both, ranged}
use Rattle.puzzle.specs.Lines.{InRange}
use Rattle.puzzle.specs.PartsCode.{lists}
use Rattle.puzzle.proofs.Chain.{from_cr3s, from_words, from_events, from_questions, from_end}

ended_if : (b : Bool) (z : Puzzle) (n line : ℕ) {y : Puzzle} {at : ℕ} → cond b (got z n) (refused 10 line) ≡ got y at → z ≡ y
ended_if true z n line e = cc
ended_if false z n line e = cc

ended_same : (z : Puzzle) (text : List ℕ) (at : ℕ) {y : Puzzle} {to : ℕ} → ended z text at ≡ got y to → z ≡ y
unfolding ended
ended_same z text at e = ended_if (eqb (past_blanks text at) (length text)) z (length text) (line_at text (past_blanks text at)) e

pub accepted : (text : List ℕ) {z : Puzzle} {at : ℕ} → puzzle_of text ≡ got z at → InRange z
unfolding puzzle_of from_cr3s from_words from_events from_questions from_end
accepted text {z} e =
    let m = both (section Map 0 0 text 0) (from_cr3s text) e in
    let map = m.value in
    let r = both (section Cr3s (length map) 0 text m.place) (from_words text map) m.rest in
    let cr3s = r.value in
    let w = both (section Words (length map) (length cr3s) text r.place) (from_events text map cr3s) r.rest in
    let v = both (section Events (length map) (length cr3s) text w.place) (from_questions text map cr3s w.value) w.rest in
    let q = both (section Questions (length map) (length cr3s) text v.place) (from_end text map cr3s w.value v.value) v.rest in
    let y : Puzzle = lists map cr3s w.value v.value q.value in
    let s : y ≡ z = ended_same y text q.place q.rest in
    subst InRange s
    (record {
      map = ranged Map 0 0 text 0 m.first;
      cr3s = ranged Cr3s (length map) 0 text m.place r.first;
      pairs = ranged Words (length map) (length cr3s) text r.place w.first;
      events = ranged Events (length map) (length cr3s) text w.place v.first;
      questions = ranged Questions (length map) (length cr3s) text v.place q.first;
    })
