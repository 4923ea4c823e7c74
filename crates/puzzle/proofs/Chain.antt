-- The sections one after the other: what is left of the text after each.
use mathlib.Core.Path.{◌≡◌, ap, ap₂, ◌∙◌, subst}
use mathlib.Core.List.{List}
use Prim.Native.Nat.{ℕ, ◌*◌}
use native.Mathlib.Nat.{mul-one}
use lib.ListN.{length, take}
use lib.Seq.{length-take-le}
use borrow.Author.Tests.{eq-eqb, ne_eqb}
use Rattle.cursor.specs.Text.{line_at, past_blanks}
use Rattle.cursor.specs.declared.Cursor.{Cursor}
use Rattle.sections.specs.declared.Section.TheVariants.{Map, Cr3s, Words, Events, Questions}
use Rattle.sections.specs.Sections.{Got, got, refused, ◌then◌, section, Puzzle, ended, puzzle_of}
use Rattle.sections.specs.PartsCode.{Kept, Front}
use Rattle.puzzle.specs.PartsCode.{lists, fronts, Whole}

module _ (text : List ℕ) where
  unfoldable pub from_end : List ℕ → List ℕ → List ℕ → List ℕ → List ℕ → ℕ → Got Puzzle
  from_end map cr3s pairs events questions at = ended (lists map cr3s pairs events questions) text at

  unfoldable pub from_questions : List ℕ → List ℕ → List ℕ → List ℕ → ℕ → Got Puzzle
  from_questions map cr3s pairs events at = section Questions (length map) (length cr3s) text at then from_end map cr3s pairs events

  unfoldable pub from_events : List ℕ → List ℕ → List ℕ → ℕ → Got Puzzle
  from_events map cr3s pairs at = section Events (length map) (length cr3s) text at then from_questions map cr3s pairs

  unfoldable pub from_words : List ℕ → List ℕ → ℕ → Got Puzzle
  from_words map cr3s at = section Words (length map) (length cr3s) text at then from_events map cr3s

  unfoldable pub from_cr3s : List ℕ → ℕ → Got Puzzle
  from_cr3s map at = section Cr3s (length map) 0 text at then from_words map

  pub after-start : {m : Got (List ℕ)} → section Map 0 0 text 0 ≡ m → puzzle_of text ≡ (m then from_cr3s)
  unfolding puzzle_of from_cr3s from_words from_events from_questions from_end
  after-start e = ap (λ (m : Got (List ℕ)). m then from_cr3s) e

  module _ (map : List ℕ) (at : ℕ) {g : ℕ} (l : length map ≡ g) where
    pub after_map : {m : Got (List ℕ)} → section Cr3s g 0 text at ≡ m → from_cr3s map at ≡ (m then from_words map)
    unfolding from_cr3s
    after_map e = ap (λ (n : ℕ). section Cr3s n 0 text at then from_words map) l ∙ ap (λ (m : Got (List ℕ)). m then from_words map) e

    module _ (cr3s : List ℕ) {p : ℕ} (k : length cr3s ≡ p) where
      pub after_cr3s : {m : Got (List ℕ)} → section Words g p text at ≡ m → from_words map cr3s at ≡ (m then from_events map cr3s)
      unfolding from_words
      after_cr3s e =
          ap₂ (λ (n j : ℕ). section Words n j text at then from_events map cr3s) l k ∙ ap (λ (m : Got (List ℕ)). m then from_events map cr3s) e

      pub after-pairs : {m : Got (List ℕ)} (pairs : List ℕ) → section Events g p text at ≡ m
          → from_events map cr3s pairs at ≡ (m then from_questions map cr3s pairs)
      unfolding from_events
      after-pairs pairs e =
          ap₂ (λ (n j : ℕ). section Events n j text at then from_questions map cr3s pairs) l k
          ∙ ap (λ (m : Got (List ℕ)). m then from_questions map cr3s pairs) e

      pub after_events : {m : Got (List ℕ)} (pairs events : List ℕ) → section Questions g p text at ≡ m
          → from_questions map cr3s pairs events at ≡ (m then from_end map cr3s pairs events)
      unfolding from_questions
      after_events pairs events e =
          ap₂ (λ (n j : ℕ). section Questions n j text at then from_end map cr3s pairs events) l k
          ∙ ap (λ (m : Got (List ℕ)). m then from_end map cr3s pairs events) e

-- the end
pub ended-right : (z : Puzzle) (text : List ℕ) (at : ℕ) → past_blanks text at ≡ length text → ended z text at ≡ got z (length text)
unfolding ended
ended-right z text at e = simp (eq-eqb (past_blanks text at) (length text) e)

pub ended_left : (z : Puzzle) (text : List ℕ) (at : ℕ) → (past_blanks text at ≡ length text → ⊥) → ended z text at ≡ refused 10 (line_at text (past_blanks text at))
unfolding ended
ended_left z text at n = simp (ne_eqb (past_blanks text at) (length text) n)

-- one number each
pub once : (n : ℕ) {old new : List ℕ} → Kept old new (n * 1) → Kept old new n
once n {old} {new} k = subst (Kept old new) (mul-one n) k

pub length-once : (n : ℕ) {old new : List ℕ} → Kept old new (n * 1) → length (take (n * 1) new) ≡ n
length-once n {old} {new} k = length-take-le (n * 1) new k.fits ∙ mul-one n

-- the puzzle is what the rest of the text gives, after each section that stands in its buffer
module _ {text map₀ map : List ℕ} (g : ℕ) {c₁ : Cursor} (front₁ : Front (section Map 0 0 text 0) text map₀ map (g * 1) c₁) where
  pub then_cr3s : {m : Got (List ℕ)} → section Cr3s g 0 text c₁.at ≡ m → puzzle_of text ≡ (m then from_words text (take (g * 1) map))
  then_cr3s e = after-start text front₁.says ∙ after_map text (take (g * 1) map) c₁.at (length-once g front₁.kept) e

  module _ {cr3s₀ cr3s : List ℕ} (p : ℕ) {c₂ : Cursor} (front₂ : Front (section Cr3s g 0 text c₁.at) text cr3s₀ cr3s (p * 1) c₂) where
    pub then_words : {m : Got (List ℕ)} → section Words g p text c₂.at ≡ m → puzzle_of text ≡ (m then from_events text (take (g * 1) map) (take (p * 1) cr3s))
    then_words e =
        then_cr3s front₂.says
        ∙ after_cr3s text (take (g * 1) map) c₂.at (length-once g front₁.kept) (take (p * 1) cr3s) (length-once p front₂.kept) e

    module _ {pairs₀ pairs : List ℕ} (w : ℕ) {c₃ : Cursor} (front₃ : Front (section Words g p text c₂.at) text pairs₀ pairs (w * 2) c₃) where
      pub then_events : {m : Got (List ℕ)} → section Events g p text c₃.at ≡ m
          → puzzle_of text ≡ (m then from_questions text (take (g * 1) map) (take (p * 1) cr3s) (take (w * 2) pairs))
      then_events e =
          then_words front₃.says
          ∙ after-pairs text (take (g * 1) map) c₃.at (length-once g front₁.kept) (take (p * 1) cr3s) (length-once p front₂.kept) (take (w * 2) pairs) e

      module _ {events₀ events : List ℕ} (n : ℕ) {c₄ : Cursor} (front₄ : Front (section Events g p text c₃.at) text events₀ events (n * 4) c₄) where
        pub then_questions : {m : Got (List ℕ)} → section Questions g p text c₄.at ≡ m
            → puzzle_of text ≡ (m then from_end text (take (g * 1) map) (take (p * 1) cr3s) (take (w * 2) pairs) (take (n * 4) events))
        then_questions e =
            then_events front₄.says
            ∙ after_events text (take (g * 1) map) c₄.at (length-once g front₁.kept) (take (p * 1) cr3s) (length-once p front₂.kept) (take (w * 2) pairs) (take (n * 4) events) e

        module _ {questions₀ questions : List ℕ} (q : ℕ) {c₅ : Cursor}
            (front₅ : Front (section Questions g p text c₄.at) text questions₀ questions (q * 3) c₅) where
          abbrev new : Puzzle
          new = lists map cr3s pairs events questions

          then_end : puzzle_of text ≡ ended (fronts new (g * 1) (p * 1) (w * 2) (n * 4) (q * 3)) text c₅.at
          unfolding from_end
          then_end = then_questions front₅.says

          -- something is left over
          pub over : (past_blanks text c₅.at ≡ length text → ⊥) → puzzle_of text ≡ refused 10 (line_at text (past_blanks text c₅.at))
          over e = then_end ∙ ended_left (fronts new (g * 1) (p * 1) (w * 2) (n * 4) (q * 3)) text c₅.at e

          pub whole : past_blanks text c₅.at ≡ length text
              → Whole text (lists map₀ cr3s₀ pairs₀ events₀ questions₀) new (record { frames = g; processors = p; words = w; events = n; questions = q })
          whole e = record {
            says = then_end ∙ ended-right (fronts new (g * 1) (p * 1) (w * 2) (n * 4) (q * 3)) text c₅.at e
                ∙ ap₂ (λ (i j : ℕ). got (fronts new i j (w * 2) (n * 4) (q * 3)) (length text)) (mul-one g) (mul-one p);
            map = once g front₁.kept;
            cr3s = once p front₂.kept;
            pairs = front₃.kept;
            events = front₄.kept;
            questions = front₅.kept;
          }
