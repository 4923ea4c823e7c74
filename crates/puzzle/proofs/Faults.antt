-- A text is refused with 10 or 11, whatever its part at fault.
use mathlib.Core.Path.{◌≡◌, refl, subst}
use mathlib.Core.Logic.{◌⊎◌, inl, inr}
use mathlib.Core.Bool.{Bool, true, false, cond}
use mathlib.Core.List.{List, [], ◌∷◌, ◌++◌}
use Prim.Native.Nat.{ℕ, zero, suc, ◌*◌}
use lib.Dec.{eqb}
use lib.ListN.{length}
use Rattle.std.specs.Prelude.{Result, Ok, Err}
use Rattle.cursor.specs.declared.NoNumber.{NoNumber}
use Rattle.cursor.specs.declared.Number.{Number}
use Rattle.cursor.specs.Text.{line_at, past_blanks, next_at}
use Rattle.sections.specs.declared.Section.{Section}
use Rattle.sections.specs.declared.Section.TheVariants.{Map, Cr3s, Words, Events, Questions}
use Rattle.sections.specs.Sections.{Got, got, refused, ◌then◌, judged, due, numbers, width, count_range, in_range, section, Puzzle, ended, puzzle_of}

abbrev pub TenOrEleven : {A : Type 0} → Got A → Type 0
TenOrEleven (got a at) = Unit {0}
TenOrEleven (refused number line) = (number ≡ 10) ⊎ (number ≡ 11)

module _ {A B : Type 0} where
  after : (m : Got A) (next : A → ℕ → Got B) → TenOrEleven m → ((a : A) (at : ℕ) → TenOrEleven (next a at)) → TenOrEleven (m then next)
  after (got a at) next t rest = rest a at
  after (refused number line) next t rest = t

one : (fits : ℕ → Bool) (text : List ℕ) (at : ℕ) → TenOrEleven (due fits text at)
unfolding due
one fits text at = go (next_at text at)
  where
    go : (r : Result Number NoNumber) → TenOrEleven (judged fits (line_at text (past_blanks text at)) r)
    go (Err none) = inl refl
    go (Ok n) = either (fits n.value)
      where
        either : (b : Bool) → TenOrEleven (cond b (got n.value n.after.at) (refused 11 (line_at text (past_blanks text at))))
        either true = tt
        either false = inr refl

several : (fits : List ℕ → ℕ → Bool) (text : List ℕ) (n : ℕ) (before : List ℕ) (at : ℕ) → TenOrEleven (numbers fits text n before at)
unfolding numbers
several fits text zero before at = tt
several fits text (suc n) before at =
    after (due (fits before) text at) (λ v at. numbers fits text n (before ++ v ∷ []) at) (one (fits before) text at) (λ v at. several fits text n (before ++ v ∷ []) at)

part : (k : Section) (G P : ℕ) (text : List ℕ) (at : ℕ) → TenOrEleven (section k G P text at)
unfolding section
part k G P text at =
    after (due (count_range k G) text at) (λ n at. numbers (in_range k G P) text (n * width k) [] at) (one (count_range k G) text at)
    (λ n at. several (in_range k G P) text (n * width k) [] at)

end : (z : Puzzle) (text : List ℕ) (at : ℕ) → TenOrEleven (ended z text at)
unfolding ended
end z text at = go (eqb (past_blanks text at) (length text))
  where
    go : (b : Bool) → TenOrEleven (cond b (got z (length text)) (refused 10 (line_at text (past_blanks text at))))
    go true = tt
    go false = inl refl

whole : (text : List ℕ) → TenOrEleven (puzzle_of text)
unfolding puzzle_of
whole text =
    after (section Map 0 0 text 0) _ (part Map 0 0 text 0) (λ map at.
    after (section Cr3s (length map) 0 text at) _ (part Cr3s (length map) 0 text at) (λ cr3s at.
    after (section Words (length map) (length cr3s) text at) _ (part Words (length map) (length cr3s) text at) (λ pairs at.
    after (section Events (length map) (length cr3s) text at) _ (part Events (length map) (length cr3s) text at) (λ events at.
    after (section Questions (length map) (length cr3s) text at) _ (part Questions (length map) (length cr3s) text at) (λ questions at.
    end (record { map = map; cr3s = cr3s; pairs = pairs; events = events; questions = questions }) text at)))))

pub ten_or_eleven : (text : List ℕ) {number line : ℕ} → puzzle_of text ≡ refused number line → (number ≡ 10) ⊎ (number ≡ 11)
ten_or_eleven text e = subst TenOrEleven e (whole text)
