-- One question's lines more: they are those of the list that the rules give, since two right lists are equal.
use mathlib.Core.Path.{◌≡◌, refl, sym, ap, ◌∙◌}
use mathlib.Core.List.{List, ◌++◌}
use Prim.Native.Nat.{ℕ, zero, suc, ◌+◌, ◌*◌, ◌/◌, ◌<◌, ◌≤◌}
use native.Mathlib.Numerals.{add-one}
use native.Mathlib.Omega.{arith}
use lib.ListN.{length, drop, get_or, length-append, length-drop, get_or-append}
use lib.Seq.{drop-append_seam}
use Rattle.std.proofs.lemmas.List.{get_or-drop, drop-drop}
use Rattle.paging.proofs.Layouts.{tables64_sound}
use Rattle.rules.specs.declared.Question.{Question}
use Rattle.rules.specs.declared.Outcome.{Outcome}
use Rattle.rules.specs.History.{setup64}
use Rattle.rules.proofs.Theorems.{one_list, a_list}
use Rattle.rules.specs.Numbers.{events_of, question_of}
use Rattle.puzzle.specs.Buffers.{Buffers}
use Rattle.render.specs.Render.{render_question}
use Rattle.render.specs.declared.Printer.{Printer}
use Rattle.render.specs.WrittenCode.{Puts}
use Rattle.render.proofs.Writes.{puts_none, puts_append, puts_as}
use Rattle.sections.specs.Sizes.{questions_size}
use Rattle.trainer.specs.Call.{joined}
use Rattle.trainer.specs.Answers.{RightOf, Rendering, AnswersOf}
use Rattle.trainer.specs.PartsCode.{Answered, AllPut}

abbrev question : ℕ → ℕ → ℕ → Question
question proc addr request = record { proc = proc; addr = addr; request = request }

pub joined_more : (n : ℕ) (f : ℕ → List ℕ) → joined (n + 1) f ≡ joined n f ++ f n
unfolding joined
joined_more n f = rw (add-one n)

pub joined_same : (n : ℕ) (f g : ℕ → List ℕ) → ((k : ℕ) → k < n → f k ≡ g k) → joined n f ≡ joined n g
unfolding joined
joined_same zero f g h = refl
joined_same (suc n) f g h =
    ap (λ (l : List ℕ). l ++ f n) (joined_same n f g (λ k l. h k (omega arith))) ∙ ap (λ (l : List ℕ). joined n g ++ l) (h n (omega arith))

module _ (b : Buffers) where
  -- the right list of question k
  pub the_list : ℕ → List Outcome
  the_list k = (a_list (setup64 (length b.map) (length b.cr3s) b.words b.cr3s) (events_of b.events) (question_of b.questions k) tables64_sound (length b.events / 4)).0

  pub the_right : (k : ℕ) → RightOf b.map b.cr3s b.words b.events (question_of b.questions k) (the_list k)
  unfolding the_list
  the_right k = (a_list (setup64 (length b.map) (length b.cr3s) b.words b.cr3s) (events_of b.events) (question_of b.questions k) tables64_sound (length b.events / 4)).1

  pub one_right : (k : ℕ) (os os' : List Outcome) → RightOf b.map b.cr3s b.words b.events (question_of b.questions k) os
      → RightOf b.map b.cr3s b.words b.events (question_of b.questions k) os' → os ≡ os'
  one_right k = one_list (setup64 (length b.map) (length b.cr3s) b.words b.cr3s) (events_of b.events) (question_of b.questions k) tables64_sound (length b.events / 4)

  abbrev pub lines_of : ℕ → List ℕ
  lines_of k = render_question b.map (question_of b.questions k) (the_list k)

  pub answer_more : (k : ℕ) {first now next : Printer} → Puts (joined k lines_of) first now → Answered b (question_of b.questions k) now next → Puts (joined (k + 1) lines_of) first next
  answer_more k p a =
      let here = ap (λ (os : List Outcome). render_question b.map (question_of b.questions k) os) (one_right k a.list (the_list k) a.right (the_right k)) in
      puts_as (sym (joined_more k lines_of)) (puts_append p (puts_as here a.puts))

  -- k questions were answered, and these are left
  pub record Passed (first : Printer) (rest : List ℕ) (now : Printer) : Type 0 where
    pub k : ℕ
    pub is : rest ≡ drop (3 * k) b.questions
    pub inside : 3 * k ≤ length b.questions
    pub puts : Puts (joined k lines_of) first now
    pub few : now.at ≤ first.at + 922 * k

  pub passed_none : (first : Printer) {rest : List ℕ} → rest ≡ b.questions → Passed first rest first
  unfolding joined
  passed_none first e = record { k = 0; is = e; inside = omega arith; puts = puts_none first; few = omega arith }

  pub rendered : (n : ℕ) → Rendering b n (joined n lines_of)
  rendered n = record { lists = the_list; right = λ k h. the_right k; are = refl }

  module _ {first now : Printer} {rest : List ℕ} (p : Passed first rest now) where
    -- what is left begins with the numbers of question k
    module _ (numbers left : List ℕ) (is : rest ≡ numbers ++ left) (three : length numbers ≡ 3) where
      number : (j i : ℕ) → j < 3 → 3 * p.k + j ≡ i → get_or numbers j 0 ≡ get_or b.questions i 0
      number j i h e =
          sym (get_or-append numbers left 0 j (omega arith))
          ∙ ap (λ (l : List ℕ). get_or l j 0) (sym is ∙ p.is)
          ∙ get_or-drop (3 * p.k) b.questions j 0
          ∙ ap (λ (n : ℕ). get_or b.questions n 0) e

      pub one_more : p.k < length b.questions / 3
      one_more = omega (arith, p.inside, ap length (sym p.is ∙ is), length-drop (3 * p.k) b.questions, length-append numbers left, three)

      pub next_question : question (get_or numbers 0 0) (get_or numbers 1 0) (get_or numbers 2 0) ≡ question_of b.questions p.k
      next_question = λ i. question (number 0 (3 * p.k) (omega arith) (omega arith) i) (number 1 (3 * p.k + 1) (omega arith) refl i) (number 2 (3 * p.k + 2) (omega arith) refl i)

      pub passed_more : {next : Printer} → Answered b (question_of b.questions p.k) now next → Passed first left next
      passed_more a =
          let here : 3 * p.k + length numbers ≡ 3 * (p.k + 1) = omega arith in
          record {
            k = p.k + 1;
            is = sym (drop-append_seam numbers left)
                ∙ ap (drop (length numbers)) (sym is ∙ p.is)
                ∙ drop-drop (length numbers) (3 * p.k) b.questions
                ∙ ap (λ (n : ℕ). drop n b.questions) here;
            inside = omega (arith, one_more);
            puts = answer_more p.k p.puts a;
            few = omega (arith, p.few, a.few);
          }

    pub passed_all : length rest < 3 → length b.questions ≤ questions_size → AllPut AnswersOf b first now
    passed_all short few =
        let n = length b.questions / 3 in
        let all : p.k ≡ n = omega (arith, p.inside, ap length p.is, length-drop (3 * p.k) b.questions) in
        record {
          bytes = joined n lines_of;
          lines = rendered n;
          puts = puts_as (ap (λ (k : ℕ). joined k lines_of) all) p.puts;
          few = omega (arith, p.few);
        }
