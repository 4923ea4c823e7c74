-- What the list call leaves is the right list, and its pairs are written as the rendering says.
use Rattle.std.specs.Prelude.{Result, Ok, Err}
use Rattle.std.specs.Result.{result_unwrap_or}
use mathlib.Core.Path.{◌≡◌, refl, ap, ap₂, ◌∙◌, subst}
use mathlib.Core.List.{List, [], ◌∷◌, ◌++◌}
use Prim.Native.Nat.{ℕ, ◌+◌, ◌*◌, ◌/◌, ◌^◌, ◌≤◌, ◌<◌}
use native.Mathlib.Decide.{dec_lt}
use native.Mathlib.Omega.{arith}
use lib.ListN.{length, take, drop, get_or, length-append, length-drop, get_or-eq_default}
use lib.Seq.{take_at}
use Rattle.rules.specs.declared.Question.{Question}
use Rattle.rules.specs.declared.Outcome.{Outcome}
use Rattle.rules.specs.declared.Outcome.TheVariants.{Address, Fault}
use Rattle.rules.specs.declared.Refusal.{Refusal}
use Rattle.listing.specs.Call.{Lent, asked, lent, count_of, pairs, ListCall}
use Rattle.listing.proofs.Pairs.{pairs-length}
use Rattle.puzzle.specs.Buffers.{Buffers}
use Rattle.render.specs.Render.{line, render_outcomes, render_question}
use Rattle.render.specs.LinesCode.{pair_line, pair_lines, question_lines, AllMapped}
use Rattle.trainer.specs.Answers.{RightOf}
use Rattle.trainer.specs.Ready.{Posed}

-- ---- the list call

pub unwrapped : (r : Result ℕ Refusal) → result_unwrap_or r 0 ≡ count_of r
unwrapped (Ok n) = refl
unwrapped (Err e) = refl

-- the right list stands in front of the outcomes
pub record Found (b : Buffers) (q : Question) (count : ℕ) (outcomes : List ℕ) : Type 0 where
  pub list : List Outcome
  pub right : RightOf b.map b.cr3s b.words b.events q list
  pub within : 2 * count ≤ 38
  pub stands : take (2 * count) outcomes ≡ pairs list

module _ (b : Buffers) (q : Question) (p : Posed b q) where
  pub found : (words work outcomes : List ℕ) → length work ≡ 640 → length outcomes ≡ 38 → words ≡ b.words → (r : Result ℕ Refusal) (n : ℕ) → n ≡ count_of r
      → (after : Lent) → length after.outcomes ≡ length outcomes → ListCall (asked b.map b.cr3s b.events q) (lent words work outcomes) r after
      → Found b q n after.outcomes
  found words work outcomes long pairs-long e r n c after kept call =
      let whole = subst (λ (w : List ℕ). ListCall (asked b.map b.cr3s b.events q) (lent w work outcomes) r after) e call in
      let l = whole.listed (p.taken work outcomes long pairs-long) in
      let two : length (pairs l.list) ≡ 2 * length l.list = pairs-length l.list in
      let counted : n ≡ length l.list = c ∙ l.counted in
      let rest = drop (2 * length l.list) outcomes in
      let same = ap length l.outcomes ∙ length-append (pairs l.list) rest in
      record {
        list = l.list;
        right = l.right;
        within = omega (arith, length-drop (2 * length l.list) outcomes);
        stands = ap (take (2 * n)) l.outcomes ∙ take_at (pairs l.list) rest (2 * n) (omega arith);
      }

  -- ---- pairs

  hosts-below : (v : ℕ) → get_or b.map v 0 < 2 ^ 40
  hosts-below v = go (dec_lt v (length b.map))
    where
      go : Dec (v < length b.map) → get_or b.map v 0 < 2 ^ 40
      go (yes h) = p.hosts v h
      go (no h) = omega (arith, get_or-eq_default b.map 0 {n = v} (omega (arith, h)))

  -- each host address of a right list is a number of 64 bits
  pub pairs_mapped : (os : List Outcome) → RightOf b.map b.cr3s b.words b.events q os → AllMapped b.map (pairs os)
  pairs_mapped os r = λ k l. record { small = λ e. hosts-below (get_or (pairs os) (2 * k + 1) 0) }

lines_pairs : (map : List ℕ) (addr : ℕ) (os : List Outcome) → pair_lines map addr (pairs os) ≡ render_outcomes map addr os
unfolding pair_line pair_lines render_outcomes
lines_pairs map addr [] = refl
lines_pairs map addr (Address f ∷ os) = ap (λ (l : List ℕ). pair_line map addr 0 f.0 ++ l) (lines_pairs map addr os)
lines_pairs map addr (Fault c ∷ os) = ap (λ (l : List ℕ). pair_line map addr 1 c ++ l) (lines_pairs map addr os)

pub question-pairs : (map : List ℕ) (q : Question) (os : List Outcome) → question_lines map q (pairs os) ≡ render_question map q os
question-pairs map q os =
    let count : length (pairs os) / 2 ≡ length os = omega (arith, pairs-length os) in
    ap₂ (λ (n : ℕ) (l : List ℕ). line 81 (q.proc ∷ q.addr ∷ q.request ∷ n ∷ []) ++ l) count (lines_pairs map q.addr os)
