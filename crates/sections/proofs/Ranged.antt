-- A section that is read has its count and its numbers in range.
use mathlib.Core.Path.{◌≡◌, refl, sym, ap, ap₂, ◌∙◌, subst}
use mathlib.Core.Logic.{⊎_elim}
use mathlib.Core.Bool.{Bool, true, false, cond}
use mathlib.Core.List.{List, [], ◌∷◌, ◌++◌}
use Prim.Native.Nat.{ℕ, zero, suc, ◌+◌, ◌*◌, ◌^◌, ◌≤◌, ◌<◌}
use native.Mathlib.Nat.{eq-or-lt_of_le}
use native.Mathlib.Omega.{arith}
use lib.ListN.{length, take, get_or, length-append}
use lib.Seq.{take-length, take-append_seam, take-take, get_or-take, get_or-append_seam}
use Rattle.cursor.specs.declared.NoNumber.{NoNumber}
use Rattle.cursor.specs.declared.Number.{Number}
use Rattle.std.specs.Prelude.{Result, Ok, Err}
use Rattle.cursor.specs.Text.{line_at, past_blanks, next_at}
use Rattle.cursor.proofs.DigitRuns.{next_small}
use Rattle.sections.specs.declared.Section.{Section}
use Rattle.sections.specs.Sections.{Got, got, refused, ◌then◌, judged, due, numbers, width, count_range, in_range, RangedSection, section}

-- two parts that give something: each gives something
pub record Both {A B : Type 0} (m : Got A) (next : A → ℕ → Got B) (x : B) (at : ℕ) : Type 0 where
  pub value : A
  pub place : ℕ
  pub first : m ≡ got value place
  pub rest : next value place ≡ got x at

pub both : {A B : Type 0} (m : Got A) (next : A → ℕ → Got B) {x : B} {at : ℕ} → (m then next) ≡ got x at → Both m next x at
both (got a p) next e = record { value = a; place = p; first = refl; rest = e }
both (refused number line) next e = cc

judged_if : (fits : ℕ → Bool) (w p line : ℕ) (b : Bool) {v q : ℕ} → fits w ≡ b → w < 2 ^ 64 → cond b (got w p) (refused 11 line) ≡ got v q
    → (fits v ≡ true) × (v < 2 ^ 64)
judged_if fits w p line true {v} t h e =
    let s : w ≡ v = cc in
    (ap fits (sym s) ∙ t, omega arith)
judged_if fits w p line false t h e = cc

judged-fits : (fits : ℕ → Bool) (line : ℕ) (r : Result Number NoNumber) {v p : ℕ} → ((n : Number) → Ok n ≡ r → n.value < 2 ^ 64) → judged fits line r ≡ got v p
    → (fits v ≡ true) × (v < 2 ^ 64)
judged-fits fits line (Ok n) h e = judged_if fits n.value n.after.at line (fits n.value) refl (h n refl) e
judged-fits fits line (Err _) h e = cc

due-fits : (fits : ℕ → Bool) (text : List ℕ) (at : ℕ) {v p : ℕ} → due fits text at ≡ got v p → (fits v ≡ true) × (v < 2 ^ 64)
unfolding due
due-fits fits text at e = judged-fits fits (line_at text (past_blanks text at)) (next_at text at) (λ n q. next_small text at q) e

-- n numbers after those before
record Within (fits : List ℕ → ℕ → Bool) (before : List ℕ) (n : ℕ) (l : List ℕ) : Type 0 where
  pub long : length l ≡ length before + n
  pub starts : take (length before) l ≡ before
  pub each : (i : ℕ) → length before ≤ i → i < length l → (fits (take i l) (get_or l i 0) ≡ true) × (get_or l i 0 < 2 ^ 64)

within_more : (fits : List ℕ → ℕ → Bool) (before : List ℕ) (n v : ℕ) (l : List ℕ) → (fits before v ≡ true) × (v < 2 ^ 64) → Within fits (before ++ v ∷ []) n l
    → Within fits before (suc n) l
within_more fits before n v l t w =
    let k : length (before ++ v ∷ []) ≡ length before + 1 = length-append before (v ∷ []) in
    let s : take (length before + 1) l ≡ before ++ v ∷ [] = ap (λ (j : ℕ). take j l) (sym k) ∙ w.starts in
    let here : take (length before) l ≡ before =
    sym (take-take (length before) (length before + 1) l (omega arith)) ∙ ap (take (length before)) s ∙ take-append_seam before (v ∷ []) in
    let at : get_or l (length before) 0 ≡ v =
    sym (get_or-take (length before + 1) l (length before) 0 (omega arith)) ∙ ap (λ (m : List ℕ). get_or m (length before) 0) s ∙ get_or-append_seam before v [] 0 in
    record {
      long = omega (arith, w.long);
      starts = here;
      each = λ i h g. ⊎_elim
          (λ (e : length before ≡ i). subst (λ (j : ℕ). (fits (take j l) (get_or l j 0) ≡ true) × (get_or l j 0 < 2 ^ 64)) e (ap₂ fits here at ∙ t.0, omega (arith, at, t.1)))
          (λ (m : length before < i). w.each i (omega arith) g)
          (eq-or-lt_of_le h);
    }

within : (fits : List ℕ → ℕ → Bool) (text : List ℕ) (n : ℕ) (before : List ℕ) (at : ℕ) {l : List ℕ} {to : ℕ} → numbers fits text n before at ≡ got l to
    → Within fits before n l
unfolding numbers
within fits text zero before at {l} e =
    let s : before ≡ l = cc in
    subst (Within fits before 0) s
    (record { long = omega arith; starts = take-length before; each = λ i h g. absurd (omega arith) })
within fits text (suc n) before at {l} e =
    let b = both (due (fits before) text at) (λ v at. numbers fits text n (before ++ v ∷ []) at) e in
    within_more fits before n b.value l (due-fits (fits before) text at b.first) (within fits text n (before ++ b.value ∷ []) b.place b.rest)

pub ranged : (k : Section) (G P : ℕ) (text : List ℕ) (at : ℕ) {l : List ℕ} {to : ℕ} → section k G P text at ≡ got l to → RangedSection k G P l
unfolding section
ranged k G P text at e =
    let b = both (due (count_range k G) text at) (λ n at. numbers (in_range k G P) text (n * width k) [] at) e in
    let w = within (in_range k G P) text (b.value * width k) [] b.place b.rest in
    record {
      count = b.value;
      counted = (due-fits (count_range k G) text at b.first).0;
      long = w.long ∙ omega arith;
      each = λ i h. (w.each i (omega arith) h).0;
      small = λ i h. (w.each i (omega arith) h).1;
    }
