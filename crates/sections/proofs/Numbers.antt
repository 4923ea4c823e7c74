-- One number further: what is left to read gives the same.
use mathlib.Core.Path.{◌≡◌, refl, sym, ap, ap₂, ◌∙◌}
use mathlib.Core.Bool.{Bool, true, false, cond}
use mathlib.Core.List.{List, [], ◌∷◌, ◌++◌}
use Prim.Native.Nat.{ℕ, suc, ◌+◌, ◌-◌, ◌*◌, ◌≤◌, ◌<◌}
use native.Mathlib.Numerals.{add-one}
use native.Mathlib.Omega.{arith}
use borrow.Author.Tests.{leb-true}
use lib.ListN.{length, take, drop, set, length-set}
use lib.Seq.{take-suc-set, drop-set-lt}
use Rattle.cursor.specs.declared.Cursor.{Cursor}
use Rattle.cursor.specs.declared.NoNumber.{NoNumber}
use Rattle.cursor.specs.declared.Number.{Number}
use Rattle.std.specs.Prelude.{Ok, Err}
use Rattle.cursor.specs.Text.{line_at, past_blanks, next_at}
use Rattle.cursor.specs.CursorCode.{Stands}
use Rattle.cursor.proofs.DigitRuns.{next-stands, next-line, bad_line}
use Rattle.paging.proofs.Numbers.{between}
use Rattle.sections.specs.declared.Section.{Section}
use Rattle.sections.specs.declared.Section.TheVariants.{Map, Cr3s, Words, Events, Questions}
use Rattle.sections.specs.Sections.{Got, got, refused, ◌then◌, judged, due, numbers, width, count_range, in_range, section}
use Rattle.sections.specs.PartsCode.{capacity, Front}

module _ (fits : ℕ → Bool) (text : List ℕ) (at : ℕ) where
  pub due_bad : {none : NoNumber} → Err none ≡ next_at text at → due fits text at ≡ refused 10 none.line
  unfolding due
  due_bad e = sym (ap (judged fits (line_at text (past_blanks text at))) e) ∙ ap (refused 10) (sym (bad_line text at e))

  pub due-out : {n : Number} → Ok n ≡ next_at text at → fits n.value ≡ false → due fits text at ≡ refused 11 n.after.line
  unfolding due
  due-out {n} e t =
      sym (ap (judged fits (line_at text (past_blanks text at))) e)
      ∙ ap₂ (λ (b : Bool) (line : ℕ). cond b (got n.value n.after.at) (refused 11 line)) t (sym (next-line text at e))

  pub due_in : {n : Number} → Ok n ≡ next_at text at → fits n.value ≡ true → due fits text at ≡ got n.value n.after.at
  unfolding due
  due_in {n} e t =
      sym (ap (judged fits (line_at text (past_blanks text at))) e)
      ∙ ap (λ (b : Bool). cond b (got n.value n.after.at) (refused 11 (line_at text (past_blanks text at)))) t

module _ (fits : List ℕ → ℕ → Bool) (text : List ℕ) (at m : ℕ) (before : List ℕ) where
  abbrev rest : ℕ → ℕ → Got (List ℕ)
  rest v at = numbers fits text m (before ++ v ∷ []) at

  numbers_refused : {number line : ℕ} → due (fits before) text at ≡ refused number line → numbers fits text (suc m) before at ≡ refused number line
  unfolding numbers
  numbers_refused e = ap (λ (r : Got ℕ). r then rest) e

  pub numbers_more : {v to : ℕ} → due (fits before) text at ≡ got v to → numbers fits text (suc m) before at ≡ numbers fits text m (before ++ v ∷ []) to
  unfolding numbers
  numbers_more e = ap (λ (r : Got ℕ). r then rest) e

-- the invariant of the loop
pub record Turned (fits : List ℕ → ℕ → Bool) (text old : List ℕ) (at n : ℕ) (new : List ℕ) (i : ℕ) (c : Cursor) : Type 0 where
  pub here : i ≤ n
  pub room : n ≤ length new
  pub same : length new ≡ length old
  pub stays : drop n new ≡ drop n old
  pub stands : Stands text c
  pub left : numbers fits text (n - i) (take i new) c.at ≡ numbers fits text n [] at

pub turn-start : (fits : List ℕ → ℕ → Bool) {text : List ℕ} (buffer : List ℕ) {c : Cursor} {n : ℕ} → Stands text c → n ≤ length buffer
    → Turned fits text buffer c.at n buffer 0 c
turn-start fits {text} buffer {c} {n} s h =
    let e : n - 0 ≡ n = omega arith in
    record {
      here = omega arith;
      room = h;
      same = refl;
      stays = refl;
      stands = s;
      left = ap (λ (k : ℕ). numbers fits text k [] c.at) e;
    }

module _ {fits : List ℕ → ℕ → Bool} {text old : List ℕ} {at n : ℕ} {new : List ℕ} {i : ℕ} {c : Cursor} (w : Turned fits text old at n new i c) where
  next_left : i < n → numbers fits text (suc (n - (i + 1))) (take i new) c.at ≡ numbers fits text n [] at
  next_left h =
      let m : suc (n - (i + 1)) ≡ n - i = omega arith in
      ap (λ (k : ℕ). numbers fits text k (take i new) c.at) m ∙ w.left

  pub turn_bad : {none : NoNumber} → i < n → Err none ≡ next_at text c.at → numbers fits text n [] at ≡ refused 10 none.line
  turn_bad h e = sym (next_left h) ∙ numbers_refused fits text c.at (n - (i + 1)) (take i new) (due_bad (fits (take i new)) text c.at e)

  pub turn-out : {m : Number} → i < n → Ok m ≡ next_at text c.at → fits (take i new) m.value ≡ false
      → numbers fits text n [] at ≡ refused 11 m.after.line
  turn-out h e t = sym (next_left h) ∙ numbers_refused fits text c.at (n - (i + 1)) (take i new) (due-out (fits (take i new)) text c.at e t)

  pub turn_more : {m : Number} → i < n → Ok m ≡ next_at text c.at → fits (take i new) m.value ≡ true
      → Turned fits text old at n (set new i m.value) (i + 1) m.after
  turn_more {m} h e t =
      let v = m.value in
      let r : n ≤ length new = w.room in
      let f : take (i + 1) (set new i v) ≡ take i new ++ v ∷ [] = ap (λ (k : ℕ). take k (set new i v)) (add-one i) ∙ take-suc-set new i v (omega arith) in
      record {
        here = omega arith;
        room = omega (arith, length-set new i v);
        same = length-set new i v ∙ w.same;
        stays = drop-set-lt n new i v h ∙ w.stays;
        stands = next-stands text c.at w.stands.inside e;
        left = ap (λ (l : List ℕ). numbers fits text (n - (i + 1)) l m.after.at) f ∙ sym (numbers_more fits text c.at (n - (i + 1)) (take i new) (due_in (fits (take i new)) text c.at e t)) ∙ next_left h;
      }

  pub turn_end : n ≤ i → Front (numbers fits text n [] at) text old new n c
  unfolding numbers
  turn_end h =
      let e : n - i ≡ 0 = omega (arith, w.here) in
      let s : i ≡ n = omega (arith, w.here) in
      record {
        says = sym w.left ∙ ap₂ (λ (k j : ℕ). numbers fits text k (take j new) c.at) e s;
        kept = record { fits = w.room; stays = w.stays };
        stands = w.stands;
      }

module _ (k : Section) (G P : ℕ) (text : List ℕ) (at : ℕ) where
  abbrev listed : ℕ → ℕ → Got (List ℕ)
  listed n at = numbers (in_range k G P) text (n * width k) [] at

  pub section_refused : {number line : ℕ} → due (count_range k G) text at ≡ refused number line → section k G P text at ≡ refused number line
  unfolding section
  section_refused e = ap (λ (r : Got ℕ). r then listed) e

  pub section_counted : {n to : ℕ} → due (count_range k G) text at ≡ got n to → section k G P text at ≡ numbers (in_range k G P) text (n * width k) [] to
  unfolding section
  section_counted e = ap (λ (r : Got ℕ). r then listed) e

-- a count in range has room in its buffer
pub count_fits : (k : Section) (G n : ℕ) → G ≤ 16 → count_range k G n ≡ true → n * width k ≤ capacity k
count_fits Map G n h e = omega (arith, between 1 16 n e)
count_fits Cr3s G n h e = omega (arith, between 1 4 n e)
count_fits Words G n h e = omega (arith, leb-true n (512 * G) e)
count_fits Events G n h e = omega (arith, leb-true n 256 e)
count_fits Questions G n h e = omega (arith, between 1 16 n e)
