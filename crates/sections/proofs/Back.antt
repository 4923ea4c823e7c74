-- A section that is written as a line, its count and its numbers, is read back, if it is in range.
use mathlib.Core.Path.{◌≡◌, refl, sym, ap, ◌∙◌}
use mathlib.Core.Bool.{Bool, true}
use mathlib.Core.List.{List, [], ◌∷◌, ◌++◌, append_assoc, append-nil}
use Prim.Native.Nat.{ℕ, ◌+◌, ◌*◌, ◌^◌, ◌≤◌, ◌<◌}
use native.Mathlib.Omega.{arith}
use lib.ListN.{length, take, drop, get_or, length-append}
use lib.Seq.{drop-append_seam, drop-drop, take-append_seam, get_or-append_seam}
use Rattle.std.specs.Prelude.{Ok}
use Rattle.cursor.specs.Text.{cursor_at, past_blanks, digits_of, spaced, next_at}
use Rattle.cursor.proofs.Back.{Stops, past_one, next_digits}
use Rattle.sections.specs.declared.Section.{Section}
use Rattle.sections.specs.declared.Section.TheVariants.{Map, Cr3s, Words, Events, Questions}
use Rattle.sections.specs.Sections.{Got, got, numbers, width, count_range, in_range, RangedSection, section}
use Rattle.sections.specs.PartsCode.{capacity}
use Rattle.sections.proofs.Numbers.{due_in, numbers_more, section_counted, count_fits}

-- a part gives these numbers, and then a line feed and the rest follow
pub record UpTo (m : Got (List ℕ)) (text ns rest : List ℕ) : Type 0 where
  pub to : ℕ
  pub says : m ≡ got ns to
  pub left : drop to text ≡ 10 ∷ rest

stops : (ns rest : List ℕ) → Stops (spaced ns ++ rest)
unfolding spaced
stops [] rest = refl
stops (n ∷ ns) rest = refl

-- behind the digits of n
behind : (text : List ℕ) (k n : ℕ) (rest : List ℕ) → drop k text ≡ digits_of n ++ rest → drop (k + length (digits_of n)) text ≡ rest
behind text k n rest d = sym (drop-drop (length (digits_of n)) k text) ∙ ap (drop (length (digits_of n))) d ∙ drop-append_seam (digits_of n) rest

module _ (fits : List ℕ → ℕ → Bool) (text l rest : List ℕ) (each : (i : ℕ) → i < length l → fits (take i l) (get_or l i 0) ≡ true)
    (small : (i : ℕ) → i < length l → get_or l i 0 < 2 ^ 64) where
  numbers_back : (before ns : List ℕ) (at : ℕ) → before ++ ns ≡ l → drop at text ≡ spaced ns ++ rest → UpTo (numbers fits text (length ns) before at) text l rest
  unfolding numbers spaced
  numbers_back before [] at e d = record { to = at; says = ap (λ (m : List ℕ). got m at) (sym (append-nil before) ∙ e); left = d }
  numbers_back before (n ∷ ns) at e d =
      let i = length before in
      let inside : i < length l = omega (arith, length-append before (n ∷ ns), ap length e) in
      let is : get_or l i 0 ≡ n = ap (λ (m : List ℕ). get_or m i 0) (sym e) ∙ get_or-append_seam before n ns 0 in
      let cut : take i l ≡ before = ap (take i) (sym e) ∙ take-append_seam before (n ∷ ns) in
      let fit : fits before n ≡ true = ap (λ (m : List ℕ). fits m n) (sym cut) ∙ ap (fits (take i l)) (sym is) ∙ each i inside in
      let more = spaced ns ++ rest in
      let f : drop at text ≡ 32 ∷ (digits_of n ++ more) = d ∙ ap (λ (m : List ℕ). 32 ∷ m) (append_assoc (digits_of n) (spaced ns) rest) in
      let g : drop (at + 1) text ≡ digits_of n ++ more = sym (drop-drop 1 at text) ∙ ap (drop 1) f in
      let to = at + 1 + length (digits_of n) in
      let next : next_at text at ≡ Ok (record { value = n; after = cursor_at text to }) =
      next_digits text at n more (omega (arith, small i inside)) (stops ns rest) (at + 1) (past_one text at n more 32 refl f) g in
      let k = numbers_back (before ++ n ∷ []) ns to (append_assoc before (n ∷ []) ns ∙ e) (behind text (at + 1) n more g) in
      record {
        to = k.to;
        says = numbers_more fits text at (length ns) before (due_in (fits before) text at (sym next) fit) ∙ k.says;
        left = k.left;
      }

few : (k : Section) (n : ℕ) → n * width k ≤ capacity k → n < 2 ^ 64
few Map n h = omega arith
few Cr3s n h = omega arith
few Words n h = omega arith
few Events n h = omega arith
few Questions n h = omega arith

-- A LINE IN RANGE IS READ BACK, wherever its count is the next number
pub section_back : {k : Section} {G P : ℕ} {ns : List ℕ} (r : RangedSection k G P ns) → G ≤ 16 → (text rest : List ℕ) (at here : ℕ)
    → past_blanks text at ≡ here → drop here text ≡ digits_of r.count ++ (spaced ns ++ rest) → UpTo (section k G P text at) text ns rest
section_back {k} {G} {P} {ns} r h text rest at here p d =
    let next : next_at text at ≡ Ok (record { value = r.count; after = cursor_at text (here + length (digits_of r.count)) }) =
    next_digits text at r.count (spaced ns ++ rest) (few k r.count (count_fits k G r.count h r.counted)) (stops ns rest) here p d in
    let to = here + length (digits_of r.count) in
    let b = numbers_back (in_range k G P) text ns rest r.each r.small [] ns to refl (behind text here r.count (spaced ns ++ rest) d) in
    record {
      to = b.to;
      says =
          section_counted k G P text at (due_in (count_range k G) text at (sym next) r.counted)
          ∙ ap (λ (m : ℕ). numbers (in_range k G P) text m [] to) (sym r.long)
          ∙ b.says;
      left = b.left;
    }
