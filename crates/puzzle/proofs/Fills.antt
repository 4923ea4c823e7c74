-- What the buffers hold after a puzzle has been laid into them.
use mathlib.Core.Path.{◌≡◌, refl, sym, ap, ap₂, ◌∙◌, subst, subst⁻¹}
use mathlib.Core.List.{List, [], ◌∷◌, ◌++◌}
use Prim.Native.Nat.{ℕ, suc, ◌*◌, ◌/◌, ◌≤◌, ◌<◌}
use native.Mathlib.Omega.{arith}
use lib.ListN.{length, take, drop, get_or, set, replicate, length-set, length-replicate, take-append-drop}
use lib.Seq.{length-take-le, set-append_left}
use Rattle.std.specs.Prelude.{Result, Ok, Err}
use Rattle.puzzle.specs.declared.Counts.{Counts}
use Rattle.sections.specs.declared.TextFault.{TextFault}
use Rattle.sections.specs.Sections.{Puzzle, puzzle_of}
use Rattle.sections.specs.PartsCode.{Kept}
use Rattle.puzzle.specs.Buffers.{with_pairs, laid, result_of, counts_of, verdict_of}
use Rattle.puzzle.specs.PartsCode.{WordsBelow, fronts, Whole, SectionsAre}

-- ---- the front of a list

pub laid_by : (new l old : List ℕ) → take (length new) l ≡ new → drop (length new) l ≡ drop (length new) old → l ≡ laid new old
unfolding laid
laid_by new l old t d = sym (take-append-drop (length new) l) ∙ ap₂ (λ (a b : List ℕ). a ++ b) t d

-- the front set to 0
pub zeros-laid : (n : ℕ) (old front : List ℕ) → n ≤ length old → front ≡ replicate (length (take n old)) 0 → front ++ drop n old ≡ laid (replicate n 0) old
unfolding laid
zeros-laid n old front h e =
    ap₂ (λ (a b : List ℕ). a ++ b) (e ∙ ap (λ (k : ℕ). replicate k 0) (length-take-le n old h)) (ap (λ (k : ℕ). drop k old) (sym (length-replicate n 0)))

-- a buffer with n new elements in front
pub kept-laid : {old new : List ℕ} {n : ℕ} → Kept old new n → new ≡ laid (take n new) old
kept-laid {old} {new} {n} k =
    let e = length-take-le n new k.fits in
    laid_by (take n new) new old (ap (λ (i : ℕ). take i new) e)
    (ap (λ (i : ℕ). drop i new) e ∙ k.stays ∙ ap (λ (i : ℕ). drop i old) (sym e))

-- ---- pairs of word and value

pub length-stored : (pairs words : List ℕ) → length (with_pairs pairs words) ≡ length words
unfolding with_pairs
length-stored [] words = refl
length-stored (w ∷ []) words = refl
length-stored (w ∷ v ∷ ps) words = length-stored ps (set words w v) ∙ length-set words w v

below_set : (w v : ℕ) (words ps : List ℕ) (i : ℕ) → get_or (w ∷ v ∷ ps) (suc i * 2) 0 < length words → get_or ps (i * 2) 0 < length (set words w v)
below_set w v words ps i h =
    let e : suc i * 2 ≡ suc (suc (i * 2)) = omega arith in
    subst⁻¹ (λ (n : ℕ). get_or ps (i * 2) 0 < n) (length-set words w v) (subst (λ (n : ℕ). get_or (w ∷ v ∷ ps) n 0 < length words) e h)

-- a pair further: what is left, and the words so far
is_pair : (pair : List ℕ) → length pair ≡ 2 → pair ≡ get_or pair 0 0 ∷ get_or pair 1 0 ∷ []
is_pair [] two = absurd (omega arith)
is_pair (w ∷ []) two = absurd (omega arith)
is_pair (w ∷ v ∷ []) two = refl
is_pair (w ∷ v ∷ x ∷ xs) two = absurd (omega arith)

module _ (pair rest words : List ℕ) (two : length pair ≡ 2) where
  pub pair_more : with_pairs rest (set words (get_or pair 0 0) (get_or pair 1 0)) ≡ with_pairs (pair ++ rest) words
  unfolding with_pairs
  pair_more = sym (ap (λ (p : List ℕ). with_pairs (p ++ rest) words) (is_pair pair two))

  pub pair_below : WordsBelow (length words) (pair ++ rest) → WordsBelow (length (set words (get_or pair 0 0) (get_or pair 1 0))) rest
  pair_below b =
      let all = subst (λ (p : List ℕ). WordsBelow (length words) (p ++ rest)) (is_pair pair two) b in
      λ i h. below_set (get_or pair 0 0) (get_or pair 1 0) words rest i (all (suc i) (omega arith))

pub pair_end : (pairs words : List ℕ) → length pairs < 2 → with_pairs pairs words ≡ words
unfolding with_pairs
pair_end [] words h = refl
pair_end (w ∷ []) words h = refl
pair_end (w ∷ v ∷ ps) words h = absurd (omega arith)

stored_append : (pairs words rest : List ℕ) → WordsBelow (length words) pairs → with_pairs pairs (words ++ rest) ≡ with_pairs pairs words ++ rest
unfolding with_pairs
stored_append [] words rest b = refl
stored_append (w ∷ []) words rest b = refl
stored_append (w ∷ v ∷ ps) words rest b =
    let here : w < length words = b 0 (omega arith) in
    ap (with_pairs ps) (set-append_left words rest w v here)
    ∙ stored_append ps (set words w v) rest (λ i h. below_set w v words ps i (b (suc i) (omega arith)))

-- pairs whose words are among the first n change only these
pub stored-laid : (pairs zeros old : List ℕ) → WordsBelow (length zeros) pairs → with_pairs pairs (laid zeros old) ≡ laid (with_pairs pairs zeros) old
unfolding laid
stored-laid pairs zeros old b =
    stored_append pairs zeros (drop (length zeros) old) b
    ∙ ap (λ (n : ℕ). with_pairs pairs zeros ++ drop n old) (sym (length-stored pairs zeros))

-- ---- what the sections say of the result

double : (n : ℕ) → n * 2 / 2 ≡ n
double n = omega arith

quad : (n : ℕ) → n * 4 / 4 ≡ n
quad n = omega arith

triple : (n : ℕ) → n * 3 / 3 ≡ n
triple n = omega arith

pub counts_are : {text : List ℕ} {old new : Puzzle} {n : Counts} → Whole text old new n
    → result_of (Ok n) ≡ counts_of (fronts new n.frames n.processors (n.words * 2) (n.events * 4) (n.questions * 3))
counts_are {new = new} {n = n} k =
    let a : length (take n.frames new.map) ≡ n.frames = length-take-le n.frames new.map k.map.fits in
    let b : length (take n.processors new.cr3s) ≡ n.processors = length-take-le n.processors new.cr3s k.cr3s.fits in
    let c : length (take (n.words * 2) new.pairs) / 2 ≡ n.words = ap (λ (n : ℕ). n / 2) (length-take-le (n.words * 2) new.pairs k.pairs.fits) ∙ double n.words in
    let d : length (take (n.events * 4) new.events) / 4 ≡ n.events = ap (λ (n : ℕ). n / 4) (length-take-le (n.events * 4) new.events k.events.fits) ∙ quad n.events in
    let f : length (take (n.questions * 3) new.questions) / 3 ≡ n.questions =
    ap (λ (n : ℕ). n / 3) (length-take-le (n.questions * 3) new.questions k.questions.fits) ∙ triple n.questions in
    simp (a, b, c, d, f)

pub verdict_is : (text : List ℕ) (old new : Puzzle) (r : Result Counts TextFault) → SectionsAre text old new r → result_of r ≡ verdict_of (puzzle_of text)
verdict_is text old new (Ok n) s = counts_are s ∙ sym (ap verdict_of s.says)
verdict_is text old new (Err fault) s = sym (ap verdict_of s)
