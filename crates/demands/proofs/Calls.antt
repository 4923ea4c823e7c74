-- Demands 1 and 2, call by call: what a returned number says, and what a call did that returned 0.
use mathlib.Core.Path.{◌≡◌, refl, sym, ap, ap₂, subst, ◌∙◌}
use mathlib.Core.Logic.{◌⊎◌, inl, inr}
use mathlib.Core.Bool.{Bool, true, false, cond}
use mathlib.Core.List.{List, [], ◌∷◌, ◌++◌}
use Prim.Native.Nat.{ℕ, ◌<◌, ◌≤◌}
use native.Mathlib.Decide.{ℕ_discrete}
use native.Mathlib.Omega.{arith}
use lib.Dec.{eqb}
use lib.ListN.{length, get_or, drop}
use borrow.Author.Tests.{eq-eqb, ne_eqb}
use Rattle.std.specs.Prelude.{Result, Ok, Err}
use Rattle.rules.specs.declared.Event.{Event}
use Rattle.rules.specs.declared.Refusal.{Refusal}
use Rattle.rules.specs.Refusal as rules
use Rattle.listing.specs.Call.{Asked, Lent, list_refusal, count_of, Lists}
use Rattle.listing.proofs.Theorems.{list_below_twelve}
use Rattle.tables.specs.declared.Sizes.{Sizes}
use Rattle.tables.specs.State.{Shadow, State, machine64}
use Rattle.tables.specs.Steps.{free_count, empty_share}
use Rattle.lawful.specs.Rules.{lawful}
use Rattle.shadow.specs.declared.Answer.{Answer}
use Rattle.shadow.specs.declared.Answer.TheVariants.{Done, Address, Fault, Again, NoStep}
use Rattle.shadow.specs.After.{after, moved}
use Rattle.shadow.specs.Answer.{Reply, refusal_of, kind_of}
use Rattle.shadow.specs.Refusals.{call_refusal, setup_refusal}
use Rattle.shadow.specs.Moves.{decode}
use Rattle.shadow.specs.Setup.{started}
use Rattle.shadow.proofs.Theorems.{never_twelve, setup_below_twelve}
use Rattle.shadow.proofs.Shares.{enough_free}
use Rattle.trees.proofs.Entries.{laid64}
use Rattle.keeps.proofs.Events.{taken}
use Rattle.keeps.proofs.Theorems as keeps
use Rattle.sections.specs.Sections.{Got, got, refused, Puzzle, puzzle_of}
use Rattle.puzzle.specs.Buffers.{Refused as Unread, Buffers, After, answer, sized, read_call}
use Rattle.puzzle.proofs.Theorems.{ten_or_eleven}
use Rattle.render.specs.Render.{render_refusal}
use Rattle.trainer.specs.declared.Told.{Told}
use Rattle.trainer.specs.Call.{puzzle_in, told_of, output_size, Lines, Prints, Printed}
use Rattle.flamecurl.specs.Exports.{list_numbers, event_numbers, read_numbers, written_numbers, ListExport, SetupExport, EventExport, ReadExport, PrintExport}
use Rattle.demands.specs.Refuses.{Refuses, read_number, read_line}
use Rattle.demands.proofs.Given.{given, refuses, setup_refused, setup_done, setup_number, event_refused, event_number}

-- ---- the list call

pub told_count : (r : Result ℕ Refusal) → rules.refusal_of r ≡ 0 → list_numbers r ≡ 0 ∷ count_of r ∷ []
told_count (Ok n) e = refl
told_count (Err n) e = ap (λ (m : ℕ). m ∷ 0 ∷ []) e

module _ (q : Asked) (before after : Lent) {answer told : List ℕ} where
  pub list_refuses : {n : ℕ} → ListExport q before after answer n told → Refuses 2 (list_refusal q before) (0 ∷ []) before after answer n told
  list_refuses c =
      refuses c (list_below_twelve q before) (λ r g. g.number)
      (λ r g some. let (zero, still) = g.refused some in (still, ap₂ (λ (a b : ℕ). a ∷ b ∷ []) g.number zero))

  pub list_right : ListExport q before after answer 0 told → (count : ℕ) × (told ≡ 0 ∷ count ∷ []) × Lists q before after count
  list_right c =
      let a = given c refl in
      let zero : rules.refusal_of a.result ≡ 0 = sym a.first in
      (count_of a.result, a.laid ∙ told_count a.result zero, a.call.listed (sym a.call.number ∙ zero))

-- ---- setup

module _ (z : Sizes) (map cr3s : List ℕ) (before after : State) where
  number_is : {n : ℕ} → SetupExport z map cr3s before n after → n ≡ setup_refusal (machine64 z) map cr3s before
  number_is c = c.first ∙ ap (λ (x : Reply). refusal_of x.answer) c.call ∙ setup_number (machine64 z) map cr3s before

  pub setup_refuses : (n : ℕ) → SetupExport z map cr3s before n after
      → (n ≡ setup_refusal (machine64 z) map cr3s before) × (n < 12) × ((n ≡ 0 → ⊥) → after ≡ before)
  setup_refuses n c = (
    number_is c,
    omega (arith, number_is c, setup_below_twelve (machine64 z) map cr3s before),
    λ some. ap (λ (x : Reply). x.state) (c.call ∙ setup_refused (machine64 z) map cr3s before (λ e. some (number_is c ∙ e))),
  )

  pub setup_does : SetupExport z map cr3s before 0 after → after ≡ started (machine64 z) cr3s before.words
  setup_does c = ap (λ (x : Reply). x.state) (c.call ∙ setup_done (machine64 z) map cr3s before (sym (number_is c)))

-- ---- the event call

module _ (z : Sizes) (map : List ℕ) (e : Event) (before after' : State) {answer told : List ℕ} where
  pub event_refuses : {n : ℕ} → EventExport z map e before after' answer n told
      → Refuses 3 (call_refusal (machine64 z) map before e) (0 ∷ 0 ∷ []) before after' answer n told
  event_refuses c =
      refuses c (never_twelve (machine64 z) map before e)
      (λ r g. ap (λ (x : Reply). refusal_of x.answer) g ∙ event_number (machine64 z) map before e)
      (λ r g some. let x = g ∙ event_refused (machine64 z) map before e some in (ap (λ (y : Reply). y.state) x, ap (λ (y : Reply). event_numbers y.answer) x))

  module _ (c : EventExport z map e before after' answer 0 told) where
    ok : call_refusal (machine64 z) map before e ≡ 0
    ok = let a = given c refl in sym (event_number (machine64 z) map before e) ∙ ap (λ (x : Reply). refusal_of x.answer) (sym a.call) ∙ sym a.first

    state_is : after' ≡ (after (machine64 z) map before e).state
    state_is = ap (λ (x : Reply). x.state) (given c refl).call

    told_is : told ≡ event_numbers (after (machine64 z) map before e).answer
    told_is = let a = given c refl in a.laid ∙ ap (λ (x : Reply). event_numbers x.answer) a.call

    pub event-does : let x = moved (machine64 z) map e.proc (decode e) before in (after' ≡ x.state) × (told ≡ event_numbers x.answer)
    event-does =
        let t = taken (machine64 z) map before e ok in
        (state_is ∙ ap (λ (x : Reply). x.state) t, told_is ∙ ap (λ (x : Reply). event_numbers x.answer) t)

    pub event_keeps : lawful (machine64 z) map after' ≡ true
    event_keeps = rw state_is (keeps.event_keeps (machine64 z) map before e laid64 ok)

-- only "again" has kind 3
third : (x : Result Answer ℕ) → kind_of x ≡ 3 → x ≡ Ok Again
third (Ok Done) k = absurd (omega arith)
third (Ok (Address v)) k = absurd (omega arith)
third (Ok (Fault c)) k = absurd (omega arith)
third (Ok Again) k = refl
third (Ok NoStep) k = absurd (omega arith)
third (Err n) k = absurd (omega arith)

pub again_address : (z : Sizes) (map : List ℕ) (e : Event) (before after' last : State) {answer answer' told : List ℕ} {n : ℕ}
    → EventExport z map e before after' answer 0 (0 ∷ 3 ∷ 0 ∷ []) → length answer' ≡ 3 → EventExport z map e after' last answer' n told
    → (v : ℕ) × (told ≡ 0 ∷ 1 ∷ v ∷ [])
again_address z map e before after' last c three d =
    let M = machine64 z in
    let again = third (after M map before e).answer (ap (λ (l : List ℕ). get_or l 1 0) (sym (told_is z map e before after' c))) in
    let (v, is) = keeps.again_address M map before e laid64 (ok z map e before after' c) again in
    let a = d.answered three in
    let there : (after M map after' e).answer ≡ Ok (Address v) = ap (λ (s : State). (after M map s e).answer) (state_is z map e before after' c) ∙ is in
    (v, a.laid ∙ ap (λ (x : Reply). event_numbers x.answer) a.call ∙ ap event_numbers there)

pub three_free : (z : Sizes) → 4 ≤ z.share → (p : ℕ) → p < z.processors → (s : Shadow) → 3 ≤ free_count (machine64 z) p (empty_share (machine64 z) p s).records
three_free z spare p h s = enough_free (machine64 z) (omega arith) spare p h s

-- ---- reading

-- what the promise says of a text, refused or not
pub record Verdict (a : After) (b : Buffers) : Type 0 where
  pub small : get_or (read_numbers a.result) 0 0 < 12
  pub kept : (get_or (read_numbers a.result) 0 0 ≡ 0 → ⊥)
      → (a.buffers ≡ b) × (read_numbers a.result ≡ get_or (read_numbers a.result) 0 0 ∷ get_or (read_numbers a.result) 1 0 ∷ 0 ∷ 0 ∷ 0 ∷ 0 ∷ 0 ∷ [])

verdict : (text : List ℕ) (b : Buffers) → Verdict (read_call text b) b
unfolding read_call
verdict text b = go (sized text b)
  where
    of : (m : Got Puzzle) → ((number line : ℕ) → m ≡ refused number line → (number ≡ 10) ⊎ (number ≡ 11)) → Verdict (answer m b) b
    of (got z at) which = record { small = omega arith; kept = λ some. absurd (some refl) }
    of (refused number line) which = record { small = small (which number line refl); kept = λ some. (refl, refl) }
      where
        small : (number ≡ 10) ⊎ (number ≡ 11) → number < 12
        small (inl x) = omega arith
        small (inr x) = omega arith

    go : (t : Bool) → Verdict (cond t (answer (puzzle_of text) b) (record { result = Unread 1 0; buffers = b })) b
    go true = of (puzzle_of text) (λ number line e. ten_or_eleven text e)
    go false = record { small = omega arith; kept = λ some. (refl, refl) }

pub read_refuses : (text : List ℕ) (before last : Buffers) {answer told : List ℕ} {n : ℕ} → ReadExport text before last answer n told
    → Refuses 7 (read_number text before) (read_line text before ∷ 0 ∷ 0 ∷ 0 ∷ 0 ∷ 0 ∷ []) before last answer n told
read_refuses text before last c =
    let v = verdict text before in
    refuses c v.small (λ r g. ap (λ (a : After). get_or (read_numbers a.result) 0 0) g)
    (λ r g some. let (still, row) = v.kept some in (ap (λ (a : After). a.buffers) g ∙ still, ap (λ (a : After). read_numbers a.result) g ∙ row))

-- ---- `answers` and `run`

-- a text that is refused is no refusal of the call
told_zero : (g : Got Puzzle) (n : ℕ) → get_or (written_numbers (told_of g n)) 0 0 ≡ 0
told_zero (got z at) n = refl
told_zero (refused number line) n = refl

pub print_refuses : (Of : Lines) (text before last : List ℕ) {answer told : List ℕ} {n : ℕ} → PrintExport Of text before last answer n told
    → Refuses 4 (cond (eqb (length before) output_size) 0 1) (0 ∷ 0 ∷ 0 ∷ []) before last answer n told
print_refuses Of text before last {answer} {told} {n} c = go (ℕ_discrete (length before) output_size)
  where
    go : Dec (length before ≡ output_size) → Refuses 4 (cond (eqb (length before) output_size) 0 1) (0 ∷ 0 ∷ 0 ∷ []) before last answer n told
    go (yes h) =
        let right : ◌≡◌ {A = ℕ} (cond (eqb (length before) output_size) 0 1) 0 = simp (eq-eqb (length before) output_size h) in
        refuses c (omega (arith, right)) (λ r g. ap (λ (w : Told). get_or (written_numbers w) 0 0) (g.printed h).counted ∙ told_zero (puzzle_in text) _ ∙ sym right) (λ r g some. absurd (some right))
    go (no h) =
        let other : ◌≡◌ {A = ℕ} (cond (eqb (length before) output_size) 0 1) 1 = simp (ne_eqb (length before) output_size h) in
        refuses c (omega (arith, other)) (λ r g. ap (λ (w : Told). get_or (written_numbers w) 0 0) (g.refused h).0 ∙ sym other)
        (λ r g some. ((g.refused h).1, ap written_numbers (g.refused h).0 ∙ ap (λ (m : ℕ). m ∷ 0 ∷ 0 ∷ 0 ∷ []) (sym other)))

-- a call that returned 0 printed
pub printed : (Of : Lines) (text before last : List ℕ) {answer told : List ℕ} → PrintExport Of text before last answer 0 told
    → (r : Told) × (told ≡ written_numbers r) × Printed Of text before r last
printed Of text before last {told = told} c = go (ℕ_discrete (length before) output_size)
  where
    go : Dec (length before ≡ output_size) → (r : Told) × (told ≡ written_numbers r) × Printed Of text before r last
    go (no h) =
        let a = given c refl in
        let one = ap (λ (w : Told). get_or (written_numbers w) 0 0) (a.call.refused h).0 in
        absurd (omega (arith, a.first, one))
    go (yes h) = let a = given c refl in (a.result, a.laid, a.call.printed h)

-- of a refused text the line `R number line` is printed, and its number and line are told
pub text_told : (Of : Lines) (text before last : List ℕ) {answer told : List ℕ} {number line : ℕ} → PrintExport Of text before last answer 0 told
    → puzzle_in text ≡ refused number line
    → (last ≡ render_refusal number line ++ drop (length (render_refusal number line)) before) × (told ≡ 0 ∷ length (render_refusal number line) ∷ number ∷ line ∷ [])
text_told Of text before last {number = number} {line = line} c e =
    let (r, laid, p) = printed Of text before last c in
    let row : p.bytes ≡ render_refusal number line = subst (λ (m : Got Puzzle). Prints Of m p.bytes) e p.prints in (
      p.holds ∙ ap (λ (l : List ℕ). l ++ drop (length l) before) row,
      laid ∙ ap written_numbers p.counted ∙ ap₂ (λ (m : Got Puzzle) (n : ℕ). written_numbers (told_of m n)) e (ap length row),
    )
