-- ANY TWO RESULTS THAT A PROMISE OF THE C INTERFACE ALLOWS ARE EQUAL: the number returned, every buffer, the answer buffer too.
-- The library's own calls have this; a numbered answer keeps it.
use mathlib.Core.Path.{◌≡◌, sym, ap, ◌∙◌}
use mathlib.Core.List.{List}
use Prim.Native.Nat.{ℕ}
use native.Mathlib.Decide.{ℕ_discrete}
use lib.ListN.{length, get_or}
use Rattle.rules.specs.declared.Event.{Event}
use Rattle.tables.specs.declared.Sizes.{Sizes}
use Rattle.tables.specs.State.{State, machine64}
use Rattle.std.specs.Prelude.{Result}
use Rattle.rules.specs.declared.Refusal.{Refusal}
use Rattle.listing.specs.Call.{Asked, Lent, ListCall}
use Rattle.listing.proofs.Theorems as listing
use Rattle.shadow.specs.Answer as specs
use Rattle.shadow.proofs.Theorems as shadow
use Rattle.puzzle.specs.Buffers.{ReadResult, Buffers, After, read_call}
use Rattle.puzzle.specs.Buffers as puzzle
use Rattle.trainer.specs.Answers.{AnswersOf}
use Rattle.trainer.specs.Run.{RunOf}
use Rattle.trainer.proofs.Theorems as trainer
use Rattle.flamecurl.specs.Exports.{Answered, Exported, ListExport, SetupExport, EventExport, ReadExport, PrintExport}

module _ {A B : Type 0} {numbers : A → List ℕ} (Call : A → B → Type 0) (one : (r s : A) (x y : B) → Call r x → Call s y → (r ≡ s) × (x ≡ y)) where
  same-answers : {x y : B} {n m : ℕ} {l k : List ℕ}
      → Answered numbers (λ r. Call r x) n l → Answered numbers (λ r. Call r y) m k → (n ≡ m) × (x ≡ y) × (l ≡ k)
  same-answers {x = x} {y = y} a b =
      let (e, f) = one a.result b.result x y a.call b.call in
      (a.first ∙ ap (λ r. get_or (numbers r) 0 0) e ∙ sym b.first, f, a.laid ∙ ap numbers e ∙ sym b.laid)

  same_exports : {size : ℕ} {before x y : B} {answer l k : List ℕ} {n m : ℕ}
      → Exported size numbers (λ r. Call r x) (x ≡ before) answer n l → Exported size numbers (λ r. Call r y) (y ≡ before) answer m k
      → (n ≡ m) × (x ≡ y) × (l ≡ k)
  same_exports {size = size} {x = x} {y = y} {answer = answer} {l = l} {k = k} {n = n} {m = m} a b = go (ℕ_discrete (length answer) size)
    where
      go : Dec (length answer ≡ size) → (n ≡ m) × (x ≡ y) × (l ≡ k)
      go (yes h) = same-answers (a.answered h) (b.answered h)
      go (no h) =
          let (c, d, e) = a.refused h in
          let (f, g, i) = b.refused h in
          (c ∙ sym f, e ∙ sym i, d ∙ sym g)

pub list_unique : (q : Asked) (before x y : Lent) (answer l k : List ℕ) (n m : ℕ)
    → ListExport q before x answer n l → ListExport q before y answer m k → (n ≡ m) × (x ≡ y) × (l ≡ k)
list_unique q before x y answer l k n m = same_exports (λ (r : Result ℕ Refusal) (x : Lent). ListCall q before r x) (listing.one_result q before)

pub event_unique : (z : Sizes) (map : List ℕ) (e : Event) (before x y : State) (answer l k : List ℕ) (n m : ℕ)
    → EventExport z map e before x answer n l → EventExport z map e before y answer m k → (n ≡ m) × (x ≡ y) × (l ≡ k)
event_unique z map e before x y answer l k n m = same_exports _ (λ r s. shadow.event_unique (machine64 z) map before e r s)

pub read_unique : (text : List ℕ) (before x y : Buffers) (answer l k : List ℕ) (n m : ℕ)
    → ReadExport text before x answer n l → ReadExport text before y answer m k → (n ≡ m) × (x ≡ y) × (l ≡ k)
read_unique text before x y answer l k n m =
    same_exports (λ (r : ReadResult) (x : Buffers). puzzle.after r x ≡ read_call text before)
    (λ (r s : ReadResult) (x y : Buffers) p q. (ap (λ (a : After). a.result) (p ∙ sym q), ap (λ (a : After). a.buffers) (p ∙ sym q)))

pub answers_unique : (text before x y : List ℕ) (answer l k : List ℕ) (n m : ℕ)
    → PrintExport AnswersOf text before x answer n l → PrintExport AnswersOf text before y answer m k → (n ≡ m) × (x ≡ y) × (l ≡ k)
answers_unique text before x y answer l k n m = same_exports _ (trainer.one-answers text before)

pub run_unique : (text before x y : List ℕ) (answer l k : List ℕ) (n m : ℕ)
    → PrintExport RunOf text before x answer n l → PrintExport RunOf text before y answer m k → (n ≡ m) × (x ≡ y) × (l ≡ k)
run_unique text before x y answer l k n m = same_exports _ (trainer.one-run text before)

pub setup_unique : (z : Sizes) (map cr3s : List ℕ) (before x y : State) (n m : ℕ)
    → SetupExport z map cr3s before n x → SetupExport z map cr3s before m y → (n ≡ m) × (x ≡ y)
setup_unique z map cr3s before x y n m a b =
    let (e, f) = shadow.setup_unique (machine64 z) map cr3s before a.result b.result x y a.call b.call in
    (a.first ∙ ap specs.refusal_of e ∙ sym b.first, f)
