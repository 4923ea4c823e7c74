-- "Every permitted outcome": the list call over lent buffers, and what it promises.
use Rattle.std.specs.Prelude.{◌≡◌, Bool, cond, not, ◌&&◌, List, [], ◌∷◌, ◌++◌, ℕ, zero, suc, ◌+◌, ◌*◌, ◌/◌, ◌%◌, ◌^◌, eqb, leb, length, drop, Result, Ok, Err}
use Rattle.paging.specs.Numbers.{is_between}
use Rattle.paging.specs.Frame.{map_fits, cr3s_fit}
use Rattle.paging.specs.Layout.{tables64, frame_words, page_of}
use Rattle.rules.specs.declared.Question.{Question}
use Rattle.rules.specs.declared.Outcome.{Outcome}
use Rattle.rules.specs.declared.Outcome.TheVariants.{Address, Fault}
use Rattle.rules.specs.declared.Refusal.{Refusal}
use Rattle.rules.specs.Refusal.{test, refusal, refusal_of}
use Rattle.rules.specs.History.{Setup, setup64, event_refusal, words_at}
use Rattle.rules.specs.View.{view_of, never}
use Rattle.rules.specs.Numbers.{event_of, events_of}
use Rattle.rules.specs.Held.{Held}
use Rattle.rules.specs.Outcome.{RightAt, question_refusal}
use Rattle.held.specs.Work.{work_bytes, WorkTells}

-- what the call reads
pub record Asked : Type 0 where
  pub map : List ℕ
  pub cr3s : List ℕ
  pub events : List ℕ
  pub question : Question

abbrev pub asked : List ℕ → List ℕ → List ℕ → Question → Asked
asked m c e q = record { map = m; cr3s = c; events = e; question = q }

-- the buffers that it may change
pub record Lent : Type 0 where
  pub words : List ℕ
  pub work : List ℕ
  pub outcomes : List ℕ

abbrev pub lent : List ℕ → List ℕ → List ℕ → Lent
lent w k o = record { words = w; work = k; outcomes = o }

abbrev pub setup_asked : Asked → Lent → Setup
setup_asked q b = setup64 (length q.map) (length q.cr3s) b.words q.cr3s

-- ---- refusals

-- "G 1..256, P 1..4, … at most 4,096 events. Exact lengths: map G, guest words 512×G, … start CR3s P, events 4×count. At
-- least: list work 40×G bytes, outcomes 2×(G+3) numbers."
-- Here of the lengths of map, CR3s, events, words, work and outcomes.
unfoldable pub sizes_fit : ℕ → ℕ → ℕ → ℕ → ℕ → ℕ → Bool
sizes_fit map cr3s events words work outcomes =
    is_between 1 256 map
    && (is_between 1 4 cr3s
    && (eqb (events % 4) 0
    && (leb (events / 4) 4096 && (eqb words (frame_words * map) && (leb (work_bytes map) work && leb (2 * (map + 3)) outcomes)))))

abbrev pub lengths_fit : Asked → Lent → Bool
lengths_fit q b =
    sizes_fit (length q.map) (length q.cr3s) (length q.events) (length b.words) (length b.work) (length b.outcomes)

-- n unless it is 0, then m
abbrev pub or_else : ℕ → ℕ → ℕ
or_else n m = cond (eqb n 0) m n

-- the first of f 0, .., f (n − 1) that is not 0
unfoldable pub first_refusal : ℕ → (ℕ → ℕ) → ℕ
first_refusal zero f = 0
first_refusal (suc n) f = or_else (first_refusal n f) (f n)

-- "A list call has a map but no pool, and tests 1, 2 (map only), start CR3, the events in order, then the question."
unfoldable pub list_refusal : Asked → Lent → ℕ
list_refusal q b =
    or_else (refusal (test 1 (not (lengths_fit q b)) ∷ test 2 (not (map_fits (2 ^ tables64.frame_bits) q.map)) ∷ test 7 (not (cr3s_fit (length q.map) q.cr3s)) ∷ []))
    (or_else (first_refusal (length q.events / 4) (λ k. event_refusal (setup_asked q b) (event_of q.events k)))
    (question_refusal (setup_asked q b) q.question))

-- ---- what is answered

-- "The outcome buffer takes pairs: (0, frame) …, then (1, code)"
abbrev pub pairs : List Outcome → List ℕ
pairs [] = []
pairs (Address f ∷ os) = 0 ∷ f.0 ∷ pairs os
pairs (Fault c ∷ os) = 1 ∷ c ∷ pairs os

-- "A refusal returns its number, zeros else": the count of each answer; `refusal_of` of rules/specs/Refusal has the number
abbrev pub count_of : Result ℕ Refusal → ℕ
count_of (Ok n) = n
count_of (Err r) = 0

-- what an accepted call leaves: the right list and its count; "the rest stays"; "Guest words then hold the start with all
-- stores done"; work bytes that say which walks are held
pub record Lists (q : Asked) (before after : Lent) (count : ℕ) : Type 0 where
  pub list : List Outcome
  pub right : RightAt (setup_asked q before) (events_of q.events) q.question (length q.events / 4) list
  pub counted : count ≡ length list
  pub outcomes : after.outcomes ≡ pairs list ++ drop (2 * length list) before.outcomes
  pub words : after.words ≡ words_at (setup_asked q before) (events_of q.events) (length q.events / 4)
  pub work : WorkTells (length q.map)
      (Held (view_of (setup_asked q before) (events_of q.events) q.question.proc (page_of tables64 q.question.addr) never) (length q.events / 4))
      before.work after.work

-- THE PROMISE OF THE LIST CALL
pub record ListCall (q : Asked) (before : Lent) (r : Result ℕ Refusal) (after : Lent) : Type 0 where
  pub number : refusal_of r ≡ list_refusal q before
  pub refused : (list_refusal q before ≡ 0 → ⊥) → (count_of r ≡ 0) × (after ≡ before)
  pub listed : list_refusal q before ≡ 0 → Lists q before after (count_of r)
