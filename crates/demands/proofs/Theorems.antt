-- WHAT IT ALL MEANS. The three demands and the uniqueness of every public call, in the mission's words and order, over the
-- promises of the calls that C sees (crates/flamecurl/specs/Exports). Each theorem stands here with its whole statement; the
-- last line names its proof. The contracts in crates/flamecurl/src say that the code keeps these promises.
-- In every statement `n` is the number returned, `answer` the answer buffer before the call and `told` after it.
use mathlib.Core.Path.{◌≡◌, refl}
use mathlib.Core.Bool.{true, cond}
use mathlib.Core.List.{List, [], ◌∷◌, ◌++◌}
use Prim.Native.Nat.{ℕ, ◌*◌, ◌<◌, ◌≤◌}
use lib.Dec.{T, eqb}
use lib.ListN.{length, get_or, drop}
use Rattle.std.specs.Prelude.{Err}
use Rattle.paging.specs.Layout.{tables64, frame_words}
use Rattle.paging.specs.Sound.{Alike}
use Rattle.rules.specs.declared.Event.{Event}
use Rattle.rules.specs.History.{Fit, is_access, event_at, event_refusal, words_at}
use Rattle.rules.specs.Numbers.{events_of}
use Rattle.listing.specs.Call.{Asked, Lent, list_refusal, Lists}
use Rattle.tables.specs.declared.Sizes.{Sizes}
use Rattle.tables.specs.State.{Shadow, State, machine64}
use Rattle.tables.specs.Steps.{free_count, empty_share}
use Rattle.lawful.specs.Rules.{lawful}
use Rattle.shadow.specs.After.{moved}
use Rattle.shadow.specs.Moves.{decode}
use Rattle.trees.proofs.Entries.{laid64}
use Rattle.sections.specs.Sections.{got, refused, Puzzle}
use Rattle.puzzle.specs.Buffers.{Buffers}
use Rattle.render.specs.Render.{render_refusal}
use Rattle.trainer.specs.Call.{puzzle_in, output_size, Lines}
use Rattle.trainer.specs.Answers.{AnswersOf}
use Rattle.trainer.specs.Run.{RunOf}
use Rattle.promise.specs.Demand.{Accepts, Demand, SettlesInTwo, answer_at}
use Rattle.flamecurl.specs.Exports.{event_numbers, ListExport, SetupExport, EventExport, ReadExport, PrintExport}
use Rattle.demands.specs.Refuses.{Refuses, read_number, read_line}
use Rattle.demands.specs.Play.{Play, guest, EndsInTwo}
use Rattle.demands.specs.RunProgram.{machine_for, run_for, printed_for}
use Rattle.shadow.specs.Refusals.{call_refusal, setup_refusal}
use Rattle.shadow.specs.Setup.{started}
use Rattle.shadow.proofs.Theorems as shadow
use Rattle.trainer.proofs.Theorems as trainer
use Rattle.promise.proofs.Theorems as promise
use Rattle.flamecurl.proofs.Theorems as flamecurl
use Rattle.demands.proofs.Calls as calls
use Rattle.demands.proofs.Plays as plays
use Rattle.demands.proofs.PlayEnds as ends
use Rattle.demands.proofs.RunProgram as program

-- ======== DEMAND 1. "Every public call, on any text, numbers or buffers, finishes without fault, tests its own input, and on
-- refusal returns document 01's number and changes no lent buffer." That a call takes any input, ends and does not fault is
-- what the kit proves of a function without `requires`. `Refuses` (specs/Refuses) is the rest, and that the number is below 12.

pub list_refuses : (q : Asked) (before after : Lent) (answer told : List ℕ) (n : ℕ) → ListExport q before after answer n told
    → Refuses 2 (list_refusal q before) (0 ∷ []) before after answer n told
list_refuses q before after answer told n = calls.list_refuses q before after

pub event_refuses : (z : Sizes) (map : List ℕ) (e : Event) (before after : State) (answer told : List ℕ) (n : ℕ) → EventExport z map e before after answer n told
    → Refuses 3 (call_refusal (machine64 z) map before e) (0 ∷ 0 ∷ []) before after answer n told
event_refuses z map e before after answer told n = calls.event_refuses z map e before after

pub read_refuses : (text : List ℕ) (before after : Buffers) (answer told : List ℕ) (n : ℕ) → ReadExport text before after answer n told
    → Refuses 7 (read_number text before) (read_line text before ∷ 0 ∷ 0 ∷ 0 ∷ 0 ∷ 0 ∷ []) before after answer n told
read_refuses text before after answer told n = calls.read_refuses text before after

pub answers_refuses : (text before after : List ℕ) (answer told : List ℕ) (n : ℕ) → PrintExport AnswersOf text before after answer n told
    → Refuses 4 (cond (eqb (length before) output_size) 0 1) (0 ∷ 0 ∷ 0 ∷ []) before after answer n told
answers_refuses text before after answer told n = calls.print_refuses AnswersOf text before after

pub run_refuses : (text before after : List ℕ) (answer told : List ℕ) (n : ℕ) → PrintExport RunOf text before after answer n told
    → Refuses 4 (cond (eqb (length before) output_size) 0 1) (0 ∷ 0 ∷ 0 ∷ []) before after answer n told
run_refuses text before after answer told n = calls.print_refuses RunOf text before after

-- a refused text is no refusal of these two: they print `R number line`, and the answer tells number and line
pub text_told : (Of : Lines) (text before after : List ℕ) (answer told : List ℕ) (number line : ℕ) → PrintExport Of text before after answer 0 told
    → puzzle_in text ≡ refused number line
    → (after ≡ render_refusal number line ++ drop (length (render_refusal number line)) before) × (told ≡ 0 ∷ length (render_refusal number line) ∷ number ∷ line ∷ [])
text_told Of text before after answer told number line = calls.text_told Of text before after

-- setup has no answer buffer
pub setup_refuses : (z : Sizes) (map cr3s : List ℕ) (before after : State) (n : ℕ) → SetupExport z map cr3s before n after
    → (n ≡ setup_refusal (machine64 z) map cr3s before) × (n < 12) × ((n ≡ 0 → ⊥) → after ≡ before)
setup_refuses = calls.setup_refuses

-- ======== DEMAND 2. "The list for a question holds exactly the outcomes that some timing of the hardware's table reads can
-- produce, each once, in order, with a true count."

pub list_right : (q : Asked) (before after : Lent) (answer told : List ℕ) → ListExport q before after answer 0 told
    → (count : ℕ) × (told ≡ 0 ∷ count ∷ []) × Lists q before after count
list_right q before after answer told = calls.list_right q before after

-- "Each event on the shadow machine does exactly what document 01 states." Setup's state is `started`.

pub setup_does : (z : Sizes) (map cr3s : List ℕ) (before after : State) → SetupExport z map cr3s before 0 after → after ≡ started (machine64 z) cr3s before.words
setup_does = calls.setup_does

pub event-does : (z : Sizes) (map : List ℕ) (e : Event) (before after : State) (answer told : List ℕ) → EventExport z map e before after answer 0 told
    → let x = moved (machine64 z) map e.proc (decode e) before in (after ≡ x.state) × (told ≡ event_numbers x.answer)
event-does z map e before after answer told = calls.event-does z map e before after

-- every accepted event keeps the state rules, so that no later call is refused with 3
pub event_keeps : (z : Sizes) (map : List ℕ) (e : Event) (before after : State) (answer told : List ℕ) → EventExport z map e before after answer 0 told
    → lawful (machine64 z) map after ≡ true
event_keeps z map e before after answer told = calls.event_keeps z map e before after

-- number 12 is never met: three tables are free after a share is emptied
pub never_twelve : (z : Sizes) (map : List ℕ) (s : State) (e : Event) → call_refusal (machine64 z) map s e < 12
never_twelve z = shadow.never_twelve (machine64 z)

pub three_free : (z : Sizes) → 4 ≤ z.share → (p : ℕ) → p < z.processors → (s : Shadow) → 3 ≤ free_count (machine64 z) p (empty_share (machine64 z) p s).records
three_free = calls.three_free

-- the put right after an "again" answers an address, from every state that the event call takes
pub again_address : (z : Sizes) (map : List ℕ) (e : Event) (before after last : State) (answer answer' told : List ℕ) (n : ℕ)
    → EventExport z map e before after answer 0 (0 ∷ 3 ∷ 0 ∷ []) → length answer' ≡ 3 → EventExport z map e after last answer' n told
    → (v : ℕ) × (told ≡ 0 ∷ 1 ∷ v ∷ [])
again_address z map e before after last answer answer' told n = calls.again_address z map e before after last

-- ======== DEMAND 3. "From a fresh machine, after any accepted events, an access put at most twice ends in an address or a guest
-- fault that stands in the list for the events before that put." A play (specs/Play) is a setup and events that were accepted.

module _ (z : Sizes) (map cr3s words : List ℕ) (es : List Event) (p : Play z map cr3s words es) where
  pub ends_in_two : (k : ℕ) → k < length es → T (is_access (event_at es k)) → EndsInTwo z map cr3s words es p k
  ends_in_two = ends.ends_in_two p

  -- accepted events are those that fit: no refusal is about the machine's own answers
  pub accepted_fit : Fit (guest z map cr3s words es) es
  accepted_fit = plays.events_fit p

  pub next_number : length words ≡ frame_words * z.frames → (e : Event) (after : State) (answer told : List ℕ) (n : ℕ) → length answer ≡ 3
      → EventExport z map e (p.states (length es)) after answer n told → n ≡ event_refusal (guest z map cr3s words es) e
  next_number = plays.next_number p

  -- the machine's words are the rules' but for A and D
  pub words_alike : length words ≡ frame_words * z.frames → (k : ℕ) → k ≤ length es → (i : ℕ)
      → Alike (get_or (p.states k).words i 0) (get_or (words_at (guest z map cr3s words es) es k) i 0)
  words_alike = plays.words_alike p

-- and all events that fit are a play: no such call is refused
pub a_play : (z : Sizes) (map cr3s words : List ℕ) (found : State) → setup_refusal (machine64 z) map cr3s found ≡ 0 → length words ≡ frame_words * z.frames
    → (es : List Event) → Fit (guest z map cr3s words es) es → Play z map cr3s words es
a_play = plays.a_play

-- the same where hardware loses slots at any moment besides, for runs of any length (crates/promise/specs/Demand)

pub every_event_taken : Accepts tables64
every_event_taken = promise.every_event_taken tables64 laid64

pub demand_three : Demand tables64
demand_three = promise.demand_three tables64 laid64

-- the program `run`: of an accepted text it prints the answers of such a run, no event is refused, and each access settles

module _ (text : List ℕ) {z : Puzzle} {at : ℕ} (e : puzzle_in text ≡ got z at) where
  pub run_prints : (before after answer told : List ℕ) → PrintExport RunOf text before after answer 0 told
      → after ≡ printed_for z ++ drop (length (printed_for z)) before
  run_prints before after answer told = program.run_prints text e before after

  pub run_takes : (k : ℕ) → k < length (events_of z.events) → (n : ℕ) → answer_at (machine_for z) (run_for z) k ≡ Err n → ⊥
  run_takes = every_event_taken (machine_for z) refl (program.run-sized text e) (run_for z) (trainer.fits text e)

  pub run_settles : (k : ℕ) → k < length (events_of z.events) → T (is_access (event_at (events_of z.events) k)) → SettlesInTwo (machine_for z) (run_for z) k
  run_settles = demand_three (machine_for z) refl (program.run-sized text e) (run_for z) (trainer.fits text e)

-- ======== ONE POSSIBLE ANSWER. Any two results that a promise allows are equal: the number returned, every buffer and the
-- answer buffer, refused or not.

pub list_unique : (q : Asked) (before x y : Lent) (answer l k : List ℕ) (n m : ℕ)
    → ListExport q before x answer n l → ListExport q before y answer m k → (n ≡ m) × (x ≡ y) × (l ≡ k)
list_unique = flamecurl.list_unique

pub setup_unique : (z : Sizes) (map cr3s : List ℕ) (before x y : State) (n m : ℕ)
    → SetupExport z map cr3s before n x → SetupExport z map cr3s before m y → (n ≡ m) × (x ≡ y)
setup_unique = flamecurl.setup_unique

pub event_unique : (z : Sizes) (map : List ℕ) (e : Event) (before x y : State) (answer l k : List ℕ) (n m : ℕ)
    → EventExport z map e before x answer n l → EventExport z map e before y answer m k → (n ≡ m) × (x ≡ y) × (l ≡ k)
event_unique = flamecurl.event_unique

pub read_unique : (text : List ℕ) (before x y : Buffers) (answer l k : List ℕ) (n m : ℕ)
    → ReadExport text before x answer n l → ReadExport text before y answer m k → (n ≡ m) × (x ≡ y) × (l ≡ k)
read_unique = flamecurl.read_unique

pub answers_unique : (text before x y : List ℕ) (answer l k : List ℕ) (n m : ℕ)
    → PrintExport AnswersOf text before x answer n l → PrintExport AnswersOf text before y answer m k → (n ≡ m) × (x ≡ y) × (l ≡ k)
answers_unique = flamecurl.answers_unique

pub run_unique : (text before x y : List ℕ) (answer l k : List ℕ) (n m : ℕ)
    → PrintExport RunOf text before x answer n l → PrintExport RunOf text before y answer m k → (n ≡ m) × (x ≡ y) × (l ≡ k)
run_unique = flamecurl.run_unique
