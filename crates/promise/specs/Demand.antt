-- Demand 3, stated over moments: the machine's run and the rules' history are read off one list of events.
-- "From a fresh machine, after any accepted events, an access put at most twice ends in an address or a guest fault that
-- stands in the list for the events before that put."
use Rattle.std.specs.Prelude.{◌≡◌, ◌⊎◌, Result, Ok, Err, Bool, cond, not, ◌||◌, ℕ, zero, suc, ◌*◌, ◌<◌, T, length, take}
use mathlib.Core.List.{List, Memᴰ}
use Rattle.paging.specs.declared.Guest.{Guest}
use Rattle.paging.specs.Numbers.{each}
use Rattle.paging.specs.Frame.{host_of, host_address}
use Rattle.paging.specs.Layout.{Layout, frame_words}
use Rattle.rules.specs.declared.Event.{Event}
use Rattle.rules.specs.declared.Question.{Question}
use Rattle.rules.specs.declared.Outcome.{Outcome}
use Rattle.rules.specs.declared.Outcome.TheVariants.{Address as address, Fault as fault}
use Rattle.rules.specs.History.{Setup, Fit, is_store, is_access, is_begin, is_extend, is_drop, is_by, event_at}
use Rattle.rules.specs.Outcome.{RightAt}
use Rattle.tables.specs.State.{Machine, State, state_of}
use Rattle.shadow.specs.declared.Answer.{Answer}
use Rattle.shadow.specs.declared.Answer.TheVariants.{Address, Fault, Again}
use Rattle.shadow.specs.After.{after}
use Rattle.slots.specs.Slots.{slot_count, emptied}
use Rattle.shadow.specs.Answer.{Reply}
use Rattle.shadow.specs.Setup.{started}
use Rattle.shadow.specs.Refusals.{setup_refusal}

-- what a machine is set up with
pub record Fresh : Type 0 where
  pub machine : Machine
  pub map : List ℕ
  pub words : List ℕ
  pub cr3s : List ℕ

abbrev pub begun : Fresh → State
begun F = started F.machine F.cr3s F.words

-- within the ranges of refusals 1, 2 and 7
pub record SetupFits (F : Fresh) : Type 0 where
  pub setup : setup_refusal F.machine F.map F.cr3s (begun F) ≡ 0
  pub words : length F.words ≡ frame_words * F.machine.frames

-- the same guest, for the rules
abbrev pub guest_of : Fresh → Setup
guest_of F = record {
  tables = F.machine.tables;
  frames = F.machine.frames;
  processors = F.machine.processors;
  words = F.words;
  cr3s = F.cr3s;
}

-- Hardware may lose a slot at any moment (source document 001, Table I): which slots of which processor are lost
abbrev pub Losses : Type 0
Losses = ℕ → ℕ → Bool

unfoldable pub losing : Machine → Losses → State → State
losing M lost s =
    state_of s.words s.shadow
    (each M.processors (λ p. each slot_count (λ k l. cond (lost p k) (emptied p k l) l)) s.slots)

-- a run: events, and the slots lost before each
pub record Run : Type 0 where
  pub events : List Event
  pub lost : ℕ → Losses

-- "Between the puts other processors may do anything; the same processor may store and take walk steps, but no INVLPG,
-- CR3 write or other access."
abbrev pub may_stand_between : ℕ → Event → Bool
may_stand_between p e = not (is_by p e) || (is_store e || (is_begin e || (is_extend e || is_drop e)))

-- What the machine does with an event is what the event call gives. The call is `after`; known runs are computed with its
-- moves alone, without the tests that they pass.
abbrev pub done_by : (Machine → List ℕ → State → Event → Reply) → Fresh → Event → State → Reply
done_by call F e s = call F.machine F.map s e

module _ (F : Fresh) (r : Run) where
  -- what it does with event k + 1
  abbrev pub does : ℕ → State → Reply
  does k s = done_by after F (event_at r.events k) s

  -- the state at moment k, and after the losses of that moment
  unfoldable pub state_at : ℕ → State
  state_at zero = begun F
  state_at (suc k) = (does k (losing F.machine (r.lost k) (state_at k))).state

  abbrev pub before : ℕ → State
  before k = losing F.machine (r.lost k) (state_at k)

  abbrev pub answer_at : ℕ → Result Answer ℕ
  answer_at k = (does k (before k)).answer

  -- event k + 1 as a question
  abbrev pub question_at : ℕ → Question
  question_at k = let e = event_at r.events k in record { proc = e.proc; addr = e.a; request = e.b }

  -- an answer to an access to a says an outcome: an address in the host frame of a guest frame, or a fault's code
  pub data Says (a : ℕ) : Result Answer ℕ → Outcome → Type 0 where
    place : {g : Guest} → g.0 < F.machine.frames → Says a (Ok (Address (host_address (host_of F.map g) a))) (address g)
    code : {c : ℕ} → Says a (Ok (Fault c)) (fault c)

  -- the put at moment k ends in an outcome that stands in the list for the events before it
  pub record Settles (k : ℕ) : Type 0 where
    pub outcome : Outcome
    pub says : Says (event_at r.events k).a (answer_at k) outcome
    pub list : List Outcome
    pub right : RightAt (guest_of F) (take k r.events) (question_at k) k list
    pub stands : Memᴰ outcome list

  -- the access of moment k settles, or it is to be put again and then settles
  abbrev pub SettlesInTwo : ℕ → Type 0
  SettlesInTwo k =
      Settles k
      ⊎ ((answer_at k ≡ Ok Again)
      × ((m : ℕ) → k < m → m < length r.events → event_at r.events m ≡ event_at r.events k
      → ((j : ℕ) → k < j → j < m → T (may_stand_between (event_at r.events k).proc (event_at r.events j))) → Settles m))

-- EVERY EVENT THAT FITS IS TAKEN: acceptance is about ranges, never about the machine's own answers. Here and in demand 3
-- for all machines with tables of one layout.
abbrev pub Accepts : Layout → Type 0
Accepts Y = (F : Fresh) → F.machine.tables ≡ Y → SetupFits F → (r : Run) → Fit (guest_of F) r.events → (k : ℕ) → k < length r.events → (n : ℕ) → answer_at F r k ≡ Err n → ⊥

-- DEMAND 3
abbrev pub Demand : Layout → Type 0
Demand Y = (F : Fresh) → F.machine.tables ≡ Y → SetupFits F → (r : Run) → Fit (guest_of F) r.events → (k : ℕ) → k < length r.events → T (is_access (event_at r.events k)) → SettlesInTwo F r k
