-- Demand 3 as a caller in C sees it: a machine is set up and put events to, one call after the other. Nobody else writes its
-- buffers in between. Beside it stands the list call, for the events before a put.
use Rattle.std.specs.Prelude.{◌≡◌, ◌⊎◌, ℕ, suc, ◌+◌, ◌*◌, ◌≤◌, ◌<◌, T, length, take, drop}
use mathlib.Core.List.{List, [], ◌∷◌, ◌++◌, Memᴰ}
use Rattle.paging.specs.declared.Guest.{Guest}
use Rattle.paging.specs.Frame.{host_of}
use Rattle.rules.specs.declared.Event.{Event}
use Rattle.rules.specs.declared.Question.{Question}
use Rattle.rules.specs.declared.Outcome.{Outcome}
use Rattle.rules.specs.declared.Outcome.TheVariants.{Address, Fault}
use Rattle.rules.specs.History.{Setup, setup64, event_at}
use Rattle.rules.specs.Numbers.{numbers_of}
use Rattle.rules.specs.Outcome.{RightAt}
use Rattle.held.specs.Work.{work_bytes}
use Rattle.listing.specs.Call.{asked, Lent, pairs}
use Rattle.tables.specs.declared.Sizes.{Sizes}
use Rattle.tables.specs.State.{State, state_of}
use Rattle.paging.specs.Frame.{host_address}
use Rattle.promise.specs.Demand.{may_stand_between}
use Rattle.flamecurl.specs.Exports.{ListExport, SetupExport, EventExport}

-- "From a fresh machine, after any accepted events": setup and every event return 0
pub record Play (z : Sizes) (map cr3s words : List ℕ) (es : List Event) : Type 0 where
  -- pool, records and slots as setup finds and leaves them; the guest's words are the caller's own
  pub found : State
  pub set : State
  pub begins : SetupExport z map cr3s found 0 set
  -- all buffers at moment k
  pub states : ℕ → State
  pub start : states 0 ≡ state_of words set.shadow set.slots
  -- the answer buffer as event k + 1 finds and leaves it
  pub answer : ℕ → List ℕ
  pub told : ℕ → List ℕ
  pub goes : (k : ℕ) → k < length es → EventExport z map (event_at es k) (states k) (states (suc k)) (answer k) 0 (told k)

-- the three numbers of an answer to an access to a say an outcome: "1 address, 2 guest fault"
pub data Says (z : Sizes) (map : List ℕ) (a : ℕ) : List ℕ → Outcome → Type 0 where
  address : {g : Guest} → g.0 < z.frames → Says z map a (0 ∷ 1 ∷ host_address (host_of map g) a ∷ []) (Address g)
  fault : {c : ℕ} → Says z map a (0 ∷ 2 ∷ c ∷ []) (Fault c)

module _ (z : Sizes) (map cr3s words : List ℕ) (es : List Event) where
  -- the same guest, for the rules
  abbrev pub guest : Setup
  guest = setup64 z.frames z.processors words cr3s

  -- event k + 1 as a question
  abbrev pub question : ℕ → Question
  question k = let e = event_at es k in record { proc = e.proc; addr = e.a; request = e.b }

  -- the list call for the events before event k + 1, from the same words, with buffers as long as it asks for, within its
  -- 4,096 events: it is not refused, and gives this list
  abbrev pub Lists : ℕ → List Outcome → Type 0
  Lists k list = k ≤ 4096 → (before after : Lent) (answer told : List ℕ) (n : ℕ)
      → before.words ≡ words → work_bytes z.frames ≤ length before.work → 2 * (z.frames + 3) ≤ length before.outcomes → length answer ≡ 2
      → ListExport (asked map cr3s (numbers_of (take k es)) (question k)) before after answer n told
      → (n ≡ 0) × (told ≡ 0 ∷ length list ∷ []) × (after.outcomes ≡ pairs list ++ drop (2 * length list) before.outcomes)

  module _ (p : Play z map cr3s words es) where
    -- "ends in an address or a guest fault that stands in the list for the events before that put"
    pub record Ends (k : ℕ) : Type 0 where
      pub outcome : Outcome
      pub says : Says z map (event_at es k).a (p.told k) outcome
      pub list : List Outcome
      pub right : RightAt guest (take k es) (question k) k list
      pub stands : Memᴰ outcome list
      pub lists : Lists k list

    -- "an access put at most twice": it ends, or it is told to come again and ends when it is put again
    abbrev pub EndsInTwo : ℕ → Type 0
    EndsInTwo k =
        Ends k
        ⊎ ((p.told k ≡ 0 ∷ 3 ∷ 0 ∷ [])
        × ((m : ℕ) → k < m → m < length es → event_at es m ≡ event_at es k
        → ((j : ℕ) → k < j → j < m → T (may_stand_between (event_at es k).proc (event_at es j))) → Ends m))
