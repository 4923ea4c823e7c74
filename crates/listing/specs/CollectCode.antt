-- How the code collects the outcomes from the work bytes, in the form of its code.
use Rattle.std.specs.Prelude.{Bool, true, false, cond, not, ◌&&◌, ◌||◌, List, ℕ, ◌+◌, ◌*◌, ◌/◌, ◌%◌, ◌≤◌, eqb, length, get_or, set, Ok, Err}
use Rattle.paging.specs.Walk.{Step}
use Rattle.paging.specs.declared.Walk.{Walk}
use Rattle.paging.specs.declared.Request.{Request}
use Rattle.paging.specs.declared.Stop.TheVariants.{Absent, Beyond, Complete}
use Rattle.paging.specs.Numbers.{some, each}
use Rattle.paging.specs.Request.{enough}
use Rattle.listing.specs.declared.Faults.{Faults}
use Rattle.rules.specs.declared.Outcome.{Outcome}
use Rattle.rules.specs.declared.Outcome.TheVariants.{Address, Fault}
use Rattle.paging.specs.Frame.{guest}
use Rattle.held.specs.Work.{work_bytes}
use Rattle.held.specs.FollowCode.{is_set, walk_of, step_in}
use Rattle.paging.specs.Layout.{tables64}

-- bytes that can be read
pub record Readable (G : ℕ) (work : List ℕ) : Type 0 where
  pub few : G ≤ 256
  pub bytes : work_bytes G ≤ length work

-- the outcomes written so far, and the buffer
pub record Out : Type 0 where
  pub count : ℕ
  pub buffer : List ℕ

abbrev pub out_of : ℕ → List ℕ → Out
out_of n b = record { count = n; buffer = b }

-- the pair of an outcome
abbrev pub tag_of : Outcome → ℕ
tag_of (Address f) = 0
tag_of (Fault c) = 1

abbrev pub value_of : Outcome → ℕ
value_of (Address f) = f.0
value_of (Fault c) = c

-- one pair more
abbrev pub written : Outcome → Out → Out
written x o = out_of (o.count + 1) (set (set o.buffer (2 * o.count) (tag_of x)) (2 * o.count + 1) (value_of x))

-- one pair more, if the test passed
abbrev pub pushed : Bool → Outcome → Out → Out
pushed yes-it-is x o = cond yes-it-is (written x o) o

-- whether a step stops at an absent entry, or at a frame that is none of the guest's
abbrev pub is_absent : Step → Bool
is_absent (Ok w) = false
is_absent (Err Absent) = true
is_absent (Err Beyond) = false
is_absent (Err Complete) = false

abbrev pub is_beyond : Step → Bool
is_beyond (Ok w) = false
is_beyond (Err Absent) = false
is_beyond (Err Beyond) = true
is_beyond (Err Complete) = false

-- the walk of a byte
abbrev pub walk_at : ℕ → ℕ → Walk
walk_at G k = walk_of (k / 8 / G) (k / 8 % G) (k % 8)

-- a held completed walk on frame f has enough rights
abbrev pub serves_with : ℕ → Request → List ℕ → ℕ → ℕ → Bool
serves_with G q work f r = is_set G work (walk_of 0 f r) && enough q r

unfoldable pub serves : ℕ → Request → List ℕ → ℕ → Bool
serves G q work f = some 8 (serves_with G q work f)

-- a held completed walk lacks a right
abbrev pub lacks_at : Request → List ℕ → ℕ → Bool
lacks_at q work k = eqb (get_or work k 0) 1 && not (enough q (k % 8))

unfoldable pub lacks : ℕ → Request → List ℕ → Bool
lacks G q work = some (8 * G) (lacks_at q work)

-- the walk of byte k is held, and stops so
abbrev pub stops_at : ℕ → ℕ → List ℕ → List ℕ → (Step → Bool) → ℕ → Bool
stops_at G page words work so k = eqb (get_or work k 0) 1 && so (step_in tables64 G page words (walk_at G k))

-- one walk more
abbrev pub with_step : Faults → Step → Faults
with_step s x = record { absent = s.absent || is_absent x; beyond = s.beyond || is_beyond x }

unfoldable pub stops : ℕ → ℕ → List ℕ → List ℕ → (Step → Bool) → Bool
stops G page words work so = some (32 * G) (λ j. stops_at G page words work so (8 * G + j))

unfoldable pub addresses : ℕ → Request → List ℕ → List ℕ → Out
addresses G q work buffer = each G (λ f. pushed (serves G q work f) (Address (guest f))) (out_of 0 buffer)

unfoldable pub collected : ℕ → ℕ → Request → List ℕ → List ℕ → List ℕ → Out
collected G page q words work buffer =
    pushed (stops G page words work is_beyond) (Fault (9 + q.adds))
    (pushed (lacks G q work) (Fault (1 + q.adds)) (pushed (stops G page words work is_absent) (Fault q.adds) (addresses G q work buffer)))
