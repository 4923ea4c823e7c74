-- What the work of an accepted call asks for and leaves, in the form of its code.
use Rattle.std.specs.Prelude.{◌≡◌, List, ℕ, ◌+◌, ◌*◌, ◌/◌, ◌≤◌, ◌<◌, length}
use Rattle.paging.specs.Frame.{guest}
use Rattle.paging.specs.Layout.{tables64, page_of}
use Rattle.paging.specs.Request.{request_of}
use Rattle.rules.specs.declared.Question.{Question}
use Rattle.held.specs.FollowCode.{Room, restarted}
use Rattle.rules.specs.Numbers.{event_of}
use Rattle.listing.specs.ReplayCode.{Replay, replay_of, Reach, replayed}
use Rattle.listing.specs.CollectCode.{out_of, collected}

pub record Answerable (G : ℕ) (words work outcomes events : List ℕ) (q : Question) (start : ℕ) : Type 0 where
  pub room : Room G words work
  pub some : 0 < G
  pub start_in : start < G
  pub reach : (k : ℕ) → k < length events / 4 → Reach G (event_of events k)
  pub request : q.request < 6
  pub pairs : 2 * (G + 3) ≤ length outcomes

-- the words, CR3 and bytes after the first n events
unfoldable pub state_at : ℕ → List ℕ → List ℕ → List ℕ → Question → ℕ → ℕ → Replay
state_at G words work events q start n =
    let page = page_of tables64 q.addr in
    replayed G q.proc page events n (replay_of start words (restarted tables64 G page words 0 (guest start) work))

pub record Answers (G : ℕ) (words work outcomes events : List ℕ) (q : Question) (start count : ℕ) (words' work' outcomes' : List ℕ) : Type 0 where
  pub words_are : words' ≡ (state_at G words work events q start (length events / 4)).words
  pub work_is : work' ≡ (state_at G words work events q start (length events / 4)).work
  pub outcomes_are : out_of count outcomes' ≡ collected G (page_of tables64 q.addr) (request_of tables64 q.request) words' work' outcomes
