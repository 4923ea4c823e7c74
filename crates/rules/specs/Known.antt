-- "Known puzzles": the starred ones as one table, and a second table of sides that the starred ones do not see.
use Rattle.std.specs.Prelude.{List, [], ◌∷◌, ◌++◌, ℕ, ◌+◌, ◌-◌, ◌*◌, ◌^◌, length, set, replicate}
use Rattle.paging.specs.Frame.{guest}
use Rattle.paging.specs.Layout.{Layout, frame_words}
use Rattle.rules.specs.declared.Event.{Event}
use Rattle.rules.specs.declared.Question.{Question}
use Rattle.rules.specs.declared.Outcome.{Outcome}
use Rattle.rules.specs.declared.Outcome.TheVariants.{Address, Fault}
use Rattle.rules.specs.History.{Setup}
use Rattle.rules.specs.Outcome.{RightAt}

-- "word and value pairs"; "Other words are 0."
pub record Word : Type 0 where
  pub word : ℕ
  pub value : ℕ

pub record Puzzle : Type 0 where
  pub words : List Word
  pub cr3s : List ℕ
  pub events : List Event
  pub question : Question
  pub outcomes : List Outcome

unfoldable pub filled : List Word → List ℕ → List ℕ
filled [] ws = ws
filled (x ∷ xs) ws = filled xs (set ws x.word x.value)

-- tables of one layout, six frames
module _ (Y : Layout) where
  abbrev pub known_setup : Puzzle → Setup
  known_setup z = record {
    tables = Y;
    frames = 6;
    processors = length z.cr3s;
    words = filled z.words (replicate (frame_words * 6) 0);
    cr3s = z.cr3s;
  }

  -- A PUZZLE IS SOLVED: its outcomes are the right list of its question after all its events
  abbrev pub Solved : Puzzle → Type 0
  Solved z = RightAt (known_setup z) z.events z.question (length z.events) z.outcomes

  abbrev pub AllSolved : List Puzzle → Type 0
  AllSolved [] = Unit {0}
  AllSolved (z ∷ zs) = Solved z × AllSolved zs

-- ---- how the tables are written

abbrev pub ◌is◌ : ℕ → ℕ → Word
◌is◌ w v = record { word = w; value = v }

infix 68 ◌is◌
abbrev pub store : ℕ → ℕ → ℕ → Event
store p a b = record { proc = p; kind = 1; a = a; b = b }

abbrev invlpg : ℕ → ℕ → Event
invlpg p a = record { proc = p; kind = 2; a = a; b = 0 }

abbrev cr3 : ℕ → ℕ → Event
cr3 p f = record { proc = p; kind = 3; a = f; b = 0 }

abbrev pub ask : ℕ → ℕ → ℕ → Question
ask p a r = record { proc = p; addr = a; request = r }

abbrev pub A : ℕ → Outcome
A f = Address (guest f)

abbrev pub F : ℕ → Outcome
F c = Fault c

-- "Start as above, no events, question 0 8 0, unless said."
abbrev as_above : List Word
as_above = 0 is 4103 ∷ 512 is 8199 ∷ 1024 is 12295 ∷ 1536 is 16391 ∷ []

abbrev row : List Word → List Event → ℕ → List Outcome → Puzzle
row changes es r os = record { words = as_above ++ changes; cr3s = 0 ∷ []; events = es; question = ask 0 8 r; outcomes = os }

unfoldable pub starred : List Puzzle
starred =
    -- nothing changed
    row [] [] 0 (A 4 ∷ [])
    -- store 1536:=20487; then INVLPG 8; INVLPG 4096 instead; CR3 write 0 instead
    ∷ row [] (store 0 1536 20487 ∷ []) 0 (A 4 ∷ A 5 ∷ [])
    ∷ row [] (store 0 1536 20487 ∷ invlpg 0 8 ∷ []) 0 (A 5 ∷ [])
    ∷ row [] (store 0 1536 20487 ∷ invlpg 0 4096 ∷ []) 0 (A 4 ∷ A 5 ∷ [])
    ∷ row [] (store 0 1536 20487 ∷ cr3 0 0 ∷ []) 0 (A 5 ∷ [])
    -- store 1536:=0
    ∷ row [] (store 0 1536 0 ∷ []) 0 (A 4 ∷ F 0 ∷ [])
    -- start 1536=16389, request 4; start 1536=24583; start 1536=9223372036854792199, request 2
    ∷ row (1536 is 16389 ∷ []) [] 4 (F 7 ∷ [])
    ∷ row (1536 is 24583 ∷ []) [] 0 (F 9 ∷ [])
    ∷ row (1536 is 9223372036854792199 ∷ []) [] 2 (F 17 ∷ [])
    -- 512=8197 and 1536=0, request 1
    ∷ row (512 is 8197 ∷ 1536 is 0 ∷ []) [] 1 (F 2 ∷ [])
    -- start 1536=0, stores 1024:=20487, 1536:=16391; INVLPG 4096 between those stores
    ∷ row (1536 is 0 ∷ []) (store 0 1024 20487 ∷ store 0 1536 16391 ∷ []) 0 (A 4 ∷ F 0 ∷ [])
    ∷ row (1536 is 0 ∷ []) (store 0 1024 20487 ∷ invlpg 0 4096 ∷ store 0 1536 16391 ∷ []) 0 (F 0 ∷ [])
    ∷ []

-- two processors on the same tables, processor 0 asked
abbrev two : List Event → List Outcome → Puzzle
two es os = record { words = as_above; cr3s = 0 ∷ 0 ∷ []; events = es; question = ask 0 8 0; outcomes = os }

-- other words and another address
abbrev at : List Word → ℕ → List Outcome → Puzzle
at ws a os = record { words = ws; cr3s = 0 ∷ []; events = []; question = ask 0 a 0; outcomes = os }

unfoldable pub sides : List Puzzle
sides =
    -- four different indices; a page of the upper half
    at (1 is 4103 ∷ 514 is 8199 ∷ 1027 is 12295 ∷ 1540 is 16391 ∷ []) (1 * 2 ^ 39 + 2 * 2 ^ 30 + 3 * 2 ^ 21 + 4 * 2 ^ 12 + 5) (A 4 ∷ [])
    ∷ at (511 is 4103 ∷ 1023 is 8199 ∷ 1535 is 12295 ∷ 2047 is 16391 ∷ []) (2 ^ 64 - 8) (A 4 ∷ [])
    -- all rights, a user's write and a user's fetch; U lacks at level 4, W at level 2, X at level 3
    ∷ row [] [] 4 (A 4 ∷ [])
    ∷ row [] [] 5 (A 4 ∷ [])
    ∷ row (0 is 4099 ∷ []) [] 3 (F 5 ∷ [])
    ∷ row (1024 is 12293 ∷ []) [] 1 (F 3 ∷ [])
    ∷ row (512 is (8199 + 2 ^ 63) ∷ []) [] 2 (F 17 ∷ [])
    -- P is 0 with a frame of G or more; a frame with bit 51; bits 3, 4, A, D, 7 to 11 and 52 to 62 set
    ∷ row (1536 is 24582 ∷ []) [] 0 (F 0 ∷ [])
    ∷ row (1536 is (16391 + 2 ^ 51) ∷ []) [] 0 (F 9 ∷ [])
    ∷ row (1536 is (16391 + 4088 + (2 ^ 63 - 2 ^ 52)) ∷ []) [] 1 (A 4 ∷ [])
    -- of another processor: INVLPG and CR3 write end nothing, a store counts
    ∷ two (store 0 1536 20487 ∷ invlpg 1 8 ∷ []) (A 4 ∷ A 5 ∷ [])
    ∷ two (store 0 1536 20487 ∷ cr3 1 5 ∷ []) (A 4 ∷ A 5 ∷ [])
    ∷ two (store 1 1536 20487 ∷ []) (A 4 ∷ A 5 ∷ [])
    -- a CR3 write to another frame, from which there is no way
    ∷ row [] (cr3 0 5 ∷ []) 0 (F 0 ∷ [])
    -- addresses and all three faults: level 1 entries of frame 3 change, then another table without end takes its place
    ∷ row (2560 is 24583 ∷ []) (store 0 1536 20487 ∷ store 0 1536 16389 ∷ store 0 1536 0 ∷ store 0 1024 20487 ∷ []) 1
    (A 4 ∷ A 5 ∷ F 2 ∷ F 3 ∷ F 11 ∷ [])
    ∷ []
