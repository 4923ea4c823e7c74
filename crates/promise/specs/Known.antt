-- "Known puzzles": the run of document 01, and runs that it does not see, as one table.
use Rattle.std.specs.Prelude.{◌≡◌, Ok, false, List, [], ◌∷◌, ℕ, ◌+◌, ◌^◌, map, length, set, replicate}
use Rattle.paging.specs.Numbers.{tab}
use Rattle.rules.specs.declared.Event.{Event}
use Rattle.tables.specs.State.{machine64}
use Rattle.shadow.specs.declared.Answer.{Answer}
use Rattle.shadow.specs.declared.Answer.TheVariants.{Done, Address, Fault, Again}
use Rattle.promise.specs.Demand.{Fresh, Run, answer_at}

-- a machine, its events, and the answers to them
pub record KnownRun : Type 0 where
  pub machine : Fresh
  pub events : List Event
  pub answers : List Answer

-- no slot is lost
abbrev pub run_of : KnownRun → Run
run_of n = record { events = n.events; lost = λ k p j. false }

-- A KNOWN RUN ANSWERS WHAT ITS TABLE SAYS
abbrev pub Answers : KnownRun → Type 0
Answers n = tab (length n.events) (answer_at n.machine (run_of n)) ≡ map Ok n.answers

abbrev pub AllAnswer : List KnownRun → Type 0
AllAnswer [] = Unit {0}
AllAnswer (n ∷ ns) = Answers n × AllAnswer ns

-- ---- how the table is written

-- "0 4103 512 8199 1024 12295 1536 16391"
abbrev words : List ℕ
words = set (set (set (set (replicate 3072 0) 0 4103) 512 8199) 1024 12295) 1536 16391

-- "6 100 101 102 103 104 105", with S = 4 and the pool base 2^20
abbrev machine : ℕ → List ℕ → List ℕ → Fresh
machine P ws cr3s = record {
  machine = machine64 (record { frames = 6; processors = P; share = 4; base = 2 ^ 20 });
  map = 100 ∷ 101 ∷ 102 ∷ 103 ∷ 104 ∷ 105 ∷ [];
  words = ws;
  cr3s = cr3s;
}

abbrev one : Fresh
one = machine 1 words (0 ∷ [])

-- an event of processor p, and of processor 0
abbrev by : ℕ → ℕ → ℕ → ℕ → Event
by p kind a b = record { proc = p; kind = kind; a = a; b = b }

abbrev event : ℕ → ℕ → ℕ → Event
event kind a b = by 0 kind a b

-- ---- the runs

-- "`run` with access, access, store 1536:=20487, access, INVLPG 8, access, access (address 8, request 0): kinds 3 1 0 1 0 3 1,
-- values 0, 425992, 0, 425992, 0, 0, 430088"
unfoldable pub stored : KnownRun
stored = record {
  machine = one;
  events = event 4 8 0 ∷ event 4 8 0 ∷ event 1 1536 20487 ∷ event 4 8 0 ∷ event 2 8 0 ∷ event 4 8 0 ∷ event 4 8 0 ∷ [];
  answers = Again ∷ Address 425992 ∷ Done ∷ Address 425992 ∷ Done ∷ Again ∷ Address 430088 ∷ [];
}

-- a write, then RW taken away in the level 4 entry, INVLPG, a read, a write: the differing upper entry goes with its subtree,
-- so that the write lacks its right
unfoldable pub narrowed : KnownRun
narrowed = record {
  machine = one;
  events = event 4 8 1 ∷ event 1 0 4101 ∷ event 2 8 0 ∷ event 4 8 0 ∷ event 4 8 1 ∷ [];
  answers = Again ∷ Done ∷ Done ∷ Again ∷ Fault 3 ∷ [];
}

-- two processors: each has tables of its own, and an INVLPG of one leaves the other what it held
unfoldable pub beside : KnownRun
beside = record {
  machine = machine 2 words (0 ∷ 0 ∷ []);
  events = by 0 4 8 0 ∷ by 1 4 8 0 ∷ by 0 1 1536 20487 ∷ by 0 2 8 0 ∷ by 0 4 8 0 ∷ by 1 4 8 0 ∷ by 0 4 8 0 ∷ [];
  answers = Again ∷ Again ∷ Done ∷ Done ∷ Again ∷ Address 425992 ∷ Address 430088 ∷ [];
}

-- a slot filled by begin and extend answers after stores whose fill cuts the path that it was read from; once it is dropped
-- the guest's tables are walked, and its entry is gone
unfoldable pub slotted : KnownRun
slotted = record {
  machine = one;
  events =
      event 4 8 0 ∷ event 5 8 2 ∷ event 6 2 0 ∷ event 6 2 0 ∷ event 6 2 0 ∷ event 6 2 0
      ∷ event 1 1024 20487 ∷ event 1 2561 16391 ∷ event 4 4096 0 ∷ event 4 8 0 ∷ event 7 2 0 ∷ event 4 8 0 ∷ [];
  answers =
      Again ∷ Done ∷ Done ∷ Done ∷ Done ∷ Done
      ∷ Done ∷ Done ∷ Again ∷ Address 425992 ∷ Done ∷ Fault 0 ∷ [];
}

-- an emptied share: the second page needs three tables and none is free, so that the first page's path and slot go, without
-- an INVLPG
unfoldable pub crowded : KnownRun
crowded = record {
  machine = machine 1 (set (set words 1 4103) 1537 20487) (0 ∷ []);
  events =
      event 4 8 0 ∷ event 5 8 0 ∷ event 6 0 0 ∷ event 6 0 0 ∷ event 6 0 0 ∷ event 6 0 0
      ∷ event 1 1536 0 ∷ event 4 (2 ^ 39 + 4096) 0 ∷ event 4 8 0 ∷ event 4 (2 ^ 39 + 4096) 0 ∷ [];
  answers =
      Again ∷ Done ∷ Done ∷ Done ∷ Done ∷ Done
      ∷ Done ∷ Again ∷ Fault 0 ∷ Address 430080 ∷ [];
}

-- a write that needs D: after a read the path lacks W though the guest grants it, and the write is to be put again
unfoldable pub written : KnownRun
written = record {
  machine = one;
  events = event 4 8 0 ∷ event 4 8 0 ∷ event 4 8 1 ∷ event 4 8 1 ∷ [];
  answers = Again ∷ Address 425992 ∷ Again ∷ Address 425992 ∷ [];
}

abbrev pub runs : List KnownRun
runs = stored ∷ narrowed ∷ beside ∷ slotted ∷ crowded ∷ written ∷ []
