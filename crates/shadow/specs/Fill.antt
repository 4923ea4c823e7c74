-- "the shadow is filled from the root": what an access that the guest's tables grant does to shadow and slots.
use Rattle.std.specs.Prelude.{cond, List, ℕ, ◌-◌, ltb}
use Rattle.tables.specs.State.{Machine, State, state_of, shadows, root_of}
use Rattle.slots.specs.Slots.{flush, empty_slots}
use Rattle.tables.specs.Steps.{empty_share, free_count, settle, build}

module _ (M : Machine) where
  -- "the shadow is filled from the root … Then the flush of v"
  unfoldable pub fill : List ℕ → ℕ → ℕ → State → State
  fill map p page s =
      let cr3 = shadows s.shadow.records (root_of M p) in
      let below = M.tables.levels - 1 in
      let d = settle M s.words page below (root_of M p) cr3 s.shadow in
      let w = d.spot in
      cond (ltb (free_count M p d.shadow.records) w.missing)
      (state_of s.words
      (build M map s.words p page below (root_of M p) cr3 (empty_share M p d.shadow))
      (flush p page (empty_slots p s.slots)))
      (state_of s.words
      (build M map s.words p page w.missing w.table w.frame d.shadow)
      (flush p page s.slots))
