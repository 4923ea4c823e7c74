-- SETUP: the state that it leaves.
use Rattle.std.specs.Prelude.{cond, List, ℕ, ◌*◌, eqb, get_or, replicate}
use Rattle.paging.specs.Frame.{guest}
use Rattle.paging.specs.Layout.{frame_words}
use Rattle.paging.specs.Numbers.{each}
use Rattle.tables.specs.State.{record_size, Machine, shadow_of, State, state_of, with_record, table_count, root_of}
use Rattle.slots.specs.Slots.{slots_size}
use Rattle.shadow.specs.declared.Answer.TheVariants.{Done}
use Rattle.shadow.specs.Answer.{Reply, gives, refuses}
use Rattle.shadow.specs.Refusals.{setup_refusal}

module _ (M : Machine) where
  -- "pool, records and slots zero, roots at level 4 shadowing the given CR3"
  unfoldable pub rooted : List ℕ → List ℕ → List ℕ
  rooted cr3s records =
      each M.processors (λ p. with_record (root_of M p) M.tables.levels (guest (get_or cr3s p 0))) records

  abbrev pub started : List ℕ → List ℕ → State
  started cr3s words =
      state_of words
      (shadow_of (replicate (frame_words * table_count M) 0) (rooted cr3s (replicate (record_size * table_count M) 0)))
      (replicate (slots_size * M.processors) 0)

  unfoldable pub after_setup : List ℕ → List ℕ → State → Reply
  after_setup map cr3s s =
      let n = setup_refusal M map cr3s s in
      cond (eqb n 0) (gives Done (started cr3s s.words)) (refuses n s)
