-- "Refusal numbers" of setup and of the event call: the lowest that is due.
use Rattle.std.specs.Prelude.{Bool, not, ◌&&◌, List, [], ◌∷◌, ◌++◌, ℕ, ◌+◌, ◌-◌, ◌*◌, ◌^◌, eqb, ltb, leb, length, get_or}
use Rattle.paging.specs.Frame.{map_fits, cr3s_fit}
use Rattle.paging.specs.Layout.{frame_words}
use Rattle.rules.specs.declared.Event.{Event}
use Rattle.rules.specs.Refusal.{test, refusal}
use Rattle.rules.specs.History.{Setup, event_tests}
use Rattle.paging.specs.Numbers.{all, is_between}
use Rattle.tables.specs.State.{record_size, Machine, Shadow, State, table_count}
use Rattle.slots.specs.Slots.{slots_size}
use Rattle.lawful.specs.Rules.{lawful}

module _ (M : Machine) where
  -- "1: a length, G, P, S … outside Sizes": "G 1..256, P 1..4, S 4..16": a share has a table for each level
  unfoldable pub ranges_fit : Bool
  ranges_fit = is_between 1 256 M.frames && is_between 1 4 M.processors && is_between M.tables.levels 16 M.share

  -- "Exact lengths: map G, …, pool 512×P×S, table records 2×P×S, slots 24×P"
  unfoldable pub lengths_fit : List ℕ → Shadow → List ℕ → Bool
  lengths_fit map s slots =
      eqb (length map) M.frames
      && eqb (length s.pool) (frame_words * table_count M)
      && eqb (length s.records) (record_size * table_count M)
      && eqb (length slots) (slots_size * M.processors)

  -- "2: a map frame repeats, is 2^40 or more, or lies in the pool; or the pool passes 2^40"
  unfoldable pub pool_fits : Bool
  pool_fits = leb (M.base + table_count M) (2 ^ M.tables.frame_bits)

  unfoldable pub in_pool : ℕ → Bool
  in_pool f = leb M.base f && ltb f (M.base + table_count M)

  unfoldable pub frames_fit : List ℕ → Bool
  frames_fit map = pool_fits && map_fits (2 ^ M.tables.frame_bits) map && all (length map) (λ i. not (in_pool (get_or map i 0)))

  -- "12: still too few tables after emptying a share": S − 1 are free then, and as many are wanted as lie below the root
  abbrev pub too_few : Bool
  too_few = ltb (M.share - 1) (M.tables.levels - 1)

  -- an event's tests read neither words nor CR3s
  abbrev pub as_setup : State → Setup
  as_setup s = record { tables = M.tables; frames = M.frames; processors = M.processors; words = s.words; cr3s = [] }

  unfoldable pub call_refusal : List ℕ → State → Event → ℕ
  call_refusal map s e =
      refusal
      (test 1 (not (ranges_fit && lengths_fit map s.shadow s.slots && eqb (length s.words) (frame_words * M.frames)))
      ∷ test 2 (not (frames_fit map))
      ∷ test 3 (not (lawful M map s))
      ∷ event_tests (as_setup s) e ++ (test 12 too_few ∷ []))

  unfoldable pub setup_refusal : List ℕ → List ℕ → State → ℕ
  setup_refusal map cr3s s =
      refusal
      (test 1 (not (ranges_fit && lengths_fit map s.shadow s.slots && eqb (length cr3s) M.processors))
      ∷ test 2 (not (frames_fit map))
      ∷ test 7 (not (cr3s_fit M.frames cr3s))
      ∷ [])
