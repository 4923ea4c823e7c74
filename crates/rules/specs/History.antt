-- "Events": what they are, which fit, and the guest's words and CR3s at each moment.
use Rattle.std.specs.Prelude.{◌≡◌, Bool, cond, not, ◌&&◌, ◌||◌, List, [], ◌∷◌, ℕ, zero, suc, ◌*◌, ◌<◌, eqb, ltb, leb, length, get_or, set}
use Rattle.paging.specs.declared.Guest.{Guest}
use Rattle.paging.specs.Frame.{guest}
use Rattle.paging.specs.Layout.{Layout, tables64, frame_words}
use Rattle.rules.specs.declared.Event.{Event}
use Rattle.rules.specs.Refusal.{Test, test, refusal}

-- "A guest has G frames …", P processors, its words and start CR3s, and tables of one layout
pub record Setup : Type 0 where
  pub tables : Layout
  pub frames : ℕ
  pub processors : ℕ
  pub words : List ℕ
  pub cr3s : List ℕ

abbrev pub setup64 : ℕ → ℕ → List ℕ → List ℕ → Setup
setup64 G P words cr3s = record { tables = tables64; frames = G; processors = P; words = words; cr3s = cr3s }

-- "1 store: word a becomes b. 2 INVLPG of address a. 3 CR3 write of frame a. 4 access to a with request b. 5 begin a
-- walk of a in slot b. 6 extend slot a. 7 drop slot a."
abbrev pub is_store : Event → Bool
is_store e = eqb e.kind 1

abbrev pub is_invlpg : Event → Bool
is_invlpg e = eqb e.kind 2

abbrev pub is_cr3_write : Event → Bool
is_cr3_write e = eqb e.kind 3

abbrev pub is_access : Event → Bool
is_access e = eqb e.kind 4

abbrev pub is_begin : Event → Bool
is_begin e = eqb e.kind 5

abbrev pub is_extend : Event → Bool
is_extend e = eqb e.kind 6

abbrev pub is_drop : Event → Bool
is_drop e = eqb e.kind 7

abbrev pub is_by : ℕ → Event → Bool
is_by p e = eqb e.proc p

-- the rows of "Refusal numbers" that speak of an event
abbrev pub event_tests : Setup → Event → List Test
event_tests U e =
    test 4 (leb U.processors e.proc)
    ∷ test 5 ((is_invlpg e || is_access e || is_begin e) && not (U.tables.allowed e.a))
    ∷ test 6 (is_access e && ltb 5 e.b)
    ∷ test 7 (is_cr3_write e && leb U.frames e.a)
    ∷ test 8 (is_store e && leb (frame_words * U.frames) e.a)
    ∷ test 9 (is_begin e && ltb 7 e.b || (is_extend e || is_drop e) && ltb 7 e.a)
    ∷ test 11 (eqb e.kind 0 || ltb 7 e.kind || (is_invlpg e || is_cr3_write e || is_extend e || is_drop e) && not (eqb e.b 0))
    ∷ []

unfoldable pub event_refusal : Setup → Event → ℕ
event_refusal U e = refusal (event_tests U e)

-- event k + 1, which leads from moment k to moment k + 1; after the last one nothing happens
abbrev pub event_at : List Event → ℕ → Event
event_at es k = get_or es k (record { proc = 0; kind = 0; a = 0; b = 0 })

-- a history that no refusal meets: the start CR3s and every event are within their ranges
pub record Fit (U : Setup) (es : List Event) : Type 0 where
  pub starts : (p : ℕ) → p < U.processors → get_or U.cr3s p 0 < U.frames
  pub events : (k : ℕ) → k < length es → event_refusal U (event_at es k) ≡ 0

-- "store: word a becomes b"
abbrev pub stored : Event → List ℕ → List ℕ
stored e words = cond (is_store e) (set words e.a e.b) words

-- "CR3 write of frame a"
abbrev pub loaded : ℕ → Event → Guest → Guest
loaded p e cr3 = cond (is_by p e && is_cr3_write e) (guest e.a) cr3

-- "Moment k is the state after k events; moment 0 is the start."
unfoldable pub words_at : Setup → List Event → ℕ → List ℕ
words_at U es zero = U.words
words_at U es (suc k) = stored (event_at es k) (words_at U es k)

unfoldable pub cr3_at : Setup → List Event → ℕ → ℕ → Guest
cr3_at U es p zero = guest (get_or U.cr3s p 0)
cr3_at U es p (suc k) = loaded p (event_at es k) (cr3_at U es p k)
