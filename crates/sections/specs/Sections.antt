-- "Puzzle text": from the numbers of a text to a puzzle. Each number is judged in its turn, so "the first place decides".
use Rattle.std.specs.Prelude.{◌≡◌, Bool, true, cond, ◌&&◌, ◌||◌, List, [], ◌∷◌, ◌++◌, ℕ, zero, suc, ◌-◌, ◌*◌, ◌%◌, ◌^◌, ◌<◌, eqb, ltb, leb, length, take, get_or, Result, Ok, Err}
use Rattle.cursor.specs.declared.NoNumber.{NoNumber}
use Rattle.cursor.specs.declared.Number.{Number}
use Rattle.cursor.specs.Text.{line_at, past_blanks, next_at}
use Rattle.paging.specs.Numbers.{is_between}
use Rattle.paging.specs.Frame.{is_new}
use Rattle.paging.specs.Layout.{tables64, frame_words}
use Rattle.sections.specs.declared.Section.{Section}
use Rattle.sections.specs.declared.Section.TheVariants.{Map, Cr3s, Words, Events, Questions}
use Rattle.rules.specs.declared.Event.{Event}
use Rattle.rules.specs.History.{setup64, event_refusal}
use Rattle.sections.specs.Sizes.{most_frames, most_processors, most_events, most_questions}

-- a part of the text: what it gives and the place after it, or a refusal number and its line
pub data Got (A : Type 0) : Type 0 where
  got : A → ℕ → Got A
  refused : ℕ → ℕ → Got A

-- one part after the other
abbrev pub ◌then◌ : {A B : Type 0} → Got A → (A → ℕ → Got B) → Got B
◌then◌ (got a at) next = next a at
◌then◌ (refused number line) next = refused number line

infixr 10 ◌then◌
-- a number is due past the blanks: 10 if none can be read there, 11 if it is out of range
-- "any other fault's is the first byte of the number, and 10 comes before 11 at one place"
abbrev pub judged : (ℕ → Bool) → ℕ → Result Number NoNumber → Got ℕ
judged fits line (Err _) = refused 10 line
judged fits line (Ok n) = cond (fits n.value) (got n.value n.after.at) (refused 11 line)

unfoldable pub due : (ℕ → Bool) → List ℕ → ℕ → Got ℕ
due fits text at = judged fits (line_at text (past_blanks text at)) (next_at text at)

-- n numbers more; the range of each may hang on those before it
unfoldable pub numbers : (List ℕ → ℕ → Bool) → List ℕ → ℕ → List ℕ → ℕ → Got (List ℕ)
numbers fits text zero before at = got before at
numbers fits text (suc n) before at = due (fits before) text at then λ v at. numbers fits text n (before ++ v ∷ []) at

-- ---- ranges: "in text also any number out of range, a repeated map frame, a word not above the one before"

-- "map frames (below 2^20, distinct)"
unfoldable pub map_range : List ℕ → ℕ → Bool
map_range before v = ltb v (2 ^ 20) && is_new before (length before) v

-- "word and value pairs, words rising"; a value may be any number
unfoldable pub word_range : ℕ → List ℕ → ℕ → Bool
word_range G before v =
    let i = length before in
    cond (eqb (i % 2) 0) (ltb v (frame_words * G) && (eqb i 0 || ltb (get_or before (i - 2) 0) v)) true

-- "Four numbers each: processor p, kind, a, b": the event that v is a number of, with those before v; for those that come
-- after it stands what always fits, a store of 0 to word 0
abbrev pub event_so_far : List ℕ → ℕ → Event
event_so_far before v =
    let i = length before in
    cond (eqb (i % 4) 0) (record { proc = v; kind = 1; a = 0; b = 0 })
    (cond (eqb (i % 4) 1) (record { proc = get_or before (i - 1) 0; kind = v; a = 0; b = 0 })
    (cond (eqb (i % 4) 2) (record { proc = get_or before (i - 2) 0; kind = get_or before (i - 1) 0; a = v; b = 0 })
    (record { proc = get_or before (i - 3) 0; kind = get_or before (i - 2) 0; a = get_or before (i - 1) 0; b = v })))

-- a number of an event is in range if the rules refuse nothing of the event so far
unfoldable pub event_range : ℕ → ℕ → List ℕ → ℕ → Bool
event_range G P before v = eqb (event_refusal (setup64 G P [] []) (event_so_far before v)) 0

-- "questions (processor, address, request; 1 to 16)"; number i of the section
unfoldable pub question_range : ℕ → ℕ → ℕ → Bool
question_range P i v =
    cond (eqb (i % 3) 0) (ltb v P) (cond (eqb (i % 3) 1) (tables64.allowed v) (leb v 5))

-- ---- sections: "in this order, each after its count"

-- how many numbers make one of a section
abbrev pub width : Section → ℕ
width Map = 1
width Cr3s = 1
width Words = 2
width Events = 4
width Questions = 3

-- what the programs take; "for words, above 512×G"
abbrev pub count_range : Section → ℕ → ℕ → Bool
count_range Map G n = is_between 1 most_frames n
count_range Cr3s G n = is_between 1 most_processors n
count_range Words G n = leb n (frame_words * G)
count_range Events G n = leb n most_events
count_range Questions G n = is_between 1 most_questions n

abbrev pub in_range : Section → ℕ → ℕ → List ℕ → ℕ → Bool
in_range Map G P before v = map_range before v
in_range Cr3s G P before v = ltb v G
in_range Words G P before v = word_range G before v
in_range Events G P before v = event_range G P before v
in_range Questions G P before v = question_range P (length before) v

-- a section in range: its count, and each of its numbers after those before it
pub record RangedSection (k : Section) (G P : ℕ) (ns : List ℕ) : Type 0 where
  pub count : ℕ
  pub counted : count_range k G count ≡ true
  pub long : length ns ≡ count * width k
  pub each : (i : ℕ) → i < length ns → in_range k G P (take i ns) (get_or ns i 0) ≡ true
  pub small : (i : ℕ) → i < length ns → get_or ns i 0 < 2 ^ 64

unfoldable pub section : Section → ℕ → ℕ → List ℕ → ℕ → Got (List ℕ)
section k G P text at = due (count_range k G) text at then λ n at. numbers (in_range k G P) text (n * width k) [] at

pub record Puzzle : Type 0 where
  pub map : List ℕ
  pub cr3s : List ℕ
  pub pairs : List ℕ
  pub events : List ℕ
  pub questions : List ℕ

-- "number … left over": after the last section there are only blanks
unfoldable pub ended : Puzzle → List ℕ → ℕ → Got Puzzle
ended z text at =
    cond (eqb (past_blanks text at) (length text)) (got z (length text)) (refused 10 (line_at text (past_blanks text at)))

-- "map frames …; start CR3s; word and value pairs …; events; questions"
unfoldable pub puzzle_of : List ℕ → Got Puzzle
puzzle_of text =
    section Map 0 0 text 0 then λ map at.
    section Cr3s (length map) 0 text at then λ cr3s at.
    section Words (length map) (length cr3s) text at then λ pairs at.
    section Events (length map) (length cr3s) text at then λ events at.
    section Questions (length map) (length cr3s) text at then λ questions at.
    ended (record { map = map; cr3s = cr3s; pairs = pairs; events = events; questions = questions }) text at
