-- What an accepted puzzle is about, in the words of the rules.
use Rattle.std.specs.Prelude.{◌≡◌, true, [], ◌∷◌, ℕ, length}
use Rattle.rules.specs.declared.Event.{Event}
use Rattle.rules.specs.History.{Setup, setup64}
use Rattle.sections.specs.Sections.{event_range, Puzzle}
use Rattle.puzzle.specs.Buffers.{words_of}

abbrev pub setup_of : Puzzle → Setup
setup_of z = setup64 (length z.map) (length z.cr3s) (words_of z) z.cr3s

-- the four numbers of an event are in range, one after the other
pub record InEvent (G P : ℕ) (e : Event) : Type 0 where
  pub processor : event_range G P [] e.proc ≡ true
  pub kind : event_range G P (e.proc ∷ []) e.kind ≡ true
  pub first : event_range G P (e.proc ∷ e.kind ∷ []) e.a ≡ true
  pub second : event_range G P (e.proc ∷ e.kind ∷ e.a ∷ []) e.b ≡ true
