-- Where the state rules hold a call is refused for its own event only, with that event's number; so it is accepted where the
-- event is within the ranges.
use mathlib.Core.Path.{◌≡◌, refl, sym, ◌∙◌}
use mathlib.Core.Bool.{true, ◌&&◌}
use mathlib.Core.List.{List}
use Prim.Native.Nat.{ℕ, ◌*◌}
use native.Mathlib.Decide.{ℕ_discrete}
use native.Mathlib.Omega.{arith}
use lib.Dec.{eqb}
use lib.ListN.{length}
use borrow.Author.Tests.{eq-eqb, le-leb}
use Rattle.paging.specs.Layout.{frame_words}
use Rattle.rules.specs.declared.Event.{Event}
use Rattle.rules.specs.History.{event_refusal}
use Rattle.tables.specs.State.{Machine, State, table_count, record_size}
use Rattle.lawful.specs.Rules.{lawful}
use Rattle.shadow.proofs.Sizing.{Ranged}
use Rattle.shadow.proofs.Accepted.{call_accepted, call_event}
use Rattle.trees.proofs.Trees.{Able}
use Rattle.trees.proofs.Rules.{lawful_is}
use Rattle.keeps.proofs.RightStates.{Mapped, RightState}
use Rattle.shadow.specs.Refusals.{as_setup, ranges_fit, lengths_fit, frames_fit, call_refusal}

-- an event's tests read neither words nor CR3s
pub same_tests : (M : Machine) (s : State) (words cr3s : List ℕ) (e : Event) → event_refusal (record { tables = M.tables; frames = M.frames; processors = M.processors; words = words; cr3s = cr3s }) e ≡ event_refusal (as_setup M s) e
unfolding event_refusal
same_tests M s words cr3s e = refl

ranges : (M : Machine) → Ranged M → ranges_fit M ≡ true
unfolding ranges_fit
ranges M h =
    simp (
      le-leb 1 M.frames h.frames.0,
      le-leb M.frames 256 h.frames.1,
      le-leb 1 M.processors h.processors.0,
      le-leb M.processors 4 h.processors.1,
      le-leb M.tables.levels M.share h.share.0,
      le-leb M.share 16 h.share.1,
    )

module _ (M : Machine) (map : List ℕ) (s : State) (ok : Able M) (ranged : Ranged M) (fits : Mapped M map) (frames : frames_fit M map ≡ true)
    (r : RightState M map s) (words : length s.words ≡ frame_words * M.frames) where
  lengths : lengths_fit M map s.shadow s.slots ≡ true
  unfolding lengths_fit
  lengths =
      simp (
        eq-eqb (length map) M.frames fits.guests,
        eq-eqb (length s.shadow.pool) (frame_words * table_count M) r.law.trees.exact.words,
        eq-eqb (length s.shadow.records) (record_size * table_count M) r.law.trees.exact.pairs,
        eq-eqb (length s.slots) (24 * M.processors) r.triples,
      )

  sizes : (ranges_fit M && lengths_fit M map s.shadow s.slots) ≡ true
  sizes = simp (ranges M ranged, lengths)

  whole : eqb (length s.words) (frame_words * M.frames) ≡ true
  whole = eq-eqb (length s.words) (frame_words * M.frames) words

  right : lawful M map s ≡ true
  right = (lawful_is M ok map fits.outside s r.law.trees.exact).1 r.law

  pub accepts : (e : Event) → event_refusal (as_setup M s) e ≡ 0 → call_refusal M map s e ≡ 0
  accepts e fit = sym (call_accepted M map s e sizes whole frames right (omega (arith, ranged.share)) (sym fit))

  -- THE NUMBER OF A CALL IS THAT OF ITS EVENT
  pub own_number : (e : Event) → call_refusal M map s e ≡ event_refusal (as_setup M s) e
  own_number e = go (ℕ_discrete (event_refusal (as_setup M s) e) 0)
    where
      go : Dec (event_refusal (as_setup M s) e ≡ 0) → call_refusal M map s e ≡ event_refusal (as_setup M s) e
      go (yes z) = accepts e z ∙ sym z
      go (no n) = sym (call_event M map s e sizes whole frames right refl n)
