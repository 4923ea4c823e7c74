-- What holds from every state that the event call takes: the state rules are kept, a later call is refused only for its own
-- event, a partial slot moves where its shadow entry is present, and the put after "again" answers an address.
use mathlib.Core.Path.{◌≡◌, sym, ap, ◌∙◌}
use mathlib.Core.Bool.{true}
use mathlib.Core.List.{List, []}
use Prim.Native.Nat.{ℕ, ◌-◌, ◌<◌}
use native.Mathlib.Omega.{arith}
use Rattle.std.specs.Prelude.{Ok, Err}
use Rattle.paging.specs.Layout.{index, is_present}
use Rattle.rules.specs.declared.Event.{Event}
use Rattle.tables.specs.State.{Machine, State, entry_of}
use Rattle.slots.specs.Slots.{mark_of, page_in, place_in}
use Rattle.lawful.specs.Rules.{lawful}
use Rattle.rules.specs.History.{event_refusal}
use Rattle.shadow.specs.declared.Answer.TheVariants.{Done, Address, Again}
use Rattle.shadow.specs.After.{after}
use Rattle.shadow.proofs.Accepted.{accepted_ranged, accepted_own, accepted_frames, accepted_event}
use Rattle.paging.specs.Sound.{Laid}
use Rattle.trees.proofs.Trees.{Able}
use Rattle.trees.proofs.Rules.{lawful_is}
use Rattle.keeps.proofs.RightStates.{Mapped, RightState}
use Rattle.keeps.proofs.Moves.{extend_answer}
use Rattle.keeps.proofs.Accesses.{Way, slot, shadow, fault, lacks, again, ways}
use Rattle.keeps.proofs.Again.{unlike}
use Rattle.keeps.proofs.Accepts.{same_tests, accepts}
use Rattle.keeps.proofs.Extends.{moves}
use Rattle.keeps.proofs.EventsKeep.{right-after, words-after, again_serves, served_address}
use Rattle.keeps.proofs.Events.{Kind, store, invlpg, cr3, access, begin, extend, drop, accepted_mapped, accepted_able, accepted_right, kinds}
use Rattle.paging.proofs.Counts.{by_cases}
use Rattle.shadow.specs.Answer.{Reply}
use Rattle.shadow.specs.Refusals.{as_setup, call_refusal}
use Rattle.shadow.specs.Moves.{after_invlpg, after_cr3, after_begin, after_drop}

module _ (M : Machine) (map : List ℕ) (s : State) (e : Event) (laid : Laid M.tables) (ok : call_refusal M map s e ≡ 0) where
  abbrev fits : Mapped M map
  fits = accepted_mapped M map s e ok

  abbrev able : Able M
  able = accepted_able M map s e ok laid

  abbrev s' : State
  s' = (after M map s e).state

  abbrev right : RightState M map s'
  right = right-after M map s e laid ok

  -- EVERY ACCEPTED EVENT KEEPS THE STATE RULES
  pub event_keeps : lawful M map s' ≡ true
  event_keeps = (lawful_is M able map fits.outside s' right.law.trees.exact).1 right.law

  -- SO NO LATER CALL IS REFUSED BUT FOR ITS OWN EVENT
  pub next_accepted : (e' : Event) → event_refusal (as_setup M s) e' ≡ 0 → call_refusal M map s' e' ≡ 0
  next_accepted e' h =
      accepts M map s' able (accepted_ranged M map s e ok) fits (accepted_frames M map s e ok) right (words-after M map s e laid ok) e'
      (sym (same_tests M s' s.words [] e') ∙ same_tests M s s.words [] e' ∙ h)

  -- the slot that an extend names: its mark, and its shadow entry
  abbrev mark : ℕ
  mark = mark_of s.slots e.proc e.a

  abbrev slot_entry : ℕ
  slot_entry = entry_of M s.shadow.pool (place_in s.slots e.proc e.a) (index M.tables (page_in s.slots e.proc e.a) (mark - 1))

  -- A PARTIAL SLOT WHOSE SHADOW ENTRY IS PRESENT MOVES ONE LEVEL: from no state that the call takes does such an entry lead nowhere
  pub extend_moves : e.kind ≡ 6 → 1 < mark → is_present slot_entry ≡ true
      → ((after M map s e).answer ≡ Ok Done) × (mark_of s'.slots e.proc e.a ≡ mark - 1) × (page_in s'.slots e.proc e.a ≡ page_in s.slots e.proc e.a)
  extend_moves six partial present = go (kinds M map s e ok)
    where
      go : {out : Reply} → Kind M map s e out
          → (out.answer ≡ Ok Done) × (mark_of out.state.slots e.proc e.a ≡ mark - 1) × (page_in out.state.slots e.proc e.a ≡ page_in s.slots e.proc e.a)
      go (extend q h o) = rw o (moves M able map fits e.proc (accepted_own M map s e ok) s (accepted_right M map s e ok laid) e.a h partial present)
      go (store q h o) = absurd (omega arith)
      go (invlpg q o) = absurd (omega arith)
      go (cr3 q h o) = absurd (omega arith)
      go (access q h o) = absurd (omega arith)
      go (begin q h o) = absurd (omega arith)
      go (drop q h o) = absurd (omega arith)

-- THE PUT RIGHT AFTER AN "AGAIN" ANSWERS AN ADDRESS
pub again_address : (M : Machine) (map : List ℕ) (s : State) (e : Event) → Laid M.tables → call_refusal M map s e ≡ 0 → (after M map s e).answer ≡ Ok Again
    → (v : ℕ) × ((after M map (after M map s e).state e).answer ≡ Ok (Address v))
again_address M map s e laid ok g =
    let sv = again_serves M map s e laid ok g in
    served_address M map (after M map s e).state e (next_accepted M map s e laid ok e (accepted_event M map s e ok)) sv.0 sv.1

-- AN ACCEPTED CALL ANSWERS NO REFUSAL
pub never_refused : (M : Machine) (map : List ℕ) (s : State) (e : Event) → call_refusal M map s e ≡ 0 → (n : ℕ) → (after M map s e).answer ≡ Err n → ⊥
never_refused M map s e ok n refused = go (kinds M map s e ok) refused
  where
    done : Ok Done ≡ Err n → ⊥
    done e = let m : ◌≡◌ {A = ℕ} 0 1 = cc in omega arith

    way : {out : Reply} → Way M map e.proc e.a e.b s out → out.answer ≡ Err n → ⊥
    way (slot k h x o) g = unlike o g (λ e. let m : ◌≡◌ {A = ℕ} 0 1 = cc in omega arith)
    way (shadow h x o) g = unlike o g (λ e. let m : ◌≡◌ {A = ℕ} 0 1 = cc in omega arith)
    way (fault base x o) g = unlike o g (λ e. let m : ◌≡◌ {A = ℕ} 0 1 = cc in omega arith)
    way (lacks last w x y o) g = unlike o g (λ e. let m : ◌≡◌ {A = ℕ} 0 1 = cc in omega arith)
    way (again last w x y o) g = unlike o g (λ e. let m : ◌≡◌ {A = ℕ} 0 1 = cc in omega arith)

    go : {out : Reply} → Kind M map s e out → out.answer ≡ Err n → ⊥
    go (store x h o) g = unlike o g done
    go (invlpg x o) g = unlike o g (λ e. done (unfold after_invlpg in e))
    go (cr3 x h o) g = unlike o g (λ e. done (unfold after_cr3 in e))
    go (access x h o) g = way (ways M map e.proc e.a e.b s) (sym (ap (λ (y : Reply). y.answer) o) ∙ g)
    go (begin x h o) g = unlike o g (λ e. done (unfold after_begin in e))
    go (extend x h o) g =
        by_cases (extend_answer M map e.proc e.a s)
        (λ d. unlike o g (λ e. done (sym d ∙ e)))
        (λ d. unlike o g (λ e. let x = sym d ∙ e in let m : ◌≡◌ {A = ℕ} 0 1 = cc in omega arith))
    go (drop x h o) g = unlike o g (λ e. done (unfold after_drop in e))
