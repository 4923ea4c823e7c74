-- THE INVARIANT IS CARRIED, whatever the kind of the event.
use mathlib.Core.Path.{◌≡◌}
use mathlib.Core.List.{List}
use Prim.Native.Nat.{ℕ, suc}
use Rattle.rules.specs.declared.Event.{Event}
use Rattle.rules.specs.History.{event_at}
use Rattle.tables.specs.State.{State}
use Rattle.shadow.specs.After.{after}
use Rattle.keeps.proofs.Events.{Kind, store, invlpg, cr3, access, begin, extend, drop, kinds}
use Rattle.keeps.proofs.EventsKeep.{right-after, words-after}
use Rattle.promise.specs.Demand.{Fresh}
use Rattle.promise.proofs.Holds.{Holds}
use Rattle.promise.proofs.Carries.{After, stored, invalidated, written, begun, lost}
use Rattle.promise.proofs.Extended.{extended}
use Rattle.promise.proofs.Accessed.{accessed}
use Rattle.shadow.specs.Answer.{Reply}
use Rattle.shadow.specs.Refusals.{call_refusal}

module _ (F : Fresh) (es : List Event) (k : ℕ) (s : State) (h : Holds F es k s)
    (ok : call_refusal F.machine F.map s (event_at es k) ≡ 0) where
  by_kind : {out : Reply} → Kind F.machine F.map s (event_at es k) out → After F es k s h ok out.state
  by_kind (store q b o) = rw o (stored F es k s h ok q)
  by_kind (invlpg q o) = rw o (invalidated F es k s h ok q)
  by_kind (cr3 q b o) = rw o (written F es k s h ok q b)
  by_kind (access q b o) = rw o (accessed F es k s h ok q)
  by_kind (begin q b o) = rw o (begun F es k s h ok q b)
  by_kind (extend q b o) = rw o (extended F es k s h ok q b)
  by_kind (drop q b o) = rw o (lost F es k s h ok q b)

  pub carried : Holds F es (suc k) (after F.machine F.map s (event_at es k)).state
  carried =
      by_kind (kinds F.machine F.map s (event_at es k) ok) (right-after F.machine F.map s (event_at es k) h.laid ok)
      (words-after F.machine F.map s (event_at es k) h.laid ok)
