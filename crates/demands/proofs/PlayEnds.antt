-- Demand 3 of a play: every access ends in two.
use mathlib.Core.Path.{◌≡◌, refl, ap, ◌∙◌}
use mathlib.Core.Logic.{inl, inr}
use mathlib.Core.List.{List}
use Prim.Native.Nat.{ℕ, ◌<◌}
use native.Mathlib.Omega.{arith}
use lib.Dec.{T, eqb→eq}
use lib.ListN.{length}
use Rattle.std.specs.Prelude.{Result}
use Rattle.paging.specs.Layout.{tables64}
use Rattle.rules.specs.declared.Event.{Event}
use Rattle.rules.specs.declared.Outcome.{Outcome}
use Rattle.rules.specs.History.{is_access, event_at}
use Rattle.tables.specs.declared.Sizes.{Sizes}
use Rattle.shadow.specs.declared.Answer.{Answer}
use Rattle.trees.proofs.Entries.{laid64}
use Rattle.promise.specs.Demand as D
use Rattle.promise.specs.Demand.{place, code}
use Rattle.promise.proofs.Theorems.{demand_three}
use Rattle.flamecurl.specs.Exports.{event_numbers}
use Rattle.demands.specs.Play.{Play, Says, address, fault, Ends, EndsInTwo}
use Rattle.demands.proofs.Plays.{fresh, run, fits_setup, events_fit, long, told_is}
use Rattle.demands.proofs.PlayLists.{lists-given}

module _ {z : Sizes} {map cr3s words : List ℕ} {es : List Event} (p : Play z map cr3s words es) where
  -- an answer's numbers say what it says
  numbers_say : {a : ℕ} {x : Result Answer ℕ} {o : Outcome} → D.Says (fresh p) (run p) a x o → Says z map a (event_numbers x) o
  numbers_say (place inside) = address inside
  numbers_say code = fault

  ends : (k : ℕ) → k < length es → (event_at es k).kind ≡ 4 → D.Settles (fresh p) (run p) k → Ends z map cr3s words es p k
  ends k h four s =
      record {
        outcome = s.outcome;
        says = rw (told_is p k h) (numbers_say s.says);
        list = s.list;
        right = s.right;
        stands = s.stands;
        lists = λ few. lists-given p (long p (omega arith)) k h four few s.list s.right few;
      }

  -- EVERY ACCESS ENDS IN TWO
  pub ends_in_two : (k : ℕ) → k < length es → T (is_access (event_at es k)) → EndsInTwo z map cr3s words es p k
  ends_in_two k h access =
      go (demand_three tables64 laid64 (fresh p) refl (fits_setup p (long p (omega arith))) (run p) (events_fit p) k h access)
    where
      four : (event_at es k).kind ≡ 4
      four = eqb→eq (event_at es k).kind 4 access

      go : D.SettlesInTwo (fresh p) (run p) k → EndsInTwo z map cr3s words es p k
      go (inl s) = inl (ends k h four s)
      go (inr t) =
          inr (
            told_is p k h ∙ ap event_numbers t.0,
            λ m lo hi same between. ends m hi (ap (λ (e : Event). e.kind) same ∙ four) (t.1 m lo hi same between),
          )
