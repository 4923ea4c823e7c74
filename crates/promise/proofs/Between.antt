-- Between the puts: what may stand there leaves the page's path as it is.
use mathlib.Core.Path.{◌≡◌, refl, sym, ap, ◌∙◌}
use mathlib.Core.List.{List}
use Prim.Native.Nat.{ℕ, ◌-◌, ◌≤◌, ◌<◌}
use native.Mathlib.Omega.{arith}
use lib.Dec.{T}
use borrow.Author.Tests.{eq-eqb, ne_eqb}
use Rattle.paging.specs.declared.Request.{Request}
use Rattle.paging.specs.Layout.{page_of, rights_of, is_present}
use Rattle.paging.specs.Request.{enough}
use Rattle.paging.specs.Walk.{meet}
use Rattle.rules.specs.declared.Event.{Event}
use Rattle.tables.specs.State.{Machine, Shadow, State, table_count, next_entry, path_to}
use Rattle.shadow.specs.After.{after}
use Rattle.shadow.specs.Access.{faulted}
use Rattle.shadow.proofs.Accepted.{accepted_ranged, accepted_own}
use Rattle.trees.proofs.Trees.{Able, own, Another, Same, Trees}
use Rattle.trees.proofs.Paths.{same_path, same-entry}
use Rattle.keeps.proofs.RightStates.{Mapped, RightState}
use Rattle.keeps.proofs.Moves.{extends}
use Rattle.keeps.proofs.Takes.{invlpg_reshapes, cr3_reshapes}
use Rattle.keeps.proofs.Accesses.{walked_over, Way, slot, shadow, fault, lacks, again, ways, filling_reshapes}
use Rattle.keeps.proofs.Again.{Serves}
use Rattle.keeps.proofs.Events.{accepted_mapped, accepted_able, accepted_right, Kind, store, invlpg, cr3, access, begin, extend, drop, kinds}
use Rattle.promise.specs.Demand.{may_stand_between}
use Rattle.paging.specs.Sound.{Laid}
use Rattle.paging.proofs.Counts.{by_cases}
use Rattle.shadow.specs.Answer.{Reply}
use Rattle.shadow.specs.Refusals.{call_refusal}
use Rattle.shadow.specs.Moves.{after_begin, after_drop}

-- the page's path serves in any state with the same tables
pub serves_by : (M : Machine) (p page : ℕ) (q : Request) (s s' : State) → s'.shadow ≡ s.shadow → Serves M s p page q → Serves M s' p page q
serves_by M p page q s s' e sv = record {
  here = ap (λ (x : Shadow). is_present (next_entry M x.pool page (path_to M x.pool p page 1))) e ∙ sv.here;
  good =
      ap (λ (x : Shadow). enough q (meet (path_to M x.pool p page 1).rights (rights_of M.tables (next_entry M x.pool page (path_to M x.pool p page 1))))) e
      ∙ sv.good;
}

module _ (M : Machine) (map : List ℕ) (s : State) (e : Event) (laid : Laid M.tables) (ok : call_refusal M map s e ≡ 0) (p page : ℕ) (hp : p < M.processors) (q : Request)
    (sv : Serves M s p page q) where
  sized : Able M
  sized = accepted_able M map s e ok laid

  fits : Mapped M map
  fits = accepted_mapped M map s e ok

  right : RightState M map s
  right = accepted_right M map s e ok laid

  by : e.proc < M.processors
  by = accepted_own M map s e ok

  spare : M.tables.levels ≤ M.share
  spare = (accepted_ranged M map s e ok).share.0

  -- another processor's work on its own tables
  apart : (s' : State) → Trees M map s'.shadow → (e.proc ≡ p → ⊥)
      → ((v : ℕ) → v < table_count M → Another M s.shadow e.proc v → Same M s.shadow s'.shadow v) → Serves M s' p page q
  apart s' trees ne others =
      let same : (v : ℕ) → v < table_count M → own M s.shadow v ≡ p → Same M s.shadow s'.shadow v =
      λ v hv o. others v hv (record { owned = rw o hp; other = λ x. ne (sym x ∙ o) }) in
      let path = same_path M sized map fits.outside s.shadow s'.shadow right.law.trees trees.exact page p hp same (M.tables.levels - 1) (omega (arith, laid.upper)) in
      let end = same-entry M sized map fits.outside s.shadow s'.shadow right.law.trees trees.exact page p hp same (M.tables.levels - 1) (omega (arith, laid.upper)) in
      record {
        here = ap is_present end ∙ sv.here;
        good = (λ i. enough q (meet (path i).rights (rights_of M.tables (end i)))) ∙ sv.good;
      }

  -- INVLPG, CR3 write and access stand between only by others
  by_others : (k : ℕ) → e.kind ≡ k → (k ≡ 1 → ⊥) → (k ≡ 5 → ⊥) → (k ≡ 6 → ⊥) → (k ≡ 7 → ⊥) → T (may_stand_between p e) → e.proc ≡ p → ⊥
  by_others k x a b c d t own =
      simp (
        eq-eqb e.proc p own,
        ne_eqb e.kind 1 (λ y. a (sym x ∙ y)),
        ne_eqb e.kind 5 (λ y. b (sym x ∙ y)),
        ne_eqb e.kind 6 (λ y. c (sym x ∙ y)),
        ne_eqb e.kind 7 (λ y. d (sym x ∙ y)),
      ) at t

  -- another's fault
  fault_serves : Serves M (faulted M e.proc (page_of M.tables e.a) (walked_over M map e.proc e.a e.b s)) p page q
  fault_serves = serves_by M p page q s _ refl sv

  way : (e.proc ≡ p → ⊥) → {out : Reply} → Way M map e.proc e.a e.b s out → Serves M out.state p page q
  way ne (slot k h x o) = rw o sv
  way ne (shadow h x o) = rw o sv
  way ne (fault base x o) = rw o fault_serves
  way ne (lacks last w x y o) = rw o fault_serves
  way ne (again last w x y o) =
      let f = filling_reshapes M map e.proc e.a e.b s sized spare fits by right last w x in
      rw o (apart _ f.trees ne f.others)

  kept : T (may_stand_between p e) → {out : Reply} → Kind M map s e out → Serves M out.state p page q
  kept t (store x h o) = rw o (serves_by M p page q s _ refl sv)
  kept t (begin x h o) = rw o (serves_by M p page q s _ (unfold after_begin in refl) sv)
  kept t (drop x h o) = rw o (serves_by M p page q s _ (unfold after_drop in refl) sv)
  kept t (extend x h o) = rw o
      (by_cases (extends M sized map fits e.proc by s right e.a h)
      (λ y. serves_by M p page q s _ (ap (λ (u : State). u.shadow) y) sv)
      (λ m. serves_by M p page q s _ (ap (λ (u : State). u.shadow) m.is) sv))
  kept t (invlpg x o) =
      let f = invlpg_reshapes M sized map fits e.proc by s right e.a in
      rw o (apart _ f.trees (by_others 2 x (λ y. omega arith) (λ y. omega arith) (λ y. omega arith) (λ y. omega arith) t) f.others)
  kept t (cr3 x h o) =
      let f = cr3_reshapes M sized map fits e.proc by s right e.a h in
      rw o (apart _ f.trees (by_others 3 x (λ y. omega arith) (λ y. omega arith) (λ y. omega arith) (λ y. omega arith) t) f.others)
  kept t (access x h o) = rw o (way (by_others 4 x (λ y. omega arith) (λ y. omega arith) (λ y. omega arith) (λ y. omega arith) t) (ways M map e.proc e.a e.b s))

  pub serves_still : T (may_stand_between p e) → Serves M (after M map s e).state p page q
  serves_still t = kept t (kinds M map s e ok)
