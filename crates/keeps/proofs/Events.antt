-- An accepted call: what it is known to be, and which of the seven kinds it is.
use mathlib.Core.Path.{◌≡◌, sym, ◌∙◌}
use mathlib.Core.Bool.{true, false, not, ◌&&◌}
use mathlib.Core.List.{List}
use Prim.Native.Nat.{ℕ, ◌+◌, ◌^◌, ◌<◌}
use native.Mathlib.Decide.{ℕ_discrete}
use native.Mathlib.Omega.{arith}
use lib.Pow.{pow_pos}
use lib.ListN.{length, get_or}
use borrow.Author.Tests.{eq-eqb, le-leb, lt-ltb, not-true}
use Rattle.paging.specs.Frame.{map_fits}
use Rattle.paging.specs.Numbers.{all}
use Rattle.paging.proofs.Numbers.{all-at}
use Rattle.paging.proofs.Tests.{both}
use Rattle.rules.specs.declared.Event.{Event}
use Rattle.tables.specs.State.{Machine, State, table_count}
use Rattle.shadow.specs.After.{after, moved}
use Rattle.shadow.proofs.Sizing.{hosts_below}
use Rattle.shadow.proofs.Accepted.{accepted_ranged, accepted_room, accepted_exact, accepted_frames, accepted_lawful, accepted_cr3, accepted_numbers}
use Rattle.shadow.proofs.Moves.{seventh, moved_store, moved-invlpg, moved-cr3, moved_access, moved_begin, moved_extend, moved-drop}
use Rattle.paging.specs.Sound.{Laid}
use Rattle.trees.proofs.Trees.{Able, able}
use Rattle.trees.proofs.Rules.{lawful_is}
use Rattle.keeps.proofs.RightStates.{Mapped, RightState}
use Rattle.shadow.specs.Answer.{Reply}
use Rattle.shadow.specs.Refusals.{pool_fits, in_pool, frames_fit, call_refusal}
use Rattle.shadow.specs.Moves.{decode, after_store, after_invlpg, after_cr3, after_begin, after_extend, after_drop}
use Rattle.shadow.specs.Access.{after_access}

-- a map that fits
pub mapped : (M : Machine) (map : List ℕ) → length map ≡ M.frames → frames_fit M map ≡ true → Mapped M map
unfolding frames_fit in_pool
mapped M map guests fits = record {
  guests = guests;
  within = λ k h. hosts_below (2 ^ M.tables.frame_bits) (pow_pos M.tables.frame_bits) map inside.1 k;
  outside = λ i h lo hi.
      let t = all-at (λ i. not (in_pool M (get_or map i 0))) (length map) halves.1 i h in
      let f : in_pool M (get_or map i 0) ≡ false = not-true _ t in
      let g : in_pool M (get_or map i 0) ≡ true = simp (le-leb M.base (get_or map i 0) lo, lt-ltb (get_or map i 0) (M.base + table_count M) hi) in
      let e : true ≡ false = sym g ∙ f in
      let n : ◌≡◌ {A = ℕ} 0 1 = cc in omega arith;
}
  where
    halves : ((pool_fits M && map_fits (2 ^ M.tables.frame_bits) map) ≡ true) × (all (length map) (λ i. not (in_pool M (get_or map i 0))) ≡ true)
    halves = both (pool_fits M && map_fits (2 ^ M.tables.frame_bits) map) (all (length map) (λ i. not (in_pool M (get_or map i 0)))) fits

    inside : (pool_fits M ≡ true) × (map_fits (2 ^ M.tables.frame_bits) map ≡ true)
    inside = both (pool_fits M) (map_fits (2 ^ M.tables.frame_bits) map) halves.0

module _ (M : Machine) (map : List ℕ) (s : State) (e : Event) where
  -- WHICH OF THE SEVEN KINDS, within its range
  pub data Kind (out : Reply) : Type 0 where
    store : e.kind ≡ 1 → e.a < length s.words → out ≡ after_store e.a e.b s → Kind out
    invlpg : e.kind ≡ 2 → out ≡ after_invlpg M e.proc e.a s → Kind out
    cr3 : e.kind ≡ 3 → e.a < M.frames → out ≡ after_cr3 M e.proc e.a s → Kind out
    access : e.kind ≡ 4 → e.b < 6 → out ≡ after_access M map e.proc e.a e.b s → Kind out
    begin : e.kind ≡ 5 → e.b < 8 → out ≡ after_begin M e.proc e.a e.b s → Kind out
    extend : e.kind ≡ 6 → e.a < 8 → out ≡ after_extend M map e.proc e.a s → Kind out
    drop : e.kind ≡ 7 → e.a < 8 → out ≡ after_drop e.proc e.a s → Kind out

  module _ (ok : call_refusal M map s e ≡ 0) where
    pub accepted_mapped : Mapped M map
    accepted_mapped = mapped M map (accepted_exact M map s e ok).guests (accepted_frames M map s e ok)

    pub accepted_able : Laid M.tables → Able M
    accepted_able laid =
        able M laid (omega (arith, laid.upper, (accepted_ranged M map s e ok).share)) (accepted_room M map s e ok)

    pub accepted_right : Laid M.tables → RightState M map s
    accepted_right laid =
        let x = accepted_exact M map s e ok in
        record {
          law = (lawful_is M (accepted_able laid) map accepted_mapped.outside s (record { words = x.words; pairs = x.pairs })).0 (accepted_lawful M map s e ok);
          triples = x.triples;
        }

    pub taken : after M map s e ≡ moved M map e.proc (decode e) s
    unfolding after
    taken = simp (eq-eqb (call_refusal M map s e) 0 ok)

    pub kinds : Kind (after M map s e)
    kinds =
        go (ℕ_discrete e.kind 1) (ℕ_discrete e.kind 2) (ℕ_discrete e.kind 3) (ℕ_discrete e.kind 4) (ℕ_discrete e.kind 5) (ℕ_discrete e.kind 6)
      where
        go : Dec (e.kind ≡ 1) → Dec (e.kind ≡ 2) → Dec (e.kind ≡ 3) → Dec (e.kind ≡ 4) → Dec (e.kind ≡ 5) → Dec (e.kind ≡ 6) → Kind (after M map s e)
        go (yes q) b c d f g = store q ((accepted_numbers M map s e ok).stores q) (taken ∙ sym (moved_store M map s e q))
        go (no a) (yes q) c d f g = invlpg q (taken ∙ sym (moved-invlpg M map s e q))
        go (no a) (no b) (yes q) d f g = cr3 q (accepted_cr3 M map s e ok (eq-eqb e.kind 3 q)) (taken ∙ sym (moved-cr3 M map s e q))
        go (no a) (no b) (no c) (yes q) f g = access q ((accepted_numbers M map s e ok).requests q) (taken ∙ sym (moved_access M map s e q))
        go (no a) (no b) (no c) (no d) (yes q) g = begin q ((accepted_numbers M map s e ok).begins q) (taken ∙ sym (moved_begin M map s e q))
        go (no a) (no b) (no c) (no d) (no f) (yes q) = extend q ((accepted_numbers M map s e ok).extends q) (taken ∙ sym (moved_extend M map s e q))
        go (no a) (no b) (no c) (no d) (no f) (no g) =
            let q = seventh e.kind (accepted_numbers M map s e ok).kind a b c d f g in
            drop q ((accepted_numbers M map s e ok).drops q) (taken ∙ sym (moved-drop M map s e q))
