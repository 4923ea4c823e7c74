-- Which move an event's kind decodes to.
use mathlib.Core.Path.{◌≡◌, refl, sym, ap}
use mathlib.Core.Bool.{cond}
use mathlib.Core.List.{List}
use Prim.Native.Nat.{ℕ, zero, suc, ◌≤◌}
use native.Mathlib.Omega.{arith}
use lib.Dec.{eqb}
use Rattle.rules.specs.declared.Event.{Event}
use Rattle.tables.specs.State.{Machine, State}
use Rattle.shadow.specs.Moves.{Move, decode, after_store, after_invlpg, after_cr3, after_begin, after_extend, after_drop, store, invlpg, write_cr3, access, begin, extend, drop}
use Rattle.shadow.specs.After.{moved}
use Rattle.shadow.specs.Access.{after_access}

abbrev by_kind : ℕ → ℕ → ℕ → Move
by_kind k a b =
    cond (eqb k 1) (store a b)
    (cond (eqb k 2) (invlpg a)
    (cond (eqb k 3) (write_cr3 a)
    (cond (eqb k 4) (access a b)
    (cond (eqb k 5) (begin a b)
    (cond (eqb k 6) (extend a) (drop a))))))

-- none of the first six is the seventh
pub seventh : (n : ℕ) → (1 ≤ n) × (n ≤ 7) → (n ≡ 1 → ⊥) → (n ≡ 2 → ⊥) → (n ≡ 3 → ⊥) → (n ≡ 4 → ⊥) → (n ≡ 5 → ⊥) → (n ≡ 6 → ⊥) → n ≡ 7
seventh zero h a b c d e f = absurd (omega arith)
seventh (suc zero) h a b c d e f = absurd (a refl)
seventh (suc (suc zero)) h a b c d e f = absurd (b refl)
seventh (suc (suc (suc zero))) h a b c d e f = absurd (c refl)
seventh (suc (suc (suc (suc zero)))) h a b c d e f = absurd (d refl)
seventh (suc (suc (suc (suc (suc zero))))) h a b c d e f = absurd (e refl)
seventh (suc (suc (suc (suc (suc (suc zero)))))) h a b c d e f = absurd (f refl)
seventh (suc (suc (suc (suc (suc (suc (suc n))))))) h a b c d e f = omega arith

module _ (M : Machine) (map : List ℕ) (s : State) (e : Event) where
  by : (k : ℕ) → e.kind ≡ k → moved M map e.proc (by_kind k e.a e.b) s ≡ moved M map e.proc (decode e) s
  by k q = sym (ap (λ (x : ℕ). moved M map e.proc (by_kind x e.a e.b) s) q)

  pub moved_store : e.kind ≡ 1 → after_store e.a e.b s ≡ moved M map e.proc (decode e) s
  unfolding moved
  moved_store q = by 1 q

  pub moved-invlpg : e.kind ≡ 2 → after_invlpg M e.proc e.a s ≡ moved M map e.proc (decode e) s
  unfolding moved
  moved-invlpg q = by 2 q

  pub moved-cr3 : e.kind ≡ 3 → after_cr3 M e.proc e.a s ≡ moved M map e.proc (decode e) s
  unfolding moved
  moved-cr3 q = by 3 q

  pub moved_access : e.kind ≡ 4 → after_access M map e.proc e.a e.b s ≡ moved M map e.proc (decode e) s
  unfolding moved
  moved_access q = by 4 q

  pub moved_begin : e.kind ≡ 5 → after_begin M e.proc e.a e.b s ≡ moved M map e.proc (decode e) s
  unfolding moved
  moved_begin q = by 5 q

  pub moved_extend : e.kind ≡ 6 → after_extend M map e.proc e.a s ≡ moved M map e.proc (decode e) s
  unfolding moved
  moved_extend q = by 6 q

  pub moved-drop : e.kind ≡ 7 → after_drop e.proc e.a s ≡ moved M map e.proc (decode e) s
  unfolding moved
  moved-drop q = by 7 q
