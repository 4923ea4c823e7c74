-- Where no slot is lost nothing changes: a run without losses goes from state to state by the event call alone.
use mathlib.Core.Path.{◌≡◌, refl, ap, ◌∙◌}
use mathlib.Core.Bool.{false}
use mathlib.Core.List.{List}
use Prim.Native.Nat.{ℕ, zero, suc}
use Rattle.paging.specs.Numbers.{each}
use Rattle.tables.specs.State.{Machine, State}
use Rattle.slots.specs.Slots.{slot_count}
use Rattle.promise.specs.Demand.{losing}

idle : (n : ℕ) {A : Type 0} (x : A) → each n (λ k y. y) x ≡ x
unfolding each
idle zero x = refl
idle (suc n) x = idle n x

idle_twice : (n m : ℕ) (x : List ℕ) → each n (λ p l. each m (λ k l. l) l) x ≡ x
unfolding each
idle_twice zero m x = refl
idle_twice (suc n) m x = idle m (each n (λ p l. each m (λ k l. l) l) x) ∙ idle_twice n m x

pub none_lost : (M : Machine) (s : State) → losing M (λ p j. false) s ≡ s
unfolding losing
none_lost M s = ap (λ (l : List ℕ). record { words = s.words; shadow = s.shadow; slots = l }) (idle_twice M.processors slot_count s.slots)
