-- Slots may be lost at any moment: each is then empty or as it was, and the invariant stays.
use mathlib.Core.Path.{◌≡◌, refl, ◌∙◌}
use mathlib.Core.List.{List}
use mathlib.Core.Bool.{Bool, true, false, cond}
use mathlib.Core.Logic.{◌⊎◌, inl, inr}
use Prim.Native.Nat.{ℕ, zero, suc, ◌*◌, ◌≤◌, ◌<◌}
use native.Mathlib.Decide.{ℕ_discrete}
use native.Mathlib.Omega.{arith}
use lib.ListN.{length}
use Rattle.paging.specs.Numbers.{each}
use Rattle.rules.specs.declared.Event.{Event}
use Rattle.tables.specs.State.{State}
use Rattle.slots.specs.Slots.{slot_count, emptied}
use Rattle.paging.proofs.Counts.{by_cases}
use Rattle.trees.proofs.Slots.{SameSlot, Empty, Room, same_self, same-on, same_empty, with_length, with_other, emptied-here, Local, each-length, each_other, each-here}
use Rattle.trees.proofs.SlotRules.{empty_right, same-right}
use Rattle.promise.specs.Demand.{Fresh, Losses, losing}
use Rattle.promise.proofs.Holds.{Holds, same_path, same_slot, no_slot}

-- slot j of q is empty, or as it was
abbrev Left : List ℕ → List ℕ → ℕ → ℕ → Type 0
Left a b q j = Empty b q j ⊎ SameSlot a b q j

left_on : {a b c : List ℕ} {q j : ℕ} → Left a b q j → Left b c q j → Left a c q j
left_on x (inl e) = inl e
left_on (inl e) (inr s) = inl (same_empty s e)
left_on (inr t) (inr s) = inr (same-on t s)

module _ (lost : Losses) (p : ℕ) where
  lose_own : Local p (λ k l. cond (lost p k) (emptied p k l) l)
  lose_own = record { kept = λ j slots. size (lost p j) j slots; other = λ j slots q k hj hk ne. same (lost p j) j slots q k hj hk ne }
    where
      size : (b : Bool) (j : ℕ) (slots : List ℕ) → length (cond b (emptied p j slots) slots) ≡ length slots
      size true j slots = with_length p j 0 0 0 0 slots
      size false j slots = refl

      same : (b : Bool) (j : ℕ) (slots : List ℕ) (q k : ℕ) → j < slot_count → k < slot_count → (q ≡ p → k ≡ j → ⊥) → SameSlot slots (cond b (emptied p j slots) slots) q k
      same true j slots q k hj hk ne = with_other p j 0 0 0 0 slots q k hj hk ne
      same false j slots q k hj hk ne = same_self slots q k

  abbrev after : List ℕ → List ℕ
  after slots = each slot_count (λ k l. cond (lost p k) (emptied p k l) l) slots

  after_left : (slots : List ℕ) → Room slots p → (q j : ℕ) → j < slot_count → Left slots (after slots) q j
  after_left slots room q j hj = go (ℕ_discrete q p)
    where
      now : List ℕ
      now = each j (λ k l. cond (lost p k) (emptied p k l) l) slots

      before : SameSlot slots now p j
      before = each_other lose_own slots j (omega arith) p j hj (λ x y. omega arith)

      turn : (b : Bool) → Left slots (cond b (emptied p j now) now) p j
      turn true = inl (emptied-here p j now hj (omega (arith, each-length lose_own slots j)))
      turn false = inr before

      go : Dec (q ≡ p) → Left slots (after slots) q j
      go (no ne) = inr (each_other lose_own slots slot_count (omega arith) q j hj (λ x y. ne x))
      go (yes e) = rw e (left_on (turn (lost p j)) (inr (each-here lose_own slots slot_count (omega arith) j hj)))

module _ (lost : Losses) (slots : List ℕ) where
  abbrev upto : ℕ → List ℕ
  upto n = each n (λ p. after lost p) slots

  upto-length : (n : ℕ) → length (upto n) ≡ length slots
  unfolding each
  upto-length zero = refl
  upto-length (suc n) = each-length (lose_own lost n) (upto n) slot_count ∙ upto-length n

  upto_left : (P n : ℕ) → length slots ≡ 24 * P → n ≤ P → (q j : ℕ) → j < slot_count → Left slots (upto n) q j
  unfolding each
  upto_left P zero e h q j hj = inr (same_self slots q j)
  upto_left P (suc n) e h q j hj =
      left_on (upto_left P n e (omega arith) q j hj) (after_left lost n (upto n) (omega (arith, upto-length n)) q j hj)

-- THE INVARIANT STAYS
pub losing_holds : (F : Fresh) (es : List Event) (k : ℕ) (lost : Losses) (s : State) → Holds F es k s → Holds F es k (losing F.machine lost s)
unfolding losing
losing_holds F es k lost s h = record {
  laid = h.laid;
  right = record {
    law = record {
      trees = h.right.law.trees;
      slots = λ q hq j hj.
          by_cases (left q j hj)
          (λ x. empty_right F.machine s.shadow.pool s'.slots q j x)
          (λ x. same-right x F.machine s.shadow.pool ∙ h.right.law.slots q hq j hj);
    };
    triples = upto-length lost s.slots F.machine.processors ∙ h.right.triples;
  };
  size = h.size;
  words = h.words;
  roots = h.roots;
  paths = λ q hq v hv. same_path F es s' (refl, refl) (h.paths q hq v hv);
  slots = λ q hq j hj.
      by_cases (left q j hj)
      (λ x. no_slot F es (λ m. omega (arith, x.mark)))
      (λ x. same_slot F es s' x (h.slots q hq j hj));
}
  where
    s' : State
    s' = losing F.machine lost s

    left : (q j : ℕ) → j < slot_count → Left s.slots s'.slots q j
    left q j hj = upto_left lost s.slots F.machine.processors F.machine.processors h.right.triples (omega arith) q j hj
