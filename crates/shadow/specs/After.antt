-- THE EVENT CALL: what it answers, and the state after it.
use Rattle.std.specs.Prelude.{cond, List, ℕ, eqb}
use Rattle.rules.specs.declared.Event.{Event}
use Rattle.tables.specs.State.{Machine, State}
use Rattle.shadow.specs.Answer.{Reply, refuses}
use Rattle.shadow.specs.Moves.{Move, store, invlpg, write_cr3, access, begin, extend, drop, after_begin, after_cr3, after_drop, after_extend, after_invlpg, after_store, decode}
use Rattle.shadow.specs.Access.{after_access}
use Rattle.shadow.specs.Refusals.{call_refusal}

module _ (M : Machine) where
  -- each event by its kind
  unfoldable pub moved : List ℕ → ℕ → Move → State → Reply
  moved map p (store a b) s = after_store a b s
  moved map p (invlpg a) s = after_invlpg M p a s
  moved map p (write_cr3 f) s = after_cr3 M p f s
  moved map p (access a r) s = after_access M map p a r s
  moved map p (begin a k) s = after_begin M p a k s
  moved map p (extend k) s = after_extend M map p k s
  moved map p (drop k) s = after_drop p k s

  -- "A refusal returns its number, zeros else, and changes nothing."
  unfoldable pub after : List ℕ → State → Event → Reply
  after map s e =
      let n = call_refusal M map s e in
      cond (eqb n 0) (moved map e.proc (decode e) s) (refuses n s)
