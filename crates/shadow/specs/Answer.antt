-- What the event call and setup answer, and the state with it.
use Rattle.std.specs.Prelude.{Result, Ok, Err, ℕ}
use Rattle.rules.specs.declared.Refusal.{Refusal}
use Rattle.rules.specs.Refusal.{number_of}
use Rattle.tables.specs.State.{State}
use Rattle.shadow.specs.declared.Answer.{Answer}
use Rattle.shadow.specs.declared.Answer.TheVariants.{Done, Address, Fault as Faulted, Again, NoStep}

-- a refusal as its number
abbrev pub by_number : {A : Type 0} → Result A Refusal → Result A ℕ
by_number (Ok a) = Ok a
by_number (Err r) = Err (number_of r)

-- "Answer: refusal, kind (0 done, 1 address, 2 guest fault, 3 again, 4 no step), value (0 for kinds 0, 3 and 4)."
abbrev pub refusal_of : Result Answer ℕ → ℕ
refusal_of (Ok a) = 0
refusal_of (Err n) = n

abbrev pub kind_of : Result Answer ℕ → ℕ
kind_of (Ok Done) = 0
kind_of (Ok (Address v)) = 1
kind_of (Ok (Faulted c)) = 2
kind_of (Ok Again) = 3
kind_of (Ok NoStep) = 4
kind_of (Err n) = 0

abbrev pub value_of : Result Answer ℕ → ℕ
value_of (Ok Done) = 0
value_of (Ok (Address v)) = v
value_of (Ok (Faulted c)) = c
value_of (Ok Again) = 0
value_of (Ok NoStep) = 0
value_of (Err n) = 0

pub record Reply : Type 0 where
  pub answer : Result Answer ℕ
  pub state : State

abbrev pub replies : Result Answer ℕ → State → Reply
replies a s = record { answer = a; state = s }

abbrev pub gives : Answer → State → Reply
gives a s = replies (Ok a) s

abbrev pub refuses : ℕ → State → Reply
refuses n s = replies (Err n) s
