-- A term with its type beside it: `at A x` is x, and A is read where no other type shows it. Proofs of an older kit cited a
-- place of a function's proof so; today each step of the code is a field of its own.
abbrev pub at : (A : Type 0) → A → A
at A x = x
