-- A result of the code and what it says: two that say the same are the same.
use mathlib.Core.Path.{◌≡◌, ap₂}
use Prim.Native.Nat.{ℕ}
use Rattle.std.specs.Prelude.{Result, Ok, Err}
use Rattle.rules.specs.declared.Refusal.{Refusal}
use Rattle.rules.specs.Refusal.{number_of}
use Rattle.rules.proofs.Refusals.{same_refusal}
use Rattle.sections.specs.declared.TextFault.{TextFault}
use Rattle.puzzle.specs.declared.Counts.{Counts}
use Rattle.puzzle.specs.Buffers.{result_of}

pub one_result : (x y : Result Counts TextFault) → result_of x ≡ result_of y → x ≡ y
one_result (Ok m) (Ok n) e =
    let frames : m.frames ≡ n.frames = cc in
    let processors : m.processors ≡ n.processors = cc in
    let words : m.words ≡ n.words = cc in
    let events : m.events ≡ n.events = cc in
    let questions : m.questions ≡ n.questions = cc in
    λ i. Ok (record { frames = frames i; processors = processors i; words = words i; events = events i; questions = questions i })
one_result (Ok m) (Err g) e = cc
one_result (Err f) (Ok n) e = cc
one_result (Err f) (Err g) e =
    let number : number_of f.refusal ≡ number_of g.refusal = cc in
    let line : f.line ≡ g.line = cc in
    ap₂ (λ (r : Refusal) (l : ℕ). Err (record { refusal = r; line = l })) (same_refusal f.refusal g.refusal number) line
