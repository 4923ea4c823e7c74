-- Writing bytes one after the other into a buffer, in the form of the code.
use Rattle.std.specs.Prelude.{◌≡◌, List, [], ◌∷◌, ℕ, ◌+◌, ◌≤◌, length, set}
use Rattle.render.specs.declared.Printer.{Printer}

-- a buffer, and the place of the next byte
pub record Out : Type 0 where
  pub at : ℕ
  pub buffer : List ℕ

abbrev pub out_of : ℕ → List ℕ → Out
out_of at buffer = record { at = at; buffer = buffer }

unfoldable pub written : List ℕ → Out → Out
written [] o = o
written (x ∷ xs) o = written xs (out_of (o.at + 1) (set o.buffer o.at x))

abbrev pub place_of : Printer → Out
place_of l = out_of l.at l.out.now

-- so many bytes more fit
abbrev pub HasRoom : Printer → ℕ → Type 0
HasRoom l n = l.at + n ≤ length l.out.now

-- these bytes were written next, into the same buffer
pub record Puts (bytes : List ℕ) (before after : Printer) : Type 0 where
  pub same : after.out.ghost_name ≡ before.out.ghost_name
  pub long : length after.out.now ≡ length before.out.now
  pub at : after.at ≡ before.at + length bytes
  pub wrote : place_of after ≡ written bytes (place_of before)
