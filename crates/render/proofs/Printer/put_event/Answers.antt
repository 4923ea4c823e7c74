-- One line. Its kind has one digit, its other numbers at most twenty.
use Rattle.std.proofs.Common.{◌≡◌, ℕ, List, [], ◌∷◌, ◌+◌, ◌^◌, ◌≤◌, ◌<◌, length, ap, arith, length-append}
use Rattle.cursor.specs.Text.{digits_of, spaced}
use Rattle.render.specs.Render.{render_event}
use Rattle.render.proofs.Digits.{digits_small, length_word}
use Rattle.render.proofs.Printer.put_event.Goals as goal

length_number : (n : ℕ) (ns : List ℕ) → length (spaced (n ∷ ns)) ≡ 1 + length (digits_of n) + length (spaced ns)
unfolding spaced
length_number n ns = omega (arith, length-append (digits_of n) (spaced ns))

length_event : (index kind value : ℕ) → index < 2 ^ 64 → kind < 10 → value < 2 ^ 64 → length (render_event index kind value) ≤ 46
unfolding spaced
length_event index kind value hi hk hv =
    omega (arith, length_number index (kind ∷ value ∷ []), length_number kind (value ∷ []), length_number value [], length_word index hi, ap length (digits_small kind hk), length_word value hv)

pub returns : goal.returns
returns c =
    let a = c.args in
    let e = c.put_line.ensures.0 in
    (e, omega (arith, e.at, length_event a.index a.kind a.value (omega arith) c.requires.1 (omega arith)))
