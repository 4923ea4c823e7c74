-- Writing one piece after the other is writing both as one. From place 0 on, the pieces stand in front of what was there.
use mathlib.Core.Path.{◌≡◌, refl, sym, ap, ap₂, ◌∙◌, subst}
use mathlib.Core.List.{List, [], ◌∷◌, ◌++◌}
use Prim.Native.Nat.{ℕ, suc, ◌+◌, ◌≤◌}
use native.Mathlib.Numerals.{add-one}
use native.Mathlib.Omega.{arith}
use lib.ListN.{length, drop, set, length-append}
use lib.Seq.{sets, sets-eq}
use Rattle.std.proofs.lemmas.List.{append_assoc}
use Rattle.render.specs.declared.Printer.{Printer}
use Rattle.render.specs.WrittenCode.{Out, out_of, written, place_of, Puts}

pub written_append : (xs ys : List ℕ) (o : Out) → written (xs ++ ys) o ≡ written ys (written xs o)
unfolding written
written_append [] ys o = refl
written_append (x ∷ xs) ys o = written_append xs ys (out_of (o.at + 1) (set o.buffer o.at x))

written_sets : (xs : List ℕ) (o : Out) → written xs o ≡ out_of (o.at + length xs) (sets o.buffer o.at xs)
unfolding written
written_sets [] o = let z : o.at ≡ o.at + 0 = omega arith in ap (λ (k : ℕ). out_of k o.buffer) z
written_sets (x ∷ xs) o =
    let z : o.at + 1 + length xs ≡ o.at + suc (length xs) = omega arith in
    written_sets xs (out_of (o.at + 1) (set o.buffer o.at x))
    ∙ ap₂ (λ (k i : ℕ). out_of k (sets (set o.buffer o.at x) i xs)) z (add-one o.at)

pub written_at : (xs : List ℕ) (o : Out) → (written xs o).at ≡ o.at + length xs
written_at xs o = ap (λ (r : Out). r.at) (written_sets xs o)

pub written_front : (xs buffer : List ℕ) → length xs ≤ length buffer → written xs (out_of 0 buffer) ≡ out_of (length xs) (xs ++ drop (length xs) buffer)
written_front xs buffer h =
    let z : 0 + length xs ≡ length xs = omega arith in
    written_sets xs (out_of 0 buffer) ∙ ap₂ out_of z (sets-eq xs buffer 0 (omega arith) ∙ ap (λ (k : ℕ). xs ++ drop k buffer) z)

-- ---- pieces behind one another

pub puts_none : (l : Printer) → Puts [] l l
unfolding written
puts_none l = record { same = refl; long = refl; at = omega arith; wrote = refl }

pub puts_append : {xs ys : List ℕ} {a b c : Printer} → Puts xs a b → Puts ys b c → Puts (xs ++ ys) a c
puts_append {xs} {ys} {a} p q =
    record {
      same = q.same ∙ p.same;
      long = q.long ∙ p.long;
      at = omega (arith, p.at, q.at, length-append xs ys);
      wrote = q.wrote ∙ ap (written ys) p.wrote ∙ sym (written_append xs ys (place_of a));
    }

pub puts_as : {xs ys : List ℕ} {a b : Printer} → xs ≡ ys → Puts xs a b → Puts ys a b
puts_as {a} {b} e p = subst (λ (l : List ℕ). Puts l a b) e p

-- what was written is the front of `whole`, and `rest` is what is left of it
pub record Owes (whole rest : List ℕ) (before now : Printer) : Type 0 where
  pub front : List ℕ
  pub is : front ++ rest ≡ whole
  pub puts : Puts front before now

pub owes_all : (whole : List ℕ) (l : Printer) → Owes whole whole l l
owes_all whole l = record { front = []; is = refl; puts = puts_none l }

pub owes_put : {whole rest xs ys : List ℕ} {a b c : Printer} → rest ≡ xs ++ ys → Owes whole rest a b → Puts xs b c → Owes whole ys a c
owes_put {xs} {ys} e o p =
    record {
      front = o.front ++ xs;
      is = append_assoc o.front xs ys ∙ ap (λ (l : List ℕ). o.front ++ l) (sym e) ∙ o.is;
      puts = puts_append o.puts p;
    }

pub owes_last : {whole rest : List ℕ} {a b c : Printer} → Owes whole rest a b → Puts rest b c → Puts whole a c
owes_last o p = puts_as o.is (puts_append o.puts p)

pub owes_end : {whole rest : List ℕ} {a b : Printer} → rest ≡ [] → Owes whole rest a b → Puts whole a b
owes_end {b} e o = owes_last o (puts_as (sym e) (puts_none b))
