-- Writing pairs: the buffer holds the pairs of the outcomes so far, then what it held before.
use mathlib.Core.Path.{◌≡◌, refl, sym, ◌∙◌, ap, ap₂}
use mathlib.Core.Bool.{Bool, true, false, cond}
use mathlib.Core.List.{List, [], ◌∷◌, ◌++◌, append-nil, append_assoc}
use Prim.Native.Nat.{ℕ, suc, ◌+◌, ◌*◌, ◌≤◌, ◌<◌}
use native.Mathlib.Numerals.{add-one}
use native.Mathlib.Omega.{arith}
use lib.ListN.{length, drop, get_or, set, length-set, length-append}
use lib.Seq.{drop-cons, set_at}
use Rattle.rules.specs.declared.Outcome.{Outcome}
use Rattle.rules.specs.declared.Outcome.TheVariants.{Address, Fault}
use Rattle.listing.specs.Call.{pairs}
use Rattle.listing.specs.CollectCode.{Out, out_of, tag_of, value_of, pushed}

-- the outcome, if the test passed
abbrev pub ifs : Bool → Outcome → List Outcome
ifs b o = cond b (o ∷ []) []

pub pairs-length : (os : List Outcome) → length (pairs os) ≡ 2 * length os
pairs-length [] = omega arith
pairs-length (Address f ∷ os) = omega (arith, pairs-length os)
pairs-length (Fault c ∷ os) = omega (arith, pairs-length os)

pairs_append : (xs ys : List Outcome) → pairs (xs ++ ys) ≡ pairs xs ++ pairs ys
pairs_append [] ys = refl
pairs_append (Address f ∷ xs) ys = ap (λ (l : List ℕ). 0 ∷ f.0 ∷ l) (pairs_append xs ys)
pairs_append (Fault c ∷ xs) ys = ap (λ (l : List ℕ). 1 ∷ c ∷ l) (pairs_append xs ys)

pub record Wrote (before : List ℕ) (os : List Outcome) (o : Out) : Type 0 where
  pub counted : o.count ≡ length os
  pub holds : o.buffer ≡ pairs os ++ drop (2 * length os) before

pub wrote_none : (before : List ℕ) → Wrote before [] (out_of 0 before)
wrote_none before = record { counted = refl; holds = refl }

-- two numbers put behind the first n
two : (front before : List ℕ) (n a b : ℕ) → length front ≡ n → n + 1 < length before
    → set (set (front ++ drop n before) n a) (n + 1) b ≡ (front ++ (a ∷ b ∷ [])) ++ drop (n + 2) before
two front before n a b len room =
    ap (λ (l : List ℕ). set (set (front ++ l) n a) (n + 1) b) cut
    ∙ ap (λ (l : List ℕ). set l (n + 1) b) (set_at front _ (get_or before (n + 1) 0 ∷ drop (n + 2) before) a n len)
    ∙ ap (λ (l : List ℕ). set l (n + 1) b) (sym (append_assoc front (a ∷ []) (get_or before (n + 1) 0 ∷ drop (n + 2) before)))
    ∙ set_at (front ++ (a ∷ [])) _ (drop (n + 2) before) b (n + 1) (omega (arith, length-append front (a ∷ [])))
    ∙ append_assoc front (a ∷ []) (b ∷ drop (n + 2) before)
    ∙ sym (append_assoc front (a ∷ b ∷ []) (drop (n + 2) before))
  where
    cut : drop n before ≡ get_or before n 0 ∷ get_or before (n + 1) 0 ∷ drop (n + 2) before
    cut =
        let a : suc n ≡ n + 1 = sym (add-one n) in
        let b : suc (n + 1) ≡ n + 2 = omega arith in
        drop-cons before n 0 (omega arith)
        ∙ ap (λ (k : ℕ). get_or before n 0 ∷ drop k before) a
        ∙ ap (λ (l : List ℕ). get_or before n 0 ∷ l) (drop-cons before (n + 1) 0 room)
        ∙ ap (λ (k : ℕ). get_or before n 0 ∷ get_or before (n + 1) 0 ∷ drop k before) b

pair_is : (x : Outcome) → pairs (x ∷ []) ≡ tag_of x ∷ value_of x ∷ []
pair_is (Address f) = refl
pair_is (Fault c) = refl

pub wrote_push : (before : List ℕ) (os : List Outcome) (o : Out) → Wrote before os o → 2 * length os + 1 < length before
    → (b : Bool) (x : Outcome) → Wrote before (os ++ ifs b x) (pushed b x o)
wrote_push before os o w room false x = rw (append-nil os) w
wrote_push before os o w room true x =
    let n = length os in
    let longer : length (os ++ (x ∷ [])) ≡ n + 1 = omega (arith, length-append os (x ∷ [])) in
    let next : 2 * n + 2 ≡ 2 * length (os ++ (x ∷ [])) = omega arith in
    record {
      counted = ap (λ (k : ℕ). k + 1) w.counted ∙ sym longer;
      holds = ap₂ (λ (l : List ℕ) (k : ℕ). set (set l (2 * k) (tag_of x)) (2 * k + 1) (value_of x)) w.holds w.counted
          ∙ two (pairs os) before (2 * n) (tag_of x) (value_of x) (pairs-length os) room
          ∙ ap₂ (λ (l : List ℕ) (k : ℕ). (pairs os ++ l) ++ drop k before) (sym (pair_is x)) next
          ∙ ap (λ (l : List ℕ). l ++ drop (2 * length (os ++ (x ∷ []))) before) (sym (pairs_append os (x ∷ [])));
    }

-- one pair more at most, and no number more
pub pushed_count : (b : Bool) (x : Outcome) (o : Out) → (pushed b x o).count ≤ o.count + 1
pushed_count true x o = omega arith
pushed_count false x o = omega arith

pub pushed_size : (b : Bool) (x : Outcome) (o : Out) → length (pushed b x o).buffer ≡ length o.buffer
pushed_size true x o = simp length-set
pushed_size false x o = refl
