-- Events as numbers: written and read back they are the same.
use mathlib.Core.Path.{◌≡◌, refl, ap, ap₂, ◌∙◌}
use mathlib.Core.List.{List, [], ◌∷◌}
use Prim.Native.Nat.{ℕ, zero, suc, ◌+◌, ◌*◌, ◌/◌, ◌<◌}
use native.Mathlib.Omega.{arith}
use lib.ListN.{length, get_or}
use Rattle.paging.specs.Numbers.{tab}
use Rattle.rules.specs.declared.Event.{Event}
use Rattle.rules.specs.Numbers.{event_of, events_of, numbers_of}

-- two tables of the same values
pub tab-same : {A : Type 0} (n : ℕ) (f g : ℕ → A) → ((k : ℕ) → k < n → f k ≡ g k) → tab n f ≡ tab n g
unfolding tab
tab-same zero f g same = refl
tab-same (suc n) f g same = ap₂ ◌∷◌ (same 0 (omega arith)) (tab-same n (λ k. f (suc k)) (λ k. g (suc k)) (λ k h. same (suc k) (omega arith)))

pub numbers-length : (es : List Event) → length (numbers_of es) ≡ 4 * length es
unfolding numbers_of
numbers-length [] = refl
numbers-length (e ∷ es) = omega (arith, numbers-length es)

-- past the first event stand the numbers of the others
shifted : (e : Event) (ns : List ℕ) (i j : ℕ) → i ≡ suc (suc (suc (suc j))) → get_or (e.proc ∷ e.kind ∷ e.a ∷ e.b ∷ ns) i 0 ≡ get_or ns j 0
shifted e ns i j q = ap (λ (m : ℕ). get_or (e.proc ∷ e.kind ∷ e.a ∷ e.b ∷ ns) m 0) q

event_shifted : (e : Event) (ns : List ℕ) (k : ℕ) → event_of (e.proc ∷ e.kind ∷ e.a ∷ e.b ∷ ns) (suc k) ≡ event_of ns k
event_shifted e ns k j = record {
  proc = shifted e ns (4 * suc k) (4 * k) (omega arith) j;
  kind = shifted e ns (4 * suc k + 1) (4 * k + 1) (omega arith) j;
  a = shifted e ns (4 * suc k + 2) (4 * k + 2) (omega arith) j;
  b = shifted e ns (4 * suc k + 3) (4 * k + 3) (omega arith) j;
}

pub events_back : (es : List Event) → events_of (numbers_of es) ≡ es
unfolding events_of numbers_of tab
events_back [] = refl
events_back (e ∷ es) =
    let q : length (numbers_of (e ∷ es)) / 4 ≡ suc (length (numbers_of es) / 4) = omega arith in
    ap (λ (n : ℕ). tab n (event_of (numbers_of (e ∷ es)))) q
    ∙ ap (λ (ds : List Event). e ∷ ds)
    (tab-same (length (numbers_of es) / 4) (λ k. event_of (numbers_of (e ∷ es)) (suc k)) (event_of (numbers_of es)) (λ k h. event_shifted e (numbers_of es) k) ∙ events_back es)
