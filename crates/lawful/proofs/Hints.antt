-- A frame that stands at any place of the map is mapped.
use Rattle.std.specs.Prelude.{Option, Some, None, MatchOption}
use Rattle.std.specs.Option.{option_eq}
use Rattle.std.specs.List.{HoldsAt}
use denote.Ref.{Bor}
use mathlib.Core.Path.{◌≡◌, refl, sym, ◌∙◌}
use mathlib.Core.Bool.{Bool, true, false, cond}
use mathlib.Core.List.{List, [], ◌∷◌}
use Prim.Native.Nat.{ℕ, zero, suc, ◌+◌, ◌<◌, ◌≤◌}
use native.Mathlib.Omega.{arith}
use lib.Dec.{eqb}
use lib.ListN.{length, get_or}
use borrow.Author.Tests.{eq-eqb, eqb-true}
use Rattle.paging.specs.Frame.{guest, host, origin_from}
use Rattle.lawful.specs.Rules.{is_of, is_mapped}

stands_from : (k : ℕ) (map : List ℕ) (f i : ℕ) → i < length map → get_or map i 0 ≡ f → true ≡ is_of (origin_from k map (host f))
unfolding origin_from
stands_from k [] f i lt e = absurd (omega arith)
stands_from k (x ∷ xs) f zero lt e = simp (eq-eqb x f e)
stands_from k (x ∷ xs) f (suc i) lt e = past (eqb x f) (stands_from (k + 1) xs f i (omega arith) e)
  where
    past : (b : Bool) → true ≡ is_of (origin_from (k + 1) xs (host f)) → true ≡ is_of (cond b (Some (guest k)) (origin_from (k + 1) xs (host f)))
    past true q = refl
    past false q = q

pub stands : (map : List ℕ) (f i : ℕ) → i < length map → get_or map i 0 ≡ f → true ≡ is_mapped map f
stands map f i lt e = stands_from 0 map f i lt e

-- where the hint is right, the map's element there is the frame
pub hinted : (map : List ℕ) (i : ℕ) (r : Option (Bor ℕ)) (f : Bor ℕ) → MatchOption r (length map ≤ i) (λ x. (i < length map) × HoldsAt (λ y. x.now ≡ y) map i)
    → option_eq {T = Bor ℕ} (λ x y. eqb x.now y.now) r (Some f) ≡ true → true ≡ is_mapped map f.now
hinted map i None f h k = cc
hinted map i (Some x) f h k = stands map f.now i h.0 (sym (h.1 0) ∙ eqb-true x.now f.now k)
