-- Rights are numbers below 8: each law on them is decided at all cases, by computation.
use mathlib.Core.Path.{◌≡◌, refl, sym}
use mathlib.Core.Bool.{Bool, true, false, beq, not, ◌||◌}
use Prim.Native.Nat.{ℕ, ◌<◌, ◌≤◌}
use native.Mathlib.Omega.{arith}
use lib.Dec.{T, eqb, ltb, leb, eqb→eq, ltb→lt, leb→le}
use lib.Bits.{bit_and}
use Rattle.paging.specs.declared.Request.{Request}
use Rattle.paging.specs.Layout.{Layout, tables64, rights_of}
use Rattle.paging.specs.Walk.{meet}
use Rattle.paging.specs.Request.{request_of, enough}
use Rattle.paging.proofs.Tests.{T_true}
use Rattle.paging.proofs.Finite.{below, at-below, at_below₂}

same_eq : (a b : Bool) → T (beq a b) → a ≡ b
same_eq true true t = refl
same_eq true false t = absurd t
same_eq false true t = absurd t
same_eq false false t = refl

-- the request that needs n and adds 0
abbrev asks : ℕ → Request
asks n = record { needs = n; adds = 0 }

pub and_meet : (a b : ℕ) → a < 8 → b < 8 → bit_and a b ≡ meet a b
unfolding meet
and_meet a b ha hb = eqb→eq (bit_and a b) (meet a b) (at_below₂ 8 (λ a b. eqb (bit_and a b) (meet a b)) tt a b ha hb)

pub and_enough : (q : Request) (r : ℕ) → q.needs < 8 → r < 8 → eqb (bit_and q.needs r) q.needs ≡ enough q r
unfolding enough
and_enough q r hn hr =
    same_eq (eqb (bit_and q.needs r) q.needs) (enough q r)
    (at_below₂ 8 (λ n r. beq (eqb (bit_and n r) n) (enough (asks n) r)) tt q.needs r hn hr)

pub meet_small : (a b : ℕ) → meet a b < 8
unfolding meet
meet_small a b = omega arith

pub rights_small : (Y : Layout) (e : ℕ) → rights_of Y e < 8
unfolding rights_of
rights_small Y e = omega arith

-- what is enough after narrowing was enough before
implies : (a b : Bool) → T (not a || b) → a ≡ true → b ≡ true
implies true b t e = T_true b t
implies false b t e = let z : true ≡ false = sym e in (cc)

pub enough-meet : (q : Request) (a b : ℕ) → q.needs < 8 → a < 8 → b < 8 → enough q (meet a b) ≡ true → enough q a ≡ true
unfolding enough meet
enough-meet q a b hn ha hb =
    implies (enough q (meet a b)) (enough q a)
    (at-below 8 (λ n. not (enough (asks n) (meet a b)) || enough (asks n) a)
    (at_below₂ 8 (λ a b. below 8 (λ n. not (enough (asks n) (meet a b)) || enough (asks n) a)) tt a b ha hb) q.needs hn)

-- what a request needs is small, whatever the layout
pub needs_small : (Y : Layout) (n : ℕ) → n < 6 → (request_of Y n).needs < 8
unfolding request_of
needs_small Y n h = ltb→lt _ 8 (at-below 6 (λ n. ltb (request_of Y n).needs 8) tt n h)

-- what a request adds is small
pub adds_small : (n : ℕ) → n < 6 → (request_of tables64 n).adds ≤ 20
unfolding request_of
adds_small n h = leb→le _ 20 (at-below 6 (λ n. leb (request_of tables64 n).adds 20) tt n h)

-- what a request needs and adds is small
pub request_small : (n : ℕ) → n < 6 → ((request_of tables64 n).needs < 8) × ((request_of tables64 n).adds ≤ 20)
request_small n h = (needs_small tables64 n h, adds_small n h)
