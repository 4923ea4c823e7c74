-- The numbers below n: a test at all or some of them, how many pass it, the first that does, and work done at each.
use Rattle.std.specs.Prelude.{Bool, true, false, cond, ◌&&◌, ◌||◌, List, [], ◌∷◌, ℕ, zero, suc, ◌+◌, leb}

unfoldable pub all : ℕ → (ℕ → Bool) → Bool
all zero f = true
all (suc n) f = all n f && f n

unfoldable pub some : ℕ → (ℕ → Bool) → Bool
some zero f = false
some (suc n) f = some n f || f n

unfoldable pub sum : ℕ → (ℕ → ℕ) → ℕ
sum zero f = 0
sum (suc n) f = sum n f + f n

abbrev pub count : ℕ → (ℕ → Bool) → ℕ
count n f = sum n (λ k. cond (f k) 1 0)

-- the first of n numbers from i on that passes; i + n if none does
unfoldable pub first_from : ℕ → ℕ → (ℕ → Bool) → ℕ
first_from i zero f = i
first_from i (suc n) f = cond (f i) i (first_from (i + 1) n f)

abbrev pub first : ℕ → (ℕ → Bool) → ℕ
first n f = first_from 0 n f

-- f at 0, 1, .., n − 1, in this order
unfoldable pub each : {A : Type 0} → ℕ → (ℕ → A → A) → A → A
each zero f x = x
each (suc n) f x = f n (each n f x)

-- f 0, f 1, .., f (n − 1), as a list
unfoldable pub tab : {A : Type 0} → ℕ → (ℕ → A) → List A
tab zero f = []
tab (suc n) f = f 0 ∷ tab n (λ k. f (suc k))

-- "lo..hi"
abbrev pub is_between : ℕ → ℕ → ℕ → Bool
is_between lo hi x = leb lo x && leb x hi
