-- The right list of a question: there is one, it is computed from the held walks, and it is never empty.
use Rattle.std.specs.Prelude.{Ok, Err}
use mathlib.Core.Path.{◌≡◌, refl, ap}
use mathlib.Core.Logic.{◌⊎◌, inl, inr}
use mathlib.Core.Bool.{Bool, true, false, cond, not}
use mathlib.Core.List.Memᴰ
use mathlib.Core.List.{List, [], ◌∷◌}
use Prim.Native.Nat.{ℕ, zero, suc, ◌≤◌, ◌<◌}
use native.Mathlib.Omega.{arith}
use lib.Dec.{T, ltb, ltb→lt, nltb→le}
use lib.ListN.{length}
use Rattle.paging.specs.Walk.{Step}
use Rattle.paging.specs.declared.Walk.{Walk}
use Rattle.paging.specs.declared.Request.{Request}
use Rattle.paging.specs.declared.Stop.TheVariants.{Absent, Beyond, Complete}
use Rattle.paging.proofs.Tests.{true_T, false_T}
use Rattle.rules.specs.declared.Outcome.{Outcome}
use Rattle.rules.specs.declared.Outcome.TheVariants.{Address, Fault}
use Rattle.rules.specs.View.{View}
use Rattle.rules.specs.Outcome.{given, Permitted, Before, Rises, RightList}
use Rattle.rules.proofs.Order.{Mem, rises_unique}
use Rattle.rules.specs.Coherent.{Coherent}
use Rattle.rules.specs.Kept.{Kept, begin, extend}
use Rattle.rules.proofs.Steps.{held_is_kept}
use Rattle.rules.proofs.Walks.{walks_at, walks_held}

-- THERE IS ONE RIGHT LIST
pub right_unique : (seen : View) (q : Request) (n : ℕ) (os os' : List Outcome) → RightList seen q n os → RightList seen q n os' → os ≡ os'
right_unique seen q n os os' a b =
    rises_unique os os' a.rises b.rises
    (λ o. ((λ m. (b.exact o).1 ((a.exact o).0 m)), (λ m. (a.exact o).1 ((b.exact o).0 m))))

-- ---- the list, computed: what each held walk gives, put in its place

abbrev before : Outcome → Outcome → Bool
before (Address f) (Address g) = ltb f.0 g.0
before (Address f) (Fault c) = true
before (Fault c) (Address f) = false
before (Fault c) (Fault d) = ltb c d

before_e : (x y : Outcome) → T (before x y) → Before x y
before_e (Address f) (Address g) t = ltb→lt f.0 g.0 t
before_e (Address f) (Fault c) t = tt
before_e (Fault c) (Address f) t = t
before_e (Fault c) (Fault d) t = ltb→lt c d t

-- of two outcomes one is before the other, or they are equal
meets : (x y : Outcome) → T (not (before x y)) → T (not (before y x)) → x ≡ y
meets (Address f) (Address g) s t = λ i. Address (record { 0 = same i })
  where
    same : f.0 ≡ g.0
    same = omega (arith, nltb→le f.0 g.0 s, nltb→le g.0 f.0 t)
meets (Address f) (Fault c) s t = absurd s
meets (Fault c) (Address f) s t = absurd t
meets (Fault c) (Fault d) s t = let same : c ≡ d = omega (arith, nltb→le c d s, nltb→le d c t) in ap Fault same

before_trans : (x y z : Outcome) → Before x y → Before y z → Before x z
before_trans (Address f) (Address g) (Address h) p q = omega arith
before_trans (Address f) (Address g) (Fault c) p q = tt
before_trans (Address f) (Fault c) (Address g) p q = absurd q
before_trans (Address f) (Fault c) (Fault d) p q = tt
before_trans (Fault c) (Address f) z p q = absurd p
before_trans (Fault c) (Fault d) (Address f) p q = q
before_trans (Fault c) (Fault d) (Fault e) p q = omega arith

-- x in its place; x is there already if it is neither before nor after
unfoldable pub insert : Outcome → List Outcome → List Outcome
insert x [] = x ∷ []
insert x (y ∷ ys) = cond (before x y) (x ∷ y ∷ ys) (cond (before y x) (y ∷ insert x ys) (y ∷ ys))

insert_e : (x : Outcome) (ys : List Outcome) (z : Outcome) → Mem z (insert x ys) → (z ≡ x) ⊎ Mem z ys
unfolding insert
insert_e x [] z m = Memᴰ.cases_cons m
insert_e x (y ∷ ys) z m = cases (before x y) (before y x) m (insert_e x ys z)
  where
    rest : (z ≡ y) ⊎ Mem z (insert x ys) → (Mem z (insert x ys) → (z ≡ x) ⊎ Mem z ys) → (z ≡ x) ⊎ Mem z (y ∷ ys)
    rest (inl e) ih = inr (Memᴰ.head e)
    rest (inr k) ih = up (ih k)
      where
        up : (z ≡ x) ⊎ Mem z ys → (z ≡ x) ⊎ Mem z (y ∷ ys)
        up (inl e) = inl e
        up (inr j) = inr (Memᴰ.tail j)

    cases : (a b : Bool) → Mem z (cond a (x ∷ y ∷ ys) (cond b (y ∷ insert x ys) (y ∷ ys))) → (Mem z (insert x ys) → (z ≡ x) ⊎ Mem z ys) → (z ≡ x) ⊎ Mem z (y ∷ ys)
    cases true b k ih = Memᴰ.cases_cons k
    cases false true k ih = rest (Memᴰ.cases_cons k) ih
    cases false false k ih = inr k

insert_old : (x : Outcome) (ys : List Outcome) (z : Outcome) → Mem z ys → Mem z (insert x ys)
unfolding insert
insert_old x [] z m = absurd (Memᴰ.not-nil m)
insert_old x (y ∷ ys) z m = cases (before x y) (before y x) (Memᴰ.cases_cons m) (insert_old x ys z)
  where
    rest : (z ≡ y) ⊎ Mem z ys → (Mem z ys → Mem z (insert x ys)) → Mem z (y ∷ insert x ys)
    rest (inl e) ih = Memᴰ.head e
    rest (inr k) ih = Memᴰ.tail (ih k)

    cases : (a b : Bool) → (z ≡ y) ⊎ Mem z ys → (Mem z ys → Mem z (insert x ys)) → Mem z (cond a (x ∷ y ∷ ys) (cond b (y ∷ insert x ys) (y ∷ ys)))
    cases true b k ih = Memᴰ.tail m
    cases false true k ih = rest k ih
    cases false false k ih = m

insert_new : (x : Outcome) (ys : List Outcome) → Mem x (insert x ys)
unfolding insert
insert_new x [] = Memᴰ.head refl
insert_new x (y ∷ ys) = cases (before x y) (before y x) refl refl (insert_new x ys)
  where
    cases : (a b : Bool) → before x y ≡ a → before y x ≡ b → Mem x (insert x ys) → Mem x (cond a (x ∷ y ∷ ys) (cond b (y ∷ insert x ys) (y ∷ ys)))
    cases true b p q ih = Memᴰ.head refl
    cases false true p q ih = Memᴰ.tail ih
    cases false false p q ih = Memᴰ.head (meets x y (false_T _ p) (false_T _ q))

insert_rises : (x : Outcome) (ys : List Outcome) → Rises ys → Rises (insert x ys)
unfolding insert
insert_rises x [] h = ((λ z m. absurd (Memᴰ.not-nil m)), tt)
insert_rises x (y ∷ ys) h = cases (before x y) (before y x) refl refl (insert_rises x ys h.1)
  where
    cases : (a b : Bool) → before x y ≡ a → before y x ≡ b → Rises (insert x ys) → Rises (cond a (x ∷ y ∷ ys) (cond b (y ∷ insert x ys) (y ∷ ys)))
    cases true b p q ih = ((λ z m. first z (Memᴰ.cases_cons m)), h)
      where
        first : (z : Outcome) → (z ≡ y) ⊎ Mem z ys → Before x z
        first z (inl e) = rw e (before_e x y (true_T _ p))
        first z (inr k) = before_trans x y z (before_e x y (true_T _ p)) (h.0 z k)
    cases false true p q ih = ((λ z m. after z (insert_e x ys z m)), ih)
      where
        after : (z : Outcome) → (z ≡ x) ⊎ Mem z ys → Before y z
        after z (inl e) = rw e (before_e y x (true_T _ q))
        after z (inr k) = h.0 z k
    cases false false p q ih = h

unfoldable pub insert_all : List Outcome → List Outcome → List Outcome
insert_all [] ys = ys
insert_all (x ∷ xs) ys = insert x (insert_all xs ys)

insert_all_e : (xs ys : List Outcome) (z : Outcome) → Mem z (insert_all xs ys) → Mem z xs ⊎ Mem z ys
unfolding insert_all
insert_all_e [] ys z m = inr m
insert_all_e (x ∷ xs) ys z m = pick (insert_e x (insert_all xs ys) z m) (insert_all_e xs ys z)
  where
    pick : (z ≡ x) ⊎ Mem z (insert_all xs ys) → (Mem z (insert_all xs ys) → Mem z xs ⊎ Mem z ys) → Mem z (x ∷ xs) ⊎ Mem z ys
    pick (inl e) ih = inl (Memᴰ.head e)
    pick (inr k) ih = up (ih k)
      where
        up : Mem z xs ⊎ Mem z ys → Mem z (x ∷ xs) ⊎ Mem z ys
        up (inl j) = inl (Memᴰ.tail j)
        up (inr j) = inr j

insert_all_old : (xs ys : List Outcome) (z : Outcome) → Mem z ys → Mem z (insert_all xs ys)
unfolding insert_all
insert_all_old [] ys z m = m
insert_all_old (x ∷ xs) ys z m = insert_old x (insert_all xs ys) z (insert_all_old xs ys z m)

insert_all_new : (xs ys : List Outcome) (z : Outcome) → Mem z xs → Mem z (insert_all xs ys)
unfolding insert_all
insert_all_new [] ys z m = absurd (Memᴰ.not-nil m)
insert_all_new (x ∷ xs) ys z m = pick (Memᴰ.cases_cons m) (insert_all_new xs ys z)
  where
    pick : (z ≡ x) ⊎ Mem z xs → (Mem z xs → Mem z (insert_all xs ys)) → Mem z (insert x (insert_all xs ys))
    pick (inl e) ih = rw e (insert_new x (insert_all xs ys))
    pick (inr k) ih = insert_old x (insert_all xs ys) z (ih k)

insert_all_rises : (xs ys : List Outcome) → Rises ys → Rises (insert_all xs ys)
unfolding insert_all
insert_all_rises [] ys h = h
insert_all_rises (x ∷ xs) ys h = insert_rises x (insert_all xs ys) (insert_all_rises xs ys h)

head_of : (os : List Outcome) → 0 < length os → (o : Outcome) × Mem o os
head_of [] h = absurd (omega arith)
head_of (o ∷ os) h = (o, Memᴰ.head refl)

module _ (seen : View) (L : ℕ) (q : Request) where
  -- what the walks of a list give at moment n, in order
  unfoldable pub outcomes : ℕ → List Walk → List Outcome
  outcomes n [] = []
  outcomes n (w ∷ ws) = insert_all (given q w (seen.steps n w)) (outcomes n ws)

  -- the right list
  unfoldable pub answers : ℕ → List Outcome
  answers n = outcomes n (walks_at seen L n)

  outcomes_rise : (n : ℕ) (ws : List Walk) → Rises (outcomes n ws)
  unfolding outcomes
  outcomes_rise n [] = tt
  outcomes_rise n (w ∷ ws) = insert_all_rises _ (outcomes n ws) (outcomes_rise n ws)

  outcomes_e : (n : ℕ) (ws : List Walk) (o : Outcome) → Mem o (outcomes n ws) → (w : Walk) × Mem w ws × Mem o (given q w (seen.steps n w))
  unfolding outcomes
  outcomes_e n [] o m = absurd (Memᴰ.not-nil m)
  outcomes_e n (w ∷ ws) o m = pick (insert_all_e _ (outcomes n ws) o m) (outcomes_e n ws o)
    where
      pick : Mem o (given q w (seen.steps n w)) ⊎ Mem o (outcomes n ws)
          → (Mem o (outcomes n ws) → (w : Walk) × Mem w ws × Mem o (given q w (seen.steps n w)))
          → (v : Walk) × Mem v (w ∷ ws) × Mem o (given q v (seen.steps n v))
      pick (inl k) ih = (w, Memᴰ.head refl, k)
      pick (inr k) ih = let (v, j, g) = ih k in (v, Memᴰ.tail j, g)

  outcomes_i : (n : ℕ) (ws : List Walk) (w : Walk) (o : Outcome) → Mem w ws → Mem o (given q w (seen.steps n w)) → Mem o (outcomes n ws)
  unfolding outcomes
  outcomes_i n [] w o m g = absurd (Memᴰ.not-nil m)
  outcomes_i n (v ∷ ws) w o m g = pick (Memᴰ.cases_cons m) (λ k. outcomes_i n ws w o k g)
    where
      pick : (w ≡ v) ⊎ Mem w ws → (Mem w ws → Mem o (outcomes n ws)) → Mem o (insert_all (given q v (seen.steps n v)) (outcomes n ws))
      pick (inl e) ih = insert_all_new _ (outcomes n ws) o (rw e at g)
      pick (inr k) ih = insert_all_old _ (outcomes n ws) o (ih k)

  module _ {G : ℕ} (law : Coherent seen L G) where
    -- THE COMPUTED LIST IS RIGHT
    pub answers-right : (n : ℕ) → RightList seen q n (answers n)
    unfolding answers
    answers-right n = record { rises = outcomes_rise n (walks_at seen L n); exact = λ o. (to o, from o) }
      where
        to : (o : Outcome) → Mem o (outcomes n (walks_at seen L n)) → Permitted seen q n o
        to o m =
            let (w, k, g) = outcomes_e n (walks_at seen L n) o m in
            record { walk = w; held = (held_is_kept seen law n w).1 ((walks_held seen law n w).0 k); gives = g }

        from : (o : Outcome) → Permitted seen q n o → Mem o (outcomes n (walks_at seen L n))
        from o p =
            outcomes_i n (walks_at seen L n) p.walk o
            ((walks_held seen law n p.walk).1 ((held_is_kept seen law n p.walk).0 p.held)) p.gives

    -- a walk gives an outcome, or it goes on
    gives_some : (n : ℕ) (w : Walk) → Kept seen n w → (s : Step) → seen.steps n w ≡ s → 0 < length (given q w s) → (o : Outcome) × Permitted seen q n o
    gives_some n w h s e some =
        let (o, m) = head_of (given q w s) some in
        (o, record { walk = w; held = (held_is_kept seen law n w).1 h; gives = rw e m })

    by_step_lem : (n : ℕ) (w : Walk) → Kept seen n w → (s : Step) → seen.steps n w ≡ s
        → ((w' : Walk) → seen.steps n w ≡ Ok w' → (o : Outcome) × Permitted seen q n o) → (o : Outcome) × Permitted seen q n o
    by_step_lem n w h (Ok w') e next = next w' e
    by_step_lem n w h (Err Absent) e next = gives_some n w h (Err Absent) e (omega arith)
    by_step_lem n w h (Err Beyond) e next = gives_some n w h (Err Beyond) e (omega arith)
    by_step_lem n w h (Err Complete) e next = gives_some n w h (Err Complete) e (omega arith)

    -- following it ends, since the level falls
    some_outcome : (n l : ℕ) (w : Walk) → Kept seen n w → w.level ≤ l → (o : Outcome) × Permitted seen q n o
    some_outcome n zero w h le = by_step_lem n w h (Err Complete) (law.done n w (omega arith)) (λ w' e. absurd (omega (arith, (law.down n w w' e).level)))
    some_outcome n (suc l) w h le =
        by_step_lem n w h (seen.steps n w) refl (λ w' e. some_outcome n l w' (extend h e) (omega (arith, (law.down n w w' e).level)))

    -- NO LIST IS EMPTY
    pub right_some : (n : ℕ) (os : List Outcome) → RightList seen q n os → 0 < length os
    right_some n [] r = let (o, p) = some_outcome n L (seen.begins n) (begin refl) (omega (arith, law.top n)) in absurd (Memᴰ.not-nil ((r.exact o).1 p))
    right_some n (x ∷ os) r = omega arith
