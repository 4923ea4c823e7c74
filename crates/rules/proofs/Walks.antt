-- The held walks of a moment as a list: what the last event left and the walk that begins, each with all it goes on to.
use Rattle.std.specs.Prelude.{Ok, Err}
use mathlib.Core.Path.{◌≡◌, refl, sym, ◌∙◌, ap}
use mathlib.Core.Logic.{◌↔◌, ◌⊎◌, inl, inr}
use mathlib.Core.Bool.{Bool, true, false, cond, not, ◌&&◌, ◌||◌}
use mathlib.Core.List.Memᴰ
use mathlib.Core.List.{List, [], ◌∷◌}
use Prim.Native.Nat.{ℕ, zero, suc, ◌≤◌}
use native.Mathlib.Omega.{arith}
use lib.Dec.{T, eqb, eqb→eq}
use Rattle.paging.specs.Walk.{Step}
use Rattle.paging.specs.declared.Walk.{Walk}
use Rattle.paging.specs.declared.Stop.TheVariants.{Absent, Beyond, Complete}
use Rattle.paging.proofs.Tests.{and_l, and_r, or_l, or_r, or_cases}
use Rattle.rules.specs.View.{View}
use Rattle.rules.specs.Counts.{keep}
use Rattle.rules.proofs.Order.{Mem, keep_e, keep_i}
use Rattle.rules.specs.Coherent.{Coherent}
use Rattle.rules.specs.Kept.{Kept, begin, extend, stay, ends}
use Rattle.rules.proofs.Steps.{kept-level}

-- ---- a list in which each walk stands once

abbrev same : Walk → Walk → Bool
same v w = eqb v.level w.level && (eqb v.frame.0 w.frame.0 && eqb v.rights w.rights)

same_e : (v w : Walk) → T (same v w) → v ≡ w
same_e v w t =
    let l = eqb→eq v.level w.level (and_l (eqb v.level w.level) _ t) in
    let u = and_r (eqb v.level w.level) _ t in
    let f = eqb→eq v.frame.0 w.frame.0 (and_l (eqb v.frame.0 w.frame.0) _ u) in
    let r = eqb→eq v.rights w.rights (and_r (eqb v.frame.0 w.frame.0) _ u) in
    λ i. record { level = l i; frame = record { 0 = f i }; rights = r i }

unfoldable pub some : (Walk → Bool) → List Walk → Bool
some p [] = false
some p (w ∷ ws) = p w || some p ws

pub some_e : (p : Walk → Bool) (ws : List Walk) → T (some p ws) → (w : Walk) × Mem w ws × T (p w)
unfolding some
some_e p [] t = absurd t
some_e p (w ∷ ws) t = pick (or_cases (p w) _ t) (some_e p ws)
  where
    pick : T (p w) ⊎ T (some p ws) → (T (some p ws) → (v : Walk) × Mem v ws × T (p v)) → (v : Walk) × Mem v (w ∷ ws) × T (p v)
    pick (inl u) ih = (w, Memᴰ.head refl, u)
    pick (inr u) ih = let (v, m, x) = ih u in (v, Memᴰ.tail m, x)

pub some_i : (p : Walk → Bool) (ws : List Walk) (w : Walk) → Mem w ws → T (p w) → T (some p ws)
unfolding some
some_i p [] w m t = absurd (Memᴰ.not-nil m)
some_i p (v ∷ ws) w m t = pick (Memᴰ.cases_cons m) (λ k. some_i p ws w k t)
  where
    pick : (w ≡ v) ⊎ Mem w ws → (Mem w ws → T (some p ws)) → T (p v || some p ws)
    pick (inl e) ih = or_l (p v) _ (rw e at t)
    pick (inr k) ih = or_r (p v) _ (ih k)

unfoldable pub add : List Walk → List Walk → List Walk
add [] ws = ws
add (v ∷ vs) ws = cond (some (same v) ws) (add vs ws) (v ∷ add vs ws)

add_e : (vs ws : List Walk) (x : Walk) → Mem x (add vs ws) → Mem x vs ⊎ Mem x ws
unfolding add
add_e [] ws x m = inr m
add_e (v ∷ vs) ws x m = cases (some (same v) ws) m (add_e vs ws x)
  where
    up : Mem x vs ⊎ Mem x ws → Mem x (v ∷ vs) ⊎ Mem x ws
    up (inl k) = inl (Memᴰ.tail k)
    up (inr k) = inr k

    new : (x ≡ v) ⊎ Mem x (add vs ws) → (Mem x (add vs ws) → Mem x vs ⊎ Mem x ws) → Mem x (v ∷ vs) ⊎ Mem x ws
    new (inl e) ih = inl (Memᴰ.head e)
    new (inr k) ih = up (ih k)

    cases : (b : Bool) → Mem x (cond b (add vs ws) (v ∷ add vs ws)) → (Mem x (add vs ws) → Mem x vs ⊎ Mem x ws) → Mem x (v ∷ vs) ⊎ Mem x ws
    cases true k ih = up (ih k)
    cases false k ih = new (Memᴰ.cases_cons k) ih

add_old : (vs ws : List Walk) (x : Walk) → Mem x ws → Mem x (add vs ws)
unfolding add
add_old [] ws x m = m
add_old (v ∷ vs) ws x m = cases (some (same v) ws) (add_old vs ws x m)
  where
    cases : (b : Bool) → Mem x (add vs ws) → Mem x (cond b (add vs ws) (v ∷ add vs ws))
    cases true k = k
    cases false k = Memᴰ.tail k

add_new : (vs ws : List Walk) (x : Walk) → Mem x vs → Mem x (add vs ws)
unfolding add
add_new [] ws x m = absurd (Memᴰ.not-nil m)
add_new (v ∷ vs) ws x m = cases (some (same v) ws) refl (Memᴰ.cases_cons m) (add_new vs ws x)
  where
    there : some (same v) ws ≡ true → Mem v ws
    there e = let (w, k, t) = some_e (same v) ws (rw e tt) in rw (same_e v w t) k

    cases : (b : Bool) → some (same v) ws ≡ b → (x ≡ v) ⊎ Mem x vs → (Mem x vs → Mem x (add vs ws)) → Mem x (cond b (add vs ws) (v ∷ add vs ws))
    cases true e (inl p) ih = add_old vs ws x (rw p (there e))
    cases true e (inr k) ih = ih k
    cases false e (inl p) ih = Memᴰ.head p
    cases false e (inr k) ih = Memᴰ.tail (ih k)

-- ---- following a walk

abbrev onward : (Walk → List Walk) → Step → List Walk
onward f (Ok w) = f w
onward f (Err Absent) = []
onward f (Err Beyond) = []
onward f (Err Complete) = []

module _ (seen : View) where
  -- the walk and all it goes on to with the entries of moment n, for l levels
  unfoldable pub chain : ℕ → ℕ → Walk → List Walk
  chain n zero w = w ∷ []
  chain n (suc l) w = w ∷ onward (chain n l) (seen.steps n w)

  -- each walk of the list with all it goes on to
  unfoldable pub closed : ℕ → ℕ → List Walk → List Walk
  closed n L [] = []
  closed n L (w ∷ ws) = add (chain n L w) (closed n L ws)

  -- the held walks of a moment, of L levels
  unfoldable pub walks_at : ℕ → ℕ → List Walk
  walks_at L zero = closed 0 L (seen.begins 0 ∷ [])
  walks_at L (suc n) = closed (suc n) L (seen.begins (suc n) ∷ keep (λ w. not (ends seen w n)) (walks_at L n))

  -- ---- it is the step by step rule

  -- w goes on to x with the entries of moment n, in any number of steps
  pub data Leads (n : ℕ) : Walk → Walk → Type 0 where
    here : {w x : Walk} → x ≡ w → Leads n w x
    there : {w w' x : Walk} → seen.steps n w ≡ Ok w' → Leads n w' x → Leads n w x

  -- what a moment's held walks grow from
  pub data Seed : ℕ → Walk → Type 0 where
    root : {n : ℕ} {w : Walk} → w ≡ seen.begins n → Seed n w
    left : {n : ℕ} {w : Walk} → Kept seen n w → T (not (ends seen w n)) → Seed (suc n) w

  further : {n : ℕ} {w x y : Walk} → Leads n w x → seen.steps n x ≡ Ok y → Leads n w y
  further (here e) s = there (ap (seen.steps _) (sym e) ∙ s) (here refl)
  further (there e d) s = there e (further d s)

  pub grown : {n : ℕ} {x : Walk} → Kept seen n x → (w : Walk) × Seed n w × Leads n w x
  grown {x = x} (begin e) = (x, root e, here refl)
  grown (extend h e) = let (w, s, d) = grown h in (w, s, further d e)
  grown {x = x} (stay h t) = (x, left h t, here refl)

  pub seeded : {n : ℕ} {w : Walk} → Seed n w → Kept seen n w
  seeded (root e) = begin e
  seeded (left h t) = stay h t

  pub led : {n : ℕ} {w x : Walk} → Kept seen n w → Leads n w x → Kept seen n x
  led h (here e) = rw e h
  led h (there e d) = led (extend h e) d

  module _ {L G : ℕ} (law : Coherent seen L G) where
    chain_e : (n l : ℕ) (w x : Walk) → Mem x (chain n l w) → Leads n w x
    unfolding chain
    chain_e n zero w x m = pick (Memᴰ.cases_cons m)
      where
        pick : (x ≡ w) ⊎ Mem x [] → Leads n w x
        pick (inl e) = here e
        pick (inr k) = absurd (Memᴰ.not-nil k)
    chain_e n (suc l) w x m = pick (Memᴰ.cases_cons m) (λ w'. chain_e n l w' x)
      where
        onto : (s : Step) → seen.steps n w ≡ s → Mem x (onward (chain n l) s) → ((w' : Walk) → Mem x (chain n l w') → Leads n w' x) → Leads n w x
        onto (Ok w') e k ih = there e (ih w' k)
        onto (Err Absent) e k ih = absurd (Memᴰ.not-nil k)
        onto (Err Beyond) e k ih = absurd (Memᴰ.not-nil k)
        onto (Err Complete) e k ih = absurd (Memᴰ.not-nil k)

        pick : (x ≡ w) ⊎ Mem x (onward (chain n l) (seen.steps n w)) → ((w' : Walk) → Mem x (chain n l w') → Leads n w' x) → Leads n w x
        pick (inl e) ih = here e
        pick (inr k) ih = onto (seen.steps n w) refl k ih

    chain_i : (n l : ℕ) {w x : Walk} → Leads n w x → w.level ≤ l → Mem x (chain n l w)
    unfolding chain
    chain_i n zero (here e) h = Memᴰ.head e
    chain_i n (suc l) (here e) h = Memᴰ.head e
    chain_i n zero (there {w = w} {w' = w'} e d) h = absurd (omega (arith, (law.down n w w' e).level))
    chain_i n (suc l) (there {w = w} {w' = w'} {x = x} e d) h =
        let below : Mem x (onward (chain n l) (seen.steps n w)) = rw e (chain_i n l d (omega (arith, (law.down n w w' e).level))) in
        Memᴰ.tail below

    closed_e : (n : ℕ) (ws : List Walk) (x : Walk) → Mem x (closed n L ws) → (w : Walk) × Mem w ws × Leads n w x
    unfolding closed
    closed_e n [] x m = absurd (Memᴰ.not-nil m)
    closed_e n (v ∷ ws) x m = pick (add_e (chain n L v) (closed n L ws) x m) (closed_e n ws x)
      where
        pick : Mem x (chain n L v) ⊎ Mem x (closed n L ws) → (Mem x (closed n L ws) → (w : Walk) × Mem w ws × Leads n w x)
            → (w : Walk) × Mem w (v ∷ ws) × Leads n w x
        pick (inl k) ih = (v, Memᴰ.head refl, chain_e n L v x k)
        pick (inr k) ih = let (w, j, d) = ih k in (w, Memᴰ.tail j, d)

    closed_i : (n : ℕ) (ws : List Walk) (w x : Walk) → Mem w ws → w.level ≤ L → Leads n w x → Mem x (closed n L ws)
    unfolding closed
    closed_i n [] w x m h d = absurd (Memᴰ.not-nil m)
    closed_i n (v ∷ ws) w x m h d = pick (Memᴰ.cases_cons m) (λ k. closed_i n ws w x k h d)
      where
        pick : (w ≡ v) ⊎ Mem w ws → (Mem w ws → Mem x (closed n L ws)) → Mem x (add (chain n L v) (closed n L ws))
        pick (inl e) ih = add_new (chain n L v) (closed n L ws) x (rw e at (chain_i n L d h))
        pick (inr k) ih = add_old (chain n L v) (closed n L ws) x (ih k)

    from_list : (n : ℕ) (x : Walk) → Mem x (walks_at L n) → Kept seen n x
    unfolding walks_at
    from_list zero x m =
        let (w, k, d) = closed_e 0 (seen.begins 0 ∷ []) x m in led (pick w (Memᴰ.cases_cons k)) d
      where
        pick : (w : Walk) → (w ≡ seen.begins 0) ⊎ Mem w [] → Kept seen 0 w
        pick w (inl e) = begin e
        pick w (inr k) = absurd (Memᴰ.not-nil k)
    from_list (suc n) x m =
        let (w, k, d) = closed_e (suc n) (seen.begins (suc n) ∷ keep (λ w. not (ends seen w n)) (walks_at L n)) x m in
        led (pick w (Memᴰ.cases_cons k) (from_list n w)) d
      where
        pick : (w : Walk) → (w ≡ seen.begins (suc n)) ⊎ Mem w (keep (λ w. not (ends seen w n)) (walks_at L n)) → (Mem w (walks_at L n) → Kept seen n w) → Kept seen (suc n) w
        pick w (inl e) ih = begin e
        pick w (inr k) ih = let (j, t) = keep_e (λ w. not (ends seen w n)) (walks_at L n) w k in stay (ih j) t

    to_list : (n : ℕ) (x : Walk) → Kept seen n x → Mem x (walks_at L n)
    unfolding walks_at
    to_list zero x h = let (w, s, d) = grown h in
        closed_i 0 (seen.begins 0 ∷ []) w x (seed s) (kept-level seen law (seeded s)) d
      where
        seed : {w : Walk} → Seed 0 w → Mem w (seen.begins 0 ∷ [])
        seed (root e) = Memᴰ.head e
    to_list (suc n) x h = let (w, s, d) = grown h in
        closed_i (suc n) (seen.begins (suc n) ∷ keep (λ w. not (ends seen w n)) (walks_at L n)) w x (seed s (to_list n w)) (kept-level seen law (seeded s)) d
      where
        seed : {w : Walk} → Seed (suc n) w → (Kept seen n w → Mem w (walks_at L n)) → Mem w (seen.begins (suc n) ∷ keep (λ w. not (ends seen w n)) (walks_at L n))
        seed (root e) ih = Memᴰ.head e
        seed {w} (left k t) ih = Memᴰ.tail (keep_i (λ w. not (ends seen w n)) (walks_at L n) w (ih k) t)

    -- THE LIST HAS EXACTLY THE HELD WALKS
    pub walks_held : (n : ℕ) (x : Walk) → Mem x (walks_at L n) ↔ Kept seen n x
    walks_held n x = (from_list n x, to_list n x)
