-- Freeing a table and all below it, level by level. What holds on the way: each entry is as it was, or is 0 and what it
-- named is free; each record is as it was, or its table is all zeros; and a table that is free is named no more, but for
-- the one whose name is cut next.
use mathlib.Core.Path.{◌≡◌, refl, sym, ap, subst, ◌∙◌}
use mathlib.Core.Bool.{Bool, true, false, cond}
use mathlib.Core.List.{List}
use mathlib.Core.Logic.{◌⊎◌, inl, inr, ⊎_elim}
use Prim.Native.Nat.{ℕ, zero, suc, ◌<◌}
use native.Mathlib.Nat.{eq-or-lt_of_le}
use native.Mathlib.Decide.{ℕ_discrete}
use native.Mathlib.Omega.{arith}
use lib.Dec.{ltb}
use lib.Pow.{pow_pos}
use borrow.Author.Tests.{ltb-true, ltb-false}
use Rattle.paging.specs.Frame.{guest}
use Rattle.paging.specs.Numbers.{each}
use Rattle.tables.specs.State.{Machine, Shadow, on_pool, on_records, with_record, table_count, entry_count, with_entry, named}
use Rattle.tables.specs.Steps.{free_table, cut}
use Rattle.trees.proofs.Trees.{Able, Outside, Exact, ent, lev, shd, own, Names, Trees}
use Rattle.trees.proofs.Entries.{entry_here, entry_other, entry_exact, level-here, frame_here, level_other, frame_other, record_exact, zero_names_none, names_by}
use Rattle.trees.proofs.Falls.{falls, live, same_owner}

-- what turn i makes of what holds before it, all turns make
pub each_makes : {A : Type 0} (Q : ℕ → A → Type 0) (n : ℕ) (f : ℕ → A → A) → ((i : ℕ) → i < n → (x : A) → Q i x → Q (suc i) (f i x))
    → (x : A) → Q 0 x → Q n (each n f x)
unfolding each
each_makes Q zero f h x q = q
each_makes Q (suc n) f h x q = h n (omega arith) (each n f x) (each_makes Q n f (λ i l. h i (omega arith)) x q)

-- Entry i₀ of t₀ is cut, in s₀.
module _ (M : Machine) (s₀ : Shadow) (t₀ i₀ : ℕ) where
  -- v may go with it
  pub record Below (v : ℕ) : Type 0 where
    pub lower : lev M s₀ v < lev M s₀ t₀
    pub owner : own M s₀ v ≡ own M s₀ t₀

  -- and entry k of v may become 0
  abbrev pub Cuttable : ℕ → ℕ → Type 0
  Cuttable v k = Below v ⊎ ((v ≡ t₀) × (k ≡ i₀))

  -- v is all zeros, its record too
  pub record Cleared (s : Shadow) (v : ℕ) : Type 0 where
    pub level : lev M s v ≡ 0
    pub frame : shd M s v ≡ 0
    pub entries : (k : ℕ) → k < entry_count M → ent M s v k ≡ 0
    pub below : Below v

  -- entry k of v is 0, and what it named is free
  pub record Zeroed (s : Shadow) (v k : ℕ) : Type 0 where
    pub gone : ent M s v k ≡ 0
    pub under : (w : ℕ) → Names M s₀ v k w → lev M s w ≡ 0
    pub cuttable : Cuttable v k

  -- x is the table whose name is cut next; P×S is none
  pub record Pruned (x : ℕ) (s : Shadow) : Type 0 where
    pub exact : Exact M s
    pub entries : (v : ℕ) → v < table_count M → (k : ℕ) → k < entry_count M → (ent M s v k ≡ ent M s₀ v k) ⊎ Zeroed s v k
    pub records : (v : ℕ) → v < table_count M → ((lev M s v ≡ lev M s₀ v) × (shd M s v ≡ shd M s₀ v)) ⊎ Cleared s v
    pub names : {v k w : ℕ} → Names M s₀ v k w → lev M s w ≡ 0 → (w ≡ x) ⊎ (ent M s v k ≡ 0)

  -- from s to s', what is 0 stays 0
  pub record Zeros (s s' : Shadow) : Type 0 where
    pub entry : (v k : ℕ) → k < entry_count M → ent M s v k ≡ 0 → ent M s' v k ≡ 0
    pub level : (v : ℕ) → lev M s v ≡ 0 → lev M s' v ≡ 0
    pub frame : (v : ℕ) → shd M s v ≡ 0 → shd M s' v ≡ 0

  -- and s' is pruned; the tables that are live in s' have all entries but those of P
  pub record Onward (P : ℕ → ℕ → Type 0) (x : ℕ) (s s' : Shadow) : Type 0 where
    pub pruned : Pruned x s'
    pub zeros : Zeros s s'
    pub rest : (v k : ℕ) → k < entry_count M → 0 < lev M s' v → (P v k → ⊥) → ent M s' v k ≡ ent M s v k

  zeros_on : {s s' s'' : Shadow} → Zeros s s' → Zeros s' s'' → Zeros s s''
  zeros_on a b = record {
    entry = λ v k h z. b.entry v k h (a.entry v k h z);
    level = λ v z. b.level v (a.level v z);
    frame = λ v z. b.frame v (a.frame v z);
  }

  -- who is live was live
  lived : {s s' : Shadow} → Zeros s s' → (v : ℕ) → 0 < lev M s' v → 0 < lev M s v
  lived {s} {s'} z v h = go (ℕ_discrete (lev M s v) 0)
    where
      go : Dec (lev M s v ≡ 0) → 0 < lev M s v
      go (yes q) = absurd (omega (arith, z.level v q))
      go (no up) = omega arith

  cleared_on : {s s' : Shadow} {v : ℕ} → Zeros s s' → Cleared s v → Cleared s' v
  cleared_on {v = v} z c = record {
    level = z.level v c.level;
    frame = z.frame v c.frame;
    entries = λ k h. z.entry v k h (c.entries k h);
    below = c.below;
  }

  zeroed_on : {s s' : Shadow} {v k : ℕ} → k < entry_count M → Zeros s s' → Zeroed s v k → Zeroed s' v k
  zeroed_on {v = v} {k = k} h z d = record {
    gone = z.entry v k h d.gone;
    under = λ w m. z.level w (d.under w m);
    cuttable = d.cuttable;
  }

  module _ (ok : Able M) (map : List ℕ) (outside : Outside M map) (trees : Trees M map s₀) where
    -- an entry that names a table is as it was
    pub still : {x : ℕ} {s : Shadow} → Pruned x s → {v k w : ℕ} → Names M s v k w → Names M s₀ v k w
    still {s = s} p {v} {k} {w} m = go (p.entries v m.table k m.index)
      where
        go : (ent M s v k ≡ ent M s₀ v k) ⊎ Zeroed s v k → Names M s₀ v k w
        go (inl e) = names_by (sym e) m
        go (inr d) = absurd (zero_names_none M (ent M s v k) d.gone (rw m.names m.is))

    -- ---- one store

    -- entry i of t becomes 0: it named x, and what it named is free
    module _ {x : ℕ} {s : Shadow} (p : Pruned x s) (t i : ℕ) (ht : t < table_count M) (hi : i < entry_count M) where
      abbrev after : Shadow
      after = on_pool (with_entry M t i 0) s

      here : ent M after t i ≡ 0
      here = entry_here M ok s p.exact t i 0 ht hi (pow_pos M.tables.entry_bits)

      stored : (v k : ℕ) → k < entry_count M → ((v ≡ t) × (k ≡ i) × (ent M after v k ≡ 0)) ⊎ (ent M after v k ≡ ent M s v k)
      stored v k hk = go (ℕ_discrete v t) (ℕ_discrete k i)
        where
          other : (t ≡ v → i ≡ k → ⊥) → ent M after v k ≡ ent M s v k
          other ne = entry_other M ok s p.exact t i 0 ht hi (pow_pos M.tables.entry_bits) v k hk ne

          go : Dec (v ≡ t) → Dec (k ≡ i) → ((v ≡ t) × (k ≡ i) × (ent M after v k ≡ 0)) ⊎ (ent M after v k ≡ ent M s v k)
          go (yes a) (yes b) = inl (a, b, rw (a, b) here)
          go (yes a) (no b) = inr (other (λ q r. b (sym r)))
          go (no a) d = inr (other (λ q r. a (sym q)))

      entry-zeros : Zeros s after
      entry-zeros = record {
        entry = λ v k hk z.
            ⊎_elim (λ (a : (v ≡ t) × (k ≡ i) × (ent M after v k ≡ 0)). a.2) (λ (e : ent M after v k ≡ ent M s v k). e ∙ z) (stored v k hk);
        level = λ v z. z;
        frame = λ v z. z;
      }

      entry-rest : (v k : ℕ) → k < entry_count M → ((v ≡ t) × (k ≡ i) → ⊥) → ent M after v k ≡ ent M s v k
      entry-rest v k hk ne =
          ⊎_elim (λ (a : (v ≡ t) × (k ≡ i) × (ent M after v k ≡ 0)). absurd (ne (a.0, a.1))) (λ (e : ent M after v k ≡ ent M s v k). e) (stored v k hk)

      entry_pruned : Cuttable t i → (x < table_count M → Names M s₀ t i x) → ((w : ℕ) → Names M s₀ t i w → lev M s w ≡ 0) → Pruned (table_count M) after
      entry_pruned cuttable was under = record {
        exact = entry_exact M ok s p.exact t i 0 ht hi (pow_pos M.tables.entry_bits);
        entries = λ v hv k hk. entries v k hk (stored v k hk) (p.entries v hv k hk);
        records = λ v hv.
            ⊎_elim
            (λ (same : (lev M s v ≡ lev M s₀ v) × (shd M s v ≡ shd M s₀ v)). inl same)
            (λ (c : Cleared s v). inr (cleared_on entry-zeros c))
            (p.records v hv);
        names = λ {v = v} {k = k} {w = w} m z. inr (names m (p.names m z));
      }
        where
          entries : (v k : ℕ) → k < entry_count M → ((v ≡ t) × (k ≡ i) × (ent M after v k ≡ 0)) ⊎ (ent M after v k ≡ ent M s v k)
              → (ent M s v k ≡ ent M s₀ v k) ⊎ Zeroed s v k → (ent M after v k ≡ ent M s₀ v k) ⊎ Zeroed after v k
          entries v k hk (inl a) was =
              inr (record {
                gone = a.2;
                under = λ w m. under w (rw (← a.0, ← a.1) m);
                cuttable = rw (a.0, a.1) cuttable;
              })
          entries v k hk (inr e) (inl same) = inl (e ∙ same)
          entries v k hk (inr e) (inr d) = inr (zeroed_on hk entry-zeros d)

          names : {v k w : ℕ} → Names M s₀ v k w → (w ≡ x) ⊎ (ent M s v k ≡ 0) → ent M after v k ≡ 0
          names {v} {k} {w} m (inl q) =
              let n : Names M s₀ t i w = rw q (was (rw (← q) m.is)) in
              let one = trees.one m n in
              rw (one.0, one.1) here
          names {v} {k} {w} m (inr z) = entry-zeros.entry v k m.index z

    -- the record of t becomes 0, 0: its entries are 0
    module _ {s : Shadow} (p : Pruned (table_count M) s) (t : ℕ) (ht : t < table_count M) where
      abbrev bare : Shadow
      bare = on_records (with_record t 0 (guest 0)) s

      record_zeros : Zeros s bare
      record_zeros = record {
        entry = λ v k h z. z;
        level = λ v z. level v z (ℕ_discrete v t);
        frame = λ v z. frame v z (ℕ_discrete v t);
      }
        where
          level : (v : ℕ) → lev M s v ≡ 0 → Dec (v ≡ t) → lev M bare v ≡ 0
          level v z (yes q) = rw q (level-here M ok s p.exact t 0 (guest 0) ht)
          level v z (no ne) = level_other M ok s p.exact t 0 (guest 0) ht v ne ∙ z

          frame : (v : ℕ) → shd M s v ≡ 0 → Dec (v ≡ t) → shd M bare v ≡ 0
          frame v z (yes q) = rw q (frame_here M ok s p.exact t 0 (guest 0) ht)
          frame v z (no ne) = frame_other M ok s p.exact t 0 (guest 0) ht v ne ∙ z

      record_pruned : Below t → ((k : ℕ) → k < entry_count M → ent M s t k ≡ 0) → Pruned t bare
      record_pruned below zeros = record {
        exact = record_exact M ok s p.exact t 0 (guest 0) ht;
        entries = λ v hv k hk.
            ⊎_elim
            (λ (same : ent M s v k ≡ ent M s₀ v k). inl same)
            (λ (d : Zeroed s v k). inr (zeroed_on hk record_zeros d))
            (p.entries v hv k hk);
        records = λ v hv. records v (ℕ_discrete v t) (p.records v hv);
        names = λ {v = v} {k = k} {w = w} m z. names m z (ℕ_discrete w t);
      }
        where
          records : (v : ℕ) → Dec (v ≡ t) → ((lev M s v ≡ lev M s₀ v) × (shd M s v ≡ shd M s₀ v)) ⊎ Cleared s v
              → ((lev M bare v ≡ lev M s₀ v) × (shd M bare v ≡ shd M s₀ v)) ⊎ Cleared bare v
          records v (yes q) was =
              inr (record {
                level = rw q (level-here M ok s p.exact t 0 (guest 0) ht);
                frame = rw q (frame_here M ok s p.exact t 0 (guest 0) ht);
                entries = rw q zeros;
                below = rw q below;
              })
          records v (no ne) (inl same) =
              inl (level_other M ok s p.exact t 0 (guest 0) ht v ne ∙ same.0, frame_other M ok s p.exact t 0 (guest 0) ht v ne ∙ same.1)
          records v (no ne) (inr c) = inr (cleared_on record_zeros c)

          names : {v k w : ℕ} → Names M s₀ v k w → lev M bare w ≡ 0 → Dec (w ≡ t) → (w ≡ t) ⊎ (ent M s v k ≡ 0)
          names m z (yes q) = inl q
          names {v} {k} {w} m z (no ne) =
              ⊎_elim
              (λ (q : w ≡ table_count M). absurd (omega (arith, m.is)))
              (λ (gone : ent M s v k ≡ 0). inr gone)
              (p.names m (sym (level_other M ok s p.exact t 0 (guest 0) ht w ne) ∙ z))

    -- ---- an entry cut, a table freed

    -- what freeing a table of level l does
    abbrev Frees : ℕ → Type 0
    Frees l =
        (t : ℕ) → t < table_count M → lev M s₀ t ≡ l → 0 < l → Below t → (s : Shadow) → Pruned (table_count M) s
        → Onward (λ v k. ⊥) t s (free_table M l t s) × (lev M (free_table M l t s) t ≡ 0)

    -- what such an entry names may go too
    goes : {t i u : ℕ} → Cuttable t i → Names M s₀ t i u → Below u
    goes {t} {i} {u} c m =
        let lower = falls M map outside s₀ trees m in
        let owner = same_owner M map outside s₀ trees m in
        ⊎_elim
        (λ (b : Below t). record { lower = omega (arith, b.lower); owner = owner ∙ b.owner })
        (λ (q : (t ≡ t₀) × (i ≡ i₀)). record { lower = omega (arith, ap (lev M s₀) q.0); owner = owner ∙ ap (own M s₀) q.0 })
        c

    module _ (l : ℕ) (ih : Frees l) (t i : ℕ) (ht : t < table_count M) (hi : i < entry_count M) (level : lev M s₀ t ≡ suc l) (cuttable : Cuttable t i) where
      -- AN ENTRY IS CUT: what it names is freed, and it becomes 0
      pub cut-onward : (s : Shadow) → Pruned (table_count M) s
          → Onward (λ v k. (v ≡ t) × (k ≡ i)) (table_count M) s (cut M l t i s) × (ent M (cut M l t i s) t i ≡ 0)
      cut-onward s p = go (ltb (named M (ent M s t i)) (table_count M)) refl
        where
          c : ℕ
          c = named M (ent M s t i)

          go : (b : Bool) → ltb c (table_count M) ≡ b
              → let s' = on_pool (with_entry M t i 0) (cond b (free_table M l c s) s) in Onward (λ v k. (v ≡ t) × (k ≡ i)) (table_count M) s s' × (ent M s' t i ≡ 0)
          go true e =
              let m : Names M s₀ t i c = still p (record { table = ht; index = hi; names = refl; is = ltb-true c (table_count M) e }) in
              let lower = falls M map outside s₀ trees m in
              let freed = ih c m.is (omega arith) (omega (arith, live M map outside s₀ trees m)) (goes cuttable m) s p in
              let q = freed.0.pruned in (
                record {
                  pruned = entry_pruned q t i ht hi cuttable (λ h. m) (λ w n. subst (λ (x : ℕ). lev M (free_table M l c s) x ≡ 0) (sym m.names ∙ n.names) freed.1);
                  zeros = zeros_on freed.0.zeros (entry-zeros q t i ht hi);
                  rest = λ v k hk h ne. entry-rest q t i ht hi v k hk ne ∙ freed.0.rest v k hk h (λ b. b);
                },
                here q t i ht hi,
              )
          go false e =
              let none = ltb-false c (table_count M) e in (
                record {
                  pruned = entry_pruned p t i ht hi cuttable (λ h. absurd (omega arith)) (λ w n. under w n (p.entries t ht i hi));
                  zeros = entry-zeros p t i ht hi;
                  rest = λ v k hk h ne. entry-rest p t i ht hi v k hk ne;
                },
                here p t i ht hi,
              )
            where
              under : (w : ℕ) → Names M s₀ t i w → (ent M s t i ≡ ent M s₀ t i) ⊎ Zeroed s t i → lev M s w ≡ 0
              under w n (inl same) = let q : c ≡ named M (ent M s₀ t i) = ap (named M) same in absurd (omega (arith, n.is, n.names, ltb-false c (table_count M) e))
              under w n (inr d) = d.under w n

    -- i turns of freeing t are done
    record Turned (t : ℕ) (s : Shadow) (i : ℕ) (s' : Shadow) : Type 0 where
      onward : Onward (λ v k. v ≡ t) (table_count M) s s'
      done : (k : ℕ) → k < i → ent M s' t k ≡ 0

    module _ (l : ℕ) (ih : Frees l) (t : ℕ) (ht : t < table_count M) (level : lev M s₀ t ≡ suc l) (below : Below t) (s : Shadow) where
      turn : (i : ℕ) → i < entry_count M → (s' : Shadow) → Turned t s i s' → Turned t s (suc i) (cut M l t i s')
      turn i hi s' q =
          let r = cut-onward l ih t i ht hi level (inl below) s' q.onward.pruned in
          record {
            onward = record {
              pruned = r.0.pruned;
              zeros = zeros_on q.onward.zeros r.0.zeros;
              rest = λ v k hk h ne. r.0.rest v k hk h (λ x. ne x.0) ∙ q.onward.rest v k hk (lived r.0.zeros v h) ne;
            };
            done = λ k hk.
                ⊎_elim
                (λ (e : k ≡ i). rw e r.1)
                (λ (lt : k < i). r.0.zeros.entry t k (omega arith) (q.done k lt))
                (eq-or-lt_of_le (omega arith));
          }

    -- A TABLE IS FREED WITH ALL BELOW IT
    pub frees : (l : ℕ) → Frees l
    unfolding free_table
    frees zero t ht level live below s p = absurd (omega arith)
    frees (suc l) t ht level live below s p =
        let none : Zeros s s = record { entry = λ v k h z. z; level = λ v z. z; frame = λ v z. z } in
        let start : Turned t s 0 s = record { onward = record { pruned = p; zeros = none; rest = λ v k hk h ne. refl }; done = λ k hk. absurd (omega arith) } in
        let turned = each_makes (Turned t s) (entry_count M) (cut M l t) (turn l (frees l) t ht level below s) s start in
        let q = turned.onward.pruned in
        let zeros = record_zeros q t ht in
        let gone = level-here M ok _ q.exact t 0 (guest 0) ht in (
          record {
            pruned = record_pruned q t ht below turned.done;
            zeros = zeros_on turned.onward.zeros zeros;
            rest = λ v k hk h ne. turned.onward.rest v k hk (lived zeros v h) (λ (e : v ≡ t). let f : 0 < 0 = rw (e, gone) at h in omega arith);
          },
          gone,
        )
