-- INVLPG and CR3 write keep the state rules: they take entries away, and with them the page's path.
use mathlib.Core.Path.{◌≡◌, refl, sym, ap, ◌∙◌}
use mathlib.Core.Bool.{Bool, true, false, cond}
use mathlib.Core.List.{List}
use mathlib.Core.Logic.{◌⊎◌, inl, inr}
use Prim.Native.Nat.{ℕ, ◌-◌, ◌≤◌, ◌<◌}
use native.Mathlib.Decide.{ℕ_discrete, dec_lt}
use native.Mathlib.Omega.{arith}
use lib.Dec.{ltb}
use lib.ListN.{length}
use lib.Pow.{pow_pos}
use borrow.Author.Tests.{ltb-true, ltb-false}
use Rattle.paging.specs.Frame.{guest}
use Rattle.paging.specs.Layout.{index, page_of, is_present}
use Rattle.paging.proofs.Indices.{index_small}
use Rattle.tables.specs.State.{Machine, Shadow, on_pool, on_records, State, state_of, with_record, table_count, root_of, entry_count, with_entry, next_entry, path_to}
use Rattle.slots.specs.Slots.{page_in}
use Rattle.tables.specs.Steps.{empty_share}
use Rattle.trees.proofs.Trees.{Able, Outside, ent, lev, shd, own, Another, Trees, Less, Same}
use Rattle.trees.proofs.Leaves.{leaf_entry, leaf_beside, leaf_trees}
use Rattle.trees.proofs.Roots.{root_owner}
use Rattle.trees.proofs.Hangs.{by-table}
use Rattle.trees.proofs.Shares.{share_trees, share_less, share_others, share_own, root_trees, root_frame, root_levels, root_frames, root_owners}
use Rattle.trees.proofs.Paths.{lost_entry, stands, zero_absent, upper_path}
use Rattle.trees.proofs.Unique.{leaf_here}
use Rattle.trees.proofs.Slots.{SameSlot, Empty, Room, empty_slots-length, empty_slots_other, empty_slots-here, flush-length, flush_others, flush-here}
use Rattle.keeps.proofs.RightStates.{Mapped, RightState, room, PathStays, Reshaped}
use Rattle.slots.specs.Slots.{slot_count, mark_of, flush}
use Rattle.paging.proofs.Counts.{by_cases}
use Rattle.shadow.specs.Moves.{leaf_cleared, after_invlpg, after_cr3}

-- what a flush leaves of a slot
pub flush_leaves : (p v : ℕ) (slots : List ℕ) (k : ℕ) → k < slot_count → Room slots p
    → Empty (flush p v slots) p k ⊎ (SameSlot slots (flush p v slots) p k × (mark_of slots p k ≤ 1))
flush_leaves p v slots k hk here =
    by_cases (flush-here p v slots k hk here) (λ x. inr (x.0, by_cases x.1 (λ e. omega arith) (λ e. omega (arith, e.0)))) (λ x. inl x)

module _ (M : Machine) (ok : Able M) (map : List ℕ) (fits : Mapped M map) (p : ℕ) (hp : p < M.processors) (s : State) (r : RightState M map s) where
  abbrev out : Outside M map
  out = fits.outside

  abbrev ready : Able M
  ready = ok

  abbrev was : Trees M map s.shadow
  was = r.law.trees

  here : Room s.slots p
  here = room M ok map fits s.slots r.triples p hp

  -- ---- "INVLPG: if present entries lead to a level 1 table, its entry becomes 0. Then the flush of v"

  -- what an event leaves of p's tables that only takes entries away, the end of page v's path among them
  pub record Takes (v : ℕ) (s₁ : Shadow) : Type 0 where
    pub trees : Trees M map s₁
    pub less : Less M s.shadow s₁
    pub others : (t : ℕ) → t < table_count M → Another M s.shadow p t → Same M s.shadow s₁ t
    pub gone : is_present (next_entry M s₁.pool v (path_to M s₁.pool p v 1)) ≡ true → ⊥

  module _ (a : ℕ) where
    abbrev v : ℕ
    v = page_of M.tables a

    abbrev t : ℕ
    t = (path_to M s.shadow.pool p v 1).table

    -- the path ends above level 1
    none : table_count M ≤ t → Takes v s.shadow
    none off = record {
      trees = was;
      less = record { entries = λ u h k l. inl refl };
      others = λ u h o. record { entries = λ k l. refl; level = refl; frame = refl; owner = refl };
      gone = zero_absent _ (lost_entry M ready s.shadow was.exact v (path_to M s.shadow.pool p v 1) off);
    }

    -- it reaches a level 1 table
    module _ (on : t < table_count M) where
      abbrev i : ℕ
      i = index M.tables v 1

      abbrev s₁ : Shadow
      s₁ = on_pool (with_entry M t i 0) s.shadow

      level : lev M s.shadow t ≡ 1
      level = (stands M ready map out s.shadow was p hp v (M.tables.levels - 1) (omega (arith, ok.upper)) on).0 ∙ omega (arith, ok.upper)

      owner : own M s.shadow t ≡ p
      owner = (stands M ready map out s.shadow was p hp v (M.tables.levels - 1) (omega (arith, ok.upper)) on).1

      cleared : ent M s₁ t i ≡ 0
      cleared = leaf_entry M ready map out s.shadow was t i 0 on level (index_small M.tables v 1) (pow_pos M.tables.entry_bits) (inl refl)

      beside : (u k : ℕ) → k < entry_count M → (u ≡ t → k ≡ i → ⊥) → ent M s₁ u k ≡ ent M s.shadow u k
      beside = leaf_beside M ready map out s.shadow was t i 0 on level (index_small M.tables v 1) (pow_pos M.tables.entry_bits) (inl refl)

      lessened : (u k : ℕ) → k < entry_count M → Dec (u ≡ t) → Dec (k ≡ i) → (ent M s₁ u k ≡ ent M s.shadow u k) ⊎ (ent M s₁ u k ≡ 0)
      lessened u k hk (yes x) (yes y) = inr (rw (x, y) cleared)
      lessened u k hk (no ne) d = inl (beside u k hk (λ x y. ne x))
      lessened u k hk (yes x) (no ne) = inl (beside u k hk (λ x y. ne y))

      some : Takes v s₁
      some = record {
        trees = leaf_trees M ready map out s.shadow was t i 0 on level (index_small M.tables v 1) (pow_pos M.tables.entry_bits) (inl refl);
        less = record { entries = λ u hu k hk. lessened u k hk (ℕ_discrete u t) (ℕ_discrete k i) };
        others = λ u hu o. record { entries = λ k hk. beside u k hk (λ e x. o.other (ap (own M s.shadow) e ∙ owner)); level = refl; frame = refl; owner = refl };
        gone = zero_absent _ (leaf_here M ready map out s.shadow was p hp v t 0 on level refl (pow_pos M.tables.entry_bits));
      }

    pub leaf_takes : Takes v (on_pool (leaf_cleared M p v) s.shadow)
    unfolding leaf_cleared
    leaf_takes = go (ltb t (table_count M)) refl
      where
        go : (b : Bool) → ltb t (table_count M) ≡ b → Takes v (on_pool (λ pool. cond b (with_entry M t (index M.tables v 1) 0 pool) pool) s.shadow)
        go true q = some (ltb-true t (table_count M) q)
        go false q = none (ltb-false t (table_count M) q)

    -- entries above level 1 stay
    leaf_upper : (u : ℕ) → u < table_count M → 1 < lev M s.shadow u → (k : ℕ) → k < entry_count M
        → ent M (on_pool (leaf_cleared M p v) s.shadow) u k ≡ ent M s.shadow u k
    unfolding leaf_cleared
    leaf_upper u hu up k hk = go (ltb t (table_count M)) refl
      where
        go : (b : Bool) → ltb t (table_count M) ≡ b
            → ent M (on_pool (λ pool. cond b (with_entry M t (index M.tables v 1) 0 pool) pool) s.shadow) u k ≡ ent M s.shadow u k
        go false q = refl
        go true q = let on = ltb-true t (table_count M) q in beside on u k hk (λ x y. omega (arith, level on, ap (lev M s.shadow) x))

    -- WHERE THE PAGE'S LEVEL 1 ENTRY GOES, EVERY SLOT MAY STAY: a path to where a partial one stands reads only tables above
    pub leaf_reshapes : (words slots : List ℕ) → length slots ≡ length s.slots
        → ((q : ℕ) → (q ≡ p → ⊥) → (k : ℕ) → k < slot_count → SameSlot s.slots slots q k)
        → ((k : ℕ) → k < slot_count → Empty slots p k ⊎ SameSlot s.slots slots p k)
        → Reshaped M ok map fits p s (state_of words (on_pool (leaf_cleared M p v) s.shadow) slots)
    leaf_reshapes words slots size others own = record {
      trees = leaf_takes.trees;
      others = leaf_takes.others;
      beside = others;
      own = λ k hk. by_cases (own k hk) (λ x. inl x) (λ x. inr (x, stays k));
      triples = size;
    }
      where
        stays : (k : ℕ) → PathStays M ok map fits s (state_of words (on_pool (leaf_cleared M p v) s.shadow) slots) p k
        stays k lo =
            upper_path M ready map out s.shadow (on_pool (leaf_cleared M p v) s.shadow) was leaf_takes.trees.exact (page_in s.slots p k) p hp 1 leaf_upper
            (M.tables.levels - (mark_of s.slots p k - 1)) (omega arith)

    pub invlpg_takes : Takes v (after_invlpg M p a s).state.shadow
    unfolding after_invlpg
    invlpg_takes = leaf_takes

    pub invlpg_reshapes : Reshaped M ok map fits p s (after_invlpg M p a s).state
    unfolding after_invlpg
    invlpg_reshapes =
        leaf_reshapes s.words (flush p v s.slots) (flush-length p v s.slots) (λ q ne k hk. flush_others p v s.slots q k hk ne)
        (λ k hk. by_cases (flush-here p v s.slots k hk here) (λ x. inr x.0) (λ x. inl x))

  -- ---- "CR3 write: all tables of p freed, root set up anew, all slots of p emptied."

  module _ (f : ℕ) (hf : f < M.frames) where
    abbrev bare : Shadow
    bare = empty_share M p s.shadow

    bare_trees : Trees M map bare
    bare_trees = share_trees M ready map out s.shadow was p hp

    -- no page of p has a path
    pub cr3_takes : (v : ℕ) → Takes v (after_cr3 M p f s).state.shadow
    unfolding after_cr3
    cr3_takes v = record {
      trees = anew;
      less = record { entries = (share_less M ready map out s.shadow was p hp).entries };
      others = λ t ht o.
          let same = share_others M ready map out s.shadow was p hp t ht o.other in
          record {
            entries = same.entries;
            level = root_levels M ready map bare bare_trees p hp f hf t ∙ same.level;
            frame = root_frames M ready map bare bare_trees p hp f hf t (λ q. o.other (ap (own M s.shadow) q ∙ root_owner M ready s.shadow p)) ∙ same.frame;
            owner = root_owners M ready map bare bare_trees p hp f hf t ∙ same.owner;
          };
      gone = go (dec_lt (path_to M bare.pool p v 1).table (table_count M));
    }
      where
        anew : Trees M map (on_records (with_record (root_of M p) M.tables.levels (guest f)) bare)
        anew = root_trees M ready map bare bare_trees p hp f hf

        go : Dec ((path_to M bare.pool p v 1).table < table_count M) → is_present (next_entry M bare.pool v (path_to M bare.pool p v 1)) ≡ true → ⊥
        go (yes on) =
            let u = (path_to M bare.pool p v 1).table in
            let mine = (stands M ready map out bare bare_trees p hp v (M.tables.levels - 1) (omega (arith, ok.upper)) on).1 in
            by-table (own M s.shadow u) p
            (λ o. zero_absent _ (share_own M ready map out s.shadow was p hp u on o _ (index_small M.tables v (path_to M bare.pool p v 1).level)))
            (λ ne. absurd (ne (sym (share_others M ready map out s.shadow was p hp u on ne).owner ∙ mine)))
        go (no off) = zero_absent _ (lost_entry M ready bare bare_trees.exact v (path_to M bare.pool p v 1) (omega arith))

    pub cr3_reshapes : Reshaped M ok map fits p s (after_cr3 M p f s).state
    unfolding after_cr3
    cr3_reshapes = record {
      trees = (cr3_takes 0).trees;
      others = (cr3_takes 0).others;
      beside = λ q ne k hk. empty_slots_other p s.slots q k hk ne;
      own = λ k hk. inl (empty_slots-here p s.slots k hk here);
      triples = empty_slots-length p s.slots;
    }

    pub cr3_root : shd M (after_cr3 M p f s).state.shadow (root_of M p) ≡ f
    unfolding after_cr3
    cr3_root = root_frame M ready map bare bare_trees p hp f hf
