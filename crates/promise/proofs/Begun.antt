-- The state after setup: roots with their CR3s, all else zeros. So the tables are trees, and every slot is empty.
use mathlib.Core.Path.{◌≡◌, refl, sym, ap, ◌∙◌}
use mathlib.Core.Bool.{true, false}
use mathlib.Core.List.{List}
use mathlib.Core.Logic.{inl}
use Prim.Native.Nat.{ℕ, zero, suc, ◌+◌, ◌*◌, ◌/◌, ◌%◌, ◌≤◌, ◌<◌}
use native.Mathlib.Nat.{div-lt_iff_lt-mul}
use native.Mathlib.Omega.{arith}
use lib.ListN.{length, get_or, replicate, length-replicate}
use borrow.Author.Tests.{eq-eqb, ne_eqb}
use Rattle.paging.specs.Frame.{guest}
use Rattle.paging.specs.Layout.{frame_words, get}
use Rattle.paging.specs.Numbers.{each}
use Rattle.tables.specs.State.{Machine, Shadow, shadow_of, on_records, State, record_size, with_record, table_count, home_of, root_of}
use Rattle.lawful.specs.Rules.{is_root}
use Rattle.trees.proofs.Trees.{Able, Exact, ent, lev, shd, Names, Trees}
use Rattle.trees.proofs.Entries.{level-here, frame_here, level_other, frame_other, record_exact, zero_names_none}
use Rattle.trees.proofs.Hangs.{by-table}
use Rattle.trees.proofs.Roots.{root_table, root_home, root_is, home_not}
use Rattle.slots.specs.Slots.{mark_of, page_in, place_in, rights_in, slot_at}
use Rattle.shadow.specs.Setup.{rooted, started}

-- zeros are zero everywhere, past the end too
zeros-at : (n k : ℕ) → get_or {A = ℕ} (replicate n 0) k 0 ≡ 0
zeros-at zero k = refl
zeros-at (suc n) zero = refl
zeros-at (suc n) (suc k) = zeros-at n k

module _ (M : Machine) (ok : Able M) (cr3s : List ℕ) where
  abbrev zeros : List ℕ
  zeros = replicate (frame_words * table_count M) 0

  zero_entry : (t i : ℕ) (records : List ℕ) → ent M (shadow_of zeros records) t i ≡ 0
  unfolding get
  zero_entry t i records =
      ap (M.tables.part i) (zeros-at (frame_words * table_count M) (M.tables.place t i)) ∙ ok.sound.zero_part i

  -- the roots of the first n processors are set up, all other records are zeros
  record Rooted (n : ℕ) (s : Shadow) : Type 0 where
    exact : Exact M s
    root : (p : ℕ) → p < n → (lev M s (root_of M p) ≡ M.tables.levels) × (shd M s (root_of M p) ≡ get_or cr3s p 0)
    others : (v : ℕ) → ((p : ℕ) → p < n → v ≡ root_of M p → ⊥) → (lev M s v ≡ 0) × (shd M s v ≡ 0)

  rooted_more : {n : ℕ} {s : Shadow} → n < M.processors → Rooted n s → Rooted (suc n) (on_records (with_record (root_of M n) M.tables.levels (guest (get_or cr3s n 0))) s)
  rooted_more {n} {s} h r = record {
    exact = record_exact M ok s r.exact (root_of M n) M.tables.levels (guest (get_or cr3s n 0)) (root_table M ok n h);
    root = λ p lt. by-table p n (λ q. rw q here) (λ ne. let o = r.root p (omega (arith, ne)) in let k = kept (root_of M p) (λ q. ne (apart q)) in (k.0 ∙ o.0, k.1 ∙ o.1));
    others = λ v no_one. let o = r.others v (λ p lt. no_one p (omega arith)) in let k = kept v (no_one n (omega arith)) in (k.0 ∙ o.0, k.1 ∙ o.1);
  }
    where
      s' : Shadow
      s' = on_records (with_record (root_of M n) M.tables.levels (guest (get_or cr3s n 0))) s

      here : (lev M s' (root_of M n) ≡ M.tables.levels) × (shd M s' (root_of M n) ≡ get_or cr3s n 0)
      here = (
        level-here M ok s r.exact (root_of M n) M.tables.levels (guest (get_or cr3s n 0)) (root_table M ok n h),
        frame_here M ok s r.exact (root_of M n) M.tables.levels (guest (get_or cr3s n 0)) (root_table M ok n h),
      )

      kept : (v : ℕ) → (v ≡ root_of M n → ⊥) → (lev M s' v ≡ lev M s v) × (shd M s' v ≡ shd M s v)
      kept v ne = (
        level_other M ok s r.exact (root_of M n) M.tables.levels (guest (get_or cr3s n 0)) (root_table M ok n h) v ne,
        frame_other M ok s r.exact (root_of M n) M.tables.levels (guest (get_or cr3s n 0)) (root_table M ok n h) v ne,
      )

      apart : {p : ℕ} → root_of M p ≡ root_of M n → p ≡ n
      apart {p} q = sym (root_home M ok p) ∙ ap (home_of M) q ∙ root_home M ok n

  rooted_turns : (n : ℕ) → n ≤ M.processors
      → Rooted n (shadow_of zeros (each n (λ p. with_record (root_of M p) M.tables.levels (guest (get_or cr3s p 0))) (replicate (record_size * table_count M) 0)))
  unfolding each
  rooted_turns zero h = record {
    exact = record { words = length-replicate _ 0; pairs = length-replicate _ 0 };
    root = λ p lt. absurd (omega arith);
    others = λ v no_one. (zeros-at (record_size * table_count M) (record_size * v), zeros-at (record_size * table_count M) (record_size * v + 1));
  }
  rooted_turns (suc n) h = rooted_more (omega arith) (rooted_turns n (omega arith))

  all_rooted : Rooted M.processors (shadow_of zeros (rooted M cr3s (replicate (record_size * table_count M) 0)))
  unfolding rooted
  all_rooted = rooted_turns M.processors (omega arith)

module _ (M : Machine) (ok : Able M) (cr3s words : List ℕ) where
  abbrev s : State
  s = started M cr3s words

  -- ---- what stands where

  pub begun_entries : (t i : ℕ) → ent M s.shadow t i ≡ 0
  begun_entries t i = zero_entry M ok cr3s t i s.shadow.records

  pub begun-level : (p : ℕ) → p < M.processors → lev M s.shadow (root_of M p) ≡ M.tables.levels
  begun-level p h = ((all_rooted M ok cr3s).root p h).0

  pub begun-frame : (p : ℕ) → p < M.processors → shd M s.shadow (root_of M p) ≡ get_or cr3s p 0
  begun-frame p h = ((all_rooted M ok cr3s).root p h).1

  pub begun_slots : (p k : ℕ) → (mark_of s.slots p k ≡ 0) × (page_in s.slots p k ≡ 0) × (place_in s.slots p k ≡ 0) × (rights_in s.slots p k ≡ 0)
  begun_slots p k = (
    zeros-at (24 * M.processors) (slot_at p k),
    zeros-at (24 * M.processors) (slot_at p k + 1),
    ap (λ (x : ℕ). x / 8) (zeros-at (24 * M.processors) (slot_at p k + 2)),
    ap (λ (x : ℕ). x % 8) (zeros-at (24 * M.processors) (slot_at p k + 2)),
  )

  pub begun_triples : length s.slots ≡ 24 * M.processors
  begun_triples = length-replicate _ 0

  -- ---- trees

  home_small : (v : ℕ) → v < table_count M → home_of M v < M.processors
  home_small v h = (div-lt_iff_lt-mul ok.some).1 h

  record Root (v : ℕ) : Type 0 where
    is : is_root M v ≡ true
    level : lev M s.shadow v ≡ M.tables.levels
    frame : shd M s.shadow v ≡ get_or cr3s (home_of M v) 0

  record Free (v : ℕ) : Type 0 where
    is : is_root M v ≡ false
    level : lev M s.shadow v ≡ 0
    frame : shd M s.shadow v ≡ 0

  -- a table is a root, or free
  by_root : {A : Type 0} (v : ℕ) → v < table_count M → (Root v → A) → (Free v → A) → A
  by_root v h f g =
      by-table v (root_of M (home_of M v))
      (λ q. f record {
        is = ap (is_root M) q ∙ root_is M ok (home_of M v);
        level = ap (lev M s.shadow) q ∙ begun-level (home_of M v) (home_small v h);
        frame = ap (shd M s.shadow) q ∙ begun-frame (home_of M v) (home_small v h);
      })
      (λ ne.
      let no_one : (p : ℕ) → p < M.processors → v ≡ root_of M p → ⊥ = λ p lt q. ne (q ∙ ap (root_of M) (sym (ap (home_of M) q ∙ root_home M ok p))) in
      let o = (all_rooted M ok cr3s).others v no_one in
      g record { is = home_not M ok v ne; level = o.0; frame = o.1 })

  none : {v k x : ℕ} → Names M s.shadow v k x → ⊥
  none {v} {k} m = zero_names_none M (ent M s.shadow v k) (begun_entries v k) (rw m.names m.is)

  -- AFTER SETUP THE TABLES ARE TREES
  pub begun_trees : (map : List ℕ) → ((p : ℕ) → p < M.processors → get_or cr3s p 0 < M.frames) → Trees M map s.shadow
  begun_trees map below = record {
    exact = (all_rooted M ok cr3s).exact;
    bound = λ v h. by_root v h (λ r. omega (arith, r.level)) (λ f. omega (arith, f.level));
    roots = λ v h.
        by_root v h
        (λ r. r.is ∙ sym (eq-eqb _ _ r.level))
        (λ f. f.is ∙ sym (ne_eqb (lev M s.shadow v) M.tables.levels (λ q. omega (arith, f.level, ok.upper))));
    frames = λ v h. let l = below (home_of M v) (home_small v h) in by_root v h (λ r. omega (arith, r.frame)) (λ f. omega (arith, f.frame));
    free = λ v h z. (by_root v h (λ r. absurd (omega (arith, r.level, ok.upper))) (λ f. f.frame), λ k hk. begun_entries v k);
    leaf = λ v h z k hk. inl (begun_entries v k);
    branch = λ v h z k hk. inl (begun_entries v k);
    name = λ u h lo hi. by_root u h (λ r. absurd (omega (arith, r.level))) (λ f. absurd (omega (arith, f.level)));
    one = λ a b. absurd (none a);
  }
