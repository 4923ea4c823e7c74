-- What the state rules ask of a slot, by its mark; and that it carries over where the slot and its path stay.
use mathlib.Core.Path.{◌≡◌, ap, ◌∙◌}
use mathlib.Core.Bool.{Bool, true, cond, ◌&&◌}
use mathlib.Core.List.{List}
use Prim.Native.Nat.{ℕ, ◌+◌, ◌-◌, ◌*◌, ◌/◌, ◌%◌, ◌^◌, ◌≤◌, ◌<◌}
use native.Mathlib.Omega.{arith}
use lib.Dec.{eqb, ltb, leb}
use lib.Pow.{pow_pos}
use borrow.Author.Tests.{eq-eqb, ne_eqb, lt-ltb, le-leb, eqb-true, ltb-true, leb-true}
use Rattle.paging.proofs.Tests.{both}
use Rattle.tables.specs.declared.Path.{Path}
use Rattle.tables.specs.State.{Machine, table_count, path_to}
use Rattle.slots.specs.Slots.{mark_of, page_in, place_in, rights_in}
use Rattle.paging.proofs.Counts.{by_cases}
use Rattle.lawful.specs.Rules.{is_on_path, slot_right}
use Rattle.trees.proofs.Tests.{zero_one_more}
use Rattle.trees.proofs.Slots.{SameSlot, Empty}

module _ {slots slots' : List ℕ} {p k : ℕ} (same : SameSlot slots slots' p k) where
  pub same_place : place_in slots' p k ≡ place_in slots p k
  same_place = ap (λ (x : ℕ). x / 8) same.third

  pub same-rights : rights_in slots' p k ≡ rights_in slots p k
  same-rights = ap (λ (x : ℕ). x % 8) same.third

  pub same-right : (M : Machine) (pool : List ℕ) → slot_right M pool slots' p k ≡ slot_right M pool slots p k
  unfolding slot_right
  same-right M pool =
      λ j.
      ltb (same.page j) (2 ^ (M.tables.index_bits * M.tables.levels))
      && cond (eqb (same.mark j) 0) (eqb (same.page j) 0 && eqb (same_place j) 0 && eqb (same-rights j) 0)
      (cond (eqb (same.mark j) 1) (ltb (same_place j) M.frames)
      (leb (same.mark j) (M.tables.levels + 1)
      && is_on_path M pool p (same.page j) (same.mark j - 1) (same_place j) (same-rights j)))

module _ (M : Machine) (pool slots : List ℕ) (p k : ℕ) where
  abbrev mark : ℕ
  mark = mark_of slots p k

  abbrev page : ℕ
  page = page_in slots p k

  abbrev pages : ℕ
  pages = 2 ^ (M.tables.index_bits * M.tables.levels)

  -- the path of the slot's page to its level
  abbrev path : Path
  path = path_to M pool p page (mark - 1)

  pub empty_right : Empty slots p k → slot_right M pool slots p k ≡ true
  unfolding slot_right
  empty_right e = simp (e.mark, e.page, e.third, lt-ltb 0 pages (pow_pos (M.tables.index_bits * M.tables.levels)))

  pub complete_right : mark ≡ 1 → page < pages → place_in slots p k < M.frames → slot_right M pool slots p k ≡ true
  unfolding slot_right
  complete_right q small inside = simp (q, lt-ltb page pages small, lt-ltb (place_in slots p k) M.frames inside)

  -- a partial slot that is right
  pub record Standing : Type 0 where
    pub small : page < pages
    pub level : mark ≤ M.tables.levels + 1
    pub table : path.table < table_count M
    pub place : place_in slots p k ≡ path.table
    pub rights : rights_in slots p k ≡ path.rights

  pub partial_right : 1 < mark → Standing → slot_right M pool slots p k ≡ true
  unfolding slot_right is_on_path
  partial_right h s =
      simp (
        lt-ltb page pages s.small,
        ne_eqb mark 0 (λ q. omega arith),
        ne_eqb mark 1 (λ q. omega arith),
        le-leb mark (M.tables.levels + 1) s.level,
        lt-ltb path.table (table_count M) s.table,
        eq-eqb (place_in slots p k) path.table s.place,
        eq-eqb (rights_in slots p k) path.rights s.rights,
      )

  -- what is asked below the page's bound, by the path
  abbrev zeros : Bool
  zeros = eqb page 0 && eqb (place_in slots p k) 0 && eqb (rights_in slots p k) 0

  abbrev stands : Path → Bool
  stands w = ltb w.table (table_count M) && eqb (place_in slots p k) w.table && eqb (rights_in slots p k) w.rights

  abbrev by_mark : Path → Bool
  by_mark w = cond (eqb mark 0) zeros (cond (eqb mark 1) (ltb (place_in slots p k) M.frames) (leb mark (M.tables.levels + 1) && stands w))

  module _ (right : slot_right M pool slots p k ≡ true) where
    asked : (ltb page pages ≡ true) × (by_mark path ≡ true)
    unfolding slot_right is_on_path
    asked = both (ltb page pages) (by_mark path) right

    pub right-page : page < pages
    right-page = ltb-true page pages asked.0

    pub right_complete : mark ≡ 1 → place_in slots p k < M.frames
    right_complete q = ltb-true (place_in slots p k) M.frames (simp q at asked.1)

    pub right_partial : 1 < mark → Standing
    right_partial h =
        let (level, rest) = both (leb mark (M.tables.levels + 1)) (stands path) (simp (ne_eqb mark 0 (λ q. omega arith), ne_eqb mark 1 (λ q. omega arith)) at asked.1) in
        let (on, rights) = both (ltb path.table (table_count M) && eqb (place_in slots p k) path.table) (eqb (rights_in slots p k) path.rights) rest in
        let (table, place) = both (ltb path.table (table_count M)) (eqb (place_in slots p k) path.table) on in
        record {
          small = right-page;
          level = leb-true mark (M.tables.levels + 1) level;
          table = ltb-true path.table (table_count M) table;
          place = eqb-true (place_in slots p k) path.table place;
          rights = eqb-true (rights_in slots p k) path.rights rights;
        }

  -- A SLOT STAYS RIGHT WHERE ITS PATH STAYS, and only a partial one asks for that
  pub path_right : (pool' : List ℕ) → (1 < mark → path_to M pool' p page (mark - 1) ≡ path) → slot_right M pool' slots p k ≡ slot_right M pool slots p k
  unfolding slot_right is_on_path
  path_right pool' same =
      by_cases (zero_one_more mark)
      (λ z. simp z)
      (λ some. by_cases some (λ q. simp q) (λ h. ap (λ (w : Path). ltb page pages && by_mark w) (same h)))

-- ---- after the steps

module _ (M : Machine) (pool pool' slots : List ℕ) (p k : ℕ) where
  -- A SLOT STAYS RIGHT where it and its path stay
  pub stays_right : {slots' : List ℕ} → SameSlot slots slots' p k
      → (1 < mark_of slots p k → path_to M pool' p (page_in slots p k) (mark_of slots p k - 1) ≡ path_to M pool p (page_in slots p k) (mark_of slots p k - 1))
      → slot_right M pool slots p k ≡ true → slot_right M pool' slots' p k ≡ true
  stays_right same path right = same-right same M pool' ∙ path_right M pool slots p k pool' path ∙ right
