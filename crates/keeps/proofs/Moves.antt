-- Walk steps keep the state rules: begin, extend, and a slot that is lost.
use Rattle.std.specs.Prelude.{Option, Some, None, Ok}
use mathlib.Core.Path.{◌≡◌, refl, sym, ap, ap₂, subst, ◌∙◌}
use mathlib.Core.Bool.{Bool, true, false, cond, ◌&&◌}
use mathlib.Core.List.{List}
use mathlib.Core.Logic.{◌⊎◌, inl, inr}
use Prim.Native.Nat.{ℕ, suc, ◌+◌, ◌-◌, ◌*◌, ◌/◌, ◌^◌, ◌≤◌, ◌<◌}
use native.Mathlib.Nat.{mod-lt}
use native.Mathlib.Decide.{ℕ_discrete}
use native.Mathlib.Omega.{arith}
use lib.Dec.{eqb, ltb}
use lib.Pow.{pow_pos}
use lib.ListN.{length}
use borrow.Author.Tests.{ltb-true, eq-eqb, eqb-true}
use Rattle.paging.specs.declared.Guest.{Guest}
use Rattle.paging.specs.Frame.{guest, host, origin_of}
use Rattle.paging.specs.Layout.{Layout, index, page_of, frame_of, rights_of, is_present}
use Rattle.paging.specs.Walk.{meet}
use Rattle.paging.proofs.Meets.{meet_small}
use Rattle.tables.specs.declared.Path.{Path}
use Rattle.tables.specs.State.{Machine, State, state_of, table_count, root_of, entry_of, named, top, next_entry, down, descend, path_to}
use Rattle.slots.specs.Slots.{slot_count, mark_of, page_in, place_in, rights_in, with_slot, emptied}
use Rattle.paging.proofs.Counts.{by_cases}
use Rattle.shadow.specs.declared.Answer.TheVariants.{Done, NoStep}
use Rattle.shadow.specs.Answer.{Reply, gives}
use Rattle.shadow.specs.Moves.{after_begin, after_extend, after_drop, by_place, place_of, place_below}
use Rattle.shadow.proofs.Extends.{origin_small}
use Rattle.lawful.specs.Rules.{slot_right}
use Rattle.trees.proofs.Trees.{Able, Outside}
use Rattle.trees.proofs.Roots.{root_table}
use Rattle.trees.proofs.Paths.{path-on, path-level}
use Rattle.trees.proofs.Slots.{Room, with_length, with_other, with_mark, with_page, with_place, with_rights_lem, emptied-here}
use Rattle.trees.proofs.SlotRules.{right_partial, right-page, empty_right, complete_right, partial_right}
use Rattle.keeps.proofs.RightStates.{Mapped, RightState, room, one_slot}

pub page_small : (Y : Layout) (a : ℕ) → page_of Y a < 2 ^ (Y.index_bits * Y.levels)
unfolding page_of
page_small Y a = mod-lt (a / 2 ^ 12) (pow_pos (Y.index_bits * Y.levels))

module _ (M : Machine) (ok : Able M) (map : List ℕ) (fits : Mapped M map) (p : ℕ) (hp : p < M.processors) (s : State) (r : RightState M map s) where
  abbrev out : Outside M map
  out = fits.outside

  here : Room s.slots p
  here = room M ok map fits s.slots r.triples p hp

  -- ---- "Drop: emptied"

  pub drop-right : (k : ℕ) → k < slot_count → RightState M map (after_drop p k s).state
  unfolding after_drop
  drop-right k hk =
      one_slot M ok map fits {p = p} {k = k} r (with_length p k 0 0 0 0 s.slots)
      (λ q j hj ne. with_other p k 0 0 0 0 s.slots q j hk hj ne)
      (empty_right M s.shadow.pool (emptied p k s.slots) p k (emptied-here p k s.slots hk here))

  -- ---- a slot is set on its page's path, or holds a complete walk

  module _ (k mark page place rights : ℕ) (hk : k < slot_count) (small : rights < 8) (paged : page < 2 ^ (M.tables.index_bits * M.tables.levels)) where
    abbrev set_slots : List ℕ
    set_slots = with_slot p k mark page place rights s.slots

    set-right : slot_right M s.shadow.pool set_slots p k ≡ true → RightState M map (state_of s.words s.shadow set_slots)
    set-right right =
        one_slot M ok map fits {p = p} {k = k} r (with_length p k mark page place rights s.slots)
        (λ q j hj ne. with_other p k mark page place rights s.slots q j hk hj ne) right

    is_mark : mark_of set_slots p k ≡ mark
    is_mark = with_mark p k mark page place rights s.slots hk here

    is_page : page_in set_slots p k ≡ page
    is_page = with_page p k mark page place rights s.slots hk here

    is_place : place_in set_slots p k ≡ place
    is_place = with_place p k mark page place rights s.slots hk here small

    is_rights : rights_in set_slots p k ≡ rights
    is_rights = with_rights_lem p k mark page place rights s.slots hk here small

    partial : 1 < mark → mark ≤ M.tables.levels + 1 → (path_to M s.shadow.pool p page (mark - 1)).table < table_count M
        → place ≡ (path_to M s.shadow.pool p page (mark - 1)).table → rights ≡ (path_to M s.shadow.pool p page (mark - 1)).rights
        → RightState M map (state_of s.words s.shadow set_slots)
    partial lo hi on ep er =
        let q : path_to M s.shadow.pool p page (mark - 1) ≡ path_to M s.shadow.pool p (page_in set_slots p k) (mark_of set_slots p k - 1) =
        ap₂ (λ (v m : ℕ). path_to M s.shadow.pool p v (m - 1)) (sym is_page) (sym is_mark) in
        set-right (partial_right M s.shadow.pool set_slots p k (omega (arith, is_mark)) (record {
          small = rw is_page paged;
          level = omega (arith, is_mark);
          table = subst (λ (w : Path). w.table < table_count M) q on;
          place = is_place ∙ ep ∙ ap (λ (w : Path). w.table) q;
          rights = is_rights ∙ er ∙ ap (λ (w : Path). w.rights) q;
        }))

    complete : mark ≡ 1 → place < M.frames → RightState M map (state_of s.words s.shadow set_slots)
    complete one inside = set-right (complete_right M s.shadow.pool set_slots p k (is_mark ∙ one) (rw is_page paged) (rw is_place inside))

  -- ---- "Begin: the slot holds a partial walk on the root, rights 7."

  pub begin_right : (a k : ℕ) → k < slot_count → RightState M map (after_begin M p a k s).state
  unfolding after_begin descend
  begin_right a k hk =
      let stays : M.tables.levels - (M.tables.levels + 1 - 1) ≡ 0 = omega arith in
      partial k (M.tables.levels + 1) (page_of M.tables a) (root_of M p) 7 hk (omega arith) (page_small M.tables a) (omega (arith, ok.upper)) (omega arith) (rw stays (root_table M ok p hp)) (rw stays refl) (rw stays refl)

  -- ---- "Extend: a partial slot whose shadow entry is present moves one level; else kind 4."

  module _ (k : ℕ) (hk : k < slot_count) where
    abbrev pub mark : ℕ
    mark = mark_of s.slots p k

    abbrev pub page : ℕ
    page = page_in s.slots p k

    -- the slot's path, where it is partial
    abbrev pub path : Path
    path = path_to M s.shadow.pool p page (mark - 1)

    abbrev pub next : ℕ
    next = next_entry M s.shadow.pool page path

    pub paged : page < 2 ^ (M.tables.index_bits * M.tables.levels)
    paged = right-page M s.shadow.pool s.slots p k (r.law.slots p hp k hk)

    -- from level 1 it moves to a guest frame, from above to a table
    pub place_complete : (l x : ℕ) → l ≡ 1 → place_below M map l next ≡ Some x → origin_of map (host (frame_of M.tables next)) ≡ Some (guest x)
    unfolding place_below
    place_complete l x one q = go (origin_of map (host (frame_of M.tables next))) (simp (eq-eqb l 1 one) at q)
      where
        go : (o : Option Guest) → place_of o ≡ Some x → o ≡ Some (guest x)
        go (Some g) e = let z : g.0 ≡ x = cc in ap (λ (n : ℕ). Some (guest n)) z
        go None e = let z : ◌≡◌ {A = ℕ} 0 1 = cc in absurd (omega arith)

    place_partial : (l x : ℕ) → (l ≡ 1 → ⊥) → place_below M map l next ≡ Some x → (named M next ≡ x) × (x < table_count M)
    unfolding place_below
    place_partial l x ne q = go (eqb l 1) refl (ltb (named M next) (table_count M)) refl q
      where
        go : (a : Bool) → eqb l 1 ≡ a → (b : Bool) → ltb (named M next) (table_count M) ≡ b
            → cond a (place_of (origin_of map (host (frame_of M.tables next)))) (cond b (Some (named M next)) None) ≡ Some x → (named M next ≡ x) × (x < table_count M)
        go true ea b eb e = absurd (ne (eqb-true l 1 ea))
        go false ea true eb e = let z : named M next ≡ x = cc in (z, rw z at (ltb-true (named M next) (table_count M) eb))
        go false ea false eb e = let z : ◌≡◌ {A = ℕ} 0 1 = cc in absurd (omega arith)

    -- the slot moves to a place by the next entry of its path
    pub record Moves (s' : State) : Type 0 where
      pub partial : 1 < mark
      pub low : mark ≤ M.tables.levels + 1
      pub table : path.table < table_count M
      pub present : is_present next ≡ true
      pub place : ℕ
      pub at : place_below M map (mark - 1) next ≡ Some place
      pub is : s' ≡ state_of s.words s.shadow (with_slot p k (mark - 1) page place (meet path.rights (rights_of M.tables next)) s.slots)

    -- AN EXTENSION CHANGES NOTHING, OR MOVES THE SLOT
    pub extends : ((after_extend M map p k s).state ≡ s) ⊎ Moves (after_extend M map p k s).state
    unfolding after_extend
    extends = first (ltb 1 mark) refl (is_present e) refl
      where
        e : ℕ
        e = entry_of M s.shadow.pool (place_in s.slots p k) (index M.tables page (mark - 1))

        rights : ℕ
        rights = meet (rights_in s.slots p k) (rights_of M.tables e)

        on : ℕ → Reply
        on place = gives Done (state_of s.words s.shadow (with_slot p k (mark - 1) page place rights s.slots))

        second : 1 < mark → is_present e ≡ true → (x : Option ℕ) → place_below M map (mark - 1) e ≡ x
            → ((by_place x on (gives NoStep s)).state ≡ s) ⊎ Moves (by_place x on (gives NoStep s)).state
        second lo there None q = inl refl
        second lo there (Some x) q =
            let st = right_partial M s.shadow.pool s.slots p k (r.law.slots p hp k hk) lo in
            let level : path.level ≡ mark - 1 = path-level M s.shadow.pool page (M.tables.levels - (mark - 1)) (top M p) ∙ omega (arith, st.level) in
            let same : e ≡ next = ap₂ (λ (t l : ℕ). entry_of M s.shadow.pool t (index M.tables page l)) st.place (sym level) in
            inr (record {
              partial = lo;
              low = st.level;
              table = st.table;
              present = rw same at there;
              place = x;
              at = rw same at q;
              is = ap₂ (λ (a b : ℕ). state_of s.words s.shadow (with_slot p k (mark - 1) page x (meet a (rights_of M.tables b)) s.slots)) st.rights same;
            })

        first : (a : Bool) → ltb 1 mark ≡ a → (b : Bool) → is_present e ≡ b
            → ((cond (a && b) (by_place (place_below M map (mark - 1) e) on (gives NoStep s)) (gives NoStep s)).state ≡ s)
            ⊎ Moves (cond (a && b) (by_place (place_below M map (mark - 1) e) on (gives NoStep s)) (gives NoStep s)).state
        first false qa b qb = inl refl
        first true qa false qb = inl refl
        first true qa true qb = second (ltb-true 1 mark qa) qb (place_below M map (mark - 1) e) refl

    pub extend_right : RightState M map (after_extend M map p k s).state
    extend_right =
        by_cases extends
        (λ q. rw q r)
        (λ m.
        rw m.is
        (moved m (ℕ_discrete mark 2)))
      where
        moved : (m : Moves (after_extend M map p k s).state) → Dec (mark ≡ 2)
            → RightState M map (state_of s.words s.shadow (with_slot p k (mark - 1) page m.place (meet path.rights (rights_of M.tables next)) s.slots))
        moved m (yes two) =
            let q : mark - 1 ≡ 1 = omega arith in
            let o = place_complete (mark - 1) m.place q m.at in
            complete k (mark - 1) page m.place (meet path.rights (rights_of M.tables next)) hk (meet_small path.rights (rights_of M.tables next)) paged q
            (omega (arith, origin_small map (host (frame_of M.tables next)) 0 (guest m.place) o, fits.guests))
        moved m (no more) =
            let lo : 1 < mark - 1 = omega (arith, m.partial) in
            let o = place_partial (mark - 1) m.place (λ q. omega arith) m.at in
            let q : M.tables.levels - (mark - 1 - 1) ≡ suc (M.tables.levels - (mark - 1)) = omega (arith, m.low) in
            let w : path_to M s.shadow.pool p page (mark - 1 - 1) ≡ down M path next =
            ap (λ (n : ℕ). descend M s.shadow.pool page n (top M p)) q ∙ path-on M s.shadow.pool page (M.tables.levels - (mark - 1)) (top M p) in
            partial k (mark - 1) page m.place (meet path.rights (rights_of M.tables next)) hk (meet_small path.rights (rights_of M.tables next)) paged lo (omega (arith, m.low))
            (rw (w, o.0) o.1) (sym o.0 ∙ sym (ap (λ (x : Path). x.table) w)) (sym (ap (λ (x : Path). x.rights) w))

    pub extend_words : length (after_extend M map p k s).state.words ≡ length s.words
    extend_words = by_cases extends (λ q. ap (λ (x : State). length x.words) q) (λ m. ap (λ (x : State). length x.words) m.is)

-- an extension is done, or takes no step
pub extend_answer : (M : Machine) (map : List ℕ) (p k : ℕ) (s : State) → ((after_extend M map p k s).answer ≡ Ok Done) ⊎ ((after_extend M map p k s).answer ≡ Ok NoStep)
unfolding after_extend
extend_answer M map p k s = go (ltb 1 mark && is_present e) (place_below M map (mark - 1) e)
  where
    mark : ℕ
    mark = mark_of s.slots p k

    e : ℕ
    e = entry_of M s.shadow.pool (place_in s.slots p k) (index M.tables (page_in s.slots p k) (mark - 1))

    on : ℕ → Reply
    on place = gives Done (state_of s.words s.shadow (with_slot p k (mark - 1) (page_in s.slots p k) place (meet (rights_in s.slots p k) (rights_of M.tables e)) s.slots))

    go : (b : Bool) (x : Option ℕ) → ((cond b (by_place x on (gives NoStep s)) (gives NoStep s)).answer ≡ Ok Done) ⊎ ((cond b (by_place x on (gives NoStep s)) (gives NoStep s)).answer ≡ Ok NoStep)
    go true (Some x) = inl refl
    go true None = inr refl
    go false x = inr refl
