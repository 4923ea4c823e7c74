-- A present entry that a partial slot stands before leads somewhere: by the state rules it names a table, or at level 1 a mapped frame.
use Rattle.std.specs.Prelude.{Option, Some, None, Ok}
use mathlib.Core.Path.{◌≡◌, refl, ap, ◌∙◌}
use mathlib.Core.Bool.{Bool, true, cond, ◌&&◌}
use mathlib.Core.List.{List}
use Prim.Native.Nat.{ℕ, ◌-◌, ◌<◌}
use native.Mathlib.Decide.{ℕ_discrete}
use native.Mathlib.Omega.{arith}
use borrow.Author.Tests.{eq-eqb, ne_eqb, lt-ltb}
use Rattle.paging.specs.declared.Guest.{Guest}
use Rattle.paging.specs.Frame.{host, origin_of}
use Rattle.paging.specs.Layout.{index, frame_of, rights_of, bit, is_present}
use Rattle.paging.specs.Walk.{meet}
use Rattle.paging.proofs.Tests.{both}
use Rattle.paging.proofs.Indices.{index_small}
use Rattle.tables.specs.State.{Machine, State, state_of, table_count, entry_count, entry_of, named}
use Rattle.slots.specs.Slots.{slot_count, mark_of, page_in, place_in, rights_in, with_slot}
use Rattle.paging.proofs.Counts.{by_cases}
use Rattle.lawful.specs.Rules.{is_of, is_mapped, is_made_with, is_leaf}
use Rattle.shadow.specs.declared.Answer.TheVariants.{Done, NoStep}
use Rattle.shadow.specs.Answer.{Reply, gives}
use Rattle.shadow.specs.Moves.{by_place, place_of, place_below, after_extend}
use Rattle.trees.proofs.Trees.{Able, lev}
use Rattle.trees.proofs.Entries.{branch_names}
use Rattle.trees.proofs.Paths.{stands, zero_absent}
use Rattle.trees.proofs.Slots.{Room, with_mark, with_page}
use Rattle.trees.proofs.SlotRules.{right_partial}
use Rattle.keeps.proofs.RightStates.{Mapped, RightState, room}

mapped_place : (o : Option Guest) → is_of o ≡ true → (x : ℕ) × (place_of o ≡ Some x)
mapped_place (Some g) e = (g.0, refl)
mapped_place None e = let n : ◌≡◌ {A = ℕ} 0 1 = cc in absurd (omega arith)

module _ (M : Machine) (ok : Able M) (map : List ℕ) (fits : Mapped M map) (p : ℕ) (hp : p < M.processors) (s : State) (r : RightState M map s) (k : ℕ) (hk : k < slot_count) where
  abbrev mark : ℕ
  mark = mark_of s.slots p k

  abbrev page : ℕ
  page = page_in s.slots p k

  abbrev table : ℕ
  table = place_in s.slots p k

  abbrev entry : ℕ
  entry = entry_of M s.shadow.pool table (index M.tables page (mark - 1))

  module _ (partial : 1 < mark) (present : is_present entry ≡ true) where
    -- the slot's table is of its level
    stood : (table < table_count M) × (lev M s.shadow table ≡ mark - 1)
    stood =
        let st = right_partial M s.shadow.pool s.slots p k (r.law.slots p hp k hk) partial in
        let on = stands M ok map fits.outside s.shadow r.law.trees p hp page (M.tables.levels - (mark - 1)) (omega (arith, st.level)) st.table in
        (rw st.place st.table, ap (lev M s.shadow) st.place ∙ on.0 ∙ omega (arith, st.level))

    leads : (x : ℕ) × (place_below M map (mark - 1) entry ≡ Some x)
    unfolding place_below
    leads = go (ℕ_discrete (mark - 1) 1)
      where
        small : index M.tables page (mark - 1) < entry_count M
        small = index_small M.tables page (mark - 1)

        go : Dec (mark - 1 ≡ 1) → (x : ℕ) × (place_below M map (mark - 1) entry ≡ Some x)
        go (yes one) =
            by_cases (r.law.trees.leaf table stood.0 (stood.1 ∙ one) (index M.tables page (mark - 1)) small)
            (λ z. absurd (zero_absent entry z present))
            (λ leaf.
            let l = (both (is_made_with M.tables (bit entry 1) entry) (is_mapped map (frame_of M.tables entry)) (unfold is_leaf in leaf)).1 in
            let x = mapped_place (origin_of map (host (frame_of M.tables entry))) l in
            (x.0, simp (eq-eqb (mark - 1) 1 one) x.1))
        go (no more) =
            by_cases (r.law.trees.branch table stood.0 (omega (arith, stood.1)) (index M.tables page (mark - 1)) small)
            (λ z. absurd (zero_absent entry z present))
            (λ b. (named M entry, simp (ne_eqb (mark - 1) 1 more, lt-ltb (named M entry) (table_count M) (branch_names M entry b.made))))

    abbrev rights : ℕ
    rights = meet (rights_in s.slots p k) (rights_of M.tables entry)

    -- SO THE SLOT MOVES
    pub moves : ((after_extend M map p k s).answer ≡ Ok Done) × (mark_of (after_extend M map p k s).state.slots p k ≡ mark - 1)
        × (page_in (after_extend M map p k s).state.slots p k ≡ page)
    moves = rw is
        (refl, with_mark p k (mark - 1) page leads.0 rights s.slots hk here, with_page p k (mark - 1) page leads.0 rights s.slots hk here)
      where
        here : Room s.slots p
        here = room M ok map fits s.slots r.triples p hp

        on : ℕ → Reply
        on place = gives Done (state_of s.words s.shadow (with_slot p k (mark - 1) page place rights s.slots))

        is : after_extend M map p k s ≡ on leads.0
        is = unfold after_extend in
            (ap (λ (b : Bool). cond (b && is_present entry) (by_place (place_below M map (mark - 1) entry) on (gives NoStep s)) (gives NoStep s)) (lt-ltb 1 mark partial)
            ∙ ap (λ (b : Bool). cond b (by_place (place_below M map (mark - 1) entry) on (gives NoStep s)) (gives NoStep s)) present
            ∙ ap (λ (x : Option ℕ). by_place x on (gives NoStep s)) leads.1)
