-- An access that no slot answers: the shadow path does, or a miss.
use mathlib.Core.Path.{◌≡◌, refl, ap, ap₂, ◌∙◌}
use mathlib.Core.Bool.{true, false, cond, ◌&&◌}
use mathlib.Core.List.{List}
use Prim.Native.Nat.{ℕ, zero, suc, ◌-◌, ◌<◌, ◌≤◌}
use native.Mathlib.Omega.{arith}
use lib.Dec.{ltb}
use borrow.Author.Tests.{le-ltb}
use Rattle.paging.specs.declared.Request.{Request}
use Rattle.paging.specs.Frame.{guest, host, host_of, host_address}
use Rattle.paging.specs.Layout.{index, page_of, frame_of, rights_of, is_present}
use Rattle.paging.specs.Request.{request_of, enough}
use Rattle.paging.specs.Walk.{meet}
use Rattle.paging.proofs.Meets.{meet_small}
use Rattle.tables.specs.declared.Path.{Path}
use Rattle.tables.specs.State.{Machine, State, table_count, root_of, entry_of, top, down, next_entry, descend, path_to}
use Rattle.slots.specs.Slots.{place_in, serving_slot}
use Rattle.tables.proofs.Names.{named_small}
use Rattle.shadow.specs.declared.Answer.TheVariants.{Address}
use Rattle.shadow.specs.Answer.{Reply, gives}
use Rattle.shadow.specs.Access.{after_miss, after_access}

-- where a path stands is in range
pub record OnPath (M : Machine) (l : ℕ) (w : Path) : Type 0 where
  pub level : w.level ≡ l
  pub table : w.table ≤ table_count M
  pub rights : w.rights < 8

-- the same but for rights, which are in range where those that the path starts with are
pub record AtTable (M : Machine) (l : ℕ) (w : Path) : Type 0 where
  pub level : w.level ≡ l
  pub table : w.table ≤ table_count M

descend_range : (M : Machine) (pool : List ℕ) (page n l : ℕ) (w : Path) → AtTable M l w → AtTable M (l - n) (descend M pool page n w)
unfolding descend
descend_range M pool page zero l w on = record { level = omega (arith, on.level); table = on.table }
descend_range M pool page (suc n) l w on =
    let e = next_entry M pool page w in
    let r = descend_range M pool page n (l - 1) (down M w e)
    (record { level = omega (arith, on.level); table = named_small M e }) in
    record { level = omega (arith, r.level); table = r.table }

pub descend_small : (M : Machine) (pool : List ℕ) (page n : ℕ) (w : Path) → w.rights < 8 → (descend M pool page n w).rights < 8
unfolding descend
descend_small M pool page zero w h = h
descend_small M pool page (suc n) w h =
    let e = next_entry M pool page w in
    descend_small M pool page n (down M w e) (meet_small w.rights (rights_of M.tables e))

descend_on_path : (M : Machine) (pool : List ℕ) (page n l : ℕ) (w : Path) → OnPath M l w → OnPath M (l - n) (descend M pool page n w)
descend_on_path M pool page n l w on =
    let r = descend_range M pool page n l w (record { level = on.level; table = on.table }) in
    record { level = r.level; table = r.table; rights = descend_small M pool page n w on.rights }

pub path_range : (M : Machine) (pool : List ℕ) (p page l : ℕ) → root_of M p ≤ table_count M → l ≤ M.tables.levels → OnPath M l (path_to M pool p page l)
path_range M pool p page l h hl =
    let r = descend_on_path M pool page (M.tables.levels - l) M.tables.levels (top M p)
    (record { level = refl; table = h; rights = omega arith }) in
    record { level = omega (arith, r.level); table = r.table; rights = r.rights }

module _ (M : Machine) (map : List ℕ) (p a r : ℕ) (s : State) where
  abbrev by_all : ℕ → Request → ℕ → Path → ℕ → Reply
  by_all page q k w e =
      cond (ltb k 8)
      (gives (Address (host_address (host_of map (guest (place_in s.slots p k))) a)) s)
      (cond (is_present e && enough q (meet w.rights (rights_of M.tables e)))
      (gives (Address (host_address (host (frame_of M.tables e)) a)) s)
      (after_miss M map p page q s))

  module _ {page : ℕ} {q : Request} {k : ℕ} (ep : page ≡ page_of M.tables a) (eq : q ≡ request_of M.tables r) (ek : k ≡ serving_slot s.slots p page q) where
    spelt : (w : Path) (e : ℕ) → w ≡ path_to M s.shadow.pool p page 1 → e ≡ next_entry M s.shadow.pool page w → by_all page q k w e ≡ after_access M map p a r s
    unfolding after_access
    spelt w e ew ee =
        let w' = ew ∙ ap (λ (v : ℕ). path_to M s.shadow.pool p v 1) ep in
        let k' = ek ∙ ap₂ (serving_slot s.slots p) ep eq in
        let e' = ee ∙ ap₂ (next_entry M s.shadow.pool) ep w' in
        (λ j. by_all (ep j) (eq j) (k' j) (w' j) (e' j))

    module _ (none : 8 ≤ k) (w : Path) (i e : ℕ) (ew : w ≡ path_to M s.shadow.pool p page 1) (ei : i ≡ index M.tables page w.level) (ee : e ≡ entry_of M s.shadow.pool w.table i) where
      entry_is : e ≡ next_entry M s.shadow.pool page w
      entry_is = ee ∙ ap (entry_of M s.shadow.pool w.table) ei

      pub access_path : is_present e && enough q (meet w.rights (rights_of M.tables e)) ≡ true → {v : ℕ} → v ≡ host_address (host (frame_of M.tables e)) a
          → gives (Address v) s ≡ after_access M map p a r s
      access_path serves ev =
          ap (λ (v : ℕ). gives (Address v) s) ev ∙ (simp (le-ltb k 8 none, serves) at (spelt w e ew entry_is))

      pub access_miss : is_present e && enough q (meet w.rights (rights_of M.tables e)) ≡ false → {d : Reply} → d ≡ after_miss M map p page q s → d ≡ after_access M map p a r s
      access_miss fails ed = ed ∙ (simp (le-ltb k 8 none, fails) at (spelt w e ew entry_is))
