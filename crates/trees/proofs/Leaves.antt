-- Writing or clearing an entry of a level 1 table keeps the trees, and the entry that a fill writes is a leaf.
use Rattle.std.specs.Prelude.{Some}
use mathlib.Core.Path.{◌≡◌, refl, sym, ap, ap₂, subst, ◌∙◌}
use mathlib.Core.Bool.{Bool, true, false, cond}
use mathlib.Core.List.{List, [], ◌∷◌}
use mathlib.Core.Logic.{◌⊎◌, inl, inr}
use Prim.Native.Nat.{ℕ, zero, suc, ◌+◌, ◌*◌, ◌/◌, ◌%◌, ◌^◌, ◌<◌, min}
use native.Mathlib.Decide.{ℕ_discrete}
use native.Mathlib.Omega.{arith}
use lib.Dec.{eqb}
use lib.ListN.{length, get_or}
use borrow.Author.Tests.{eq-eqb}
use Rattle.paging.specs.declared.Host.{Host}
use Rattle.paging.specs.Frame.{guest, host, origin_from}
use Rattle.paging.specs.Layout.{Layout, bit, frame_of, rights_of, compose, is_present}
use Rattle.paging.specs.Walk.{meet}
use Rattle.paging.proofs.Layouts.{composed_present, composed_rights}
use Rattle.paging.proofs.Meets.{meet_small}
use Rattle.tables.specs.State.{Machine, Shadow, on_pool, table_count, entry_count, with_entry, named}
use Rattle.tables.specs.Steps.{leaf_of}
use Rattle.lawful.specs.Rules.{is_of, is_made_with, is_leaf}
use Rattle.trees.proofs.Trees.{Able, Outside, ent, lev, Names, Branch, Trees}
use Rattle.trees.proofs.Entries.{entry_here, entry_other, entry_exact, zero_names_none, names_by}
use Rattle.trees.proofs.Falls.{leaf_names, names_branch}

module _ (M : Machine) (ok : Able M) (map : List ℕ) (outside : Outside M map) (s : Shadow) (trees : Trees M map s)
    (t i e : ℕ) (table : t < table_count M) (level : lev M s t ≡ 1) (index : i < entry_count M) (small : e < 2 ^ M.tables.entry_bits)
    (laid : (e ≡ 0) ⊎ (is_leaf M.tables map e ≡ true)) where
  abbrev s' : Shadow
  s' = on_pool (with_entry M t i e) s

  pub leaf_entry : ent M s' t i ≡ e
  leaf_entry = entry_here M ok s trees.exact t i e table index small

  pub leaf_beside : (v k : ℕ) → k < entry_count M → (v ≡ t → k ≡ i → ⊥) → ent M s' v k ≡ ent M s v k
  leaf_beside v k h ne = entry_other M ok s trees.exact t i e table index small v k h (λ p q. ne (sym p) (sym q))

  -- the entry written names none
  names_none : named M e < table_count M → ⊥
  names_none = go laid
    where
      go : (e ≡ 0) ⊎ (is_leaf M.tables map e ≡ true) → named M e < table_count M → ⊥
      go (inl z) = zero_names_none M e z
      go (inr q) = leaf_names M map outside e q

  -- tables of other levels
  leaf_elsewhere : (v : ℕ) → (lev M s v ≡ 1 → ⊥) → (k : ℕ) → k < entry_count M → ent M s' v k ≡ ent M s v k
  leaf_elsewhere v high k h = leaf_beside v k h (λ p q. high (ap (lev M s) p ∙ level))

  -- the same names
  old : {v k x : ℕ} → Names M s' v k x → Names M s v k x
  old {v} {k} {x} m = names_by (sym (leaf_beside v k m.index other)) m
    where
      other : v ≡ t → k ≡ i → ⊥
      other p q = names_none (omega (arith, m.is, m.names, ap (named M) (ap₂ (ent M s') p q ∙ leaf_entry)))

  still : {v k x : ℕ} → Names M s v k x → Names M s' v k x
  still {v} {k} {x} m = names_by (leaf_elsewhere v (λ q. omega (arith, (names_branch M map outside s trees m).0)) k m.index) m

  leaf' : (v : ℕ) → v < table_count M → lev M s v ≡ 1 → (k : ℕ) → k < entry_count M → (ent M s' v k ≡ 0) ⊎ (is_leaf M.tables map (ent M s' v k) ≡ true)
  leaf' v h z k hk = go (ℕ_discrete v t) (ℕ_discrete k i)
    where
      right : {d : ℕ} → ent M s' v k ≡ d → (d ≡ 0) ⊎ (is_leaf M.tables map d ≡ true) → (ent M s' v k ≡ 0) ⊎ (is_leaf M.tables map (ent M s' v k) ≡ true)
      right q = subst (λ (x : ℕ). (x ≡ 0) ⊎ (is_leaf M.tables map x ≡ true)) (sym q)

      go : Dec (v ≡ t) → Dec (k ≡ i) → (ent M s' v k ≡ 0) ⊎ (is_leaf M.tables map (ent M s' v k) ≡ true)
      go (yes p) (yes q) = right (ap₂ (ent M s') p q ∙ leaf_entry) laid
      go (yes p) (no n) = right (leaf_beside v k hk (λ a b. n b)) (trees.leaf v h z k hk)
      go (no n) d = right (leaf_beside v k hk (λ a b. n a)) (trees.leaf v h z k hk)

  branch' : (v : ℕ) → v < table_count M → 1 < lev M s v → (k : ℕ) → k < entry_count M → (ent M s' v k ≡ 0) ⊎ Branch M s' v (ent M s' v k)
  branch' v h high k hk =
      subst (λ (x : ℕ). (x ≡ 0) ⊎ Branch M s' v x) (sym (leaf_elsewhere v (λ q. omega arith) k hk)) (same (trees.branch v h high k hk))
    where
      same : {d : ℕ} → (d ≡ 0) ⊎ Branch M s v d → (d ≡ 0) ⊎ Branch M s' v d
      same (inl z) = inl z
      same (inr b) = inr record { made = b.made; owner = b.owner; lower = b.lower }

  -- AN ENTRY OF LEVEL 1 KEEPS THE TREES
  pub leaf_trees : Trees M map s'
  leaf_trees = record {
    exact = entry_exact M ok s trees.exact t i e table index small;
    bound = trees.bound;
    roots = trees.roots;
    frames = trees.frames;
    free = λ v h z. let f = trees.free v h z in (f.0, λ k hk. leaf_elsewhere v (λ q. omega arith) k hk ∙ f.1 k hk);
    leaf = leaf';
    branch = branch';
    name = λ v h lo hi. let m = trees.name v h lo hi in (m.0, m.1, still m.2);
    one = λ a b. trees.one (old a) (old b);
  }

-- ---- the entry that a fill writes

-- a frame that stands in the map is mapped
mapped_to : (j : ℕ) (map : List ℕ) (h : Host) (k : ℕ) → k < length map → get_or map k 0 ≡ h.0 → is_of (origin_from j map h) ≡ true
unfolding origin_from
mapped_to j [] h k lt q = absurd (omega arith)
mapped_to j (x ∷ xs) h zero lt q = simp (eq-eqb x h.0 q)
mapped_to j (x ∷ xs) h (suc k) lt q = go (eqb x h.0) (mapped_to (j + 1) xs h k (omega arith) q)
  where
    go : (b : Bool) → is_of (origin_from (j + 1) xs h) ≡ true → is_of (cond b (Some (guest j)) (origin_from (j + 1) xs h)) ≡ true
    go true more = refl
    go false more = more

-- X is shared where both have it
top_bit : (x y z : ℕ) → x < 2 → y < 2 → z ≡ 1 → bit (x + 2 * y + 4 * z) 2 ≡ 1
top_bit x y z hx hy q = omega arith

has_x : (d : ℕ) → bit (6 + d % 2) 2 ≡ 1
has_x d = omega arith

shared_x : (a d : ℕ) → bit a 2 ≡ 1 → bit (meet a (6 + d % 2)) 2 ≡ 1
unfolding meet
shared_x a d h =
    top_bit (min (bit a 0) (bit (6 + d % 2) 0)) (min (bit a 1) (bit (6 + d % 2) 1)) (min (bit a 2) (bit (6 + d % 2) 2))
    (omega arith) (omega arith) (ap₂ min h (has_x d))

-- W is bit 1
rights_w : (Y : Layout) (e : ℕ) → bit e 1 ≡ bit (rights_of Y e) 0
unfolding rights_of
rights_w Y e = omega arith

pub record Filled (M : Machine) (map : List ℕ) (e h : ℕ) : Type 0 where
  pub leaf : is_leaf M.tables map h ≡ true
  pub small : h < 2 ^ M.tables.entry_bits
  pub present : is_present h ≡ true
  pub rights : rights_of M.tables h ≡ meet (rights_of M.tables e) (6 + bit e 6)
  pub frame : frame_of M.tables h ≡ get_or map (frame_of M.tables e) 0

module _ (M : Machine) (ok : Able M) (map : List ℕ) (within : (k : ℕ) → k < length map → get_or map k 0 < 2 ^ M.tables.frame_bits)
    (e : ℕ) (known : frame_of M.tables e < length map) where
  abbrev r : ℕ
  r = meet (rights_of M.tables e) (6 + bit e 6)

  abbrev f : ℕ
  f = get_or map (frame_of M.tables e) 0

  abbrev h : ℕ
  h = compose M.tables r (bit r 0) f

  small : r < 8
  small = meet_small (rights_of M.tables e) (6 + bit e 6)

  rights : rights_of M.tables h ≡ r
  rights =
      composed_rights M.tables ok.sound r (bit r 0) f small (omega arith) (within _ known)
      (λ q. shared_x (rights_of M.tables e) (e / 2 ^ 6) (ok.grants e q))

  frame : frame_of M.tables h ≡ f
  frame = ok.sound.composed_frame r (bit r 0) f (omega arith) (within _ known)

  -- "D equals RW"
  made : is_made_with M.tables (bit h 1) h ≡ true
  unfolding is_made_with
  made =
      let w : bit h 1 ≡ bit r 0 = rights_w M.tables h ∙ ap (λ (x : ℕ). bit x 0) rights in
      eq-eqb h _ (rw (rights, frame, w) refl)

  -- THE LEVEL 1 ENTRY OF A FILL IS A LEAF
  pub leaf_of-right : Filled M map e (leaf_of M.tables map e)
  unfolding leaf_of is_leaf
  leaf_of-right = record {
    leaf = simp (made, frame, mapped_to 0 map (host f) (frame_of M.tables e) known refl);
    small = ok.fits r (bit r 0) f small (omega arith) (within _ known);
    present = composed_present M.tables ok.sound r (bit r 0) f small (omega arith) (within _ known);
    rights = rights;
    frame = frame;
  }
