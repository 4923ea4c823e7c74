-- The 64-bit machine is able; what one store into an entry or a record does to all of them; and what an entry names.
use mathlib.Core.Path.{◌≡◌, refl, sym, ap, ◌∙◌}
use mathlib.Core.Bool.{true}
use Prim.Native.Nat.{ℕ, ◌+◌, ◌-◌, ◌*◌, ◌/◌, ◌%◌, ◌^◌, ◌<◌}
use native.Mathlib.Omega.{arith}
use lib.ListN.{set, length-set}
use lib.Dec.{ltb}
use lib.Seq.{get_or-set_same, get_or-set_other}
use borrow.Author.Tests.{ltb-true}
use Rattle.paging.specs.declared.Guest.{Guest}
use Rattle.paging.specs.Layout.{tables64, bit, frame_of, rights_of, compose, is_present}
use Rattle.paging.proofs.Layouts.{tables64_sound, length-put, get-put, get-put_other, composed_present, composed_rights, inside}
use Rattle.paging.proofs.Narrow.{tables32, tables32_sound}
use Rattle.paging.proofs.Tests.{both}
use Rattle.tables.specs.declared.Sizes.{Sizes}
use Rattle.tables.specs.State.{Machine, Shadow, on_pool, on_records, machine64, record_size, with_record, table_count, entry_count, with_entry, named}
use Rattle.tables.proofs.Names.{named_absent, named-on}
use Rattle.lawful.specs.Rules.{is_made_with, is_branch}
use Rattle.trees.proofs.Trees.{Able, able, Exact, ent, lev, shd, Names}
use Rattle.paging.specs.Sound.{Laid}
use Rattle.tables.specs.SizesCode.{Sized}

-- ---- the 64-bit machine is able

small : (a b d f x : ℕ) → a < 2 → b < 2 → d < 2 → f < 2 ^ 40 → x < 2 → 1 + 2 * a + 4 * b + 32 + 64 * d + 2 ^ 12 * f + x * 2 ^ 63 < 2 ^ 64
small a b d f x ha hb hd hf hx = omega arith

pub laid64 : Laid tables64
unfolding compose
laid64 = record {
  sound = tables64_sound;
  upper = omega arith;
  fits = λ r d f hr hd hf. small (bit r 0) (bit r 1) d f (1 - bit r 2) (omega arith) (omega arith) hd hf (omega arith);
  grants = λ e q. absurd (omega (arith, q));
}

pub able64 : (z : Sizes) → Sized z → Able (machine64 z)
able64 z ok = able (machine64 z) laid64 ok.some ok.pool

-- ---- so is one with 32-bit tables

small32 : (a b d f x : ℕ) → a < 2 → b < 2 → d < 2 → f < 2 ^ 20 → 1 + 2 * a + 4 * b + 32 + 64 * d + 2 ^ 12 * f + x * 0 < 2 ^ 32
small32 a b d f x ha hb hd hf = omega arith

x_granted : (a b : ℕ) → (a % 2 + 2 * (b % 2) + 4 * (1 - 0)) / 2 ^ 2 % 2 ≡ 1
x_granted a b = omega arith

pub laid32 : Laid tables32
unfolding compose rights_of
laid32 = record {
  sound = tables32_sound;
  upper = omega arith;
  fits = λ r d f hr hd hf. small32 (bit r 0) (bit r 1) d f (1 - bit r 2) (omega arith) (omega arith) hd hf;
  grants = λ e q. x_granted (e / 2 ^ 1) (e / 2 ^ 2);
}

-- ---- stores

module _ (M : Machine) (ok : Able M) (s : Shadow) (exact : Exact M s) where
  module _ (t i e : ℕ) (ht : t < table_count M) (hi : i < entry_count M) (he : e < 2 ^ M.tables.entry_bits) where
    abbrev s' : Shadow
    s' = on_pool (with_entry M t i e) s

    pub entry_here : ent M s' t i ≡ e
    entry_here = get-put M.tables ok.sound s.pool t i e (rw exact.words (inside M.tables ok.sound t (table_count M) i hi ht)) he

    pub entry_other : (v k : ℕ) → k < entry_count M → (t ≡ v → i ≡ k → ⊥) → ent M s' v k ≡ ent M s v k
    entry_other v k hk ne =
        get-put_other M.tables ok.sound s.pool t v i k e hi hk (rw exact.words (inside M.tables ok.sound t (table_count M) i hi ht)) he ne

    pub entry_exact : Exact M s'
    entry_exact = record { words = length-put M.tables ok.sound s.pool t i e ∙ exact.words; pairs = exact.pairs }

  module _ (t level : ℕ) (g : Guest) (ht : t < table_count M) where
    abbrev s'' : Shadow
    s'' = on_records (with_record t level g) s

    pub level-here : lev M s'' t ≡ level
    level-here =
        get_or-set_other (set s.records (record_size * t) level) (record_size * t + 1) (record_size * t) g.0 0 (λ q. omega arith)
        ∙ get_or-set_same s.records (record_size * t) level 0 (omega (arith, exact.pairs))

    pub frame_here : shd M s'' t ≡ g.0
    frame_here =
        get_or-set_same (set s.records (record_size * t) level) (record_size * t + 1) g.0 0 (omega (arith, exact.pairs, length-set s.records (record_size * t) level))

    pub level_other : (v : ℕ) → (v ≡ t → ⊥) → lev M s'' v ≡ lev M s v
    level_other v ne =
        get_or-set_other (set s.records (record_size * t) level) (record_size * t + 1) (record_size * v) g.0 0 (λ q. omega arith)
        ∙ get_or-set_other s.records (record_size * t) (record_size * v) level 0 (λ q. ne (omega arith))

    pub frame_other : (v : ℕ) → (v ≡ t → ⊥) → shd M s'' v ≡ shd M s v
    frame_other v ne =
        get_or-set_other (set s.records (record_size * t) level) (record_size * t + 1) (record_size * v + 1) g.0 0 (λ q. ne (omega arith))
        ∙ get_or-set_other s.records (record_size * t) (record_size * v + 1) level 0 (λ q. omega arith)

    pub record_exact : Exact M s''
    record_exact = record {
      words = exact.words;
      pairs = length-set (set s.records (record_size * t) level) (record_size * t + 1) g.0 ∙ length-set s.records (record_size * t) level ∙ exact.pairs;
    }

-- ---- names

-- a name where the entry is the same
pub names_by : {M : Machine} {s x : Shadow} {v k u : ℕ} → ent M x v k ≡ ent M s v k → Names M s v k u → Names M x v k u
names_by {M} same m = record { table = m.table; index = m.index; names = ap (named M) same ∙ m.names; is = m.is }

module _ (M : Machine) where
  -- an absent entry names none
  pub zero_names : named M 0 ≡ table_count M
  zero_names = sym (named_absent M 0 (unfold is_present in refl))

  pub zero_names_none : (e : ℕ) → e ≡ 0 → named M e < table_count M → ⊥
  zero_names_none e q h = let r : named M e ≡ table_count M = ap (named M) q ∙ zero_names in omega arith

  -- a branch names a table
  pub branch_names : (e : ℕ) → is_branch M e ≡ true → named M e < table_count M
  unfolding is_branch
  branch_names e q = ltb-true (named M e) (table_count M) (both (is_made_with M.tables 0 e) (ltb (named M e) (table_count M)) q).1

  module _ (ok : Able M) (r u : ℕ) (hr : r < 8) (hu : u < table_count M) where
    within : M.base + u < 2 ^ M.tables.frame_bits
    within = omega (arith, ok.room)

    abbrev made : ℕ
    made = compose M.tables r 0 (M.base + u)

    pub made-frame : frame_of M.tables made ≡ M.base + u
    made-frame = ok.sound.composed_frame r 0 (M.base + u) (omega arith) within

    pub made_present : is_present made ≡ true
    made_present = composed_present M.tables ok.sound r 0 (M.base + u) hr (omega arith) within

    -- an entry made for u names u
    pub made_names : named M made ≡ u
    made_names =
        let f = made-frame in
        sym (named-on M made made_present (omega arith) (omega arith)) ∙ omega (arith, f)

    pub made_small : made < 2 ^ M.tables.entry_bits
    made_small = ok.fits r 0 (M.base + u) hr (omega arith) within

    pub made-rights : (M.tables.nx_alone ≡ 0 → bit r 2 ≡ 1) → rights_of M.tables made ≡ r
    made-rights x = composed_rights M.tables ok.sound r 0 (M.base + u) hr (omega arith) within x
