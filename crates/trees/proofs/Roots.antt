-- Where roots stand: "The first is its root."
use mathlib.Core.Path.{◌≡◌, sym, ap, ◌∙◌}
use mathlib.Core.Bool.{true, false}
use mathlib.Core.List.{List}
use Prim.Native.Nat.{ℕ, ◌<◌}
use native.Mathlib.Nat.{mul-div_cancel, mul-lt-mul_of_pos_right}
use borrow.Author.Tests.{eq-eqb, ne_eqb, eqb-true}
use Rattle.tables.specs.State.{Machine, Shadow, table_count, home_of, root_of}
use Rattle.tables.proofs.Owners.{owner_home}
use Rattle.lawful.specs.Rules.{is_root}
use Rattle.trees.proofs.Trees.{Able, lev, own, Another, Trees}

module _ (M : Machine) (ok : Able M) where
  pub root_table : (p : ℕ) → p < M.processors → root_of M p < table_count M
  root_table p h = mul-lt-mul_of_pos_right h ok.some

  pub root_home : (p : ℕ) → home_of M (root_of M p) ≡ p
  root_home p = mul-div_cancel p ok.some

  pub root_owner : (s : Shadow) (p : ℕ) → own M s (root_of M p) ≡ p
  root_owner s p = owner_home M s.records (root_of M p) ∙ root_home p

  -- the root of another processor than p is another's
  pub root_another : (s : Shadow) (q p : ℕ) → q < M.processors → (q ≡ p → ⊥) → Another M s p (root_of M q)
  root_another s q p h ne = record { owned = rw (root_owner s q) h; other = λ e. ne (sym (root_owner s q) ∙ e) }

  pub root_is : (p : ℕ) → is_root M (root_of M p) ≡ true
  unfolding is_root
  root_is p = eq-eqb (root_of M p) (root_of M (home_of M (root_of M p))) (ap (root_of M) (sym (root_home p)))

  pub home_not : (t : ℕ) → (t ≡ root_of M (home_of M t) → ⊥) → is_root M t ≡ false
  unfolding is_root
  home_not t ne = ne_eqb t (root_of M (home_of M t)) ne

  pub root_not : (s : Shadow) (p t : ℕ) → own M s t ≡ p → (t ≡ root_of M p → ⊥) → is_root M t ≡ false
  root_not s p t o ne = home_not t (λ q. ne (q ∙ ap (root_of M) (sym (owner_home M s.records t) ∙ o)))

  -- a root has the highest level
  pub root_level : (map : List ℕ) (s : Shadow) → Trees M map s → (p : ℕ) → p < M.processors → lev M s (root_of M p) ≡ M.tables.levels
  root_level map s trees p h = eqb-true _ _ (sym (trees.roots (root_of M p) (root_table p h)) ∙ root_is p)
