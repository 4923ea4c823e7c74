-- One entry of a walk of the guest's tables: what is left of the walk says the same.
use mathlib.Core.Path.{◌≡◌, sym, ap, ◌∙◌}
use mathlib.Core.List.{List}
use Prim.Native.Nat.{ℕ, suc}
use Rattle.paging.specs.declared.Guest.{Guest}
use Rattle.paging.specs.declared.Walk.{Walk}
use Rattle.paging.specs.Layout.{Layout, get, put, index, with_a}
use Rattle.paging.specs.Walk.{Step, step}
use Rattle.guest.specs.GuestWalk.{GuestWalk, guest_walk, whole, by_step, walk_from}

module _ (Y : Layout) (G page : ℕ) (words : List ℕ) (last : Guest) (w : Walk) (n : ℕ) where
  -- the entry that the walk has come to
  abbrev here : ℕ
  here = get Y words w.frame.0 (index Y page w.level)

  -- whatever the walk does at its entry
  pub walk_step : (m : ℕ) → n ≡ suc m → {e : ℕ} {r : Step} → e ≡ here → step Y G w e ≡ r
      → by_step words last w (λ w'. walk_from Y G page m (put Y words w.frame.0 (index Y page w.level) (with_a e)) w.frame w') r
      ≡ walk_from Y G page n words last w
  unfolding walk_from
  walk_step m q {e} ee er =
      let on : ℕ → Walk → GuestWalk = λ x w'. walk_from Y G page m (put Y words w.frame.0 (index Y page w.level) (with_a x)) w.frame w' in
      ap (by_step words last w (on e)) (sym er)
      ∙ ap (λ (x : ℕ). by_step words last w (on x) (step Y G w x)) ee
      ∙ sym (ap (λ (k : ℕ). walk_from Y G page k words last w) q)

  pub walk_end : n ≡ 0 → guest_walk words (whole last w) ≡ walk_from Y G page n words last w
  unfolding walk_from
  walk_end q = sym (ap (λ (k : ℕ). walk_from Y G page k words last w) q)
