-- The machine's walk of the guest's tables, on words that agree with the rules' but for A and D, passes held walks only:
-- its end is a held walk, or a held walk faults as it does.
use Rattle.std.specs.Prelude.{Ok, Err}
use mathlib.Core.Path.{◌≡◌, refl, sym, ◌∙◌}
use mathlib.Core.List.{List}
use mathlib.Core.Logic.{inl}
use Prim.Native.Nat.{ℕ, zero, suc}
use native.Mathlib.Omega.{arith}
use Rattle.paging.specs.declared.Guest.{Guest}
use Rattle.paging.specs.declared.Walk.{Walk}
use Rattle.paging.specs.declared.Stop.TheVariants.{Absent, Beyond, Complete}
use Rattle.paging.specs.Layout.{Layout, get, put, index, with_a}
use Rattle.paging.specs.Walk.{Step, step}
use Rattle.paging.specs.Sound.{Sound}
use Rattle.paging.proofs.Indices.{index_small}
use Rattle.rules.specs.View.{View}
use Rattle.rules.specs.Coherent.{Coherent}
use Rattle.rules.specs.Kept.{Kept, extend}
use Rattle.guest.specs.GuestWalk.{Ended, whole as ended_at, GuestWalk, by_step, walk_from}
use Rattle.keeps.proofs.Alikes.{Same, same_trans, same_with_bit, same_step}

module _ (Y : Layout) (sound : Sound Y) (seen : View) (G page k : ℕ) (rules : List ℕ) (law : Coherent seen Y.levels G)
    (reads : (w : Walk) → seen.steps k w ≡ step Y G w (get Y rules w.frame.0 (index Y page w.level))) where
  pub data Ends : Ended → Type 0 where
    whole : {last : Guest} {w : Walk} → Kept seen k w → w.level ≡ 0 → Ends (ended_at last w)
    absent : {w : Walk} → Kept seen k w → seen.steps k w ≡ (Err Absent) → Ends (Err Absent)
    beyond : {w : Walk} → Kept seen k w → seen.steps k w ≡ (Err Beyond) → Ends (Err Beyond)

  pub record Walks (t : GuestWalk) : Type 0 where
    pub words : Same Y t.words rules
    pub ended : Ends t.ended

  pub walks : (n : ℕ) (words : List ℕ) (last : Guest) (w : Walk) → Same Y words rules → Kept seen k w → w.level ≡ n
      → Walks (walk_from Y G page n words last w)
  unfolding walk_from
  walks zero words last w s h z = record { words = s; ended = whole h z }
  walks (suc n) words last w s h z =
      by (step Y G w e) refl
      (λ w' q. walks n (put Y words w.frame.0 i (with_a e)) w.frame w' (same_trans Y (same_with_bit Y sound 5 (inl refl) words w.frame.0 i (index_small Y page w.level)) s)
      (extend h (same q)) (omega (arith, (law.down k w w' (same q)).level)))
    where
      i : ℕ
      i = index Y page w.level

      e : ℕ
      e = get Y words w.frame.0 i

      -- what the machine sees is what the view sees
      same : {r : Step} → step Y G w e ≡ r → seen.steps k w ≡ r
      same q = reads w ∙ sym (same_step Y sound s G w w.frame.0 i (index_small Y page w.level)) ∙ q

      by : (r : Step) → step Y G w e ≡ r
          → ((w' : Walk) → step Y G w e ≡ Ok w' → Walks (walk_from Y G page n (put Y words w.frame.0 i (with_a e)) w.frame w'))
          → Walks (by_step words last w (λ w'. walk_from Y G page n (put Y words w.frame.0 i (with_a e)) w.frame w') r)
      by (Ok w') q ih = ih w' q
      by (Err Absent) q ih = record { words = s; ended = absent h (same q) }
      by (Err Beyond) q ih = record { words = s; ended = beyond h (same q) }
      by (Err Complete) q ih = record { words = s; ended = whole h (law.undone k w (same q)) }
