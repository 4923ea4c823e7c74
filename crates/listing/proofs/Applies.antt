-- What taking an event does, case by case, in the order of the code.
use mathlib.Core.Path.{◌≡◌}
use mathlib.Core.Logic.{◌⊎◌, inl, inr}
use mathlib.Core.Bool.{Bool, true, false, cond, ◌&&◌, and-false}
use Prim.Native.Nat.{ℕ, ◌*◌, ◌≤◌, ◌<◌}
use native.Mathlib.Omega.{arith}
use lib.Dec.{T, eqb, eqb→eq}
use lib.ListN.{set}
use borrow.Author.Tests.{eq-eqb, ne_eqb}
use Rattle.paging.specs.Frame.{guest}
use Rattle.paging.specs.Layout.{tables64, page_of}
use Rattle.paging.proofs.Tests.{and_r}
use Rattle.rules.specs.declared.Event.{Event}
use Rattle.rules.specs.declared.Kind.{Kind}
use Rattle.rules.specs.Numbers.{kind_number}
use Rattle.rules.specs.History.{is_store, is_invlpg, is_cr3_write, is_by}
use Rattle.held.specs.FollowCode.{reread_word, restarted}
use Rattle.listing.specs.ReplayCode.{Replay, replay_of, Reach, forgets, applied}

-- each kind has a number of its own
pub same_kind : (k l : Kind) → kind_number k ≡ kind_number l → k ≡ l
same_kind k l e = grind arith

module _ (G page a : ℕ) where
  pub forgets-all : page_of tables64 a ≡ page → forgets G page a ≡ 0
  unfolding forgets
  forgets-all e = simp (eq-eqb (page_of tables64 a) page e)

  pub forgets_partial : (page_of tables64 a ≡ page → ⊥) → forgets G page a ≡ 8 * G
  unfolding forgets
  forgets_partial n = simp (ne_eqb (page_of tables64 a) page n)

  pub forgets_in : forgets G page a ≤ 8 * G
  unfolding forgets
  forgets_in = go (eqb (page_of tables64 a) page)
    where
      go : (b : Bool) → cond b 0 (8 * G) ≤ 8 * G
      go true = omega arith
      go false = omega arith

module _ (G p page : ℕ) (e : Event) (s : Replay) where
  pub applied-store : e.kind ≡ 1
      → applied G p page e s ≡ replay_of s.cr3 (set s.words e.a e.b) (reread_word tables64 G page (set s.words e.a e.b) e.a 4 s.work)
  unfolding applied
  applied-store k = simp (eq-eqb e.kind 1 k)

  module _ (no_store : e.kind ≡ 1 → ⊥) where
    pub applied_other : (e.proc ≡ p → ⊥) → applied G p page e s ≡ s
    unfolding applied
    applied_other n = simp (ne_eqb e.kind 1 no_store, ne_eqb e.proc p n)

    module _ (mine : e.proc ≡ p) where
      pub applied-invlpg : e.kind ≡ 2
          → applied G p page e s ≡ replay_of s.cr3 s.words (restarted tables64 G page s.words (forgets G page e.a) (guest s.cr3) s.work)
      unfolding applied
      applied-invlpg k = simp (ne_eqb e.kind 1 no_store, eq-eqb e.proc p mine, eq-eqb e.kind 2 k)

      module _ (no-invlpg : e.kind ≡ 2 → ⊥) where
        pub applied-cr3 : e.kind ≡ 3 → applied G p page e s ≡ replay_of e.a s.words (restarted tables64 G page s.words 0 (guest e.a) s.work)
        unfolding applied
        applied-cr3 k = simp (ne_eqb e.kind 1 no_store, eq-eqb e.proc p mine, ne_eqb e.kind 2 no-invlpg, eq-eqb e.kind 3 k)

  pub applied_quiet : (e.kind ≡ 1 → ⊥) → (e.kind ≡ 2 → ⊥) → (e.kind ≡ 3 → ⊥) → applied G p page e s ≡ s
  unfolding applied
  applied_quiet a b c = simp (ne_eqb e.kind 1 a, ne_eqb e.kind 2 b, ne_eqb e.kind 3 c, and-false)

  -- a number that is no kind's
  pub applied_unknown : (e.kind ≡ 0) ⊎ (7 < e.kind) → applied G p page e s ≡ s
  applied_unknown (inl z) = applied_quiet (λ k. omega arith) (λ k. omega arith) (λ k. omega arith)
  applied_unknown (inr h) = applied_quiet (λ k. omega arith) (λ k. omega arith) (λ k. omega arith)

  -- the CR3 stays a frame of the guest
  pub applied_in : s.cr3 < G → Reach G e → (applied G p page e s).cr3 < G
  unfolding applied
  applied_in h r = go (is_store e) (is_by p e && is_invlpg e) (is_by p e && is_cr3_write e) (λ t. r.cr3 (eqb→eq e.kind 3 (and_r (is_by p e) _ t)))
    where
      go : (store invlpg write : Bool) → (T write → e.a < G)
          → (cond store
          (replay_of s.cr3 (set s.words e.a e.b) (reread_word tables64 G page (set s.words e.a e.b) e.a 4 s.work))
          (cond invlpg
          (replay_of s.cr3 s.words (restarted tables64 G page s.words (forgets G page e.a) (guest s.cr3) s.work))
          (cond write (replay_of e.a s.words (restarted tables64 G page s.words 0 (guest e.a) s.work)) s))
          ).cr3 < G
      go true b c w = h
      go false true c w = h
      go false false true w = w tt
      go false false false w = h
