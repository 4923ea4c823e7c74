-- The guest's walk that completes: every entry it read is present and inside the guest, in any words that agree but for A and D.
use Rattle.std.specs.Prelude.{Ok, Err}
use mathlib.Core.Path.{◌≡◌, refl, sym, ◌∙◌, ap, subst}
use mathlib.Core.List.{List}
use mathlib.Core.Logic.{inl}
use Prim.Native.Nat.{ℕ, zero, suc}
use native.Mathlib.Omega.{arith}
use Rattle.paging.specs.declared.Guest.{Guest}
use Rattle.paging.specs.declared.Walk.{Walk}
use Rattle.paging.specs.declared.Stop.{Stop}
use Rattle.paging.specs.declared.Stop.TheVariants.{Absent, Beyond, Complete}
use Rattle.paging.specs.Frame.{guest}
use Rattle.paging.specs.Layout.{get, put, index, frame_of, rights_of, with_a}
use Rattle.paging.specs.Walk.{Step, meet, step}
use Rattle.paging.specs.Sound.{Alike, Sound}
use Rattle.paging.proofs.Layouts.{present_alike, frame_alike, rights_alike}
use Rattle.paging.proofs.Indices.{index_small}
use Rattle.paging.proofs.Steps.{goes, completed}
use Rattle.tables.specs.State.{Machine}
use Rattle.guest.specs.declared.Walked.{Walked}
use Rattle.guest.specs.GuestWalk.{whole, GuestWalk, by_step, walk_from, guest_entry}
use Rattle.keeps.proofs.Alikes.{Same, same_trans, same_with_bit}
use Rattle.trees.proofs.Settles.{Leads}

abbrev whole_of : Guest → Walk → Walked
whole_of last w = record { last = last; walk = w }

pub whole_walk : {last last' : Guest} {w w' : Walk} → whole last w ≡ whole last' w' → w ≡ w'
whole_walk {last} {last'} {w} {w'} e = let q : whole_of last w ≡ whole_of last' w' = cc in ap (λ (x : Walked). x.walk) q

whole_last : {last last' : Guest} {w w' : Walk} → whole last w ≡ whole last' w' → last ≡ last'
whole_last {last} {last'} {w} {w'} e = let q : whole_of last w ≡ whole_of last' w' = cc in ap (λ (x : Walked). x.last) q

module _ (M : Machine) (sound : Sound M.tables) (page : ℕ) (words : List ℕ) where
  -- what a walk leaves that has n entries to read and came from frame from: words that agree, and, if it completes, a path
  -- that leads to its end
  pub record WalkReads (n : ℕ) (from g : Guest) (r : ℕ) (t : GuestWalk) : Type 0 where
    pub same : Same M.tables t.words words
    pub leads : (last : Guest) (w : Walk) → t.ended ≡ whole last w → Leads M words page last w.frame w.rights n g r × (n ≡ 0 → from ≡ last)

  pub walk_reads : (n : ℕ) (now : List ℕ) (from : Guest) (w : Walk) → Same M.tables now words → w.level ≡ n → WalkReads n from w.frame w.rights (walk_from M.tables M.frames page n now from w)
  unfolding walk_from
  walk_reads zero now from w s q = record {
    same = s;
    leads = λ last w' e. ((ap (λ (y : Walk). y.frame) (whole_walk e), ap (λ (y : Walk). y.rights) (whole_walk e)), λ u. whole_last e);
  }
  walk_reads (suc n) now from w s q =
      by (step M.tables M.frames w e) refl
      (λ w' on. walk_reads n (put M.tables now w.frame.0 i (with_a e)) w.frame w' (same_trans M.tables (same_with_bit M.tables sound 5 (inl refl) now w.frame.0 i (index_small M.tables page w.level)) s) (below on))
    where
      i : ℕ
      i = index M.tables page w.level

      e : ℕ
      e = get M.tables now w.frame.0 i

      c : ℕ
      c = guest_entry M.tables words page (suc n) w.frame

      alike : Alike e c
      alike = subst (λ (l : ℕ). Alike e (guest_entry M.tables words page l w.frame)) q (s.each w.frame.0 i (index_small M.tables page w.level))

      below : {w' : Walk} → step M.tables M.frames w e ≡ Ok w' → w'.level ≡ n
      below {w'} on = let g = goes M.tables M.frames w e w' on in omega (arith, q, ap (λ (y : Walk). y.level) g.is)

      fault : {k : Stop} {A : Type 0} {last : Guest} {w' : Walk} → Err k ≡ whole last w' → A
      fault e = let z : ◌≡◌ {A = ℕ} 0 1 = cc in absurd (omega arith)

      on_from : Walk → GuestWalk
      on_from w' = walk_from M.tables M.frames page n (put M.tables now w.frame.0 i (with_a e)) w.frame w'

      by : (r : Step) → step M.tables M.frames w e ≡ r
          → ((w' : Walk) → step M.tables M.frames w e ≡ Ok w' → WalkReads n w.frame w'.frame w'.rights (on_from w'))
          → WalkReads (suc n) from w.frame w.rights (by_step now from w on_from r)
      by (Ok w') on more = record {
        same = (more w' on).same;
        leads = λ last w'' q.
            let t = goes M.tables M.frames w e w' on in
            let m = (more w' on).leads last w'' q in
            let f : frame_of M.tables e ≡ frame_of M.tables c = frame_alike M.tables sound alike in
            let r : rights_of M.tables e ≡ rights_of M.tables c = rights_alike M.tables sound alike in
            let g : w'.frame ≡ guest (frame_of M.tables c) = ap (λ (y : Walk). y.frame) t.is ∙ ap guest f in
            let x : w'.rights ≡ meet w.rights (rights_of M.tables c) = ap (λ (y : Walk). y.rights) t.is ∙ ap (meet w.rights) r in (
              (
                sym (present_alike M.tables sound alike) ∙ t.present,
                rw f at t.inside,
                m.1,
                subst (λ (y : Guest). Leads M words page last w''.frame w''.rights n y (meet w.rights (rights_of M.tables c))) g
                    (subst (λ (y : ℕ). Leads M words page last w''.frame w''.rights n w'.frame y) x m.0),
              ),
              λ u. absurd (omega (arith, u)),
            );
      }
      by (Err Absent) r more = record { same = s; leads = λ last w' q. fault q }
      by (Err Beyond) r more = record { same = s; leads = λ last w' q. fault q }
      by (Err Complete) r more = absurd (omega (arith, q, completed M.tables M.frames w e r))
