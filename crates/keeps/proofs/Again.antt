-- After a fill the page's path serves the access that asked for it: the put right after an "again" answers an address.
use mathlib.Core.Path.{◌≡◌, refl, sym, ap, ◌∙◌}
use mathlib.Core.Bool.{Bool, true, cond}
use mathlib.Core.List.{List}
use mathlib.Core.Logic.{inr}
use Prim.Native.Nat.{ℕ, ◌+◌, ◌-◌, ◌≤◌, ◌<◌}
use native.Mathlib.Decide.{dec_lt}
use native.Mathlib.Omega.{arith}
use lib.ListN.{length, get_or}
use Rattle.std.specs.Prelude.{Result, Ok}
use Rattle.paging.specs.declared.Guest.{Guest}
use Rattle.paging.specs.declared.Walk.{Walk}
use Rattle.paging.specs.declared.Request.{Request}
use Rattle.paging.specs.Layout.{Layout, bit, get, put, index, page_of, frame_of, rights_of, is_present, with_bit, with_d}
use Rattle.paging.specs.Request.{request_of, enough, is_write}
use Rattle.paging.specs.Walk.{meet}
use Rattle.paging.specs.Sound.{Sound}
use Rattle.paging.proofs.Layouts.{length-put, get_with_bit, get-past}
use Rattle.paging.proofs.Indices.{index_small}
use Rattle.paging.proofs.Meets.{rights_small, needs_small}
use Rattle.tables.specs.declared.Path.{Path}
use Rattle.tables.specs.State.{Machine, State, top, next_entry, descend, path_to}
use Rattle.guest.specs.GuestWalk.{whole, guest_entry, dirtied}
use Rattle.tables.specs.Steps.{leaf_of}
use Rattle.shadow.specs.declared.Answer.{Answer}
use Rattle.shadow.specs.declared.Answer.TheVariants.{Again}
use Rattle.shadow.specs.Answer.{Reply}
use Rattle.shadow.specs.Fill.{fill}
use Rattle.shadow.specs.Access.{after_access}
use Rattle.shadow.proofs.Accesses.{descend_small}
use Rattle.trees.proofs.Trees.{Able}
use Rattle.trees.proofs.Builds.{Own}
use Rattle.trees.proofs.Leaves.{Filled, leaf_of-right}
use Rattle.trees.proofs.Paths.{zero_absent}
use Rattle.keeps.proofs.RightStates.{Mapped, RightState}
use Rattle.keeps.proofs.Grants.{grants_less, grants_enough}
use Rattle.keeps.proofs.Accesses.{walked, written, filling, Way, slot, shadow, fault, lacks, again, ways}

-- a result that does not answer y
pub unlike : {A : Type 0} {out r : Reply} {y : Result Answer ℕ} → out ≡ r → out.answer ≡ y → (r.answer ≡ y → ⊥) → A
unlike o g ne = absurd (ne (sym (ap (λ (x : Reply). x.answer) o) ∙ g))

-- a path's rights are rights
pub path_small : (M : Machine) (pool : List ℕ) (page p n : ℕ) → (descend M pool page n (top M p)).rights < 8
path_small M pool page p n = descend_small M pool page n (top M p) (omega arith)

bit_is_set : (e : ℕ) → bit (with_bit 6 e) 6 ≡ 1
unfolding with_bit
bit_is_set e = omega arith

-- a present entry of words in which D was set has D
pub dirty : (Y : Layout) → Sound Y → (q : Request) (page : ℕ) (last : Guest) (words : List ℕ) → is_write q ≡ true
    → is_present (guest_entry Y (dirtied Y q page last words) page 1 last) ≡ true → bit (guest_entry Y (dirtied Y q page last words) page 1 last) 6 ≡ 1
dirty Y ok q page last words w here = go (dec_lt (Y.place last.0 i) (length words))
  where
    i : ℕ
    i = index Y page 1

    e : ℕ
    e = get Y words last.0 i

    set_d : dirtied Y q page last words ≡ put Y words last.0 i (with_d e)
    set_d = unfold dirtied in ap (λ (c : Bool). cond c (put Y words last.0 i (with_d e)) words) w

    go : Dec (Y.place last.0 i < length words) → bit (guest_entry Y (dirtied Y q page last words) page 1 last) 6 ≡ 1
    go (yes h) =
        ap (λ (ws : List ℕ). bit (get Y ws last.0 i) 6) set_d
        ∙ ap (λ (x : ℕ). bit x 6) (get_with_bit Y ok words 6 last.0 i (inr refl) (index_small Y page 1) h) ∙ bit_is_set e
    go (no h) =
        absurd (zero_absent _ (get-past Y ok (dirtied Y q page last words) last.0 i
        (omega (arith, ap length set_d, length-put Y ok words last.0 i (with_d e)))) here)

-- page's path, from p's root, serves a request
pub record Serves (M : Machine) (s : State) (p page : ℕ) (q : Request) : Type 0 where
  pub here : is_present (next_entry M s.shadow.pool page (path_to M s.shadow.pool p page 1)) ≡ true
  pub good :
      enough q (meet (path_to M s.shadow.pool p page 1).rights
      (rights_of M.tables (next_entry M s.shadow.pool page (path_to M s.shadow.pool p page 1)))) ≡ true

module _ (M : Machine) (map : List ℕ) (p a b : ℕ) (s : State) (ok : Able M) (spare : M.tables.levels ≤ M.share) (fits : Mapped M map) (hp : p < M.processors) (r : RightState M map s)
    (last : Guest) (w : Walk) (e : (walked M map p a b s).ended ≡ whole last w) where
  abbrev page : ℕ
  page = page_of M.tables a

  abbrev q : Request
  q = request_of M.tables b

  abbrev s' : State
  s' = fill M map p page (written M map p a b s last)

  abbrev path' : Path
  path' = path_to M s'.shadow.pool p page 1

  abbrev end' : ℕ
  end' = next_entry M s'.shadow.pool page path'

  own : Own M ok map fits.outside (written M map p a b s last).words p hp page last w.frame w.rights s'.shadow
  own = (filling M map p a b s ok spare fits hp r last w e).built.own

  abbrev entry : ℕ
  entry = guest_entry M.tables (written M map p a b s last).words page 1 last

  made : Filled M map entry (leaf_of M.tables map entry)
  made = leaf_of-right M ok map fits.within entry (rw fits.guests own.inside)

  pub end_present : is_present end' ≡ true
  end_present = ap is_present own.is ∙ made.present

  -- the path's rights, and the guest's
  pub end-rights : meet path'.rights (rights_of M.tables end') ≡ meet path'.rights (meet (rights_of M.tables entry) (6 + bit entry 6))
  end-rights = ap (meet path'.rights) (ap (rights_of M.tables) own.is ∙ made.rights)

  pub walk_rights : meet path'.rights (rights_of M.tables entry) ≡ w.rights
  walk_rights = ap (λ (x : Path). meet x.rights (rights_of M.tables entry)) own.path ∙ own.total

  rights_in_lem : path'.rights < 8
  rights_in_lem = path_small M s'.shadow.pool page p (M.tables.levels - 1)

  -- THE PATH SERVES THE ACCESS
  pub end-enough : q.needs < 8 → enough q w.rights ≡ true → enough q (meet path'.rights (rights_of M.tables end')) ≡ true
  end-enough hn good =
      ap (enough q) end-rights
      ∙ grants_enough q path'.rights (rights_of M.tables entry) (bit entry 6) hn rights_in_lem (rights_small M.tables entry) (omega arith)
      (ap (enough q) walk_rights ∙ good) (λ write. dirty M.tables ok.sound q page last (walked M map p a b s).words write own.present)

  -- and grants no more than the guest
  pub end_covers : (q' : Request) → q'.needs < 8 → enough q' (meet path'.rights (rights_of M.tables end')) ≡ true → enough q' w.rights ≡ true
  end_covers q' hn good =
      ap (enough q') (sym walk_rights)
      ∙ grants_less q' path'.rights (rights_of M.tables entry) (bit entry 6) hn rights_in_lem (rights_small M.tables entry) (omega arith)
      (ap (enough q') (sym end-rights) ∙ good)

  -- in the host frame of the guest's
  pub end_frame : frame_of M.tables end' ≡ get_or map w.frame.0 0
  end_frame = ap (frame_of M.tables) own.is ∙ made.frame ∙ ap (λ (g : Guest). get_or map g.0 0) own.frame

  pub end_inside : w.frame.0 < M.frames
  end_inside = rw (← own.frame) own.inside

-- AFTER "AGAIN" THE PAGE'S PATH SERVES
module _ (M : Machine) (map : List ℕ) (p a b : ℕ) (s : State) (ok : Able M) (spare : M.tables.levels ≤ M.share) (fits : Mapped M map) (hp : p < M.processors) (r : RightState M map s) (hb : b < 6) where
  abbrev Left : Reply → Type 0
  Left out = out.answer ≡ Ok Again → Serves M out.state p (page_of M.tables a) (request_of M.tables b)

  way_serves : {out : Reply} → Way M map p a b s out → Left out
  way_serves (slot k h v o) = λ g. unlike o g (λ e. let n : ◌≡◌ {A = ℕ} 0 1 = cc in omega arith)
  way_serves (shadow h v o) = λ g. unlike o g (λ e. let n : ◌≡◌ {A = ℕ} 0 1 = cc in omega arith)
  way_serves (fault base e o) = λ g. unlike o g (λ e. let n : ◌≡◌ {A = ℕ} 0 1 = cc in omega arith)
  way_serves (lacks last w e v o) = λ g. unlike o g (λ e. let n : ◌≡◌ {A = ℕ} 0 1 = cc in omega arith)
  way_serves (again last w e v o) = rw o (λ g. record {
    here = end_present M map p a b s ok spare fits hp r last w e;
    good = end-enough M map p a b s ok spare fits hp r last w e (needs_small M.tables b hb) v;
  })

  pub access_serves : (after_access M map p a b s).answer ≡ Ok Again → Serves M (after_access M map p a b s).state p (page_of M.tables a) (request_of M.tables b)
  access_serves = way_serves (ways M map p a b s)
