-- Where a fill has settled, a table stands.
use mathlib.Core.Path.{◌≡◌, refl}
use mathlib.Core.Bool.{Bool, true, false, cond}
use mathlib.Core.List.{List}
use Prim.Native.Nat.{ℕ, zero, suc, ◌+◌, ◌^◌, ◌<◌, ◌≤◌}
use native.Mathlib.Omega.{arith}
use Rattle.paging.specs.declared.Guest.{Guest}
use Rattle.paging.specs.Frame.{guest}
use Rattle.paging.specs.Layout.{tables64, index, frame_of}
use Rattle.tables.specs.declared.Sizes.{Sizes}
use Rattle.tables.specs.State.{Machine, Shadow, machine64, table_count, entry_of, named}
use Rattle.tables.specs.Steps.{settled_at, spot, cut, agrees, settle}
use Rattle.guest.specs.GuestWalk.{guest_entry}
use Rattle.tables.proofs.Names.{frame_small}
use Rattle.tables.proofs.Fills.{agrees-named}
use Rattle.tables.specs.SizesCode.{SpotFits}

pub settled_spot : (z : Sizes) (words : List ℕ) (page n t : ℕ) (g : Guest) (s : Shadow) → n ≤ 3 → t < table_count (machine64 z) → g.0 < 2 ^ 40
    → SpotFits z (settle (machine64 z) words page n t g s).spot
unfolding settle
settled_spot z words page zero t g s hn ht hg = record { missing = hn; table = ht; frame = hg }
settled_spot z words page (suc n) t g s hn ht hg =
    go (agrees M s.records h e) refl (λ same. settled_spot z words page n (named M h) (guest (frame_of tables64 e)) s (omega arith) (agrees-named M s.records h e same) (frame_small e))
  where
    M : Machine
    M = machine64 z

    h : ℕ
    h = entry_of (machine64 z) s.pool t (index tables64 page (n + 2))

    e : ℕ
    e = guest_entry tables64 words page (n + 2) g

    go : (b : Bool) → agrees (machine64 z) s.records (entry_of (machine64 z) s.pool t (index tables64 page (n + 2))) (guest_entry tables64 words page (n + 2) g) ≡ b
        → (agrees (machine64 z) s.records (entry_of (machine64 z) s.pool t (index tables64 page (n + 2))) (guest_entry tables64 words page (n + 2) g) ≡ true
        → SpotFits z (settle (machine64 z) words page n (named (machine64 z) (entry_of (machine64 z) s.pool t (index tables64 page (n + 2)))) (guest (frame_of tables64 (guest_entry tables64 words page (n + 2) g))) s).spot)
        → SpotFits z (cond b
        (settle (machine64 z) words page n (named (machine64 z) (entry_of (machine64 z) s.pool t (index tables64 page (n + 2)))) (guest (frame_of tables64 (guest_entry tables64 words page (n + 2) g))) s)
        (settled_at (spot (suc n) t g) (cut (machine64 z) (suc n) t (index tables64 page (n + 2)) s))).spot
    go true q on = on q
    go false q on = record { missing = hn; table = ht; frame = hg }
