-- A request that needs W sets D in the word as it is now; others change nothing.
use mathlib.Core.Path.{ap, sym, ◌∙◌}
use Prim.Native.Nat.{ℕ}
use native.Mathlib.Omega.{arith}
use Rattle.paging.specs.Layout.{tables64, get, put, with_bit}
use Rattle.paging.proofs.Indices.{index_small}
use Rattle.guest.specs.GuestWalk.{dirtied}
use Rattle.guest.proofs.set_d.Goals as goal

pub entry_at-e-requires : goal.entry_at-e-requires
entry_at-e-requires c = (c.requires, omega (arith, c.index_of-i.ensures, index_small tables64 c.args.page 1))

pub write_entry-requires : goal.write_entry-requires
write_entry-requires c = (c.requires, omega (arith, c.index_of-i.ensures, index_small tables64 c.args.page 1))

pub returns-then-is_write : goal.returns-then-is_write
unfolding dirtied
returns-then-is_write c =
    let a = c.args in
    let i = c.index_of-i.ensures in
    let e = c.entry_at-e.ensures in
    simp (sym c.is_write.ensures ∙ c.if-is_write.true)
    (c.write_entry.ensures
    ∙ ap (put tables64 a.words.now a.last.0 c.index_of-i.result) (c.set_dirty.ensures ∙ ap (with_bit 6) e)
    ∙ ap (λ (i : ℕ). put tables64 a.words.now a.last.0 i (with_bit 6 (get tables64 a.words.now a.last.0 i))) i)

pub returns-else-is_write : goal.returns-else-is_write
unfolding dirtied
returns-else-is_write c = simp (sym c.is_write.ensures ∙ c.if-is_write.false)
