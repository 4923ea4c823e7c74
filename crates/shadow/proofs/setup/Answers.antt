-- A setup that is accepted zeroes the buffers and sets the roots.
use mathlib.Core.Path.{sym, ap, ◌∙◌}
use mathlib.Core.List.{List, []}
use Prim.Native.Nat.{ℕ, ◌*◌}
use lib.ListN.{length, length-replicate}
use Rattle.std.proofs.Common.{rules}
use Rattle.tables.specs.declared.Sizes.{Sizes}
use Rattle.tables.specs.State.{shadow_of, state_of, machine64, record_size, table_count}
use Rattle.shadow.specs.Setup.{rooted}
use Rattle.shadow.proofs.Starting.{accepted_sizes, setup_exact, setup_cr3s, setup_done}
use Rattle.shadow.proofs.setup.Goals as goal

pub set_roots-requires : goal.set_roots-requires
set_roots-requires c =
    let a = c.args in
    let s = state_of [] (shadow_of a.pool.now a.records.now) a.slots.now in
    let h = accepted_sizes (machine64 a.z) a.map.now a.cr3s.now s (sym c.in_ok-m.ensures.refusal) in
    let x = setup_exact (machine64 a.z) a.map.now a.cr3s.now s h.0 h.1 in
    let same = sym c.in_ok-m.ensures.same in
    record {
      room = ap (λ (l : List ℕ). length l) c.zero-2.ensures ∙ length-replicate _ _ ∙ x.pairs ∙ ap (λ (z : Sizes). record_size * table_count (machine64 z)) same;
      cr3s_len = setup_cr3s (machine64 a.z) a.map.now a.cr3s.now s h.0 h.1 ∙ ap (λ (z : Sizes). z.processors) same;
    }

pub returns : goal.returns
returns c =
    let a = c.args in
    setup_done (machine64 a.z) a.map.now a.cr3s.now (state_of [] (shadow_of a.pool.now a.records.now) a.slots.now) (sym c.in_ok-m.ensures.refusal)
    (search rules) (search rules) (search rules)
    (c.set_roots.ensures ∙ ap (λ (z : Sizes). rooted (machine64 z) a.cr3s.now c.zero-2.new.buffer) c.in_ok-m.ensures.same)
