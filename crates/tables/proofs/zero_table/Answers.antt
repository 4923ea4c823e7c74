use mathlib.Core.Path.{◌≡◌, refl, sym, ap, ◌∙◌}
use Prim.Native.Nat.{ℕ, ◌*◌, ◌-◌}
use native.Mathlib.Omega.{arith}
use lib.ListN.{replicate, length-replicate}
use Rattle.std.proofs.Common.{rules}
use Rattle.std.proofs.Math.Seq.{paste}
use Rattle.std.proofs.lemmas.Slice.{put_mid-paste}
use Rattle.paging.specs.Layout.{put}
use Rattle.tables.specs.Steps.{zeroed}
use Rattle.tables.proofs.Zeros.{each_zero}
use Rattle.tables.proofs.zero_table.Goals as goal

pub returns : goal.returns
unfolding zeroed put
returns c =
    let a = c.args in
    let n = c.min-end.result - c.min-start.result in
    let z : c.fill.new.self ≡ replicate n 0 = search rules in
    put_mid-paste c.min-start.result n a.pool.now c.fill.new.self (replicate n 0) n z refl (sym (length-replicate n 0))
    ∙ ap (λ (s : ℕ). paste a.pool.now s (replicate n 0) n) c.min-start.ensures
    ∙ sym (each_zero a.pool.now (512 * a.t) 512 n (omega arith))
