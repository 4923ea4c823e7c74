use mathlib.Core.Path.{◌∙◌, ap₂}
use Prim.Native.Nat.{ℕ}
use Rattle.paging.specs.Request.{enough}
use Rattle.paging.proofs.Meets.{and_enough}
use Rattle.paging.proofs.has_enough.Goals as goal

pub returns : goal.returns
returns c =
    let a = c.args in
    and_enough (record { needs = c.needs.inside.0; adds = a.q.now.adds }) c.rights.inside.0 c.needs.invariant c.rights.invariant
    ∙ ap₂ (λ (n r : ℕ). enough (record { needs = n; adds = a.q.now.adds }) r) c.needs.view_is c.rights.view_is
