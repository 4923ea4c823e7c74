-- Setup is accepted, so that the run starts where the promise says.
use mathlib.Core.Path.{◌≡◌, refl, ap, ◌∙◌}
use mathlib.Core.List.{List, []}
use Prim.Native.Nat.{ℕ, ◌*◌, ◌/◌}
use native.Mathlib.Omega.{arith}
use lib.ListN.{length, replicate}
use lib.Seq.{length-take-le}
use Rattle.rules.specs.Numbers.{events_of}
use Rattle.tables.specs.State.{machine64, shadow_of, state_of}
use Rattle.render.proofs.Writes.{puts_as}
use Rattle.trainer.specs.Call.{joined}
use Rattle.trainer.specs.Run.{sizes_of, event_line}
use Rattle.trainer.proofs.EventLines.{set_up}
use Rattle.trainer.proofs.put_run.Goals as goal

pub returns : goal.returns
returns c =
    let a = c.args in
    let t = c.set_up.new.self in
    let s = c.set_up.ensures in
    let e = c.put_events.ensures in
    let M = machine64 (sizes_of a.map.now a.cr3s.now) in
    let p = length a.cr3s.now in
    let starts = c.requires.2 in
    let few = starts.few in
    let taken = starts.taken _ _ _ (length-take-le (2048 * p) (replicate 8192 0) (omega (arith, few))) (length-take-le (8 * p) (replicate 32 0) (omega (arith, few))) (length-take-le (24 * p) (replicate 96 0) (omega (arith, few))) in
    let start = ap (λ (w : List ℕ). state_of w (shadow_of t.pool.now t.records.now) t.slots.now) s.words
    ∙ set_up M a.map.now a.cr3s.now a.words.now _ (state_of [] (shadow_of t.pool.now t.records.now) t.slots.now) taken s.call in
    let same : _ ≡ _ = λ i. joined (length a.events.now / 4) (event_line (machine64 (s.sizes i)) (s.map i) (start i) (events_of a.events.now)) in
    record { bytes = _; lines = refl; puts = puts_as same e.puts; few = e.few }
