-- A store is the move that its kind decodes to.
use mathlib.Core.Path.{sym, ap, ◌∙◌}
use Rattle.rules.specs.Numbers.{kind_number}
use Rattle.tables.specs.State.{shadow_of, state_of, machine64}
use Rattle.shadow.proofs.Moves.{moved_store}
use Rattle.shadow.proofs.take_step.Goals as goal

pub returns-in-Store : goal.returns-in-Store
returns-in-Store c = let a = c.args in c.store.ensures (shadow_of a.pool.now a.records.now) a.slots.now ∙ moved_store (machine64 a.m.sizes) a.map.now (state_of a.words.now (shadow_of a.pool.now a.records.now) a.slots.now) a.e (sym c.requires.kind ∙ ap kind_number c.in-Store.is)
