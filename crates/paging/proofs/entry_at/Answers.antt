-- The word that is read is the entry of the layout; past the end both are 0.
use mathlib.Core.Path.{refl, sym}
use lib.ListN.{get_or-eq_default}
use Rattle.paging.specs.Layout.{get}
use Rattle.paging.proofs.entry_at.Goals as goal

pub returns-then-at-words : goal.returns-then-at-words
unfolding get
returns-then-at-words c = refl

pub returns-else-at-words : goal.returns-else-at-words
unfolding get
returns-else-at-words c = sym (get_or-eq_default c.args.words.now 0 c.if-at-words.false)
