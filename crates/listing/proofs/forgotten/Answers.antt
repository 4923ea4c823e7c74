-- By whether the page is the one asked about.
use mathlib.Core.Path.{sym, ◌∙◌}
use Rattle.listing.proofs.Applies.{forgets-all, forgets_partial}
use Rattle.listing.proofs.forgotten.Goals as goal

pub returns-then-page_of-at : goal.returns-then-page_of-at
returns-then-page_of-at c = let a = c.args in sym (forgets-all a.at.frames a.at.page a.a (sym c.page_of.ensures ∙ c.if-page_of-at.true))

pub returns-else-page_of-at : goal.returns-else-page_of-at
returns-else-page_of-at c = let a = c.args in sym (forgets_partial a.at.frames a.at.page a.a (λ e. c.if-page_of-at.false (c.page_of.ensures ∙ e)))
