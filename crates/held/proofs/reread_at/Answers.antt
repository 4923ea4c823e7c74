-- A page whose entry lies in another word is not touched.
use mathlib.Core.Path.{sym, ◌∙◌}
use Rattle.held.proofs.Follows.{reread_elsewhere, reread-here, here_64, there_64}
use Rattle.paging.specs.Layout.{tables64}
use Rattle.held.proofs.reread_at.Goals as goal

pub returns-then-index_of-a : goal.returns-then-index_of-a
returns-then-index_of-a c =
    let a = c.args in
    c.reread_all.ensures
    ∙ sym (reread-here tables64 a.at.frames a.at.page a.words.now a.a a.level a.work.now (here_64 a.a _ (sym c.index_of.ensures ∙ c.if-index_of-a.true)))

pub returns-else-index_of-a : goal.returns-else-index_of-a
returns-else-index_of-a c =
    let a = c.args in
    sym (reread_elsewhere tables64 a.at.frames a.at.page a.words.now a.a a.level a.work.now (λ e. c.if-index_of-a.false (c.index_of.ensures ∙ there_64 a.a _ e)))
