use borrow.Author.Tests.{lt-ltb, le-ltb}
use Rattle.paging.proofs.is_allowed.Goals as goal

-- src/lib.rt:57:1
pub returns-then-a-lt140737488355328 : goal.returns-then-a-lt140737488355328
returns-then-a-lt140737488355328 c = simp (lt-ltb _ _ c.if-a-lt140737488355328.true)

-- src/lib.rt:57:1
pub returns-else-a-lt140737488355328 : goal.returns-else-a-lt140737488355328
returns-else-a-lt140737488355328 c = simp (le-ltb _ _ c.if-a-lt140737488355328.false)
