-- The list call on a copy of the puzzle's words leaves the right list, and its outcomes are written as the lines of the question.
use mathlib.Core.Path.{refl, ap, ◌∙◌}
use Prim.Native.Nat.{◌*◌}
use native.Mathlib.Omega.{arith}
use lib.ListN.{length}
use lib.Seq.{length-take-le}
use Rattle.listing.specs.Call.{lent}
use Rattle.render.specs.LinesCode.{question_lines}
use Rattle.render.proofs.Writes.{puts_as}
use Rattle.trainer.specs.PartsCode.{lists_of}
use Rattle.trainer.proofs.Asks.{Found, found, unwrapped, question-pairs}
use Rattle.trainer.proofs.lists.Lists.put_answer.Goals as goal
use Rattle.trainer.proofs.lists.Lists.put_answer.Goals.{After-unwrap_or-count}

found_of : (c : After-unwrap_or-count) → Found (lists_of c.args.self.now) c.args.q c.unwrap_or-count.result c.list.new.outcomes
found_of c =
    let l = c.list.new in
    found (lists_of c.args.self.now) c.args.q c.requires.1 c.copy.new.words _ _ refl refl c.copy.ensures _ _ (c.unwrap_or-count.ensures ∙ unwrapped c.list.result) (lent l.words l.work l.outcomes) c.list.auto.outcomes c.list.ensures

pub front-pairs-requires : goal.front-pairs-requires
front-pairs-requires c = omega (arith, (found_of (goal.at.front-pairs-requires c).After-unwrap_or-count).within, c.list.auto.outcomes)

pub returns : goal.returns
returns c =
    let a = c.args in
    let f = found_of (goal.at.returns c).After-unwrap_or-count in
    let (put, few) = c.put_question.ensures in
    record {
      list = f.list;
      right = f.right;
      puts = puts_as (ap (question_lines a.self.now.map.now a.q) (c.front-pairs.ensures ∙ f.stands) ∙ question-pairs a.self.now.map.now a.q f.list) put;
      few = omega (arith, few, ap length c.front-pairs.ensures, f.within, c.list.auto.outcomes, length-take-le (2 * c.unwrap_or-count.result) c.list.new.outcomes (omega (arith, f.within, c.list.auto.outcomes)));
    }
