-- Accepted, the work's answer is the promised list.
use mathlib.Core.Path.{sym}
use native.Mathlib.Omega.{arith}
use Rattle.listing.specs.Call.{asked, lent}
use Rattle.listing.proofs.Accepts.{Accepted, accepted, ready}
use Rattle.listing.proofs.Promise.{lists}
use Rattle.listing.proofs.list.Goals as goal
use Rattle.listing.proofs.list.Goals.{In_ok-test}

-- the call is accepted from here on
known : (c : In_ok-test) → Accepted (asked c.args.map.now c.args.cr3s.now c.args.events.now c.args.q) (lent c.args.words.now c.args.work.now c.args.outcomes.now)
known c = accepted _ _ (sym c.in_ok-test.ensures)

pub offset_bounds-cr3s-q : goal.offset_bounds-cr3s-q
offset_bounds-cr3s-q c = omega (arith, (known c).proc)

pub bounds-cr3s-q : goal.bounds-cr3s-q
bounds-cr3s-q c = (known (goal.at.bounds-cr3s-q c).In_ok-test).proc

pub answer-requires : goal.answer-requires
answer-requires c = ready _ _ (known (goal.at.answer-requires c).In_ok-test)

pub returns : goal.returns
returns c =
    let z = sym c.in_ok-test.ensures in
    record { number = sym z; refused = λ n. absurd (n z); listed = λ e. lists _ _ (known (goal.at.returns c).In_ok-test) _ _ _ _ c.answer.ensures }
