-- Beginning, replaying and collecting, each by its own definition.
use mathlib.Core.Path.{ap, ap₂, ◌∙◌}
use mathlib.Core.List.{List}
use Prim.Native.Nat.{ℕ, ◌/◌}
use native.Mathlib.Omega.{arith}
use lib.ListN.{length}
use Rattle.paging.specs.declared.Request.{Request}
use Rattle.paging.specs.Frame.{guest}
use Rattle.paging.specs.Layout.{tables64}
use Rattle.paging.proofs.Meets.{adds_small}
use Rattle.held.specs.FollowCode.{restarted}
use Rattle.listing.specs.ReplayCode.{Replay, replay_of, replayed}
use Rattle.listing.specs.CollectCode.{collected}
use Rattle.listing.specs.AnswerCode.{state_at}
use Rattle.listing.proofs.answer.Goals as goal

pub collect-requires : goal.collect-requires
collect-requires c =
    let a = c.args in
    let adds = ap (λ (r : Request). r.adds) c.request_of.ensures in (
      record { few = c.requires.room.few; whole = c.replay.auto.words ∙ c.requires.room.whole; bytes = omega (arith, c.requires.room.bytes, c.replay.auto.work, c.restart.auto.work) },
      c.requires.some,
      omega (arith, adds, adds_small a.q.request c.requires.request),
      c.requires.pairs,
    )

pub returns : goal.returns
unfolding state_at
returns c =
    let a = c.args in
    let n = length a.events.now / 4 in
    let page = c.page_of.ensures in
    let did = c.replay.ensures
    ∙ ap (λ (l : List ℕ). replayed a.frames a.q.proc c.page_of.result a.events.now n (replay_of a.start a.words.now l)) c.restart.ensures
    ∙ ap (λ (v : ℕ). replayed a.frames a.q.proc v a.events.now n (replay_of a.start a.words.now (restarted tables64 a.frames v a.words.now 0 (guest a.start) a.work.now))) page in
    record {
      words_are = ap (λ (s : Replay). s.words) did;
      work_is = ap (λ (s : Replay). s.work) did;
      outcomes_are = c.collect.ensures ∙ ap₂ (λ (v : ℕ) (r : Request). collected a.frames v r c.replay.new.words c.replay.new.work a.outcomes.now) page c.request_of.ensures;
    }
