-- What a call that is not refused is known to be: sizes in range, a history that fits, a question within its ranges.
use mathlib.Core.Path.{◌≡◌, refl, ◌∙◌, ap}
use mathlib.Core.Bool.{true, not}
use mathlib.Core.List.{List, [], ◌∷◌}
use Prim.Native.Nat.{ℕ, ◌+◌, ◌*◌, ◌/◌, ◌%◌, ◌^◌, ◌≤◌, ◌<◌}
use native.Mathlib.Omega.{arith}
use lib.Dec.{eqb, ltb, leb}
use lib.ListN.{length, get_or}
use borrow.Author.Tests.{leb-true, leb-false, ltb-true, ltb-false, eqb-true, not-false}
use Rattle.paging.specs.Numbers.{is_between}
use Rattle.paging.specs.Frame.{map_fits, cr3s_fit}
use Rattle.paging.specs.Layout.{frame_words}
use Rattle.paging.proofs.Tests.{both}
use Rattle.paging.proofs.Numbers.{all-at, tab-length, tab-at, between}
use Rattle.rules.specs.Refusal.{test}
use Rattle.rules.specs.History.{Fit, event_at, event_refusal}
use Rattle.rules.specs.Outcome.{question_refusal}
use Rattle.rules.proofs.Ranges.{Clear, clear, event_clear, cr3_within}
use Rattle.held.specs.Work.{work_bytes}
use Rattle.held.specs.FollowCode.{Room}
use Rattle.listing.specs.Call.{Asked, Lent, setup_asked, sizes_fit, lengths_fit, first_refusal, list_refusal}
use Rattle.rules.specs.Numbers.{event_of, events_of}
use Rattle.listing.specs.ReplayCode.{Reach}
use Rattle.listing.specs.AnswerCode.{Answerable}
use Rattle.listing.proofs.Refuses.{or_none, first-each}

-- an event of the list is the one that its four numbers say
pub event-at : (ns : List ℕ) (k : ℕ) → k < length ns / 4 → event_at (events_of ns) k ≡ event_of ns k
unfolding events_of
event-at ns k h = tab-at (length ns / 4) (event_of ns) k (record { proc = 0; kind = 0; a = 0; b = 0 }) h

pub events_length : (ns : List ℕ) → length (events_of ns) ≡ length ns / 4
unfolding events_of
events_length ns = tab-length (length ns / 4) (event_of ns)

-- the sizes, one by one
pub record SizesFit (map cr3s events words work outcomes : ℕ) : Type 0 where
  pub some : 1 ≤ map
  pub few : map ≤ 256
  pub whole : words ≡ frame_words * map
  pub bytes : work_bytes map ≤ work
  pub pairs : 2 * (map + 3) ≤ outcomes

sized : (m p e w k o : ℕ) → sizes_fit m p e w k o ≡ true → SizesFit m p e w k o
unfolding sizes_fit
sized m p e w k o h =
    let m₁ = both (is_between 1 256 m) _ h in
    let p₁ = both (is_between 1 4 p) _ m₁.1 in
    let e₁ = both (eqb (e % 4) 0) _ p₁.1 in
    let e₂ = both (leb (e / 4) 4096) _ e₁.1 in
    let w₁ = both (eqb w (frame_words * m)) _ e₂.1 in
    let k₁ = both (leb (work_bytes m) k) _ w₁.1 in
    let range = between 1 256 m m₁.0 in
    record {
      some = range.0;
      few = range.1;
      whole = eqb-true w (frame_words * m) w₁.0;
      bytes = leb-true (work_bytes m) k k₁.0;
      pairs = leb-true (2 * (m + 3)) o k₁.1;
    }

module _ (q : Asked) (b : Lent) where
  pub record Accepted : Type 0 where
    pub sizes : SizesFit (length q.map) (length q.cr3s) (length q.events) (length b.words) (length b.work) (length b.outcomes)
    pub starts : (p : ℕ) → p < length q.cr3s → get_or q.cr3s p 0 < length q.map
    pub events : (k : ℕ) → k < length q.events / 4 → event_refusal (setup_asked q b) (event_of q.events k) ≡ 0
    pub proc : q.question.proc < length q.cr3s
    pub request : q.question.request < 6

  accepted_by : Clear (test 1 (not (lengths_fit q b)) ∷ test 2 (not (map_fits (2 ^ 40) q.map)) ∷ test 7 (not (cr3s_fit (length q.map) q.cr3s)) ∷ [])
      → first_refusal (length q.events / 4) (λ k. event_refusal (setup_asked q b) (event_of q.events k)) ≡ 0
      → question_refusal (setup_asked q b) q.question ≡ 0 → Accepted
  unfolding cr3s_fit
  accepted_by c es qs =
      let asks = event_clear (setup_asked q b) (record { proc = q.question.proc; kind = 4; a = q.question.addr; b = q.question.request }) qs in
      record {
        sizes = sized _ _ _ _ _ _ (not-false _ c.0);
        starts = λ p h. ltb-true _ _ (all-at (λ p. ltb (get_or q.cr3s p 0) (length q.map)) (length q.cr3s) (not-false _ c.1.1.0) p h);
        events = first-each (λ k. event_refusal (setup_asked q b) (event_of q.events k)) (length q.events / 4) es;
        proc = leb-false (length q.cr3s) q.question.proc asks.0;
        request = omega (arith, ltb-false 5 q.question.request asks.1.1.0);
      }

  pub accepted : list_refusal q b ≡ 0 → Accepted
  unfolding list_refusal
  accepted z =
      let (head, later) = or_none _ _ z in
      let (es, qs) = or_none _ _ later in
      accepted_by (clear _ (omega arith, (omega arith, (omega arith, tt))) head) es qs

  module _ (ok : Accepted) where
    pub room : Room (length q.map) b.words b.work
    room = record { few = ok.sizes.few; whole = ok.sizes.whole; bytes = ok.sizes.bytes }

    pub fit : Fit (setup_asked q b) (events_of q.events)
    fit = record {
      starts = ok.starts;
      events = λ k h. let lt : k < length q.events / 4 = omega (arith, events_length q.events) in ap (event_refusal (setup_asked q b)) (event-at q.events k lt) ∙ ok.events k lt;
    }

    pub reach : (k : ℕ) → k < length q.events / 4 → Reach (length q.map) (event_of q.events k)
    reach k h = record { word = word; cr3 = λ e. cr3_within (setup_asked q b) (event_of q.events k) (ok.events k h) (rw e refl) }
      where
        word : (event_of q.events k).kind ≡ 1 → (event_of q.events k).a < frame_words * length q.map
        word e =
            let tests = event_clear (setup_asked q b) (event_of q.events k) (ok.events k h) in
            leb-false (frame_words * length q.map) (event_of q.events k).a (rw e at tests.1.1.1.1.0)

    pub ready : Answerable (length q.map) b.words b.work b.outcomes q.events q.question (get_or q.cr3s q.question.proc 0)
    ready = record {
      room = room;
      some = ok.sizes.some;
      start_in = ok.starts q.question.proc ok.proc;
      reach = reach;
      request = ok.request;
      pairs = ok.sizes.pairs;
    }
