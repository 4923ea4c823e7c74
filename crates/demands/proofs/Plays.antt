-- A play over the calls is a run of demand 3 that loses no slot. Its setup fits, its events fit, and its states and answers are
-- that run's.
use mathlib.Core.Path.{◌≡◌, refl, sym, ap, ◌∙◌}
use mathlib.Core.Bool.{false}
use mathlib.Core.List.{List, [], ◌∷◌}
use Prim.Native.Nat.{ℕ, zero, suc, ◌+◌, ◌*◌, ◌/◌, ◌%◌, ◌≤◌, ◌<◌}
use native.Mathlib.Omega.{arith}
use lib.ListN.{length, get_or}
use Rattle.std.specs.Prelude.{Result}
use Rattle.paging.specs.Layout.{frame_words, get}
use Rattle.paging.specs.Sound.{Alike}
use Rattle.rules.specs.declared.Event.{Event}
use Rattle.rules.specs.History.{Fit, event_at, event_refusal, words_at}
use Rattle.tables.specs.declared.Sizes.{Sizes}
use Rattle.tables.specs.State.{Machine, State, state_of, machine64}
use Rattle.shadow.specs.declared.Answer.{Answer}
use Rattle.shadow.specs.After.{after}
use Rattle.shadow.specs.Answer.{Reply, replies, refusal_of}
use Rattle.shadow.specs.Refusals.{call_refusal, setup_refusal}
use Rattle.shadow.specs.Setup.{started, after_setup}
use Rattle.shadow.proofs.Accepted.{accepted_event, accepted_words}
use Rattle.trees.proofs.Entries.{laid64}
use Rattle.keeps.proofs.Accepts.{same_tests, own_number}
use Rattle.promise.specs.Demand as D
use Rattle.promise.specs.Demand.{Fresh, Run, guest_of, state_at, before, answer_at}
use Rattle.promise.proofs.Lossless.{none_lost}
use Rattle.promise.proofs.Holds.{Holds}
use Rattle.promise.proofs.Started.{ranges, ready, fits, holds, accepted}
use Rattle.flamecurl.specs.Exports.{Answered, event_numbers, EventExport}
use Rattle.demands.specs.Play.{Play, guest}
use Rattle.demands.proofs.Setups.{frames_fit_lem, start-below, setup_fits_lem}
use Rattle.demands.proofs.Given.{given, setup_done, setup_number, event_number}

module _ {z : Sizes} {map cr3s words : List ℕ} {es : List Event} (p : Play z map cr3s words es) where
  abbrev M : Machine
  M = machine64 z

  abbrev pub fresh : Fresh
  fresh = record { machine = M; map = map; words = words; cr3s = cr3s }

  abbrev pub run : Run
  run = record { events = es; lost = λ k q j. false }

  -- ---- setup

  pub setup_taken : setup_refusal M map cr3s p.found ≡ 0
  setup_taken = sym (setup_number M map cr3s p.found) ∙ ap (λ (x : Reply). refusal_of x.answer) (sym p.begins.call) ∙ sym p.begins.first

  set_is : p.set ≡ started M cr3s p.found.words
  set_is = ap (λ (x : Reply). x.state) (p.begins.call ∙ setup_done M map cr3s p.found setup_taken)

  start_is : p.states 0 ≡ D.begun fresh
  start_is = p.start ∙ ap (λ (s : State). state_of words s.shadow s.slots) set_is

  pub fits_setup : length words ≡ frame_words * z.frames → D.SetupFits fresh
  fits_setup = setup_fits_lem z map cr3s p.found setup_taken words

  -- ---- events

  abbrev e : ℕ → Event
  e k = event_at es k

  abbrev Gave : ℕ → Result Answer ℕ → Type 0
  Gave k r = replies r (p.states (suc k)) ≡ after M map (p.states k) (e k)

  answered : (k : ℕ) → k < length es → Answered event_numbers (Gave k) 0 (p.told k)
  answered k h = given (p.goes k h) refl

  next_is : (k : ℕ) → k < length es → p.states (suc k) ≡ (after M map (p.states k) (e k)).state
  next_is k h = ap (λ (x : Reply). x.state) (answered k h).call

  answer_is : (k : ℕ) (h : k < length es) → (answered k h).result ≡ (after M map (p.states k) (e k)).answer
  answer_is k h = ap (λ (x : Reply). x.answer) (answered k h).call

  taken : (k : ℕ) → k < length es → call_refusal M map (p.states k) (e k) ≡ 0
  taken k h = sym (event_number M map (p.states k) (e k)) ∙ ap refusal_of (sym (answer_is k h)) ∙ sym (answered k h).first

  -- ---- ACCEPTED EVENTS FIT

  pub events_fit : Fit (guest_of fresh) es
  events_fit = record {
    starts = start-below z map cr3s p.found setup_taken;
    events = λ k h. same_tests M (p.states k) words cr3s (e k) ∙ accepted_event M map (p.states k) (e k) (taken k h);
  }

  -- the guest's words are as many as the first event asks for
  pub long : 0 < length es → length words ≡ frame_words * z.frames
  long h = ap (λ (s : State). length s.words) (sym p.start) ∙ accepted_words M map (p.states 0) (e 0) (taken 0 h)

  -- ---- the run

  pub state_is : (k : ℕ) → k ≤ length es → state_at fresh run k ≡ p.states k
  unfolding state_at
  state_is zero h = sym start_is
  state_is (suc k) h =
      ap (λ (s : State). (after M map s (e k)).state) (none_lost M (state_at fresh run k) ∙ state_is k (omega arith))
      ∙ sym (next_is k (omega arith))

  before_is : (k : ℕ) → k < length es → before fresh run k ≡ p.states k
  before_is k h = none_lost M (state_at fresh run k) ∙ state_is k (omega arith)

  -- what was told of event k + 1 is the run's answer
  pub told_is : (k : ℕ) → k < length es → p.told k ≡ event_numbers (answer_at fresh run k)
  told_is k h =
      (answered k h).laid ∙ ap event_numbers (answer_is k h ∙ ap (λ (s : State). (after M map s (e k)).answer) (sym (before_is k h)))

  module _ (size : length words ≡ frame_words * z.frames) where
    holds_at : (k : ℕ) → k ≤ length es → Holds fresh es k (p.states k)
    holds_at k h = rw (← state_is k h) (holds fresh laid64 (fits_setup size) run events_fit k h)

    -- THE NUMBER OF THE NEXT EVENT IS ITS OWN: it is refused exactly if it does not fit
    pub next_number : (d : Event) (s : State) (answer told : List ℕ) (n : ℕ) → length answer ≡ 3
        → EventExport z map d (p.states (length es)) s answer n told → n ≡ event_refusal (guest z map cr3s words es) d
    next_number d s answer told n three c =
        let last = p.states (length es) in
        let h = holds_at (length es) (omega arith) in
        let F = fresh in
        let fit = fits_setup size in
        let a = c.answered three in
        a.first ∙ ap (λ (x : Reply). refusal_of x.answer) a.call ∙ event_number M map last d
        ∙ own_number M map last (ready F laid64 fit) (ranges F laid64 fit) (fits F laid64 fit) (frames_fit_lem z map cr3s p.found setup_taken) h.right h.size d
        ∙ sym (same_tests M last words cr3s d)

    -- THE MACHINE'S WORDS ARE THE RULES' BUT FOR A AND D
    pub words_alike : (k : ℕ) → k ≤ length es → (i : ℕ) → Alike (get_or (p.states k).words i 0) (get_or (words_at (guest z map cr3s words es) es k) i 0)
    unfolding get
    words_alike k h i =
        let q : frame_words * (i / 512) + i % 512 ≡ i = omega arith in
        rw q at ((holds_at k h).words.each (i / 512) (i % 512) (omega arith))

-- ---- EVENTS THAT FIT ARE A PLAY: the calls go through all of them

module _ (z : Sizes) (map cr3s words : List ℕ) (found : State) (ok : setup_refusal (machine64 z) map cr3s found ≡ 0)
    (long : length words ≡ frame_words * z.frames) (es : List Event) (fit : Fit (guest z map cr3s words es) es) where
  abbrev machine : Machine
  machine = machine64 z

  abbrev F : Fresh
  F = record { machine = machine; map = map; words = words; cr3s = cr3s }

  abbrev r : Run
  r = record { events = es; lost = λ k q j. false }

  none_refused : (k : ℕ) → k < length es → refusal_of (answer_at F r k) ≡ 0
  none_refused k h =
      event_number machine map (before F r k) (event_at es k) ∙ accepted F laid64 (setup_fits_lem z map cr3s found ok words long) r fit k h

  gave : (k : ℕ) → replies (answer_at F r k) (state_at F r (suc k)) ≡ after machine map (state_at F r k) (event_at es k)
  unfolding state_at
  gave k = ap (λ (s : State). after machine map s (event_at es k)) (none_lost machine (state_at F r k))

  pub a_play : Play z map cr3s words es
  unfolding state_at
  a_play = record {
    found = found;
    set = (after_setup machine map cr3s found).state;
    begins = record { result = (after_setup machine map cr3s found).answer; call = refl; first = sym (setup_number machine map cr3s found ∙ ok) };
    states = state_at F r;
    start = ap (λ (x : Reply). state_of words x.state.shadow x.state.slots) (sym (setup_done machine map cr3s found ok));
    answer = λ k. 0 ∷ 0 ∷ 0 ∷ [];
    told = λ k. event_numbers (answer_at F r k);
    goes = λ k h. record {
      refused = λ other. absurd (other refl);
      answered = λ three. record { result = answer_at F r k; call = gave k; laid = refl; first = sym (none_refused k h) };
    };
  }
