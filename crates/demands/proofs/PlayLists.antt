-- The list call for the events before a put of a play: within its limits it is not refused, and gives the list of demand 3.
use mathlib.Core.Path.{◌≡◌, sym, ap, subst, ◌∙◌}
use mathlib.Core.Bool.{true, not, ◌&&◌}
use mathlib.Core.List.{List, [], ◌∷◌, ◌++◌}
use Prim.Native.Nat.{ℕ, ◌+◌, ◌*◌, ◌/◌, ◌^◌, ◌≤◌, ◌<◌}
use native.Mathlib.Omega.{arith}
use lib.ListN.{length, get_or, take, drop}
use lib.Seq.{get_or-take, length-take-le}
use Rattle.paging.specs.Frame.{map_fits, cr3s_fit}
use Rattle.paging.specs.Layout.{frame_words}
use Rattle.paging.specs.Numbers.{all}
use Rattle.paging.proofs.Layouts.{tables64_sound}
use Rattle.paging.proofs.Tests.{both}
use Rattle.rules.specs.declared.Event.{Event}
use Rattle.rules.specs.declared.Outcome.{Outcome}
use Rattle.rules.specs.History.{Setup, setup64, event_at, event_refusal}
use Rattle.rules.specs.Numbers.{event_of, events_of, numbers_of}
use Rattle.rules.specs.Outcome.{RightAt, question_refusal}
use Rattle.rules.proofs.Numbers.{numbers-length, events_back}
use Rattle.rules.proofs.Theorems.{one_list}
use Rattle.held.specs.Work.{work_bytes}
use Rattle.rules.specs.Refusal.{refusal_of}
use Rattle.listing.specs.Call.{Asked, asked, Lent, setup_asked, lengths_fit, first_refusal, list_refusal, pairs}
use Rattle.listing.proofs.Accepts.{event-at}
use Rattle.listing.proofs.Refuses.{or_second, list_later}
use Rattle.tables.specs.declared.Sizes.{Sizes}
use Rattle.tables.specs.State.{machine64}
use Rattle.shadow.specs.Refusals.{pool_fits, in_pool, frames_fit}
use Rattle.trainer.proofs.Puzzles.{first-all, sizes_fit_lem}
use Rattle.trees.proofs.Entries.{laid64}
use Rattle.promise.proofs.Started.{ranges}
use Rattle.demands.specs.Play.{Play, guest, question, Lists}
use Rattle.demands.proofs.Calls.{told_count}
use Rattle.demands.proofs.Setups as setups
use Rattle.demands.proofs.Plays.{fresh, setup_taken, fits_setup, events_fit}

module _ {z : Sizes} {map cr3s words : List ℕ} {es : List Event} (p : Play z map cr3s words es) (long : length words ≡ frame_words * z.frames)
    (k : ℕ) (hk : k < length es) (four : (event_at es k).kind ≡ 4) (few : k ≤ 4096) where
  abbrev numbers : List ℕ
  numbers = numbers_of (take k es)

  abbrev q : Asked
  q = asked map cr3s numbers (question z map cr3s words es k)

  guests : length map ≡ z.frames
  guests = setups.guests z map cr3s p.found (setup_taken p)

  starts : length cr3s ≡ z.processors
  starts = setups.starts z map cr3s p.found (setup_taken p)

  count : length numbers ≡ 4 * k
  count = numbers-length (take k es) ∙ ap (λ (n : ℕ). 4 * n) (length-take-le k es (omega arith))

  map-fits : map_fits (2 ^ 40) map ≡ true
  unfolding frames_fit
  map-fits =
      let M = machine64 z in
      let g = both (pool_fits M && map_fits (2 ^ 40) map) (all (length map) (λ i. not (in_pool M (get_or map i 0)))) (setups.frames_fit_lem z map cr3s p.found (setup_taken p)) in
      (both (pool_fits M) (map_fits (2 ^ 40) map) g.0).1

  module _ (b : Lent) (same : b.words ≡ words) (bytes : work_bytes z.frames ≤ length b.work) (room : 2 * (z.frames + 3) ≤ length b.outcomes) where
    guest_is : setup_asked q b ≡ guest z map cr3s words es
    guest_is i = setup64 (guests i) (starts i) (same i) cr3s

    sizes : lengths_fit q b ≡ true
    sizes =
        let r = ranges (fresh p) laid64 (fits_setup p long) in
        sizes_fit_lem _ _ _ _ _ _ (omega (arith, guests, r.frames), omega (arith, guests, r.frames)) (omega (arith, starts, r.processors), omega (arith, starts, r.processors))
        (omega (arith, count)) (omega (arith, count)) (ap length same ∙ long ∙ ap (λ (n : ℕ). frame_words * n) (sym (guests)))
        (omega (arith, guests)) (omega (arith, guests))

    -- its events and its question are within their ranges
    event-fits : (j : ℕ) → j < length numbers / 4 → event_refusal (setup_asked q b) (event_of numbers j) ≡ 0
    event-fits j h =
        let one : event_of numbers j ≡ event_at es j =
        sym (event-at numbers j h) ∙ ap (λ (ds : List Event). event_at ds j) (events_back (take k es)) ∙ get_or-take k es j _ (omega (arith, count)) in
        (λ i. event_refusal (guest_is i) (one i)) ∙ (events_fit p).events j (omega (arith, count))

    question-fits : question_refusal (setup_asked q b) (question z map cr3s words es k) ≡ 0
    question-fits =
        let e = event_at es k in
        let kind : 4 ≡ e.kind = sym four in
        (λ i. event_refusal (guest_is i) (record { proc = e.proc; kind = kind i; a = e.a; b = e.b })) ∙ (events_fit p).events k hk

    -- IT IS NOT REFUSED
    pub list_taken : list_refusal q b ≡ 0
    list_taken =
        let f : ℕ → ℕ = λ j. event_refusal (setup_asked q b) (event_of numbers j) in
        list_later q b sizes map-fits (ap (λ (n : ℕ). cr3s_fit n cr3s) (guests) ∙ setups.cr3s_fit_lem z map cr3s p.found (setup_taken p))
        ∙ or_second (first_refusal (length numbers / 4) f) (question_refusal (setup_asked q b) (question z map cr3s words es k)) (first-all (length numbers / 4) f event-fits)
        ∙ question-fits

    right_is : (list : List Outcome) → RightAt (setup_asked q b) (events_of numbers) (question z map cr3s words es k) (length numbers / 4) list
        → RightAt (guest z map cr3s words es) (take k es) (question z map cr3s words es k) k list
    right_is list r =
        let moment : length numbers / 4 ≡ k = omega (arith, count) in
        subst (λ (U : Setup). RightAt U (take k es) (question z map cr3s words es k) k list) guest_is
        (subst (λ (ds : List Event). RightAt (setup_asked q b) ds (question z map cr3s words es k) k list) (events_back (take k es))
        (subst (λ (n : ℕ). RightAt (setup_asked q b) (events_of numbers) (question z map cr3s words es k) n list) moment r))

  -- AND IT GIVES THE LIST
  pub lists-given : (list : List Outcome) → RightAt (guest z map cr3s words es) (take k es) (question z map cr3s words es k) k list → Lists z map cr3s words es k list
  lists-given list right lim before after answer told n same bytes room two c =
      let a = c.answered two in
      let zero : refusal_of a.result ≡ 0 = a.call.number ∙ list_taken before same bytes room in
      let l = a.call.listed (list_taken before same bytes room) in
      let is : l.list ≡ list =
      one_list (guest z map cr3s words es) (take k es) (question z map cr3s words es k) tables64_sound k l.list list (right_is before same bytes room l.list l.right) right in (
        a.first ∙ zero,
        a.laid ∙ told_count a.result zero ∙ ap (λ (m : ℕ). 0 ∷ m ∷ []) (l.counted ∙ ap length is),
        l.outcomes ∙ ap (λ (os : List Outcome). pairs os ++ drop (2 * length os) before.outcomes) is,
      )
