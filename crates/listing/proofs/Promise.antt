-- An accepted call keeps its promise; and the promise allows one result.
use mathlib.Core.Path.{◌≡◌, sym, ◌∙◌, ap, subst}
use mathlib.Core.Logic.{◌⊎◌, inl, inr}
use mathlib.Core.List.{List, ◌++◌}
use Prim.Native.Nat.{ℕ, ◌*◌, ◌/◌, ◌≤◌, ◌<◌}
use native.Mathlib.Decide.{dec_lt}
use native.Mathlib.Omega.{arith}
use lib.ListN.{length, get_or, drop}
use lib.Seq.{ext_get_or}
use Rattle.paging.specs.declared.Walk.{Walk}
use Rattle.paging.specs.Layout.{tables64, page_of}
use Rattle.paging.specs.Request.{request_of}
use Rattle.paging.proofs.Layouts.{tables64_sound}
use Rattle.rules.specs.declared.Outcome.{Outcome}
use Rattle.rules.specs.History.{words_at}
use Rattle.rules.specs.View.{View, view_of, never}
use Rattle.rules.specs.Held.{Held}
use Rattle.rules.proofs.Steps.{held_is_kept}
use Rattle.rules.proofs.Theorems.{one_list, some_outcome}
use Rattle.held.specs.Work.{cell, work_bytes, HasByte, Tells, WorkTells}
use Rattle.held.proofs.Cells.{cell_below}
use Rattle.held.proofs.Tracks.{Told, Tracks}
use Rattle.std.specs.Prelude.{Result, Ok, Err}
use Rattle.rules.specs.declared.Refusal.{Refusal}
use Rattle.rules.specs.Refusal.{number_of, refusal_of}
use Rattle.rules.proofs.Refusals.{some_number, same_refusal}
use Rattle.listing.specs.Call.{Asked, Lent, lent, setup_asked, pairs, count_of, Lists}
use Rattle.rules.specs.Numbers.{events_of}
use Rattle.listing.specs.CollectCode.{Out, out_of, walk_at, collected}
use Rattle.listing.specs.AnswerCode.{state_at, Answers}
use Rattle.listing.proofs.Accepts.{Accepted, event-at, fit, reach}
use Rattle.listing.proofs.Replays.{Follows, told, started, replayed_follows}
use Rattle.listing.proofs.Collects.{listed, collected_wrote, listed-right}
use Rattle.listing.proofs.Pairs.{Wrote}
use Rattle.listing.proofs.Bytes.{byte_walk, byte_cell}

-- bytes that mark the held walks say so
says : (seen : View) (G page : ℕ) (words : ℕ → List ℕ) (t : Told tables64 seen G page words) (n : ℕ) (before after : List ℕ) → Tracks tables64 seen G page words n after
    → length after ≡ length before → ((k : ℕ) → work_bytes G ≤ k → get_or after k 0 ≡ get_or before k 0) → WorkTells G (Held seen n) before after
says seen G page words t n before after tracks size rest = record { size = size; each = λ w h. byte w h (tracks.bits (cell G w) (cell_below G w h)); rest = rest }
  where
    byte : (w : Walk) → HasByte G w → (get_or after (cell G w) 0 ≡ 0) ⊎ (get_or after (cell G w) 0 ≡ 1) → Tells (get_or after (cell G w) 0) (Held seen n w)
    byte w h (inl z) = inr (z, λ held. let one = tracks.full w ((held_is_kept seen t.law n w).0 held) in omega arith)
    byte w h (inr e) = inl (e, (held_is_kept seen t.law n w).1 (tracks.sound w h e))

module _ (q : Asked) (b : Lent) (ok : Accepted q b) where
  abbrev G : ℕ
  G = length q.map

  abbrev N : ℕ
  N = length q.events / 4

  abbrev page : ℕ
  page = page_of tables64 q.question.addr

  abbrev first : ℕ
  first = get_or q.cr3s q.question.proc 0

  final : Follows G (length q.cr3s) b.words q.cr3s (events_of q.events) q.question.proc page b.work N
      (state_at G b.words b.work q.events q.question first N)
  unfolding state_at
  final =
      replayed_follows G (length q.cr3s) b.words q.cr3s (events_of q.events) q.question.proc page (fit q b ok) ok.proc b.work ok.sizes.bytes
      q.events N (event-at q.events) (reach q b ok) _
      (started G (length q.cr3s) b.words q.cr3s (events_of q.events) q.question.proc page (fit q b ok) ok.proc b.work ok.sizes.bytes)

  -- AN ACCEPTED CALL KEEPS ITS PROMISE
  pub lists : (count : ℕ) (words work outcomes : List ℕ)
      → Answers G b.words b.work b.outcomes q.events q.question first count words work outcomes → Lists q b (lent words work outcomes) count
  lists count words work outcomes a =
      let seen = view_of (setup_asked q b) (events_of q.events) q.question.proc page never in
      let at = words_at (setup_asked q b) (events_of q.events) in
      let t : Told tables64 seen G page at = told G (length q.cr3s) b.words q.cr3s (events_of q.events) q.question.proc page (fit q b ok) ok.proc in
      let new-words : words ≡ at N = a.words_are ∙ final.words_are in
      let tracks : Tracks tables64 seen G page at N work = subst (λ (l : List ℕ). Tracks tables64 seen G page at N l) (sym a.work_is) final.tracks in
      let r = request_of tables64 q.question.request in
      let wrote : Wrote b.outcomes (listed G page r (at N) work) (out_of count outcomes) =
      subst (λ (o : Out). Wrote b.outcomes (listed G page r (at N) work) o)
      (sym (a.outcomes_are ∙ ap (λ (l : List ℕ). collected G page r l work b.outcomes) new-words))
      (collected_wrote G page r (at N) work b.outcomes ok.sizes.pairs) in
      record {
        list = listed G page r (at N) work;
        right = listed-right seen G page at t ok.sizes.some r N work tracks;
        counted = wrote.counted;
        outcomes = wrote.holds;
        words = new-words;
        work = says seen G page at t N b.work work tracks (ap length a.work_is ∙ final.size) (λ k h. ap (λ (l : List ℕ). get_or l k 0) a.work_is ∙ final.rest k h);
      }

-- ---- one result

-- two buffers that say which walks are held are equal
same_bytes : (G : ℕ) → 0 < G → (P : Walk → Type 0) (before x y : List ℕ) → WorkTells G P before x → WorkTells G P before y → x ≡ y
same_bytes G some P before x y a b = ext_get_or 0 x y (a.size ∙ sym b.size) (λ k h. go k (dec_lt k (work_bytes G)))
  where
    both : {m n : ℕ} {A : Type 0} → Tells m A → Tells n A → m ≡ n
    both (inl (e, h)) (inl (d, k)) = e ∙ sym d
    both (inl (e, h)) (inr (d, k)) = absurd (k h)
    both (inr (e, h)) (inl (d, k)) = absurd (h k)
    both (inr (e, h)) (inr (d, k)) = e ∙ sym d

    go : (k : ℕ) → Dec (k < work_bytes G) → get_or x k 0 ≡ get_or y k 0
    go k (yes lt) =
        let h = byte_walk G k some lt in
        let s = both (a.each (walk_at G k) h) (b.each (walk_at G k) h) in
        rw (byte_cell G k some) at s
    go k (no ge) = a.rest k (omega arith) ∙ sym (b.rest k (omega arith))

module _ (q : Asked) (b : Lent) where
  pub same_answer : (r s : Result ℕ Refusal) → refusal_of r ≡ refusal_of s → count_of r ≡ count_of s → r ≡ s
  same_answer (Ok m) (Ok n) x y = ap Ok y
  same_answer (Ok m) (Err t) x y = absurd (omega (arith, some_number t))
  same_answer (Err t) (Ok n) x y = absurd (omega (arith, some_number t))
  same_answer (Err t) (Err u) x y = ap Err (same_refusal t u x)

  pub same_lists : 0 < length q.map → (x y : Lent) (m n : ℕ) → Lists q b x m → Lists q b y n → (x ≡ y) × (m ≡ n) × (0 < m)
  same_lists some x y m n c d =
      let same = one_list (setup_asked q b) (events_of q.events) q.question tables64_sound (length q.events / 4) c.list d.list c.right d.right in
      let words = c.words ∙ sym d.words in
      let work = same_bytes (length q.map) some _ b.work x.work y.work c.work d.work in
      let outcomes = c.outcomes ∙ ap (λ (l : List Outcome). pairs l ++ drop (2 * length l) b.outcomes) same ∙ sym d.outcomes in
      let full = some_outcome (setup_asked q b) (events_of q.events) q.question tables64_sound (length q.events / 4) c.list c.right in (
        (λ i. lent (words i) (work i) (outcomes i)),
        c.counted ∙ ap length same ∙ sym d.counted,
        rw c.counted full,
      )
