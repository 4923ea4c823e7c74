-- After an accepted event: its state is right, its words keep their number, and after "again" the page's path serves.
use mathlib.Core.Path.{◌≡◌, refl, sym, ap, ◌∙◌}
use mathlib.Core.List.{List}
use Prim.Native.Nat.{ℕ, ◌*◌, ◌≤◌, ◌<◌}
use native.Mathlib.Omega.{arith}
use lib.ListN.{length, set, length-set}
use Rattle.std.specs.Prelude.{Result, Ok}
use Rattle.paging.specs.Layout.{frame_words, page_of}
use Rattle.paging.specs.Request.{request_of}
use Rattle.rules.specs.declared.Event.{Event}
use Rattle.tables.specs.State.{Machine, State}
use Rattle.paging.proofs.Counts.{by_cases}
use Rattle.shadow.specs.declared.Answer.{Answer}
use Rattle.shadow.specs.declared.Answer.TheVariants.{Done, Address, Again}
use Rattle.shadow.specs.After.{after}
use Rattle.shadow.specs.Answer.{Reply}
use Rattle.shadow.specs.Refusals.{call_refusal}
use Rattle.shadow.specs.Moves.{after_invlpg, after_cr3, after_begin, after_drop}
use Rattle.shadow.proofs.Accepted.{accepted_ranged, accepted_own, accepted_words}
use Rattle.paging.specs.Sound.{Laid}
use Rattle.trees.proofs.Trees.{Able}
use Rattle.keeps.proofs.RightStates.{Mapped, RightState, words_right, reshaped_right}
use Rattle.keeps.proofs.Moves.{drop-right, begin_right, extend_right, extend_words, extend_answer}
use Rattle.keeps.proofs.Takes.{invlpg_reshapes, cr3_reshapes}
use Rattle.keeps.proofs.Accesses.{served, access_right, access_words}
use Rattle.keeps.proofs.Again.{unlike, Serves, access_serves}
use Rattle.keeps.proofs.Events.{Kind, store, invlpg, cr3, access, begin, extend, drop, accepted_mapped, accepted_able, accepted_right, kinds}

done_again : ◌≡◌ {A = Result Answer ℕ} (Ok Done) (Ok Again) → ⊥
done_again e = let n : ◌≡◌ {A = ℕ} 0 1 = cc in omega arith

module _ (M : Machine) (map : List ℕ) (s : State) (e : Event) (laid : Laid M.tables) (ok : call_refusal M map s e ≡ 0) where
  abbrev able : Able M
  able = accepted_able M map s e ok laid

  abbrev fits : Mapped M map
  fits = accepted_mapped M map s e ok

  abbrev hp : e.proc < M.processors
  hp = accepted_own M map s e ok

  abbrev r : RightState M map s
  r = accepted_right M map s e ok laid

  spare : M.tables.levels ≤ M.share
  spare = (accepted_ranged M map s e ok).share.0

  -- by kind
  keeps : {out : Reply} → Kind M map s e out → RightState M map out.state
  keeps (store q h o) = rw o (words_right M able map fits (set s.words e.a e.b) r)
  keeps (invlpg q o) = rw o (reshaped_right M able map fits r (invlpg_reshapes M able map fits e.proc hp s r e.a))
  keeps (cr3 q h o) = rw o (reshaped_right M able map fits r (cr3_reshapes M able map fits e.proc hp s r e.a h))
  keeps (access q h o) = rw o (access_right M map e.proc e.a e.b s able spare fits hp r)
  keeps (begin q h o) = rw o (begin_right M able map fits e.proc hp s r e.a e.b h)
  keeps (extend q h o) = rw o (extend_right M able map fits e.proc hp s r e.a h)
  keeps (drop q h o) = rw o (drop-right M able map fits e.proc hp s r e.a h)

  -- the guest's words keep their number
  sizes : {out : Reply} → Kind M map s e out → length out.state.words ≡ length s.words
  sizes (store q h o) = rw o (length-set s.words e.a e.b)
  sizes (invlpg q o) = rw o (unfold after_invlpg in refl)
  sizes (cr3 q h o) = rw o (unfold after_cr3 in refl)
  sizes (access q h o) = rw o (access_words M map e.proc e.a e.b s able spare fits hp r).size
  sizes (begin q h o) = rw o (unfold after_begin in refl)
  sizes (extend q h o) = rw o (extend_words M able map fits e.proc hp s r e.a h)
  sizes (drop q h o) = rw o (unfold after_drop in refl)

  abbrev s' : State
  s' = (after M map s e).state

  pub right-after : RightState M map s'
  right-after = keeps (kinds M map s e ok)

  pub words-after : length s'.words ≡ frame_words * M.frames
  words-after = sizes (kinds M map s e ok) ∙ accepted_words M map s e ok

  -- only an access is to be put again, and it leaves a path that serves it
  serves : {out : Reply} → Kind M map s e out → out.answer ≡ Ok Again → (e.kind ≡ 4) × Serves M out.state e.proc (page_of M.tables e.a) (request_of M.tables e.b)
  serves (access q h o) g =
      rw o (q, access_serves M map e.proc e.a e.b s able spare fits hp r h (sym (ap (λ (y : Reply). y.answer) o) ∙ g))
  serves (store q h o) g = unlike o g done_again
  serves (invlpg q o) g = unlike o g (λ e. done_again (unfold after_invlpg in e))
  serves (cr3 q h o) g = unlike o g (λ e. done_again (unfold after_cr3 in e))
  serves (begin q h o) g = unlike o g (λ e. done_again (unfold after_begin in e))
  serves (extend q h o) g =
      by_cases (extend_answer M map e.proc e.a s)
      (λ d. unlike o g (λ e. done_again (sym d ∙ e)))
      (λ d. unlike o g (λ e. let x = sym d ∙ e in let n : ◌≡◌ {A = ℕ} 0 1 = cc in omega arith))
  serves (drop q h o) g = unlike o g (λ e. done_again (unfold after_drop in e))

  pub again_serves : (after M map s e).answer ≡ Ok Again → (e.kind ≡ 4) × Serves M s' e.proc (page_of M.tables e.a) (request_of M.tables e.b)
  again_serves g = serves (kinds M map s e ok) g

-- where the page's path serves, an accepted access answers an address
pub served_address : (M : Machine) (map : List ℕ) (s : State) (e : Event) → call_refusal M map s e ≡ 0 → e.kind ≡ 4
    → Serves M s e.proc (page_of M.tables e.a) (request_of M.tables e.b) → (v : ℕ) × ((after M map s e).answer ≡ Ok (Address v))
served_address M map s e ok k sv = go (kinds M map s e ok)
  where
    go : Kind M map s e (after M map s e) → (v : ℕ) × ((after M map s e).answer ≡ Ok (Address v))
    go (access q h o) = let a = served M map e.proc e.a e.b s sv.here sv.good in (a.0, ap (λ (y : Reply). y.answer) o ∙ a.1)
    go (store q h o) = absurd (omega arith)
    go (invlpg q o) = absurd (omega arith)
    go (cr3 q h o) = absurd (omega arith)
    go (begin q h o) = absurd (omega arith)
    go (extend q h o) = absurd (omega arith)
    go (drop q h o) = absurd (omega arith)
