-- How the code takes the events, in the form of its code: the words, the processor's CR3 and the work bytes after each.
-- Nobody has to believe these; proofs/ shows that the bytes are the held walks.
use Rattle.std.specs.Prelude.{◌≡◌, cond, ◌&&◌, List, ℕ, ◌*◌, ◌<◌, eqb, set}
use Rattle.paging.specs.Numbers.{each}
use Rattle.paging.specs.Frame.{guest}
use Rattle.paging.specs.Layout.{tables64, frame_words, page_of}
use Rattle.rules.specs.declared.Event.{Event}
use Rattle.rules.specs.History.{is_store, is_invlpg, is_cr3_write, is_by}
use Rattle.held.specs.FollowCode.{reread_word, restarted}
use Rattle.rules.specs.Numbers.{event_of}

pub record Replay : Type 0 where
  pub cr3 : ℕ
  pub words : List ℕ
  pub work : List ℕ

abbrev pub replay_of : ℕ → List ℕ → List ℕ → Replay
replay_of c ws work = record { cr3 = c; words = ws; work = work }

-- what an event of a history that fits is known to be
pub record Reach (G : ℕ) (e : Event) : Type 0 where
  pub word : e.kind ≡ 1 → e.a < frame_words * G
  pub cr3 : e.kind ≡ 3 → e.a < G

-- the first byte that an INVLPG of address a forgets: that of complete walks if it is of the page asked about
unfoldable pub forgets : ℕ → ℕ → ℕ → ℕ
forgets G page a = cond (eqb (page_of tables64 a) page) 0 (8 * G)

module _ (G p page : ℕ) where
  unfoldable pub applied : Event → Replay → Replay
  applied e s =
      cond (is_store e)
      (replay_of s.cr3 (set s.words e.a e.b) (reread_word tables64 G page (set s.words e.a e.b) e.a 4 s.work))
      (cond (is_by p e && is_invlpg e)
      (replay_of s.cr3 s.words (restarted tables64 G page s.words (forgets G page e.a) (guest s.cr3) s.work))
      (cond (is_by p e && is_cr3_write e) (replay_of e.a s.words (restarted tables64 G page s.words 0 (guest e.a) s.work)) s))

  unfoldable pub replayed : List ℕ → ℕ → Replay → Replay
  replayed ns n s = each n (λ k. applied (event_of ns k)) s
