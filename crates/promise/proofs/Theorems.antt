-- DEMAND 3, proved: every event that fits is taken, and an access put at most twice ends in what stands in the list.
use mathlib.Core.Path.{◌≡◌, refl, sym, ap, subst, ◌∙◌}
use mathlib.Core.Logic.{inl, inr}
use Prim.Native.Nat.{ℕ, zero, suc, ◌≤◌, ◌<◌}
use native.Mathlib.Decide.{ℕ_discrete}
use native.Mathlib.Omega.{arith}
use lib.Dec.{T, eqb→eq}
use lib.ListN.{length}
use Rattle.std.specs.Prelude.{Ok}
use Rattle.paging.specs.Layout.{Layout, page_of}
use Rattle.paging.specs.Request.{request_of}
use Rattle.rules.specs.declared.Event.{Event}
use Rattle.rules.specs.History.{Fit, event_at}
use Rattle.tables.specs.State.{State}
use Rattle.shadow.specs.declared.Answer.TheVariants.{Address, Again}
use Rattle.shadow.specs.After.{after}
use Rattle.shadow.proofs.Accepted.{accepted_own}
use Rattle.paging.specs.Sound.{Laid}
use Rattle.keeps.proofs.Again.{Serves}
use Rattle.keeps.proofs.EventsKeep.{again_serves, served_address}
use Rattle.keeps.proofs.Theorems.{never_refused}
use Rattle.promise.specs.Demand.{Fresh, Run, guest_of, state_at, before, answer_at, Settles, may_stand_between, Accepts, Demand, losing}
use Rattle.promise.proofs.Started.{accepted}
use Rattle.promise.proofs.Sound.{sound}
use Rattle.promise.proofs.Between.{serves_by, serves_still}
use Rattle.paging.proofs.Counts.{by_cases}
use Rattle.promise.specs.Demand as D

-- NO EVENT THAT FITS IS REFUSED
pub every_event_taken : (Y : Layout) → Laid Y → Accepts Y
every_event_taken Y laid F same fresh r fit k hk n refused = never_refused F.machine F.map (before F r k) (event_at r.events k) (accepted F (subst Laid (sym same) laid) fresh r fit k hk) n refused

module _ (F : Fresh) (laid : Laid F.machine.tables) (fresh : D.SetupFits F) (r : Run) (fit : Fit (guest_of F) r.events) (k : ℕ) (hk : k < length r.events) where
  abbrev e : Event
  e = event_at r.events k

  abbrev At : State → Type 0
  At s = Serves F.machine s e.proc (page_of F.machine.tables e.a) (request_of F.machine.tables e.b)

  hp : e.proc < F.machine.processors
  hp = accepted_own F.machine F.map (before F r k) e (accepted F laid fresh r fit k hk)

  -- a slot that is lost changes no path
  before-serves : (m : ℕ) → At (state_at F r m) → At (before F r m)
  before-serves m sv = serves_by F.machine e.proc (page_of F.machine.tables e.a) (request_of F.machine.tables e.b) (state_at F r m) (before F r m) (unfold losing in refl) sv

  -- after "again" the path serves as long as only what may stand between happens
  serves : answer_at F r k ≡ Ok Again → (m : ℕ) → k < m → m ≤ length r.events
      → ((j : ℕ) → k < j → j < m → T (may_stand_between e.proc (event_at r.events j))) → At (state_at F r m)
  unfolding state_at
  serves again zero lo hi between = absurd (omega arith)
  serves again (suc m) lo hi between = go (ℕ_discrete k m) (serves again m)
    where
      go : Dec (k ≡ m) → (k < m → m ≤ length r.events → ((j : ℕ) → k < j → j < m → T (may_stand_between e.proc (event_at r.events j))) → At (state_at F r m))
          → At (after F.machine F.map (before F r m) (event_at r.events m)).state
      go (yes q) more = rw (← q) (again_serves F.machine F.map (before F r k) e laid (accepted F laid fresh r fit k hk) again).1
      go (no ne) more =
          serves_still F.machine F.map (before F r m) (event_at r.events m) laid (accepted F laid fresh r fit m (omega arith)) e.proc (page_of F.machine.tables e.a) hp (request_of F.machine.tables e.b)
          (before-serves m (more (omega arith) (omega arith) (λ j a b. between j a (omega arith)))) (between m (omega arith) (omega arith))

  -- the second put
  second : e.kind ≡ 4 → answer_at F r k ≡ Ok Again → (m : ℕ) → k < m → m < length r.events → event_at r.events m ≡ e
      → ((j : ℕ) → k < j → j < m → T (may_stand_between e.proc (event_at r.events j))) → Settles F r m
  second four again m lo hi same between =
      let sv : Serves F.machine (before F r m) (event_at r.events m).proc (page_of F.machine.tables (event_at r.events m).a) (request_of F.machine.tables (event_at r.events m).b) =
      subst (λ (x : Event). Serves F.machine (before F r m) x.proc (page_of F.machine.tables x.a) (request_of F.machine.tables x.b)) (sym same)
      (before-serves m (serves again m lo (omega arith) between)) in
      let kind : (event_at r.events m).kind ≡ 4 = ap (λ (x : Event). x.kind) same ∙ four in
      let (value, address) = served_address F.machine F.map (before F r m) (event_at r.events m) (accepted F laid fresh r fit m hi) kind sv in
      by_cases (sound F laid fresh r fit m hi kind)
      (λ x. let q : Ok Again ≡ Ok (Address value) = sym x ∙ address in let n : ◌≡◌ {A = ℕ} 0 1 = cc in absurd (omega arith))
      (λ x. x)

-- AN ACCESS PUT AT MOST TWICE ENDS IN AN ADDRESS OR A GUEST FAULT THAT STANDS IN THE LIST FOR THE EVENTS BEFORE THAT PUT
pub demand_three : (Y : Layout) → Laid Y → Demand Y
demand_three Y laid' F same fresh r fit k hk access =
    let laid = subst Laid (sym same) laid' in
    let four = eqb→eq (event_at r.events k).kind 4 access in
    by_cases (sound F laid fresh r fit k hk four)
    (λ again. inr (again, second F laid fresh r fit k hk four again))
    (λ settles. inl settles)
