-- The numbers on the way are small; the shadow path answers, or a miss.
use mathlib.Core.Path.{◌≡◌, refl, sym, ap, ◌∙◌, subst⁻¹}
use Prim.Native.Nat.{ℕ, ◌≤◌}
use native.Mathlib.Omega.{arith}
use Rattle.paging.specs.declared.Request.{Request}
use Rattle.paging.specs.Frame.{host, host_address}
use Rattle.paging.specs.Layout.{tables64, index}
use Rattle.paging.proofs.Indices.{index_small}
use Rattle.paging.proofs.Meets.{adds_small}
use Rattle.tables.specs.State.{shadow_of, state_of, machine64}
use Rattle.tables.proofs.Names.{few, root_small, frame_small}
use Rattle.shadow.proofs.Accesses.{OnPath, path_range, access_path, access_miss}
use Rattle.shadow.proofs.access.access.Goals as goal
use Rattle.shadow.proofs.access.access.Goals.{After-index_of, After-path_to-w, After-request_of-q}

adds-of : (c : After-request_of-q) → c.request_of-q.result.adds ≤ 20
adds-of c =
    omega (arith, ap (λ (q : Request). q.adds) c.request_of-q.ensures, adds_small c.args.request c.requires.request_bound)

on-path : (c : After-path_to-w) → OnPath (machine64 c.args.m.sizes) 1 c.path_to-w.result
on-path c =
    let a = c.args in
    subst⁻¹ (OnPath (machine64 a.m.sizes) 1) c.path_to-w.ensures
    (path_range (machine64 a.m.sizes) a.pool.now a.p c.page_of-page.result 1 (omega (arith, root_small c.args.m.sized a.p c.requires.ready.owner.own)) (omega arith))

index_is : (c : After-index_of) → c.path_to-w.result.level ≡ 1 → c.index_of.result ≡ index tables64 c.page_of-page.result c.path_to-w.result.level
index_is c level = c.index_of.ensures ∙ ap (index tables64 c.page_of-page.result) (sym level)

pub serving_slot-requires : goal.serving_slot-requires
serving_slot-requires c = (omega (arith, c.requires.ready.owner.own, c.args.m.sized.processors), c.requires.ready.owner.triples)

pub entry_at-e-requires : goal.entry_at-e-requires
entry_at-e-requires c = (omega (arith, (on-path (goal.at.entry_at-e-requires c).After-path_to-w).table, few c.args.m.sized), omega (arith, c.index_of.ensures, index_small tables64 c.page_of-page.result 1))

pub host_address-requires-then-path_serves : goal.host_address-requires-then-path_serves
host_address-requires-then-path_serves c = omega (arith, c.frame_of.ensures, frame_small c.entry_at-e.result)

pub returns-then-path_serves : goal.returns-then-path_serves
returns-then-path_serves c =
    let a = c.args in
    access_path (machine64 a.m.sizes) a.map.now a.p a.a a.request (state_of a.words.now (shadow_of a.pool.now a.records.now) a.slots.now)
    c.page_of-page.ensures c.request_of-q.ensures refl c.in_default.ensures
    c.path_to-w.result _ _ c.path_to-w.ensures (index_is (goal.at.returns-then-path_serves c).After-index_of (on-path (goal.at.returns-then-path_serves c).After-path_to-w).level) c.entry_at-e.ensures
    (sym c.path_serves.ensures ∙ c.if-path_serves.true)
    (c.host_address-then-path_serves.ensures ∙ ap (λ (f : ℕ). host_address (host f) a.a) c.frame_of.ensures)

pub miss-requires : goal.miss-requires
miss-requires c = record { ready = c.requires.ready; adds_bound = adds-of (goal.at.miss-requires c).After-request_of-q }

pub returns : goal.returns
returns c =
    let a = c.args in
    access_miss (machine64 a.m.sizes) a.map.now a.p a.a a.request (state_of a.words.now (shadow_of a.pool.now a.records.now) a.slots.now)
    c.page_of-page.ensures c.request_of-q.ensures refl c.in_default.ensures
    c.path_to-w.result _ _ c.path_to-w.ensures (index_is (goal.at.returns c).After-index_of (on-path (goal.at.returns c).After-path_to-w).level) c.entry_at-e.ensures
    (sym c.path_serves.ensures ∙ c.if-path_serves.false)
    c.miss.ensures
