-- The sentences with their moments written out say the same as the rule: of complete walks, and of partial ones at each level.
use Rattle.std.specs.Prelude.{Ok}
use mathlib.Core.Path.{◌≡◌, refl, sym, ◌∙◌, ap}
use mathlib.Core.Logic.{◌↔◌}
use Prim.Native.Nat.{ℕ, zero, suc, ◌≤◌, ◌<◌}
use native.Mathlib.Omega.{arith}
use native.Mathlib.Decide.{le_ind}
use Rattle.paging.specs.declared.Walk.{Walk}
use Rattle.rules.specs.View.{View, Quiet}
use Rattle.rules.specs.Held.{Reads, begun, read, Held, complete, partial, Four, FourPartial, level₄, level₃, level₂, level₁}
use Rattle.rules.specs.Coherent.{Coherent}
use Rattle.rules.proofs.Steps.{since}

module _ (seen : View) {L G : ℕ} (law : Coherent seen L G) where
  level_le : {s t : ℕ} {w : Walk} → Reads seen s t w → w.level ≤ L
  level_le {s} (begun a e) = rw (e, law.top s) (omega arith)
  level_le {t = u} (read {w = w} {w' = w'} d le e) = omega (arith, (law.down u w w' e).level, level_le d)

  -- the last read of a walk below the top level
  record Last (s u : ℕ) (w' : Walk) : Type 0 where
    t : ℕ
    w : Walk
    before : t ≤ u
    reads : Reads seen s t w
    step : seen.steps u w ≡ Ok w'
    above : w.level ≡ suc w'.level

  last : {s u : ℕ} {w : Walk} → Reads seen s u w → w.level < L → Last s u w
  last {s} (begun a e) h = absurd (omega (arith, ap (λ (x : Walk). x.level) e, law.top s))
  last {u = u} (read {t = t} {w = w} {w' = w'} d le e) h =
      record { t = t; w = w; before = le; reads = d; step = e; above = (law.down u w w' e).level }

  first : {s t : ℕ} {w : Walk} → Reads seen s t w → w.level ≡ L → (t ≡ s) × (w ≡ seen.begins s)
  first (begun a e) h = (a, e)
  first {t = u} (read {w = w} {w' = w'} d le e) h = absurd (omega (arith, (law.down u w w' e).level, level_le d))

  root_same : (s t : ℕ) → s ≤ t → Quiet seen.ends_partial s t → seen.begins t ≡ seen.begins s
  root_same s t le q =
      le_ind (λ k. k ≤ t → seen.begins k ≡ seen.begins s) (λ x. refl) (λ k lo ih hi. law.root_kept k (q k lo hi) ∙ ih (omega arith)) t le (omega arith)

  -- the first entry that a walk reads: CR3 is still what it was where the walk began
  opening : {s u : ℕ} {w : Walk} → Reads seen s u w → suc w.level ≡ L → Quiet seen.ends_partial s u → seen.steps u (seen.begins u) ≡ Ok w
  opening {s} {u} {w} r e q =
      let x = last r (omega arith) in
      let (a, is) = first x.reads (omega (arith, x.above)) in
      ap (seen.steps u) (root_same s u (omega (arith, x.before)) q ∙ sym is) ∙ x.step

  opened : {u : ℕ} {w : Walk} → seen.steps u (seen.begins u) ≡ Ok w → Reads seen u u w
  opened {u} {w} e = read {t = u} {u = u} (begun refl refl) (omega arith) e

  -- A COMPLETED WALK IS HELD IF AND ONLY IF THERE ARE FOUR SUCH MOMENTS
  pub four : L ≡ 4 → (n : ℕ) (w : Walk) → Four seen n w ↔ ((w.level ≡ 0) × Held seen n w)
  four e n w = (to, (λ h. from h.0 h.1))
    where
      to : Four seen n w → (w.level ≡ 0) × Held seen n w
      to h =
          let (a, b, c, d) = h.order in
          let l₃ = (law.down h.t₄ (seen.begins h.t₄) h.w₃ h.entry₄).level in
          let l₂ = (law.down h.t₃ h.w₃ h.w₂ h.entry₃).level in
          let l₁ = (law.down h.t₂ h.w₂ h.w₁ h.entry₂).level in
          let l₀ = (law.down h.t₁ h.w₁ w h.entry₁).level in
          let z : w.level ≡ 0 = omega (arith, law.top h.t₄) in
          (z, complete z (read (read (read (opened h.entry₄) a h.entry₃) b h.entry₂) c h.entry₁) d h.quiet h.kept)

      from : w.level ≡ 0 → Held seen n w → Four seen n w
      from z (partial p r le q) = absurd (omega arith)
      from z (complete {s = s} {t = t} _ r le q c) =
          let r₁ = last r (omega arith) in
          let r₂ = last r₁.reads (omega (arith, r₁.above)) in
          let r₃ = last r₂.reads (omega (arith, r₁.above, r₂.above)) in
          let up : (s ≤ r₃.t) × (r₃.t ≤ t) = (since seen {t = r₃.t} {w = r₃.w} r₃.reads, omega (arith, r₃.before, r₂.before, r₁.before)) in
          record {
            t₄ = r₃.t;
            t₃ = r₂.t;
            t₂ = r₁.t;
            t₁ = t;
            w₃ = r₃.w;
            w₂ = r₂.w;
            w₁ = r₁.w;
            order = (r₃.before, r₂.before, r₁.before, le);
            entry₄ = opening {u = r₃.t} {w = r₃.w} r₃.reads (omega (arith, r₁.above, r₂.above, r₃.above)) (λ k x y. q k x (omega arith));
            entry₃ = r₃.step;
            entry₂ = r₂.step;
            entry₁ = r₁.step;
            quiet = λ k x y. q k (omega arith) y;
            kept = c;
          }

  -- A PARTIAL WALK IS HELD IF AND ONLY IF ITS READS LIE IN SUCH A STRETCH
  pub four_partial : L ≡ 4 → (n : ℕ) (w : Walk) → FourPartial seen n w ↔ ((0 < w.level) × Held seen n w)
  four_partial e n w = (to, (λ h. from h.0 h.1))
    where
      lower : (t : ℕ) (x y : Walk) → seen.steps t x ≡ Ok y → x.level ≡ suc y.level
      lower t x y r = (law.down t x y r).level

      to : FourPartial seen n w → (0 < w.level) × Held seen n w
      to (level₄ is) =
          let p : 0 < w.level = rw is (omega (arith, law.top n)) in
          (p, partial p (begun refl is) (omega arith) (λ k a b. absurd (omega arith)))
      to (level₃ {t₄ = t₄} a e₄ q) =
          let p : 0 < w.level = omega (arith, law.top t₄, lower t₄ (seen.begins t₄) w e₄) in
          (p, partial p (opened e₄) a q)
      to (level₂ {t₄ = t₄} {t₃ = t₃} {w₃ = w₃} (a, b) e₄ e₃ q) =
          let p : 0 < w.level = omega (arith, law.top t₄, lower t₄ (seen.begins t₄) w₃ e₄, lower t₃ w₃ w e₃) in
          (p, partial p (read (opened e₄) a e₃) b q)
      to (level₁ {t₄ = t₄} {t₃ = t₃} {t₂ = t₂} {w₃ = w₃} {w₂ = w₂} (a, b, c) e₄ e₃ e₂ q) =
          let p : 0 < w.level = omega (arith, law.top t₄, lower t₄ (seen.begins t₄) w₃ e₄, lower t₃ w₃ w₂ e₃, lower t₂ w₂ w e₂) in
          (p, partial p (read (read (opened e₄) a e₃) b e₂) c q)

      from : 0 < w.level → Held seen n w → FourPartial seen n w
      from p (complete z r le q c) = absurd (omega arith)
      from p (partial {s = s} {t = t} _ r le q) = go w.level refl
        where
          go : (l : ℕ) → w.level ≡ l → FourPartial seen n w
          go zero at = absurd (omega arith)
          go (suc zero) at =
              let r₂ = last r (omega arith) in
              let r₃ = last r₂.reads (omega (arith, r₂.above)) in
              let a = since seen {t = r₃.t} {w = r₃.w} r₃.reads in
              level₁ (r₃.before, r₂.before, le)
              (opening {u = r₃.t} {w = r₃.w} r₃.reads (omega (arith, r₂.above, r₃.above)) (λ k x y. q k x (omega (arith, r₃.before, r₂.before))))
              r₃.step r₂.step (λ k x y. q k (omega arith) y)
          go (suc (suc zero)) at =
              let r₃ = last r (omega arith) in
              let a = since seen {t = r₃.t} {w = r₃.w} r₃.reads in
              level₂ (r₃.before, le) (opening {u = r₃.t} {w = r₃.w} r₃.reads (omega (arith, r₃.above)) (λ k x y. q k x (omega (arith, r₃.before)))) r₃.step
              (λ k x y. q k (omega arith) y)
          go (suc (suc (suc zero))) at =
              let a = since seen r in
              level₃ le (opening r (omega arith) (λ k x y. q k x (omega arith))) (λ k x y. q k (omega arith) y)
          go (suc (suc (suc (suc l)))) at =
              let a = since seen r in
              let (b, is) = first r (omega (arith, level_le r)) in
              level₄ (is ∙ sym (root_same s n (omega arith) q))
