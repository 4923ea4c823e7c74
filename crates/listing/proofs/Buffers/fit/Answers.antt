-- Test by test, from the left; `sizes_fit` reads them from the right.
use Rattle.std.proofs.Common.{◌≡◌, ◌∙◌, sym, refl, ℕ, Bool, true, false, ◌&&◌, ◌+◌, ◌*◌, ◌/◌, ◌%◌, eqb, leb, length}
use mathlib.Core.Bool.{and_assoc}
use Rattle.paging.specs.Numbers.{is_between}
use Rattle.listing.specs.Call.{sizes_fit}
use Rattle.listing.proofs.Buffers.fit.Goals as goal
use Rattle.listing.proofs.Buffers.fit.Goals.{Joined-self-frames, then-is_between, else-is_between, then-is_between-2, else-is_between-2, then-self-eq0, else-self-eq0, then-self-le4096, else-self-le4096, then-self-frames, else-self-frames}

passed : (a b v : Bool) → v ≡ b → a ≡ true → v ≡ (a && b)
passed a b v e h = rw (e, h) refl

failed : (a b v : Bool) → v ≡ a → a ≡ false → v ≡ (a && b)
failed a b v e h = rw (e, h) refl

right : (a b c d e f g : Bool) → ((((((a && b) && c) && d) && e) && f) && g) ≡ (a && (b && (c && (d && (e && (f && g))))))
right a b c d e f g = simp and_assoc

abbrev six : ℕ → ℕ → ℕ → ℕ → ℕ → Bool
six m p e w k = ((((is_between 1 256 m && is_between 1 4 p) && eqb (e % 4) 0) && leb (e / 4) 4096) && eqb w (512 * m)) && leb (40 * m) k

all_seven : (m p e w k o : ℕ) → (six m p e w k && leb (2 * (m + 3)) o) ≡ sizes_fit m p e w k o
unfolding sizes_fit
all_seven m p e w k o = right (is_between 1 256 m) (is_between 1 4 p) (eqb (e % 4) 0) (leb (e / 4) 4096) (eqb w (512 * m)) (leb (40 * m) k) (leb (2 * (m + 3)) o)

tested : (c : Joined-self-frames)
    → c.if-self-frames.value ≡ six (length c.args.self.now.map.now) (length c.args.self.now.cr3s.now) (length c.args.self.now.events.now) (length c.args.self.now.words.now) (length c.args.self.now.work.now)
tested c =
    let a = c.args in
    let v₁ : c.if-is_between.value ≡ (is_between 1 256 (length a.self.now.map.now) && is_between 1 4 (length a.self.now.cr3s.now)) =
    elim c.if-is_between.branch [ then-is_between w ↦ passed _ _ _ (w.value-is ∙ w.is_between-then-is_between.ensures) (sym c.is_between.ensures ∙ w.if-is_between.true) | else-is_between w ↦ failed _ _ _ (w.value-is ∙ c.is_between.ensures) (sym c.is_between.ensures ∙ w.if-is_between.false) ] in
    let v₂ : c.if-is_between-2.value ≡ (c.if-is_between.value && eqb (length a.self.now.events.now % 4) 0) =
    elim c.if-is_between-2.branch [ then-is_between-2 w ↦ passed _ _ _ w.value-is w.if-is_between-2.true | else-is_between-2 w ↦ failed _ _ _ w.value-is w.if-is_between-2.false ] in
    let v₃ : c.if-self-eq0.value ≡ (c.if-is_between-2.value && leb (length a.self.now.events.now / 4) 4096) =
    elim c.if-self-eq0.branch [ then-self-eq0 w ↦ passed _ _ _ w.value-is w.if-self-eq0.true | else-self-eq0 w ↦ failed _ _ _ w.value-is w.if-self-eq0.false ] in
    let v₄ : c.if-self-le4096.value ≡ (c.if-self-eq0.value && eqb (length a.self.now.words.now) (512 * length a.self.now.map.now)) =
    elim c.if-self-le4096.branch [ then-self-le4096 w ↦ passed _ _ _ w.value-is w.if-self-le4096.true | else-self-le4096 w ↦ failed _ _ _ w.value-is w.if-self-le4096.false ] in
    let v₅ : c.if-self-frames.value ≡ (c.if-self-le4096.value && leb (40 * length a.self.now.map.now) (length a.self.now.work.now)) =
    elim c.if-self-frames.branch [ then-self-frames w ↦ passed _ _ _ w.value-is w.if-self-frames.true | else-self-frames w ↦ failed _ _ _ w.value-is w.if-self-frames.false ] in
    rw (v₅, v₄, v₃, v₂, v₁) refl

pub returns-then-self-frames-2 : goal.returns-then-self-frames-2
returns-then-self-frames-2 c =
    let a = c.args in
    let e = tested (goal.at.returns-then-self-frames-2 c).Joined-self-frames in
    passed _ _ _ refl (sym e ∙ c.if-self-frames-2.true)
    ∙ all_seven (length a.self.now.map.now) (length a.self.now.cr3s.now) (length a.self.now.events.now) (length a.self.now.words.now) (length a.self.now.work.now) (length a.self.now.outcomes.now)

pub returns-else-self-frames-2 : goal.returns-else-self-frames-2
returns-else-self-frames-2 c =
    let a = c.args in
    let e = tested (goal.at.returns-else-self-frames-2 c).Joined-self-frames in
    failed _ _ _ e (sym e ∙ c.if-self-frames-2.false)
    ∙ all_seven (length a.self.now.map.now) (length a.self.now.cr3s.now) (length a.self.now.events.now) (length a.self.now.words.now) (length a.self.now.work.now) (length a.self.now.outcomes.now)
