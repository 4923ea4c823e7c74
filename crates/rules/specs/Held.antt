-- The rule by moments, for any number of levels and of events.
use Rattle.std.specs.Prelude.{◌≡◌, ℕ, ◌≤◌, ◌<◌, Ok}
use Rattle.paging.specs.declared.Walk.{Walk}
use Rattle.rules.specs.View.{View, Quiet}

module _ (seen : View) where
  -- a walk that began at moment s and read its last entry at moment t; each read is at the moment of the one before or later
  pub data Reads (s : ℕ) : ℕ → Walk → Type 0 where
    begun : {t : ℕ} {w : Walk} → t ≡ s → w ≡ seen.begins s → Reads s t w
    read : {t u : ℕ} {w w' : Walk} → Reads s t w → t ≤ u → seen.steps u w ≡ Ok w' → Reads s u w'

  -- A walk is held at moment n.
  -- "A completed walk … is held … with no INVLPG and no CR3 write of p after t4 and up to t1, and after t1 no CR3 write
  -- of p and no INVLPG of p on page v. A partial walk is held if its reads lie in such a stretch that reaches the end."
  pub data Held (n : ℕ) (w : Walk) : Type 0 where
    complete : {s t : ℕ} → w.level ≡ 0 → Reads s t w → t ≤ n → Quiet seen.ends_partial s t → Quiet seen.ends_complete t n → Held n w
    partial : {s t : ℕ} → 0 < w.level → Reads s t w → t ≤ n → Quiet seen.ends_partial s n → Held n w

  -- The same sentence for four levels, written out: "there are moments t4 ≤ t3 ≤ t2 ≤ t1 at which the entries of levels
  -- 4 to 1 were read". Theorems.four shows that a completed walk is held if and only if this holds.
  pub record Four (n : ℕ) (w : Walk) : Type 0 where
    pub t₄ : ℕ
    pub t₃ : ℕ
    pub t₂ : ℕ
    pub t₁ : ℕ
    pub w₃ : Walk
    pub w₂ : Walk
    pub w₁ : Walk
    pub order : (t₄ ≤ t₃) × (t₃ ≤ t₂) × (t₂ ≤ t₁) × (t₁ ≤ n)
    pub entry₄ : seen.steps t₄ (seen.begins t₄) ≡ Ok w₃
    pub entry₃ : seen.steps t₃ w₃ ≡ Ok w₂
    pub entry₂ : seen.steps t₂ w₂ ≡ Ok w₁
    pub entry₁ : seen.steps t₁ w₁ ≡ Ok w
    pub quiet : Quiet seen.ends_partial t₄ t₁
    pub kept : Quiet seen.ends_complete t₁ n

  -- And for partial walks, by the level at which they stand: "its reads lie in such a stretch that reaches the end". At level 4
  -- nothing was read: it stands on CR3 as it is at the end. Theorems.four_partial shows that a partial walk is held if and
  -- only if this holds.
  pub data FourPartial (n : ℕ) (w : Walk) : Type 0 where
    level₄ : w ≡ seen.begins n → FourPartial n w
    level₃ : {t₄ : ℕ} → t₄ ≤ n → seen.steps t₄ (seen.begins t₄) ≡ Ok w → Quiet seen.ends_partial t₄ n → FourPartial n w
    level₂ : {t₄ t₃ : ℕ} {w₃ : Walk} → (t₄ ≤ t₃) × (t₃ ≤ n)
        → seen.steps t₄ (seen.begins t₄) ≡ Ok w₃ → seen.steps t₃ w₃ ≡ Ok w
        → Quiet seen.ends_partial t₄ n → FourPartial n w
    level₁ : {t₄ t₃ t₂ : ℕ} {w₃ w₂ : Walk} → (t₄ ≤ t₃) × (t₃ ≤ t₂) × (t₂ ≤ n)
        → seen.steps t₄ (seen.begins t₄) ≡ Ok w₃ → seen.steps t₃ w₃ ≡ Ok w₂ → seen.steps t₂ w₂ ≡ Ok w
        → Quiet seen.ends_partial t₄ n → FourPartial n w
