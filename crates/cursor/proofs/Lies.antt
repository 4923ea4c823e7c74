-- A cursor in a local variable lies in memory as what a reference lends, and is the variable's again once the reference has ended.
-- The struct's cell is taken to its raw type and packed with what the struct owns; back, what is owned tells the machine value.
use mathlib.Core.List.{List, [], ◌∷◌}
use Prim.Native.Nat.{ℕ}
use seplogic.Ra.Ura.{Ura}
use base.Fraction.{full_share}
use mir.Val.{Val}
use base.Logic.{ent, guard}
use base.Fml.{fsep, fat}
use types.Logic.{Logic, sem}
use types.Kit.{‵, ◌$◌, ◌∵◌, !, qed, move, keep, use1, fsplit, fjoin, fpick, fpack, check, done}
use denote.RattleType.{RattleType}
use denote.Memory.{cell_at, part_at, part_of}
use denote.Laws.{Is, shows}
use denote.Steps.{owned, peeks}
use denote.Struct.Steps.{spelt}
use denote.Struct.Laws as LL
use Rattle.cursor.specs.declared.Cursor.{Cursor}
use Rattle.cursor.specs.contracts.Cursor as T
use Rattle.cursor.proofs.Cursor.TheLaws as T'

abbrev R : RattleType
R = T.the_row

module _ {M : Type 1} {𝓤 : Ura M} (𝓛 : Logic 𝓤) (c : Cursor) (l : ℕ) where
  open 𝓛 use {H}

  pub lies_in : Is R c (T'.lowered c ∷ []) → ent 𝓤 (H.at full_share T'.mir l 0 (T'.lowered c)) (sem 𝓛 (part_at R full_share c l 0))
  unfolding part_of
  lies_in is =
      qed 𝓛 (‵ (fat full_share T'.mir l 0 (T'.lowered c)) ∷ []) ∵ use1 𝓛 (‵ (cell_at full_share R.mir (T'.lowered c ∷ []) l 0)) (𝓛.laws.at_raw full_share T'.mir l 0 (T'.lowered c)) $
      owned ! R (Is R) ((LL.makes T.the_type T'.the_plain) 𝓛) c _ is $ move ! (1 ∷ 0 ∷ []) $ fjoin ! $ fpack ! (List Val) (λ vs. fsep (cell_at full_share R.mir vs l 0) (R.own_val c vs)) (T'.lowered c ∷ []) $ done !

  pub lies_out : ent 𝓤 (sem 𝓛 (part_at R full_share c l 0)) (guard 𝓤 (Is R c (T'.lowered c ∷ [])) (H.at full_share T'.mir l 0 (T'.lowered c)))
  unfolding part_of
  lies_out =
      qed 𝓛 (‵ (part_at R full_share c l 0) ∷ []) ∵ fpick ! (λ vs. fsplit ! $ spelt ! R (Is R) (shows 𝓛 R) (LL.vals T.the_type T'.the_laws) (LL.tells T.the_type T'.the_laws) full_share c vs l 0 $
      move ! (1 ∷ []) $ peeks ! R (Is R) (shows 𝓛 R) c (T'.lowered c ∷ []) (λ is. check ! is $ move ! (1 ∷ []) $
      use1 𝓛 (‵ (fat full_share T'.mir l 0 (T'.lowered c))) (𝓛.laws.raw_at full_share T'.mir l 0 (T'.lowered c)) $ keep ! (0 ∷ []) $ done !))
