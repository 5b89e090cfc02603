-- What the proofs by hand of a history share.
use Rattle.std.proofs.Common.{List, [], ◌∷◌, refl}
use seplogic.Ra.Ura.{Ura}
use mir.Val.{Val, vstruct, vnil}
use types.Logic.{Logic}
use types.Kit.{Goal, Step, step, Item, ‵, ◌$◌, fjoin, fpack, feq_i}
use denote.RattleType.{Valss}
use denote.Steps.{nothing}
use denote.Struct.Struct.{within}
use Rattle.tt_io.specs.declared.history.History.{History}
use Rattle.tt_io.specs.contracts.history.History.{the_row}

-- the machine value of a history, a struct of no fields
abbrev pub empty : Val
empty = vstruct vnil

module _ {M : Type 1} {𝓤 : Ura M} {𝓛 : Logic 𝓤} {K : Type 0} {Γ : List (Item 𝓤)} {G : Goal 𝓤 𝓛.H} where
  -- an empty struct is a history of any items
  pub made : K → (h : History) → Step K 𝓛 (‵ (the_row.own_val h (empty ∷ [])) ∷ Γ) G Γ G
  made t h = step (λ s.
      nothing t $ nothing t $ feq_i t (List Val) (empty ∷ []) (empty ∷ []) refl $ fjoin t $
      fpack t (Valss []) (within (record { name = []; args = []; types = []; fields = [] }) tt (empty ∷ [])) tt $
      fjoin t $ s)
