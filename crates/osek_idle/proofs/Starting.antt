-- The frames before the first tick, one after another.
use Rattle.std.proofs.Common.{◌≡◌, ℕ, zero, suc, ◌+◌, ◌≤◌, ◌<◌, List, [], ◌∷◌, length, map, Option, None, IfSome, refl, sym, ap, subst, arith}
use Rattle.std.specs.Prelude.{slice_index_or}
use Rattle.std.proofs.lemmas.List.{length-map}
use Rattle.tt_world.specs.declared.config.ConfigParts.{ConfigParts}
use Rattle.tt_world.specs.declared.config.OsekDef.{OsekDef}
use Rattle.tt_world.specs.declared.config.OisrDef.{OisrDef}
use Rattle.task_lang.specs.declared.syntax.Stmt.{Stmt}
use Rattle.task_machine.specs.declared.frame.Frame.{Frame}
use Rattle.task_machine.specs.Standing.{IsSound as IsSoundFrame}
use Rattle.osek_idle.specs.Standing.{states, AreSound, HaveOsek}
use Rattle.osek_idle.specs.Slots.{priorities}
use Rattle.osek_idle.specs.declared.slot.Slot.{Slot}

-- ---- no routine is unfinished

pub no_states : {A : Type 0} (codes : List (List Stmt)) (items : List A)
    → states codes (map (λ (item : A). None) items) ≡ map (λ (item : A). None) items
no_states codes [] = refl
no_states codes (item ∷ items) = ap (λ xs. None ∷ xs) (no_states codes items)

none_at : {A : Type 0} (items : List A) (k : ℕ) (d : Option Frame)
    → k < length (map (λ (item : A). let f : Option Frame = None in f) items)
    → slice_index_or (map (λ (item : A). None) items) k d ≡ None
none_at [] k d within = absurd (omega arith)
none_at (item ∷ items) zero d within = refl
none_at (item ∷ items) (suc k) d within = none_at items k d (omega arith)

pub no_sound : {A : Type 0} (codes : List (List Stmt)) (items : List A)
    → AreSound codes (map (λ (item : A). None) items)
no_sound codes items = λ k d within.
    let P : Option Frame → Type 0 = λ f. IfSome f (IsSoundFrame codes) in
    subst P (sym (none_at items k d within)) tt

-- ---- the codes are there

pub enough_codes : (codes : List (List Stmt)) (c : ConfigParts) (first : ℕ) (tasks routines : List Slot)
    → priorities tasks ≡ map (λ (task : OsekDef). task.priority) c.oseks
    → priorities routines ≡ map (λ (oisr : OisrDef). oisr.priority) c.oisrs
    → HaveOsek codes first c → first + (length tasks + length routines) ≤ length codes
enough_codes codes c first tasks routines a b have =
    omega (
      arith,
      length-map tasks (λ (s : Slot). s.priority),
      length-map c.oseks (λ (task : OsekDef). task.priority),
      ap length a,
      length-map routines (λ (s : Slot). s.priority),
      length-map c.oisrs (λ (oisr : OisrDef). oisr.priority),
      ap length b,
      length-map c.oisrs (λ (oisr : OisrDef). oisr.body),
      have.routines.enough,
    )
