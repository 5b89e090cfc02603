-- What a change of one frame makes of the subsystem.
use Rattle.std.proofs.Common.{◌≡◌, ℕ, Bool, true, false, List, Option, None, Some, sym, ap, ◌∙◌}
use Rattle.std.specs.Prelude.{slice_index_or, slice_set, ◌==◌, if◌then◌else◌}
use Rattle.std.specs.Option.{option_map}
use Rattle.std.proofs.lemmas.Bool.{ne_eqb}
use Rattle.task_lang.specs.declared.syntax.Stmt.{Stmt}
use Rattle.task_machine.specs.declared.frame.Frame.{Frame}
use Rattle.task_machine.specs.Standing.{left_of}
use Rattle.osek_idle.specs.Subsystem.{Subsystem, result_of}
use Rattle.osek_idle.specs.Standing.{states, slot_left}
use Rattle.osek_idle.specs.Slots.{frames}
use Rattle.osek_idle.specs.declared.slot.Slot.{Slot}
use Rattle.osek_idle.proofs.Parts.{states_set, set_here, left_is}

pub states_are : (codes : List (List Stmt)) (fs' fs : List (Option Frame)) (n : ℕ) (f : Option Frame)
    → fs' ≡ slice_set fs n f
    → states codes fs' ≡ slice_set (states codes fs) n (option_map (left_of codes) f)
states_are codes fs' fs n f is = ap (states codes) is ∙ states_set codes fs n f

pub with_tasks : (a b routines : List (Option (List Stmt))) → a ≡ b
    → (let s : Subsystem = record { tasks = a; routines = routines } in s)
    ≡ (let s : Subsystem = record { tasks = b; routines = routines } in s)
with_tasks a b routines is = ap (λ xs. let s : Subsystem = record { tasks = xs; routines = routines } in s) is

pub with_routines : (tasks a b : List (Option (List Stmt))) → a ≡ b
    → (let s : Subsystem = record { tasks = tasks; routines = a } in s)
    ≡ (let s : Subsystem = record { tasks = tasks; routines = b } in s)
with_routines tasks a b is = ap (λ xs. let s : Subsystem = record { tasks = tasks; routines = xs } in s) is

-- ---- services

-- the status of a task that a test found ready
pub limit : (ready found : Bool) → found ≡ ready → found ≡ true → 4 ≡ result_of ready
limit ready found same is = sym (ap result_of (sym same ∙ is))

pub ok : (ready found : Bool) → found ≡ ready → found ≡ false → 0 ≡ result_of ready
ok ready found same is = sym (ap result_of (sym same ∙ is))

pub chosen_first : {X : Type 0} (a b : X) (ready found : Bool) → found ≡ ready → found ≡ true
    → a ≡ (if ready then a else b)
chosen_first a b ready found same is = sym (ap (λ r. if r then a else b) (sym same ∙ is))

pub chosen_second : {X : Type 0} (a b : X) (ready found : Bool) → found ≡ ready → found ≡ false
    → b ≡ (if ready then a else b)
chosen_second a b ready found same is = sym (ap (λ r. if r then a else b) (sym same ∙ is))

-- another task than the caller
pub other_task : {X : Type 0} (a b : X) (caller task : ℕ) → (caller ≡ task → ⊥) → b ≡ (if caller == task then a else b)
other_task a b caller task other = sym (ap (λ r. if r then a else b) (ne_eqb caller task other))

-- ---- ticks of one

module _ (codes : List (List Stmt)) (slots slots' : List Slot) (n : ℕ) (f f' : Frame)
    (here : slice_index_or (frames slots) n None ≡ Some f)
    (set : frames slots' ≡ slice_set (frames slots) n (Some f')) where
  pub new_left : slot_left codes slots' n ≡ left_of codes f'
  new_left = left_is codes slots' n f' (ap (λ fs. slice_index_or fs n None) set ∙ set_here (frames slots) n f f' here)

  pub others_stay : states codes (frames slots')
      ≡ slice_set (states codes (frames slots)) n (Some (slot_left codes slots' n))
  others_stay = states_are codes (frames slots') (frames slots) n (Some f') set
      ∙ ap (λ l. slice_set (states codes (frames slots)) n (Some l)) (sym new_left)
