-- More codes after the present ones change nothing.
use Rattle.std.proofs.Common.{◌≡◌, suc, List, [], ◌∷◌, ◌++◌, Option, None, Some, IfSome, refl, ap, ◌∙◌, arith, length-append}
use Rattle.std.specs.Prelude.{slice_index_or}
use Rattle.std.specs.Option.{option_map}
use Rattle.task_lang.specs.declared.syntax.Stmt.{Stmt}
use Rattle.task_machine.specs.declared.frame.Frame.{Frame}
use Rattle.task_machine.specs.Standing.{left_of, IsSound as IsSoundFrame, StandsFor}
use Rattle.task_machine.proofs.Standings.{codes_grow}
use Rattle.osek_idle.specs.Laws.{CodesMayGrow}
use Rattle.osek_idle.specs.Standing.{states, AreSound}
use Rattle.osek_idle.specs.Slots.{frames}

module _ (codes more : List (List Stmt)) where
  stands : (f : Frame) → IsSoundFrame codes f → StandsFor (codes ++ more) f (left_of codes f)
  stands f sound = codes_grow codes more f (left_of codes f) (record { sound = sound; left = refl })

  one_sound : (f : Option Frame) → IfSome f (IsSoundFrame codes) → IfSome f (IsSoundFrame (codes ++ more))
  one_sound None sound = sound
  one_sound (Some f) sound = (stands f sound).sound

  one_same : (f : Option Frame) → IfSome f (IsSoundFrame codes)
      → option_map (left_of (codes ++ more)) f ≡ option_map (left_of codes) f
  one_same None sound = refl
  one_same (Some f) sound = ap Some (stands f sound).left

  all_sound : (fs : List (Option Frame)) → AreSound codes fs → AreSound (codes ++ more) fs
  all_sound fs sound = λ k d within. one_sound (slice_index_or fs k d) (sound k d within)

  tail_sound : (f : Option Frame) (fs : List (Option Frame)) → AreSound codes (f ∷ fs) → AreSound codes fs
  tail_sound f fs sound = λ k d within. sound (suc k) d (omega arith)

  all_same : (fs : List (Option Frame)) → AreSound codes fs → states (codes ++ more) fs ≡ states codes fs
  all_same [] sound = refl
  all_same (f ∷ fs) sound =
      ap (λ x. x ∷ states (codes ++ more) fs) (one_same f (sound 0 None (omega arith)))
      ∙ ap (λ xs. option_map (left_of codes) f ∷ xs) (all_same fs (tail_sound f fs sound))

pub grows : CodesMayGrow
grows codes more osek sound = (
  record {
    enough = omega (arith, length-append codes more, sound.enough);
    tasks = all_sound codes more (frames osek.tasks) sound.tasks;
    routines = all_sound codes more (frames osek.routines) sound.routines;
  },
  ap (λ xs. record { tasks = xs; routines = states (codes ++ more) (frames osek.routines) })
      (all_same codes more (frames osek.tasks) sound.tasks)
      ∙ ap (λ xs. record { tasks = states codes (frames osek.tasks); routines = xs })
      (all_same codes more (frames osek.routines) sound.routines),
)
