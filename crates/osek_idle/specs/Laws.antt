-- Laws of the subsystem.
use Rattle.std.specs.Prelude.{◌≡◌, List, [], ◌∷◌, ◌++◌, Option, Some}
use Rattle.tt_base.specs.declared.event.Owner.{Owner}
use Rattle.tt_base.specs.declared.event.Owner.TheVariants as owner
use Rattle.task_lang.specs.declared.syntax.Stmt.{Stmt}
use Rattle.tt_world.specs.declared.config.ConfigParts.{ConfigParts}
use Rattle.tt_world.specs.declared.world.Runner.{Runner}
use Rattle.tt_world.specs.declared.world.Runner.TheVariants.{Oisr, Osek, Nobody}
use Rattle.tt_world.specs.World.{World}
use Rattle.tt_world.specs.Runners.{oisr_priorities, osek_priorities, oisr_runner, osek_runner, first_runner}
use Rattle.osek_idle.specs.Subsystem.{Subsystem, Setup, lefts, picked, IsSettled}
use Rattle.osek_idle.specs.Standing.{IsSound, subsystem_of}
use Rattle.osek_idle.specs.declared.subsystem.Osek.{Osek as OsekPart}

-- The same codes with more after them give the same lists.
abbrev pub CodesMayGrow : Type 0
CodesMayGrow = (codes more : List (List Stmt)) (osek : OsekPart) → IsSound codes osek
    → IsSound (codes ++ more) osek × (subsystem_of (codes ++ more) osek ≡ subsystem_of codes osek)

-- The subsystem of a world of this configuration: what is left is the same, and so are the priorities.
pub record IsOf (c : ConfigParts) (w : World) (setup : Setup) (s : Subsystem) : Type 0 where
  pub tasks : w.oseks ≡ lefts s.tasks
  pub routines : w.oisrs ≡ lefts s.routines
  pub task_priorities : setup.tasks ≡ osek_priorities c
  pub routine_priorities : setup.routines ≡ oisr_priorities c
  pub settled : IsSettled s

-- an owner as the runner of a world
abbrev pub runner_in : Option Owner → Runner
runner_in (Some (owner.Osek task)) = Osek task
runner_in (Some (owner.Oisr oisr)) = Oisr oisr
runner_in _ = Nobody

abbrev pub PicksAreTheRunners : Type 0
PicksAreTheRunners = (c : ConfigParts) (w : World) (setup : Setup) (s : Subsystem) → IsOf c w setup s
    → runner_in (picked setup s) ≡ first_runner (oisr_runner c w ∷ osek_runner c w ∷ [])
