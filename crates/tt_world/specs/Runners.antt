-- Who runs, and what is left of it.
use Rattle.std.specs.Prelude.{ℕ, ◌+◌, ◌==◌, not, nat_lt, Bool, true, false, List, [], ◌∷◌, map, filter, length, Option, None, Some, if◌then◌else◌, option_map, slice_index_or, slice_set}
use Rattle.std.specs.List.{range_with_len}
use Rattle.tt_base.specs.declared.event.Owner.{Owner}
use Rattle.tt_base.specs.declared.event.Owner.TheVariants as owner
use Rattle.task_lang.specs.declared.syntax.Stmt.{Stmt}
use Rattle.task_lang.specs.declared.allowed.OwnerKind.{OwnerKind}
use Rattle.task_lang.specs.declared.allowed.OwnerKind.TheVariants as kind
use Rattle.tt_world.specs.declared.config.IsrDef.{IsrDef}
use Rattle.tt_world.specs.declared.config.OsekDef.{OsekDef}
use Rattle.tt_world.specs.declared.config.OisrDef.{OisrDef}
use Rattle.tt_world.specs.declared.config.ConfigParts.{ConfigParts}
use Rattle.tt_world.specs.declared.world.Runner.{Runner}
use Rattle.tt_world.specs.declared.world.Runner.TheVariants.{Isr, Oisr, Osek, Nobody}
use Rattle.tt_world.specs.declared.world.Runner.TheVariants as runner
use Rattle.tt_world.specs.World.{World, Job}
use Rattle.tt_world.specs.Rows.{mode_of, row_of}

-- ---- what is left

-- whether nothing is left of a body
abbrev pub is_done : List Stmt → Bool
is_done [] = true
is_done (front ∷ rest) = false

abbrev pub no_job : Job
no_job = record { entry = 0; left = [] }

-- the activation at a place of the list
abbrev pub job_at : List Job → ℕ → Job
job_at activations place = slice_index_or activations place no_job

-- the list, with this left of the activation at a place
abbrev pub with_left : List Job → ℕ → List Stmt → List Job
with_left activations place left =
    slice_set activations place (record { entry = (job_at activations place).entry; left = left })

-- what is left of a runner
abbrev pub left_of : World → Runner → List Stmt
left_of w (Isr isr) = slice_index_or w.isrs isr.0 []
left_of w (runner.Job place) = (job_at w.jobs place).left
left_of w (Oisr oisr) = slice_index_or w.oisrs oisr.0 []
left_of w (Osek task) = slice_index_or w.oseks task.0 []
left_of w Nobody = []

-- the world with this left of a runner
abbrev pub leaving : World → Runner → List Stmt → World
leaving w (Isr isr) left = record w { isrs = slice_set w.isrs isr.0 left }
leaving w (runner.Job place) left = record w { jobs = with_left w.jobs place left }
leaving w (Oisr oisr) left = record w { oisrs = slice_set w.oisrs oisr.0 left }
leaving w (Osek task) left = record w { oseks = slice_set w.oseks task.0 left }
leaving w Nobody left = w

-- ---- who runs

-- the kind of owner of a runner; nobody has no statement, so any kind will do
abbrev pub kind_of : Runner → OwnerKind
kind_of (Isr isr) = kind.Isr
kind_of (runner.Job place) = kind.Task
kind_of (Oisr oisr) = kind.Oisr
kind_of (Osek task) = kind.Osek
kind_of Nobody = kind.Task

-- the numbers of those that have statements left
abbrev pub unfinished : List (List Stmt) → List ℕ
unfinished lefts = filter (λ (number : ℕ). not (is_done (slice_index_or lefts number [])))
    (range_with_len 0 (length lefts))

-- the one of two numbers that has the higher level
abbrev pub higher : List ℕ → ℕ → Option ℕ → ℕ
higher levels number None = number
higher levels number (Some other) =
    if nat_lt (slice_index_or levels number 0) (slice_index_or levels other 0) then other else number

-- the one of the highest level among these numbers
unfoldable pub highest : List ℕ → List ℕ → Option ℕ
highest levels [] = None
highest levels (number ∷ rest) = Some (higher levels number (highest levels rest))

abbrev pub or_else : Option ℕ → Option ℕ → Option ℕ
or_else None other = other
or_else (Some place) other = Some place

-- the place of the last activation that has statements left, where the first of the list is at this place
unfoldable pub last_unfinished : ℕ → List Job → Option ℕ
last_unfinished place [] = None
last_unfinished place (job ∷ rest) =
    or_else (last_unfinished (place + 1) rest) (if is_done job.left then None else Some place)

-- the levels of the time-triggered routines, and the priorities of the OSEK subsystem
abbrev pub isr_levels : ConfigParts → List ℕ
isr_levels c = map (λ (isr : IsrDef). isr.level) c.isrs

abbrev pub oisr_priorities : ConfigParts → List ℕ
oisr_priorities c = map (λ (oisr : OisrDef). oisr.priority) c.oisrs

abbrev pub osek_priorities : ConfigParts → List ℕ
osek_priorities c = map (λ (task : OsekDef). task.priority) c.oseks

-- the unfinished time-triggered routine of the highest level
abbrev pub isr_runner : ConfigParts → World → Option Runner
isr_runner c w = option_map (λ (number : ℕ). Isr (record { 0 = number })) (highest (isr_levels c) (unfinished w.isrs))

-- the last activation of the round that has statements left
abbrev pub task_runner : World → Option Runner
task_runner w = option_map (λ (place : ℕ). runner.Job place) (last_unfinished 0 w.jobs)

-- the unfinished OSEK routine of the highest priority
abbrev pub oisr_runner : ConfigParts → World → Option Runner
oisr_runner c w = option_map (λ (number : ℕ). Oisr (record { 0 = number }))
    (highest (oisr_priorities c) (unfinished w.oisrs))

-- the OSEK task of the highest priority that is not suspended
abbrev pub osek_runner : ConfigParts → World → Option Runner
osek_runner c w = option_map (λ (number : ℕ). Osek (record { 0 = number }))
    (highest (osek_priorities c) (unfinished w.oseks))

-- the first that exists, otherwise nobody
abbrev pub first_runner : List (Option Runner) → Runner
first_runner [] = Nobody
first_runner (None ∷ rest) = first_runner rest
first_runner (Some runner ∷ rest) = runner

-- who runs: the first of these that exists
unfoldable pub runner_of : ConfigParts → World → Runner
runner_of c w = first_runner (isr_runner c w ∷ task_runner w ∷ oisr_runner c w ∷ osek_runner c w ∷ [])

-- the owner of a tick that a runner takes
abbrev pub owner_of : ConfigParts → World → Runner → Owner
owner_of c w (Isr isr) = owner.Isr isr
owner_of c w (runner.Job place) = owner.Task (row_of (mode_of c w) (job_at w.jobs place).entry).task
owner_of c w (Oisr oisr) = owner.Oisr oisr
owner_of c w (Osek task) = owner.Osek task
owner_of c w Nobody = owner.Idle

-- whether two owners are the same
abbrev pub same_owner : Owner → Owner → Bool
same_owner (owner.Task a) (owner.Task b) = a.0 == b.0
same_owner (owner.Isr a) (owner.Isr b) = a.0 == b.0
same_owner (owner.Osek a) (owner.Osek b) = a.0 == b.0
same_owner (owner.Oisr a) (owner.Oisr b) = a.0 == b.0
same_owner owner.ErrorHook owner.ErrorHook = true
same_owner owner.ShutdownHook owner.ShutdownHook = true
same_owner owner.Idle owner.Idle = true
same_owner a b = false

-- whether the tick before had this owner
abbrev pub ran_before : Option Owner → Owner → Bool
ran_before None who = false
ran_before (Some before) who = same_owner before who
