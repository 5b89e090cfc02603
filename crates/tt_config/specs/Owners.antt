-- The owners of bodies.
use Rattle.std.specs.Prelude.{◌≡◌, ◌≤◌, true, List, [], ◌∷◌, ◌++◌, All, flat_map}
use Rattle.task_lang.specs.declared.demand.Demand.{Demand}
use Rattle.task_lang.specs.declared.syntax.Stmt.{Stmt}
use Rattle.task_lang.specs.Worst.{worst_in}
use Rattle.tt_world.specs.declared.config.TaskDef.{TaskDef}
use Rattle.tt_world.specs.declared.config.IsrDef.{IsrDef}
use Rattle.tt_world.specs.declared.config.OsekDef.{OsekDef}
use Rattle.tt_world.specs.declared.config.OisrDef.{OisrDef}
use Rattle.tt_world.specs.ConfigRules.{is_distance}
use Rattle.tt_parts.specs.declared.located.At.{At}
use Rattle.tt_parts.specs.declared.bodies.Owner.{Owner}
use Rattle.tt_parts.specs.declared.bodies.Owner.TheVariants as owner
use Rattle.tt_parts.specs.declared.bodies.BodyPart.{BodyPart}
use Rattle.tt_rules.specs.BodyRules.{IsTellable, is_light}
use Rattle.tt_config.specs.declared.owners.Owners.{Owners}

abbrev pub task_by : List Demand → List Stmt → Owner → List TaskDef
task_by demands body (owner.Task stack) = record { stack = stack; body = body; budget = worst_in demands body } ∷ []
task_by demands body other = []

-- a task, with its body and the body's worst case
abbrev pub task_in : List Demand → BodyPart → List TaskDef
task_in demands b = task_by demands b.body b.owner

abbrev pub isr_by : List Demand → List Stmt → Owner → List IsrDef
isr_by demands body (owner.Isr level stack distance) =
    record { level = level; stack = stack; distance = distance; body = body; budget = worst_in demands body } ∷ []
isr_by demands body other = []

abbrev pub isr_in : List Demand → BodyPart → List IsrDef
isr_in demands b = isr_by demands b.body b.owner

abbrev pub osek_by : List Demand → List Stmt → Owner → List OsekDef
osek_by demands body (owner.Osek priority auto) =
    record { priority = priority; auto = auto; body = body; budget = worst_in demands body } ∷ []
osek_by demands body other = []

abbrev pub osek_in : List Demand → BodyPart → List OsekDef
osek_in demands b = osek_by demands b.body b.owner

abbrev pub oisr_by : List Demand → List Stmt → Owner → List OisrDef
oisr_by demands body (owner.Oisr priority) =
    record { priority = priority; body = body; budget = worst_in demands body } ∷ []
oisr_by demands body other = []

abbrev pub oisr_in : List Demand → BodyPart → List OisrDef
oisr_in demands b = oisr_by demands b.body b.owner

abbrev pub error_hook_by : List Stmt → Owner → List (List Stmt)
error_hook_by body owner.ErrorHook = body ∷ []
error_hook_by body other = []

abbrev pub error_hook_in : BodyPart → List (List Stmt)
error_hook_in b = error_hook_by b.body b.owner

abbrev pub shutdown_hook_by : List Stmt → Owner → List (List Stmt)
shutdown_hook_by body owner.ShutdownHook = body ∷ []
shutdown_hook_by body other = []

abbrev pub shutdown_hook_in : BodyPart → List (List Stmt)
shutdown_hook_in b = shutdown_hook_by b.body b.owner

-- the owners of some bodies
abbrev pub owners_of : List Demand → List BodyPart → Owners
owners_of demands bodies = record {
  tasks = flat_map (task_in demands) bodies;
  isrs = flat_map (isr_in demands) bodies;
  oseks = flat_map (osek_in demands) bodies;
  oisrs = flat_map (oisr_in demands) bodies;
  error_hooks = flat_map error_hook_in bodies;
  shutdown_hooks = flat_map shutdown_hook_in bodies;
}

abbrev pub no_owners : Owners
no_owners = record { tasks = []; isrs = []; oseks = []; oisrs = []; error_hooks = []; shutdown_hooks = [] }

-- one more owner
abbrev pub with_owner : List Demand → BodyPart → Owners → Owners
with_owner demands b owners = record {
  tasks = owners.tasks ++ task_in demands b;
  isrs = owners.isrs ++ isr_in demands b;
  oseks = owners.oseks ++ osek_in demands b;
  oisrs = owners.oisrs ++ oisr_in demands b;
  error_hooks = owners.error_hooks ++ error_hook_in b;
  shutdown_hooks = owners.shutdown_hooks ++ shutdown_hook_in b;
}

-- the first of some bodies; the empty body where there is none
abbrev pub first_body : List (List Stmt) → List Stmt
first_body [] = []
first_body (body ∷ others) = body

-- the numbers of an owner are in range
abbrev pub IsInRange : Owner → Type 0
IsInRange (owner.Task stack) = stack ≤ 65535
IsInRange (owner.Isr level stack distance) =
    (1 ≤ level) × ((level ≤ 255) × ((stack ≤ 65535) × (is_distance distance ≡ true)))
IsInRange (owner.Osek priority auto) = (1 ≤ priority) × (priority ≤ 255)
IsInRange (owner.Oisr priority) = (1 ≤ priority) × (priority ≤ 255)
IsInRange other = Unit {0}

-- a body whose worst case can be computed and is small, and an owner whose numbers are in range
pub record IsFit (demands : List Demand) (b : BodyPart) : Type 0 where
  pub tellable : IsTellable demands b.body
  pub owner : IsInRange b.owner
  pub light : is_light demands b ≡ true

abbrev pub AreFit : List Demand → List (At BodyPart) → Type 0
AreFit demands bodies = All (λ (x : At BodyPart). IsFit demands x.part) bodies
