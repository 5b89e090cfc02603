-- The rules that the parts of a configuration meet. Each field of the records below is one rule.
use Rattle.std.specs.Prelude.{◌≡◌, ℕ, ◌+◌, ◌-◌, ◌*◌, ◌^◌, ◌≤◌, ◌==◌, ◌&&◌, ◌||◌, not, nat_le, nat_lt, Bool, true, IsTrue, List, [], ◌∷◌, map, All, length, Option, Some, None, codes}
use Rattle.std.specs.List.{list_all, list_any}
use Rattle.std.specs.Str.{bytes_eq}
use Rattle.tt_base.specs.declared.names.NameKind.TheVariants as Kind
use Rattle.tt_base.specs.declared.names.NameEntry.{NameEntry}
use Rattle.tt_base.specs.Names.{count_of}
use Rattle.task_lang.specs.declared.syntax.Stmt.{Stmt}
use Rattle.task_lang.specs.declared.allowed.OwnerKind.{OwnerKind}
use Rattle.task_lang.specs.declared.allowed.OwnerKind.TheVariants as owner
use Rattle.task_lang.specs.Allowed.{is_allowed}
use Rattle.task_lang.specs.Limits.{IsNestedInLimit, IsCountInLimit, AreNumbersInRange, AreExpressionsShort, HasVariables, HasDemands, HasCallees, AreMostsInRange, AreUsualsInRange, each_in}
use Rattle.task_lang.specs.Worst.{worst_in}
use Rattle.tt_world.specs.declared.config.TaskDef.{TaskDef}
use Rattle.tt_world.specs.declared.config.IsrDef.{IsrDef}
use Rattle.tt_world.specs.declared.config.OsekDef.{OsekDef}
use Rattle.tt_world.specs.declared.config.OisrDef.{OisrDef}
use Rattle.tt_world.specs.declared.config.Activation.{Activation}
use Rattle.tt_world.specs.declared.config.Enable.{Enable}
use Rattle.tt_world.specs.declared.config.ModeDef.{ModeDef}
use Rattle.tt_world.specs.declared.config.ConfigParts.{ConfigParts}

-- ---- names

-- a name that no document may declare
abbrev pub is_reserved : List ℕ → Bool
is_reserved name = bytes_eq name (codes "idle")
    || (bytes_eq name (codes "ttErrorHook") || bytes_eq name (codes "ttShutdownHook"))

-- no name occurs again after it, and none is reserved
abbrev pub are_names_free : List NameEntry → Bool
are_names_free [] = true
are_names_free (entry ∷ rest) =
    not (is_reserved entry.name) && (not (list_any (λ (other : NameEntry). bytes_eq other.name entry.name) rest)
    && are_names_free rest)

-- there are as many names of each kind as things of that kind
pub record AreAllNamed (c : ConfigParts) : Type 0 where
  pub modes : count_of Kind.Mode c.names ≡ length c.modes
  pub vars : count_of Kind.Var c.names ≡ length c.vars
  pub demands : count_of Kind.Demand c.names ≡ length c.demands
  pub tasks : count_of Kind.Task c.names ≡ length c.tasks
  pub isrs : count_of Kind.Isr c.names ≡ length c.isrs
  pub oseks : count_of Kind.Osek c.names ≡ length c.oseks
  pub oisrs : count_of Kind.Oisr c.names ≡ length c.oisrs

-- how many things of each kind there are
pub record AreFew (c : ConfigParts) : Type 0 where
  pub some_mode : 1 ≤ length c.modes
  pub modes : length c.modes ≤ 16
  pub vars : length c.vars ≤ 256
  pub demands : length c.demands ≤ 256
  pub tasks : length c.tasks ≤ 64
  pub isrs : length c.isrs ≤ 16
  pub oseks : length c.oseks ≤ 32
  pub oisrs : length c.oisrs ≤ 16

-- ---- bodies

-- a body whose owner is of this kind: nested at most 4 deep, with fewer than 2^32 statements and short expressions, its
-- numbers in range, everything that it names declared, and each statement allowed
pub record IsBody (c : ConfigParts) (kind : OwnerKind) (body : List Stmt) : Type 0 where
  pub nested : IsNestedInLimit body
  pub counted : IsCountInLimit body
  pub numbers : AreNumbersInRange body
  pub expressions : AreExpressionsShort body
  pub variables : HasVariables (length c.vars) body
  pub demands : HasDemands (length c.demands) body
  pub callees : HasCallees (length c.modes) (length c.oseks) body
  pub allowed : IsTrue (each_in (is_allowed kind) body)

-- what holds during a run of each list of statements that is left of an owner of this kind: expressions are short;
-- variables, demands, modes and OSEK tasks are declared; and each statement is allowed
pub record IsRunnable (c : ConfigParts) (kind : OwnerKind) (left : List Stmt) : Type 0 where
  pub expressions : AreExpressionsShort left
  pub variables : HasVariables (length c.vars) left
  pub demands : HasDemands (length c.demands) left
  pub callees : HasCallees (length c.modes) (length c.oseks) left
  pub allowed : IsTrue (each_in (is_allowed kind) left)

-- a body that takes ticks: it has a statement, its worst case is at most 10^12 ticks, and the budget is that worst case
pub record IsRoutine (c : ConfigParts) (kind : OwnerKind) (body : List Stmt) (budget : ℕ) : Type 0 where
  pub is_body : IsBody c kind body
  pub some : 1 ≤ length body
  pub worst : budget ≡ worst_in c.demands body
  pub bounded : budget ≤ 10 ^ 12

pub record IsTask (c : ConfigParts) (task : TaskDef) : Type 0 where
  pub routine : IsRoutine c owner.Task task.body task.budget
  pub stack : task.stack ≤ 65535

-- a distance is from 1 to 1,000,000,000 ticks
abbrev pub is_distance : Option ℕ → Bool
is_distance None = true
is_distance (Some distance) = nat_le 1 distance && nat_le distance 1000000000

pub record IsIsr (c : ConfigParts) (isr : IsrDef) : Type 0 where
  pub routine : IsRoutine c owner.Isr isr.body isr.budget
  pub stack : isr.stack ≤ 65535
  pub level : 1 ≤ isr.level
  pub distance : is_distance isr.distance ≡ true

pub record IsOsek (c : ConfigParts) (task : OsekDef) : Type 0 where
  pub routine : IsRoutine c owner.Osek task.body task.budget
  pub priority : 1 ≤ task.priority

pub record IsOisr (c : ConfigParts) (oisr : OisrDef) : Type 0 where
  pub routine : IsRoutine c owner.Oisr oisr.body oisr.budget
  pub priority : 1 ≤ oisr.priority

-- no number occurs twice
abbrev pub are_distinct : List ℕ → Bool
are_distinct [] = true
are_distinct (n ∷ rest) = not (list_any (λ other. other == n) rest) && are_distinct rest

-- ---- dispatcher tables

-- the rows that activate: offsets ascend strictly from this one on
abbrev pub offsets_ascend : ℕ → List Activation → Bool
offsets_ascend least [] = true
offsets_ascend least (a ∷ rest) = nat_le least a.offset && offsets_ascend (a.offset + 1) rest

-- a row that activates: a task that exists, before L - A, with a deadline after its offset and at most at L - A
abbrev pub is_activation : ConfigParts → Activation → Bool
is_activation c a =
    nat_lt a.task.0 (length c.tasks) && (nat_lt a.offset a.deadline && nat_le a.deadline (c.round - c.adjust))

-- no later row of the same task comes before this row's deadline
abbrev pub has_ended_before : Activation → Activation → Bool
has_ended_before a later = not (later.task.0 == a.task.0) || nat_le a.deadline later.offset

abbrev pub are_apart : List Activation → Bool
are_apart [] = true
are_apart (a ∷ rest) = list_all (has_ended_before a) rest && are_apart rest

-- whether one row that enables comes before another: by offset, and then by number
abbrev pub comes_before : Enable → Enable → Bool
comes_before e later = nat_lt e.offset later.offset || ((e.offset == later.offset) && nat_lt e.isr.0 later.isr.0)

abbrev pub enables_ascend : List Enable → Bool
enables_ascend [] = true
enables_ascend (e ∷ rest) = list_all (comes_before e) rest && enables_ascend rest

-- a row that enables: a routine that exists, before L - A
abbrev pub is_enable : ConfigParts → Enable → Bool
is_enable c e = nat_lt e.isr.0 (length c.isrs) && nat_lt e.offset (c.round - c.adjust)

pub record IsMode (c : ConfigParts) (mode : ModeDef) : Type 0 where
  pub activations : list_all (is_activation c) mode.activations ≡ true
  pub ascending : offsets_ascend 0 mode.activations ≡ true
  pub apart : are_apart mode.activations ≡ true
  pub enables : list_all (is_enable c) mode.enables ≡ true
  pub enables_ascending : enables_ascend mode.enables ≡ true
  pub few : length mode.activations + length mode.enables ≤ 4096

-- ---- the whole

pub record IsConfig (c : ConfigParts) : Type 0 where
  -- a round has 2 to 10,000,000 ticks, and is corrected by at most a quarter
  pub round_long : 2 ≤ c.round
  pub round_short : c.round ≤ 10000000
  pub adjust : 4 * c.adjust ≤ c.round
  pub names : are_names_free c.names ≡ true
  pub named : AreAllNamed c
  pub few : AreFew c
  pub mosts : AreMostsInRange c.demands
  pub usuals : AreUsualsInRange c.demands
  pub tasks : All (IsTask c) c.tasks
  pub isrs : All (IsIsr c) c.isrs
  pub oseks : All (IsOsek c) c.oseks
  pub oisrs : All (IsOisr c) c.oisrs
  pub levels : are_distinct (map (λ (isr : IsrDef). isr.level) c.isrs) ≡ true
  pub osek_priorities : are_distinct (map (λ (task : OsekDef). task.priority) c.oseks) ≡ true
  pub oisr_priorities : are_distinct (map (λ (oisr : OisrDef). oisr.priority) c.oisrs) ≡ true
  pub error_hook : IsBody c owner.Hook c.error_hook
  pub shutdown_hook : IsBody c owner.Hook c.shutdown_hook
  pub modes : All (IsMode c) c.modes
