-- What contracts see of the state of a run.
use Rattle.std.specs.Prelude.{◌≡◌, ℕ, ◌+◌, List, ◌++◌, length, map}
use Rattle.task_lang.specs.declared.syntax.Stmt.{Stmt}
use Rattle.task_lang.specs.declared.demand.Demand.{Demand}
use Rattle.tt_world.specs.declared.config.ConfigParts.{ConfigParts}
use Rattle.tt_world.specs.declared.config.TaskDef.{TaskDef}
use Rattle.tt_world.specs.declared.config.IsrDef.{IsrDef}
use Rattle.tt_world.specs.declared.config.OsekDef.{OsekDef}
use Rattle.tt_world.specs.declared.config.OisrDef.{OisrDef}
use Rattle.tt_world.specs.declared.script.ScriptParts.{ScriptParts}
use Rattle.tt_world.specs.Runners.{isr_levels}
use Rattle.tt_world.specs.World.{World}
use Rattle.tt_stack.specs.Words.{all_isr_words, all_row_words}
use Rattle.isr_window.specs.Window.{Window}
use Rattle.isr_window.specs.Played.{with_window}
use Rattle.osek_idle.specs.Subsystem.{Setup}
use Rattle.osek_idle.specs.Standing.{setup_for}

-- what the runner keeps beside the world: how long a round is, how far it is corrected, how many modes and rounds there
-- are, the global times; the demands and the values that the script gives for them; the bodies of all programs, the
-- number of the first routine's program, the levels of the routines, the declared words of stack of the routines and of
-- the rows of each mode, and what never changes of the OSEK subsystem; and the ticks of the arrivals that were not yet
-- taken
pub record Beside : Type 0 where
  pub round : ℕ
  pub adjust : ℕ
  pub modes : ℕ
  pub rounds : ℕ
  pub times : List ℕ
  pub demands : List Demand
  pub values : List (List ℕ)
  pub codes : List (List Stmt)
  pub first : ℕ
  pub levels : List ℕ
  pub isr_words : List ℕ
  pub row_words : List (List ℕ)
  pub setup : Setup
  pub isrs_ticks : List (List ℕ)
  pub oisrs_ticks : List (List ℕ)

pub record RunState : Type 0 where
  pub world : World
  pub beside : Beside

-- what stays as it is over a run
pub record Fixed : Type 0 where
  pub round : ℕ
  pub adjust : ℕ
  pub modes : ℕ
  pub rounds : ℕ
  pub times : List ℕ
  pub demands : List Demand
  pub values : List (List ℕ)
  pub codes : List (List Stmt)
  pub first : ℕ
  pub levels : List ℕ
  pub isr_words : List ℕ
  pub row_words : List (List ℕ)
  pub setup : Setup

abbrev pub fixed_in : Beside → Fixed
fixed_in b = record {
  round = b.round;
  adjust = b.adjust;
  modes = b.modes;
  rounds = b.rounds;
  times = b.times;
  demands = b.demands;
  values = b.values;
  codes = b.codes;
  first = b.first;
  levels = b.levels;
  isr_words = b.isr_words;
  row_words = b.row_words;
  setup = b.setup;
}

-- the bodies of an application by program number: of the tasks, the time-triggered routines, the OSEK tasks and the
-- OSEK routines
abbrev pub bodies_of : ConfigParts → List (List Stmt)
bodies_of c =
    map (λ (task : TaskDef). task.body) c.tasks ++ (map (λ (isr : IsrDef). isr.body) c.isrs
    ++ (map (λ (task : OsekDef). task.body) c.oseks ++ map (λ (oisr : OisrDef). oisr.body) c.oisrs))

abbrev pub fixed_of : ConfigParts → ScriptParts → Fixed
fixed_of c s = record {
  round = c.round;
  adjust = c.adjust;
  modes = length c.modes;
  rounds = s.rounds;
  times = s.times;
  demands = c.demands;
  values = s.values;
  codes = bodies_of c;
  first = length c.tasks;
  levels = isr_levels c;
  isr_words = all_isr_words c;
  row_words = all_row_words c;
  setup = setup_for c (length c.tasks + length c.isrs);
}

-- what is kept is that of a configuration and of a script
abbrev pub IsFor : ConfigParts → ScriptParts → Beside → Type 0
IsFor c s b = fixed_in b ≡ fixed_of c s

-- the interrupt sources of a state
abbrev pub window_in : RunState → Window
window_in st = record {
  isrs_enabled = st.world.isrs_enabled;
  isrs_held = st.world.isrs_held;
  isrs_left = st.beside.isrs_ticks;
  oisrs_held = st.world.oisrs_held;
  oisrs_left = st.beside.oisrs_ticks;
}

-- the state with these sources
abbrev pub with_sources : Window → RunState → RunState
with_sources g st = record {
  world = with_window st.world g;
  beside = record st.beside { isrs_ticks = g.isrs_left; oisrs_ticks = g.oisrs_left };
}
