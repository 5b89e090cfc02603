-- The configuration and the script that rows give: the parts that they say, without their lines.
use Rattle.std.specs.Prelude.{ℕ, List, [], ◌∷◌, map, Option, Some, None, if◌then◌else◌}
use Rattle.tt_base.specs.declared.names.NameKind.{NameKind}
use Rattle.tt_base.specs.declared.names.NameKind.TheVariants as Kind
use Rattle.tt_base.specs.declared.names.NameEntry.{NameEntry}
use Rattle.tt_base.specs.declared.names.Declared.{Declared}
use Rattle.tt_base.specs.declared.number.ModeNo.{ModeNo}
use Rattle.tt_base.specs.Names.{count_of, is_same_kind, kind_of, number_of}
use Rattle.tt_world.specs.declared.config.ConfigParts.{ConfigParts}
use Rattle.tt_world.specs.declared.script.Arrivals.{Arrivals}
use Rattle.tt_world.specs.declared.script.ScriptParts.{ScriptParts}
use Rattle.tt_rows.specs.declared.row.NumberedRow.{NumberedRow}
use Rattle.tt_parts.specs.declared.entries.Arrival.{Arrival}
use Rattle.tt_parts.specs.declared.entries.Value.{Value}
use Rattle.tt_parts.specs.declared.said.Said.{Said}
use Rattle.tt_parts.specs.Located.{parts}
use Rattle.tt_rules.specs.Document.{first_or_zero, round_of, adjust_of}
use Rattle.tt_rules.specs.Order.{below}
use Rattle.tt_rules.specs.Tables.{mode_with}
use Rattle.tt_config.specs.declared.document.Elaborated.{Elaborated}
use Rattle.tt_config.specs.declared.owners.Owners.{Owners}
use Rattle.tt_config.specs.Lists.{by_number}
use Rattle.tt_config.specs.Owners.{owners_of, first_body}
use Rattle.tt_config.specs.Document.{elaborated_of}

-- ---- the configuration

-- a configuration whose owners are these
abbrev pub config_by : Elaborated → Owners → ConfigParts
config_by d owners = record {
  names = d.names;
  round = round_of d.declared;
  adjust = adjust_of d.declared;
  vars = parts d.said.vars;
  demands = d.demands;
  tasks = owners.tasks;
  isrs = owners.isrs;
  oseks = owners.oseks;
  oisrs = owners.oisrs;
  error_hook = first_body owners.error_hooks;
  shutdown_hook = first_body owners.shutdown_hooks;
  modes = map (mode_with (parts d.said.entries)) (below (count_of Kind.Mode (parts d.declared.names)));
}

abbrev pub config_with : Elaborated → ConfigParts
config_with d = config_by d (owners_of d.demands (parts d.bodies))

unfoldable pub config_of : List NumberedRow → ConfigParts
config_of rows = config_with (elaborated_of rows)

-- ---- the script

-- the mode at tick 0: the first
abbrev pub first_mode : List ModeNo → ModeNo
first_mode [] = record { 0 = 0 }
first_mode (mode ∷ modes) = mode

-- the demand of a value, and the value
abbrev pub value_place : Value → Option (ℕ × ℕ)
value_place value = Some (value.demand.0, value.ticks)

abbrev pub arrival_by : NameKind → Option Declared → ℕ → Option (ℕ × ℕ)
arrival_by kind None tick = None
arrival_by kind (Some source) tick = if is_same_kind kind (kind_of source) then Some (number_of source, tick) else None

-- the source of an arrival, if it is of this kind, and the tick
abbrev pub arrival_place : NameKind → Arrival → Option (ℕ × ℕ)
arrival_place kind arrival = arrival_by kind arrival.source arrival.tick

-- the arrivals of each source
abbrev pub arrivals_with : List NameEntry → List Arrival → Arrivals
arrivals_with names arrivals = record {
  isrs = by_number (count_of Kind.Isr names) (arrival_place Kind.Isr) arrivals;
  oisrs = by_number (count_of Kind.Oisr names) (arrival_place Kind.Oisr) arrivals;
}

abbrev pub script_with : List NameEntry → Said → ScriptParts
script_with names said = record {
  start = first_mode (parts said.starts);
  rounds = first_or_zero (parts said.counts);
  values = by_number (count_of Kind.Demand names) value_place (parts said.values);
  arrivals = arrivals_with names (parts said.arrivals);
  times = parts said.times;
}

unfoldable pub script_of : List NumberedRow → ScriptParts
script_of rows = let d = elaborated_of rows in script_with d.names d.said
