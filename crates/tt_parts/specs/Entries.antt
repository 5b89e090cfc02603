-- What rows say besides names and bodies: numbers, initial values, demands, rows of dispatcher tables, and what comes
-- from outside.
use Rattle.std.specs.Prelude.{ℕ, ℤ, Bool, true, false, List, Option, Some, None}
use Rattle.tt_base.specs.declared.names.NameEntry.{NameEntry}
use Rattle.tt_base.specs.declared.number.ModeNo.{ModeNo}
use Rattle.tt_base.specs.Names.{find_name}
use Rattle.task_lang.specs.declared.demand.Demand.{Demand}
use Rattle.tt_rows.specs.declared.row.Row.{Row}
use Rattle.tt_rows.specs.declared.row.Row.TheVariants as r
use Rattle.tt_parts.specs.declared.entries.Entry.{Entry}
use Rattle.tt_parts.specs.declared.entries.Entry.TheVariants as entry
use Rattle.tt_parts.specs.declared.entries.Value.{Value}
use Rattle.tt_parts.specs.declared.entries.Arrival.{Arrival}
use Rattle.tt_parts.specs.Names.{number_named}

-- the length of a round
abbrev pub round_in : Row → Option ℕ
round_in (r.Round length) = Some length
round_in row = None

-- the greatest correction of a round
abbrev pub adjust_in : Row → Option ℕ
adjust_in (r.Adjust most) = Some most
adjust_in row = None

-- the initial value of a variable
abbrev pub var_in : Row → Option ℤ
var_in (r.Var name value) = Some value
var_in row = None

-- a demand
abbrev pub demand_in : Row → Option Demand
demand_in (r.Demand name most usual) = Some (record { most = most; usual = usual })
demand_in row = None

abbrev pub activates : List NameEntry → ℕ → List ℕ → List ℕ → ℕ → Bool → Option Entry
activates names offset mode task deadline stringent =
    Some (entry.Activates (record { 0 = number_named names mode })
    (record {
      offset = offset;
      task = record { 0 = number_named names task };
      deadline = deadline;
      stringent =
          stringent;
    }))

-- a row of a dispatcher table
abbrev pub entry_in : List NameEntry → Row → Option Entry
entry_in names (r.AtStringent offset mode task deadline) = activates names offset mode task deadline true
entry_in names (r.AtNonstringent offset mode task deadline) = activates names offset mode task deadline false
entry_in names (r.AtEnable offset mode isr) =
    Some (entry.Enables (record { 0 = number_named names mode })
    (record { offset = offset; isr = record { 0 = number_named names isr } }))
entry_in names row = None

-- the mode at tick 0
abbrev pub start_in : List NameEntry → Row → Option ModeNo
start_in names (r.Start mode) = Some (record { 0 = number_named names mode })
start_in names row = None

-- the number of rounds
abbrev pub rounds_in : Row → Option ℕ
rounds_in (r.Rounds count) = Some count
rounds_in row = None

-- the next value of a demand
abbrev pub value_in : List NameEntry → Row → Option Value
value_in names (r.Value demand ticks) =
    Some (record { demand = record { 0 = number_named names demand }; ticks = ticks })
value_in names row = None

-- an interrupt
abbrev pub arrival_in : List NameEntry → Row → Option Arrival
arrival_in names (r.Arrive source tick) = Some (record { source = find_name names source; tick = tick })
arrival_in names row = None

-- the next global time
abbrev pub time_in : Row → Option ℕ
time_in (r.Time global) = Some global
time_in row = None
