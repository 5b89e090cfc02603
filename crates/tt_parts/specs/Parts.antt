-- What the rows of a document say, part by part, each with its line.
use Rattle.std.specs.Prelude.{ℕ, List, [], ◌∷◌, ◌++◌}
use Rattle.tt_base.specs.declared.names.NameEntry.{NameEntry}
use Rattle.tt_rows.specs.declared.row.NumberedRow.{NumberedRow}
use Rattle.tt_parts.specs.declared.declared_parts.Declarations.{Declarations}
use Rattle.tt_parts.specs.declared.said.Said.{Said}
use Rattle.tt_parts.specs.Located.{at_then, each_at}
use Rattle.tt_parts.specs.Names.{declared_in}
use Rattle.tt_parts.specs.Entries.{round_in, adjust_in, var_in, demand_in, entry_in, start_in, rounds_in, value_in, arrival_in, time_in}

-- the line of the first row, 1 where there is none
abbrev pub first_line : List NumberedRow → ℕ
first_line [] = 1
first_line (row ∷ rows) = row.line

-- what needs no number of a name: the round, and the names
abbrev pub declarations_of : List NumberedRow → Declarations
declarations_of rows = record {
  first = first_line rows;
  rounds = each_at round_in rows;
  adjusts = each_at adjust_in rows;
  names = each_at declared_in rows;
}

-- nothing of that, in rows whose first one has this line
abbrev pub none_declared : ℕ → Declarations
none_declared first = record { first = first; rounds = []; adjusts = []; names = [] }

-- with what a row below says of that
abbrev pub declared_then : NumberedRow → Declarations → Declarations
declared_then row d = record {
  first = d.first;
  rounds = d.rounds ++ at_then row.line (round_in row.row) [];
  adjusts = d.adjusts ++ at_then row.line (adjust_in row.row) [];
  names = d.names ++ at_then row.line (declared_in row.row) [];
}

-- what rows say besides that and bodies
abbrev pub said_in : List NameEntry → List NumberedRow → Said
said_in names rows = record {
  vars = each_at var_in rows;
  demands = each_at demand_in rows;
  entries = each_at (entry_in names) rows;
  starts = each_at (start_in names) rows;
  counts = each_at rounds_in rows;
  values = each_at (value_in names) rows;
  arrivals = each_at (arrival_in names) rows;
  times = each_at time_in rows;
}

-- nothing of that
abbrev pub nothing_said : Said
nothing_said = record {
  vars = [];
  demands = [];
  entries = [];
  starts = [];
  counts = [];
  values = [];
  arrivals = [];
  times = [];
}

-- with what a row below says of that
abbrev pub said_then : List NameEntry → NumberedRow → Said → Said
said_then names row said = record {
  vars = said.vars ++ at_then row.line (var_in row.row) [];
  demands = said.demands ++ at_then row.line (demand_in row.row) [];
  entries = said.entries ++ at_then row.line (entry_in names row.row) [];
  starts = said.starts ++ at_then row.line (start_in names row.row) [];
  counts = said.counts ++ at_then row.line (rounds_in row.row) [];
  values = said.values ++ at_then row.line (value_in names row.row) [];
  arrivals = said.arrivals ++ at_then row.line (arrival_in names row.row) [];
  times = said.times ++ at_then row.line (time_in row.row) [];
}
