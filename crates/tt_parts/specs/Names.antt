-- The names that rows declare, and the numbers of these names.
use Rattle.std.specs.Prelude.{ℕ, List, Option, Some, None, option_map, unwrap_or}
use Rattle.tt_base.specs.declared.names.NameKind.{NameKind}
use Rattle.tt_base.specs.declared.names.NameKind.TheVariants as Kind
use Rattle.tt_base.specs.declared.names.NameEntry.{NameEntry}
use Rattle.tt_base.specs.Names.{find_name, number_of}
use Rattle.tt_rows.specs.declared.row.Row.{Row}
use Rattle.tt_rows.specs.declared.row.Row.TheVariants as r
use Rattle.tt_rows.specs.declared.row.NumberedRow.{NumberedRow}
use Rattle.tt_parts.specs.Located.{parts, each_at}

abbrev pub entry : NameKind → List ℕ → NameEntry
entry kind name = record { kind = kind; name = name }

-- the name that a row declares, with its kind
abbrev pub declared_in : Row → Option NameEntry
declared_in (r.Mode name) = Some (entry Kind.Mode name)
declared_in (r.Var name value) = Some (entry Kind.Var name)
declared_in (r.Demand name most usual) = Some (entry Kind.Demand name)
declared_in (r.Task name stack) = Some (entry Kind.Task name)
declared_in (r.Isr name level stack) = Some (entry Kind.Isr name)
declared_in (r.IsrFar name level stack distance) = Some (entry Kind.Isr name)
declared_in (r.Osek name priority) = Some (entry Kind.Osek name)
declared_in (r.OsekAuto name priority) = Some (entry Kind.Osek name)
declared_in (r.Oisr name priority) = Some (entry Kind.Oisr name)
declared_in row = None

-- the names that rows declare, in order: a name's number is the count of earlier names of its kind
abbrev pub names_in : List NumberedRow → List NameEntry
names_in rows = parts (each_at declared_in rows)

-- the number of a name among those of its kind; 0 where it is not declared
abbrev pub number_named : List NameEntry → List ℕ → ℕ
number_named names name = unwrap_or (option_map number_of (find_name names name)) 0
