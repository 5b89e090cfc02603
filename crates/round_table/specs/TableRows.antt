-- The dispatcher tables of a configuration.
use Rattle.std.specs.Prelude.{ℕ, ◌-◌, List, map, slice_index_or}
use Rattle.tt_base.specs.declared.number.ModeNo.{ModeNo}
use Rattle.tt_world.specs.declared.config.ModeDef.{ModeDef}
use Rattle.tt_world.specs.declared.config.ConfigParts.{ConfigParts}
use Rattle.tt_world.specs.Rows.{no_mode}

-- the rows of a mode, and a limit: the round's length L less the greatest correction A, at which a round ends at the
-- earliest. Each activation and enable comes before it, and no deadline after it
pub record TableRows : Type 0 where
  pub mode : ModeDef
  pub limit : ℕ

-- the table of a mode of a configuration
abbrev pub table_of : ConfigParts → ModeDef → TableRows
table_of c mode = record { mode = mode; limit = c.round - c.adjust }

-- the tables of all modes, in order
abbrev pub tables_of : ConfigParts → List TableRows
tables_of c = map (table_of c) c.modes

abbrev pub no_table : TableRows
no_table = record { mode = no_mode; limit = 0 }

-- one of some tables
abbrev pub table_at : List TableRows → ModeNo → TableRows
table_at tables mode = slice_index_or tables mode.0 no_table
