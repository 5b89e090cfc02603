-- The dispatcher table of a mode of a configuration.
use Rattle.std.specs.Prelude.{◌≡◌, ℕ, ◌<◌, length}
use Rattle.tt_world.specs.declared.config.ConfigParts.{ConfigParts}
use Rattle.tt_world.specs.Rows.{mode_at}
use Rattle.round_table.specs.TableRows.{TableRows, table_of}

-- a table is that of a mode of the configuration
pub record IsTableOf (c : ConfigParts) (table : TableRows) : Type 0 where
  pub mode : ℕ
  pub within : mode < length c.modes
  pub is : table ≡ table_of c (mode_at c mode)
