use Rattle.std.proofs.Common.{◌≡◌, map, take}
use Rattle.round_table.specs.TableRows.{table_of}
use Rattle.round_table.proofs.tables.Tables.build.Given as goal

abbrev pub invariant-loop-mode : goal.invariant-loop-mode
invariant-loop-mode l = l.tables ≡ map (table_of l.config) (take l.mode-index l.mode-items)
