use Rattle.std.proofs.Common.{◌≡◌, map}
use Rattle.tt_config.specs.Tables.{mode_of_entries}
use Rattle.tt_config.proofs.tables.tables_of.Given as goal

-- the tables so far
abbrev pub invariant-loop-entries : goal.invariant-loop-entries
invariant-loop-entries l = l.tables ≡ map mode_of_entries l.yielded
