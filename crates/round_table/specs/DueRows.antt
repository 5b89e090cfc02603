-- What is due at an offset of a dispatcher table, and at which places in the table's lists.
use Rattle.std.specs.Prelude.{ℕ, suc, Bool, true, false, List, ◌++◌, map, filter, length, None}
use Rattle.std.specs.List.{range_with_len}
use Rattle.tt_base.specs.declared.number.IsrNo.{IsrNo}
use Rattle.tt_world.specs.declared.config.Enable.{Enable}
use Rattle.tt_world.specs.declared.config.ModeDef.{ModeDef}
use Rattle.tt_world.specs.declared.world.Point.{Point}
use Rattle.tt_world.specs.declared.world.Point.TheVariants as point
use Rattle.tt_world.specs.Monitoring.{is_at}
use Rattle.tt_world.specs.Points.{point_of}
use Rattle.tt_world.specs.Rows.{enables_at, entry_at, row_of}
use Rattle.round_table.specs.declared.due.Due.{Due}
use Rattle.round_table.specs.Below.{below}
use Rattle.round_table.specs.TableRows.{TableRows}

-- ---- checks

-- the entry numbers of a mode, in ascending order
abbrev pub entries_of : ModeDef → List ℕ
entries_of mode = range_with_len 0 (length mode.activations)

-- those of the activations whose monitoring point passes a test
abbrev pub entries_due : (Point → Bool) → ModeDef → List ℕ
entries_due is_due mode = filter (λ entry. is_due (point_of mode (row_of mode entry))) (entries_of mode)

-- whether a point is the round's end
abbrev pub is_round_end : Point → Bool
is_round_end (point.At place) = false
is_round_end point.RoundEnd = true

-- the checks of the offsets below this one, one offset after another
abbrev pub checks_below : ModeDef → ℕ → List ℕ
checks_below mode offset = below (λ o. entries_due (is_at o) mode) offset

-- the checks of a table in their order: those of one offset after another, and last those at the round's end
abbrev pub checks_of : TableRows → List ℕ
checks_of table = checks_below table.mode (suc table.limit) ++ entries_due is_round_end table.mode

-- ---- enables

abbrev pub isrs_of : List Enable → List IsrNo
isrs_of rows = map (λ (row : Enable). row.isr) rows

-- the enables of the offsets below this one, one offset after another
abbrev pub enables_below : ModeDef → ℕ → List IsrNo
enables_below mode offset = below (λ o. isrs_of (enables_at o mode.enables)) offset

-- the enables of a table in their order: by offset, and then by number of the routine
abbrev pub enables_of : TableRows → List IsrNo
enables_of table = isrs_of table.mode.enables

-- ---- what is due

-- what is due at an offset: its ranges of places in the lists of checks and of enables, and its activation
abbrev pub due_at : ℕ → TableRows → Due
due_at offset table = record {
  checks_from = length (checks_below table.mode offset);
  checks_to = length (checks_below table.mode (suc offset));
  enables_from = length (enables_below table.mode offset);
  enables_to = length (enables_below table.mode (suc offset));
  activation = entry_at offset table.mode.activations;
}

-- nothing is due: the ranges are empty, at these places, and no row activates
abbrev pub none_due : (check enable : ℕ) → Due
none_due check enable =
    record { checks_from = check; checks_to = check; enables_from = enable; enables_to = enable; activation = None }
