-- The text of the dispatcher tables.
use Rattle.std.specs.Prelude.{ℕ, zero, suc, ◌-◌, Bool, true, false, List, [], ◌∷◌, ◌++◌, flat_map, length, Option, None, Some, codes, decimal}
use Rattle.tt_base.specs.declared.number.IsrNo.{IsrNo}
use Rattle.tt_base.specs.declared.number.ModeNo.{ModeNo}
use Rattle.tt_base.specs.declared.names.NameEntry.{NameEntry}
use Rattle.tt_base.specs.declared.names.Declared.TheVariants as Which
use Rattle.tt_base.specs.Names.{name_of}
use Rattle.trace_text.specs.Lines.{line}
use Rattle.tt_world.specs.declared.config.Activation.{Activation}
use Rattle.tt_world.specs.declared.config.ModeDef.{ModeDef}
use Rattle.tt_world.specs.declared.config.ConfigParts.{ConfigParts}
use Rattle.tt_world.specs.declared.world.Point.{Point}
use Rattle.tt_world.specs.declared.world.Point.TheVariants as point
use Rattle.tt_world.specs.Monitoring.{is_at}
use Rattle.tt_world.specs.Rows.{mode_at, entry_at, enables_at, row_of}
use Rattle.round_table.specs.DueRows.{isrs_of, entries_due, is_round_end}

-- ---- lines

-- the line of a mode
abbrev pub mode_line : List NameEntry → ModeNo → List ℕ
mode_line names mode = line (codes "mode" ∷ name_of names (Which.Mode mode) ∷ [])

-- a monitoring point: its offset, or the round's end
abbrev pub point_word : Point → List ℕ
point_word (point.At offset) = decimal offset
point_word point.RoundEnd = codes "end"

-- the line of the check of an activation, at its monitoring point
abbrev pub check_line : List NameEntry → Point → Activation → List ℕ
check_line names at row = line (point_word at ∷ codes "check" ∷ name_of names (Which.Task row.task) ∷ [])

-- the line of the enable of a routine at an offset
abbrev pub enable_line : List NameEntry → ℕ → IsrNo → List ℕ
enable_line names offset isr = line (decimal offset ∷ codes "enable" ∷ name_of names (Which.Isr isr) ∷ [])

-- how a deadline is monitored
abbrev pub monitoring_word : Bool → List ℕ
monitoring_word true = codes "stringent"
monitoring_word false = codes "nonstringent"

-- the line of a row that activates
abbrev pub activation_line : List NameEntry → Activation → List ℕ
activation_line names row =
    line (decimal row.offset ∷ codes "activate" ∷ name_of names
    (Which.Task row.task) ∷ decimal row.deadline ∷ monitoring_word row.stringent ∷ [])

-- ---- what is due at one offset

-- the lines of the checks of entry numbers, at their monitoring point
abbrev pub check_lines : List NameEntry → ModeDef → Point → List ℕ → List ℕ
check_lines names mode at entries = flat_map (λ entry. check_line names at (row_of mode entry)) entries

abbrev pub enable_lines : List NameEntry → ℕ → List IsrNo → List ℕ
enable_lines names offset isrs = flat_map (enable_line names offset) isrs

abbrev pub activation_lines : List NameEntry → ModeDef → Option ℕ → List ℕ
activation_lines names mode None = []
activation_lines names mode (Some entry) = activation_line names (row_of mode entry)

-- what is due at an offset: the checks whose monitoring point it is, then the enables, then the activation
unfoldable pub lines_at : List NameEntry → ModeDef → ℕ → List ℕ
lines_at names mode offset =
    check_lines names mode (point.At offset) (entries_due (is_at offset) mode)
    ++ (enable_lines names offset (isrs_of (enables_at offset mode.enables))
    ++ activation_lines names mode (entry_at offset mode.activations))

-- ---- the whole

-- the texts of the numbers below this one, one after another
unfoldable pub texts_below : (ℕ → List ℕ) → ℕ → List ℕ
texts_below text zero = []
texts_below text (suc n) = texts_below text n ++ text n

-- the table of a mode: its name, then what is due at each offset from 0 up to L - A, and last the checks at the
-- round's end
unfoldable pub mode_text : ConfigParts → ModeNo → List ℕ
mode_text c number =
    let mode = mode_at c number.0 in
    mode_line c.names number
    ++ (texts_below (lines_at c.names mode) (suc (c.round - c.adjust)) ++ check_lines c.names mode point.RoundEnd
    (entries_due is_round_end mode))

-- the tables of the modes with numbers below this one
abbrev pub modes_below : ConfigParts → ℕ → List ℕ
modes_below c number = texts_below (λ n. mode_text c (record { 0 = n })) number

-- the tables of all modes, by number
unfoldable pub table_text : ConfigParts → List ℕ
table_text c = modes_below c (length c.modes)
