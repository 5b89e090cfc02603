-- How many moves a command counts: those of the run of its document, and none where it makes no run.
use Rattle.std.specs.Prelude.{◌≡◌, ◌≤◌, ◌+◌, ◌^◌, ℕ, ⊤, List, Option, Some, None, length, nat_lt, if◌then◌else◌}
use Rattle.tt_rows.specs.declared.row.NumberedRow.{NumberedRow}
use Rattle.tt_read.specs.Document.{Document, Rows, Faulty, document_of}
use Rattle.tt_rules.specs.declared.broken.Broken.{Broken}
use Rattle.tt_config.specs.Broken.{broken_rule}
use Rattle.tt_config.specs.Parts.{config_of, script_of}
use Rattle.tt_world.specs.Schedule.{schedule}
use Rattle.stack_dispatch.specs.Counts.{most_moves, runs_in}
use Rattle.stack_dispatch.specs.Reports.{Benched}
use Rattle.osektime_core.specs.declared.words.Command.{Command}
use Rattle.osektime_core.specs.declared.words.Command.TheVariants.{Bulk, Load, Trace}
use Rattle.osektime_core.specs.declared.status.Status.{Status}
use Rattle.osektime_core.specs.InBounds.{OnRun}
use Rattle.osektime_core.specs.Words.{command_of}

-- the configuration and the script of rows that meet the rules
abbrev pub bench_of : Option Broken → List NumberedRow → Option Benched
bench_of (Some broken) rows = None
bench_of None rows = Some (record { config = config_of rows; script = script_of rows })

-- what a command runs of the rows of its document
abbrev pub rows_run : Command → List NumberedRow → Option Benched
rows_run Trace rows = bench_of (broken_rule rows) rows
rows_run Load rows = bench_of (broken_rule rows) rows
rows_run (Bulk number) rows = bench_of (broken_rule rows) rows
rows_run command rows = None

abbrev pub document_run : Command → Document → Option Benched
document_run command (Rows rows) = rows_run command rows
document_run command (Faulty fault) = None

-- what it runs of the bytes of its document, of which there may be 2^20
abbrev pub bytes_run : Command → List ℕ → Option Benched
bytes_run command bytes = if nat_lt (2 ^ 20) (length bytes) then None else document_run command (document_of bytes)

abbrev pub words_run : Option Command → List ℕ → Option Benched
words_run None bytes = None
words_run (Some command) bytes = bytes_run command bytes

-- what the words of a command line run of the bytes of their document
abbrev pub run_of : List (List ℕ) → List ℕ → Option Benched
run_of words bytes = words_run (command_of words) bytes

-- a command that makes a run of a document that meets the rules
abbrev pub IsRunning : Option Command → Type 0
IsRunning (Some Trace) = ⊤
IsRunning (Some Load) = ⊤
IsRunning (Some (Bulk number)) = ⊤
IsRunning command = ⊥

-- the moves of a run: at most the statements that are begun, plus the instants at which something is due, plus one; and
-- where it has ended, at least the changes of the owner
abbrev pub CountsRun : Benched → Status → (before after : ℕ) → Type 0
CountsRun b status before after =
    (after ≤ before + most_moves b.config b.script)
    × OnRun status (before + runs_in (schedule b.config b.script) ≤ after)

-- the moves of what is run, and none where nothing is
abbrev pub CountsMoves : Option Benched → Status → (before after : ℕ) → Type 0
CountsMoves None status before after = after ≡ before
CountsMoves (Some b) status before after = CountsRun b status before after
