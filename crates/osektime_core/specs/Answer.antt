-- The answer to a command: what is written, and the status.
use Rattle.std.specs.Prelude.{◌≡◌, ◌≢◌, ◌≤◌, ℕ, List, [], ◌∷◌, ◌++◌, ◌^◌, nat_lt, codes, decimal, Option, Some, None, IfSome, if◌then◌else◌, ⊤, length}
use Rattle.std.specs.Io.KnownBytes.{Appends}
use Rattle.tt_io.specs.Count.{Rose, counted}
use Rattle.tt_io.specs.Known.{AppendsPart}
use Rattle.tt_doc.specs.Words.{joined}
use Rattle.trace_text.specs.Lines.{text_of}
use Rattle.tt_rows.specs.declared.row.NumberedRow.{NumberedRow}
use Rattle.tt_read.specs.declared.form.FormKind.{FormKind}
use Rattle.tt_read.specs.declared.form.FormKind.TheVariants as kind
use Rattle.tt_read.specs.Document.{Document, Rows, Faulty, document_of, canonical_text}
use Rattle.tt_world.specs.declared.config.ConfigParts.{ConfigParts}
use Rattle.tt_world.specs.declared.script.ScriptParts.{ScriptParts}
use Rattle.tt_base.specs.declared.names.NameKind.TheVariants as Named
use Rattle.tt_base.specs.Names.{names_of}
use Rattle.tt_world.specs.Load.{activations_in, deepest, last_round, most_words}
use Rattle.tt_world.specs.Schedule.{schedule}
use Rattle.tt_world.specs.Status as ending
use Rattle.tt_rules.specs.declared.broken.Broken.{Broken}
use Rattle.tt_config.specs.Broken.{broken_rule}
use Rattle.tt_config.specs.Parts.{config_of, script_of}
use Rattle.osektime_core.specs.declared.words.Command.{Command}
use Rattle.osektime_core.specs.declared.words.Command.TheVariants.{Trace, Show, Table, Check, Load, Bulk}
use Rattle.osektime_core.specs.declared.status.Status.{Status}
use Rattle.osektime_core.specs.declared.status.Status.TheVariants.{Done, Memory, Usage, ReadFault, WriteFault, TooLong, Form, Rule, CheckNo, Missed, Shut}
use Rattle.osektime_core.specs.Words.{command_of}
use Rattle.schedule_check.specs.Responses.{answer_of as check_of}
use Rattle.schedule_check.specs.Windows.{depth_bound, words_bound}
use Rattle.schedule_check.specs.declared.answers.CheckAnswer.{CheckAnswer}
use Rattle.schedule_check.specs.declared.answers.CheckAnswer.TheVariants.{Yes, No}
use Rattle.osektime_core.specs.BulkText.{bulk_text}
use Rattle.osektime_core.specs.CheckText.{check_text}
use Rattle.osektime_core.specs.LoadText.{Summary, load_text}
use Rattle.osektime_core.specs.TableText.{table_text}

pub record Answer : Type 0 where
  pub text : List ℕ
  pub status : Status

-- a status without a text
abbrev pub silent : Status → Answer
silent status = record { text = []; status = status }

abbrev pub kind_word : FormKind → List ℕ
kind_word kind.Byte = codes "byte"
kind_word kind.Long = codes "long"
kind_word kind.Cut = codes "cut"
kind_word kind.Row = codes "row"

-- the line that says where a document is faulty
unfoldable pub form_line : ℕ → FormKind → List ℕ
form_line line k = joined (codes "form" ∷ codes "line" ∷ decimal line ∷ kind_word k ∷ []) ++ 10 ∷ []

-- the line that says which rule a document breaks, and where
unfoldable pub rule_line : ℕ → ℕ → List ℕ
rule_line number line = joined (codes "rule" ∷ decimal number ∷ codes "line" ∷ decimal line ∷ []) ++ 10 ∷ []

-- the status of a run by how its schedule ends
abbrev pub run_status : ending.Status → Status
run_status ending.Done = Done
run_status (ending.Missed task tick) = Missed task tick
run_status (ending.Shut tick) = Shut tick

-- the lines of the schedule, and how it ends
abbrev pub run_answer : ConfigParts → ScriptParts → Answer
run_answer c s = record { text = text_of c.names (schedule c s); status = run_status (ending.status_of (schedule c s)) }

-- the refusal of rows that break a rule
abbrev pub rule_answer : ℕ → ℕ → Answer
rule_answer number line = record { text = rule_line number line; status = Rule number line }

-- the run of rows, or the rule that they break
abbrev pub trace_answer : Option Broken → List NumberedRow → Answer
trace_answer (Some broken) rows = rule_answer broken.number broken.line
trace_answer None rows = run_answer (config_of rows) (script_of rows)

-- the dispatcher tables of rows, or the rule that they break
abbrev pub table_answer : Option Broken → List NumberedRow → Answer
table_answer (Some broken) rows = rule_answer broken.number broken.line
table_answer None rows = record { text = table_text (config_of rows); status = Done }

-- the status of the schedule check by its answer
abbrev pub check_status : CheckAnswer → Status
check_status Yes = Done
check_status (No mode entry) = CheckNo mode entry

-- the check of a configuration, and whether the script keeps its bounds
abbrev pub checked_answer : ConfigParts → ScriptParts → Answer
checked_answer c s = record { text = check_text c s; status = check_status (check_of c) }

-- the schedule check of rows, or the rule that they break
abbrev pub check_answer : Option Broken → List NumberedRow → Answer
check_answer (Some broken) rows = rule_answer broken.number broken.line
check_answer None rows = checked_answer (config_of rows) (script_of rows)

-- the summary of the run of a configuration and a script, with the bounds of the configuration; the counts of events
-- and of activations stay at their greatest value, 2^64 - 1
abbrev pub summary_of : ConfigParts → ScriptParts → Summary
summary_of c s = record {
  ticks = ending.last_stamp (schedule c s);
  rounds = last_round (schedule c s);
  events = counted 0 (length (schedule c s));
  activations = counted 0 (activations_in (schedule c s));
  deepest = deepest c s;
  depth_bound = depth_bound c;
  words = most_words c s;
  words_bound = words_bound c;
  end = ending.status_of (schedule c s);
}

-- the summary of the run, and how its schedule ends
abbrev pub loaded_answer : ConfigParts → ScriptParts → Answer
loaded_answer c s = record {
  text = load_text (names_of Named.Task c.names) (summary_of c s);
  status = run_status (ending.status_of (schedule c s));
}

-- the summary of the run of rows, or the rule that they break
abbrev pub load_answer : Option Broken → List NumberedRow → Answer
load_answer (Some broken) rows = rule_answer broken.number broken.line
load_answer None rows = loaded_answer (config_of rows) (script_of rows)

-- the answer to a command for the rows of its document; to show them, no rule is applied
abbrev pub rows_answer : Command → List NumberedRow → Answer
rows_answer Trace rows = trace_answer (broken_rule rows) rows
rows_answer Table rows = table_answer (broken_rule rows) rows
rows_answer Check rows = check_answer (broken_rule rows) rows
rows_answer Load rows = load_answer (broken_rule rows) rows
rows_answer (Bulk number) rows = load_answer (broken_rule rows) rows
rows_answer Show rows = record { text = canonical_text rows; status = Done }

abbrev pub document_answer : Command → Document → Answer
document_answer command (Rows rows) = rows_answer command rows
document_answer command (Faulty fault) =
    record { text = form_line fault.line fault.kind; status = Form fault.line fault.kind }

-- the answer to a command for the bytes of its document, of which there may be 2^20
abbrev pub bytes_answer : Command → List ℕ → Answer
bytes_answer command bytes =
    if nat_lt (2 ^ 20) (length bytes) then silent TooLong else document_answer command (document_of bytes)

-- the answer to a command: `bulk` has a document of its own, and every other command that of the bytes that are read
abbrev pub command_answer : Command → List ℕ → Answer
command_answer (Bulk number) bytes = bytes_answer (Bulk number) (bulk_text number)
command_answer command bytes = bytes_answer command bytes

-- the answer to the words of a command line
abbrev pub words_answer : Option Command → List ℕ → Answer
words_answer None bytes = silent Usage
words_answer (Some command) bytes = command_answer command bytes

abbrev pub answer_of : List (List ℕ) → List ℕ → Answer
answer_of words bytes = words_answer (command_of words) bytes

-- a command that reads: all but `bulk`
abbrev pub IsReading : Option Command → Type 0
IsReading None = ⊥
IsReading (Some (Bulk number)) = ⊥
IsReading (Some command) = ⊤

-- the bytes of the document of some words, where they are known: those of `bulk`, or those that the source has left
abbrev pub document_by : Option Command → Option (List ℕ) → Option (List ℕ)
document_by (Some (Bulk number)) left = Some (bulk_text number)
document_by command left = left

abbrev pub document_for : List (List ℕ) → Option (List ℕ) → Option (List ℕ)
document_for words left = document_by (command_of words) left

-- a fact for each status that says that the document was read whole and the answer written whole
abbrev pub OnAnswered : Status → Type 0 → Type 0
OnAnswered Done P = P
OnAnswered Memory P = ⊤
OnAnswered Usage P = ⊤
OnAnswered ReadFault P = ⊤
OnAnswered WriteFault P = ⊤
OnAnswered TooLong P = ⊤
OnAnswered (Form line kind) P = P
OnAnswered (Rule number line) P = P
OnAnswered (CheckNo mode entry) P = P
OnAnswered (Missed task tick) P = P
OnAnswered (Shut tick) P = P

-- the status and the whole text of the answer to the words, where the bytes of their document are known
abbrev pub IsAnswered : List (List ℕ) → Option (List ℕ) → Status → Option (List ℕ) → Option (List ℕ) → Type 0
IsAnswered words left status before after =
    IfSome (document_for words left)
    (λ bytes. (status ≡ (answer_of words bytes).status) × Appends before after (answer_of words bytes).text)

-- the outcome of an answer: it was given, with its whole text written; or memory ran out, and the sink was left alone;
-- or a write failed after a proper part of the text
pub record Responds (answer : Answer) (status : Status) (LeftAlone : Type 0) (before after : Option (List ℕ))
    (faults now : ℕ)
    : Type 0 where
  pub answered : status ≢ Memory → status ≢ WriteFault → (status ≡ answer.status) × Appends before after answer.text
  pub memory : status ≡ Memory → LeftAlone
  pub part : status ≡ WriteFault → AppendsPart before after answer.text
  pub cause : status ≡ WriteFault → Rose faults now
  pub never_falls : faults ≤ now
