-- Documents whose runs miss no deadline.
use Rattle.std.specs.Prelude.{◌≡◌, ◌≢◌, ℕ, List, None}
use Rattle.tt_base.specs.declared.number.TaskNo.{TaskNo}
use Rattle.tt_rows.specs.declared.row.NumberedRow.{NumberedRow}
use Rattle.tt_read.specs.Document.{Rows, document_of}
use Rattle.tt_config.specs.Broken.{broken_rule}
use Rattle.tt_config.specs.Parts.{config_of, script_of}
use Rattle.schedule_check.specs.Kept.{KeepsBounds}
use Rattle.schedule_check.specs.Responses.{answer_of}
use Rattle.schedule_check.specs.declared.answers.CheckAnswer.TheVariants.{Yes}
use Rattle.osektime_core.specs.declared.status.Status.{Status}
use Rattle.osektime_core.specs.declared.status.Status.TheVariants.{Missed}

-- rows that meet the rules, whose check says yes, and whose script keeps its declared bounds
pub record AreSchedulable (rows : List NumberedRow) : Type 0 where
  pub rules : broken_rule rows ≡ None
  pub yes : answer_of (config_of rows) ≡ Yes
  pub kept : KeepsBounds (config_of rows) (script_of rows)

-- the bytes of such a document
pub record IsSchedulable (bytes : List ℕ) : Type 0 where
  pub rows : List NumberedRow
  pub read : document_of bytes ≡ Rows rows
  pub schedulable : AreSchedulable rows

-- a status that says of no deadline that it was missed
abbrev pub NoneIsMissed : Status → Type 0
NoneIsMissed status = (task : TaskNo) (tick : ℕ) → status ≢ Missed task tick
