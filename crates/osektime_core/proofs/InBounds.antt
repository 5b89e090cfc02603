-- What `load` and `bulk` write of a run is in its bounds.
use Rattle.std.proofs.Common.{◌≡◌, ◌≢◌, ℕ, suc, ◌+◌, ◌^◌, ◌≤◌, ◌<◌, Bool, true, false, cond, List, [], ◌∷◌, Option, Some, None, length, refl, sym, subst, arith}
use Rattle.std.specs.Prelude.{◌==◌}
use Rattle.std.specs.Io.KnownBytes.{Appends}
use Rattle.tt_base.specs.declared.names.NameKind.TheVariants as Named
use Rattle.tt_base.specs.Names.{names_of}
use Rattle.tt_doc.specs.Lines.{Line, in_front, lines_of}
use Rattle.tt_doc.specs.Words.{words_of}
use Rattle.tt_rows.specs.declared.row.NumberedRow.{NumberedRow}
use Rattle.tt_rows.specs.declared.row.Row.{Row}
use Rattle.tt_rows.specs.Sound.{AreSound}
use Rattle.tt_read.specs.Document.{Document, Faulty, Fault, Rows, document_by, document_of, first_fault, row_of_words, row_then, rows_of}
use Rattle.tt_read.proofs.ReadLaws.{document_of-sound}
use Rattle.tt_config.specs.Broken.{broken_rule}
use Rattle.tt_config.specs.Parts.{config_of, script_of}
use Rattle.tt_config.proofs.SoundConfig.{config_is_sound, script_is_sound}
use Rattle.tt_rules.specs.declared.broken.Broken.{Broken}
use Rattle.schedule_check.proofs.StackBound.{stack_bounded}
use Rattle.osektime_core.specs.declared.words.Command.{Command}
use Rattle.osektime_core.specs.declared.words.Command.TheVariants.{Trace, Show, Table, Check, Load, Bulk}
use Rattle.osektime_core.specs.declared.status.Status.{Status}
use Rattle.osektime_core.specs.declared.status.Status.TheVariants.{Done, Memory, Usage, ReadFault, WriteFault, TooLong, Form, Rule, CheckNo, Missed, Shut}
use Rattle.osektime_core.specs.Answer.{document_answer, load_answer, rows_answer, summary_of}
use Rattle.osektime_core.specs.InBounds.{IsLoading, OnRun, TellsInBounds}

-- ---- a document has fewer rows than bytes

lines_in_front : (b : ℕ) (lines : List Line) → length (in_front b lines) ≤ suc (length lines)
lines_in_front b [] = omega arith
lines_in_front b (line ∷ lines) = omega arith

lines_by : (lf : Bool) (b : ℕ) (line : Line) (lines : List Line)
    → length (cond lf (line ∷ lines) (in_front b lines)) ≤ suc (length lines)
lines_by true b line lines = omega arith
lines_by false b line lines = lines_in_front b lines

few_lines : (bytes : List ℕ) → length (lines_of bytes) ≤ length bytes
few_lines [] = omega arith
few_lines (b ∷ bytes) =
    let rest = few_lines bytes in
    let more = lines_by (b == 10) b (record { text = []; ended = true }) (lines_of bytes) in
    omega arith

rows_then : (line : ℕ) (o : Option Row) (rows : List NumberedRow) → length (row_then line o rows) ≤ suc (length rows)
rows_then line None rows = omega arith
rows_then line (Some row) rows = omega arith

few_rows : (line : ℕ) (lines : List Line) → length (rows_of line lines) ≤ length lines
few_rows line [] = omega arith
few_rows line (first ∷ rest) =
    let more = few_rows (line + 1) rest in
    let here = rows_then line (row_of_words (words_of first.text)) (rows_of (line + 1) rest) in
    omega arith

rows_by : (fault : Option Fault) (rows found : List NumberedRow) → document_by fault rows ≡ Rows found
    → length found ≤ length rows
rows_by None rows found is =
    subst (λ (xs : List NumberedRow). length xs ≤ length rows) (same rows found is) (omega arith)
  where
    same : (rows found : List NumberedRow) → Rows rows ≡ Rows found → rows ≡ found
    same rows found is = cc
rows_by (Some fault) rows found is = cc

document_rows : (bytes : List ℕ) (rows : List NumberedRow) → document_of bytes ≡ Rows rows → length rows ≤ length bytes
document_rows bytes rows is =
    let found = rows_by (first_fault 1 (lines_of bytes)) (rows_of 1 (lines_of bytes)) rows is in
    let few = few_rows 1 (lines_of bytes) in
    let lines = few_lines bytes in
    omega arith

-- ---- by the status

on_any : (status : Status) (P : Type 0) → P → OnRun status P
on_any Done P fact = fact
on_any Memory P fact = tt
on_any Usage P fact = tt
on_any ReadFault P fact = tt
on_any WriteFault P fact = tt
on_any TooLong P fact = tt
on_any (Form line kind) P fact = tt
on_any (Rule number line) P fact = tt
on_any (CheckNo mode entry) P fact = tt
on_any (Missed task tick) P fact = fact
on_any (Shut tick) P fact = fact

-- a run that has ended was answered
on_run : (status : Status) (P : Type 0) → (status ≢ Memory → status ≢ WriteFault → OnRun status P) → OnRun status P
on_run Done P fact = fact (λ is. cc is) (λ is. cc is)
on_run Memory P fact = tt
on_run Usage P fact = tt
on_run ReadFault P fact = tt
on_run WriteFault P fact = tt
on_run TooLong P fact = tt
on_run (Form line kind) P fact = tt
on_run (Rule number line) P fact = tt
on_run (CheckNo mode entry) P fact = tt
on_run (Missed task tick) P fact = fact (λ is. cc is) (λ is. cc is)
on_run (Shut tick) P fact = fact (λ is. cc is) (λ is. cc is)

-- ---- by the document

module _ (status : Status) (before after : Option (List ℕ)) where
  abbrev Told : Type 0
  Told = OnRun status (TellsInBounds before after)

  of_rows : (rows : List NumberedRow) → AreSound rows → length rows < 2 ^ 32 → (o : Option Broken)
      → broken_rule rows ≡ o → status ≡ (load_answer o rows).status → Appends before after (load_answer o rows).text
      → Told
  of_rows rows sound few (Some broken) is same text =
      subst (λ (s : Status). OnRun s (TellsInBounds before after)) (sym same) tt
  of_rows rows sound few None is same text =
      let c = config_of rows in
      let s = script_of rows in
      let bounds = stack_bounded c s (config_is_sound rows sound few is) (script_is_sound rows sound is) in
      on_any status (TellsInBounds before after)
      (record {
        tasks = names_of Named.Task c.names;
        summary = summary_of c s;
        in_bounds = record { depth = bounds.depth; words = bounds.words };
        written = text;
      })

  of_command : (command : Command) → IsLoading (Some command) → (rows : List NumberedRow) → AreSound rows
      → length rows < 2 ^ 32 → status ≡ (rows_answer command rows).status
      → Appends before after (rows_answer command rows).text → Told
  of_command Load loading rows sound few same text = of_rows rows sound few (broken_rule rows) refl same text
  of_command (Bulk number) loading rows sound few same text =
      of_rows rows sound few (broken_rule rows) refl same text
  of_command Trace loading rows sound few same text = absurd loading
  of_command Show loading rows sound few same text = absurd loading
  of_command Table loading rows sound few same text = absurd loading
  of_command Check loading rows sound few same text = absurd loading

  of_document : (command : Command) → IsLoading (Some command) → (bytes : List ℕ) → length bytes ≤ 2 ^ 20
      → (d : Document) → document_of bytes ≡ d → status ≡ (document_answer command d).status
      → Appends before after (document_answer command d).text → Told
  of_document command loading bytes short (Faulty fault) is same text =
      subst (λ (s : Status). OnRun s (TellsInBounds before after)) (sym same) tt
  of_document command loading bytes short (Rows rows) is same text =
      let few = document_rows bytes rows is in
      of_command command loading rows (document_of-sound bytes rows is) (omega arith) same text

  -- where such a command answered a document, and its answer is the end of a run, the summary is in its bounds
  pub told_in_bounds : (command : Command) → IsLoading (Some command) → (bytes : List ℕ) → length bytes ≤ 2 ^ 20
      → (status ≢ Memory → status ≢ WriteFault → (status ≡ (document_answer command (document_of bytes)).status)
      × Appends before after (document_answer command (document_of bytes)).text) → Told
  told_in_bounds command loading bytes short answered =
      on_run status (TellsInBounds before after)
      (λ ample whole.
      let a = answered ample whole in
      of_document command loading bytes short (document_of bytes) refl a.0 a.1)
