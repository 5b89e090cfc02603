use Rattle.std.proofs.Common.{◌≡◌, ◌<◌, ℕ, false}
use Rattle.std.specs.Prelude.{is_none}
use Rattle.tt_world.specs.Rows.{row_of}
use Rattle.schedule_check.specs.Responses.{response}
use Rattle.schedule_check.proofs.answers.late_entry.Given as goal

abbrev pub invariant-loop-entry : goal.invariant-loop-entry
invariant-loop-entry l =
    (k : ℕ) → k < l.entry → is_none (response l.config l.table.mode (row_of l.table.mode k)) ≡ false
