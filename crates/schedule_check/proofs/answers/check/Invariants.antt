use Rattle.std.proofs.Common.{◌≡◌, ◌<◌, ℕ, false}
use Rattle.std.specs.Prelude.{is_some}
use Rattle.tt_world.specs.Rows.{mode_at}
use Rattle.schedule_check.specs.Responses.{late_entry}
use Rattle.schedule_check.proofs.answers.check.Given as goal

abbrev pub invariant-loop-number : goal.invariant-loop-number
invariant-loop-number l = (k : ℕ) → k < l.number → is_some (late_entry l.config (mode_at l.config k)) ≡ false
