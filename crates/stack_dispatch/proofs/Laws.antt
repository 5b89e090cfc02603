-- What holds of the events of every run.
use Rattle.std.proofs.Common.{ℕ, ◌≡◌, ◌≤◌, ap, sym, ◌∙◌, subst}
use Rattle.tt_world.specs.declared.config.ConfigParts.{ConfigParts}
use Rattle.tt_world.specs.declared.script.ScriptParts.{ScriptParts}
use Rattle.tt_world.specs.declared.world.RunEnd.{RunEnd}
use Rattle.tt_world.specs.ConfigRules.{IsConfig}
use Rattle.tt_world.specs.ScriptRules.{IsScript}
use Rattle.tt_world.specs.Schedule.{schedule}
use Rattle.tt_world.specs.Status.{status_by}
use Rattle.tt_world.proofs.Activates.{activations_law}
use Rattle.tt_world.proofs.InterruptLaws.{interrupts_law}
use Rattle.tt_world.proofs.MonitorLaw.{checks_law}
use Rattle.tt_world.proofs.OwnerLaws.{owners_are_right}
use Rattle.schedule_check.specs.declared.answers.CheckAnswer.TheVariants.{Yes}
use Rattle.schedule_check.specs.Kept.{KeepsBounds}
use Rattle.schedule_check.specs.Responses.{answer_of}
use Rattle.schedule_check.specs.Windows.{depth_bound, words_bound}
use Rattle.schedule_check.proofs.NoMiss.{no_miss}
use Rattle.schedule_check.proofs.StackBound.{stack_bounded}
use Rattle.trace_text.specs.declared.recorder.Recorder.{Ghosts}
use Rattle.stack_dispatch.specs.declared.report.Run.{Run}
use Rattle.stack_dispatch.specs.declared.report.Run.TheVariants.{Ended, Failed}
use Rattle.stack_dispatch.specs.Reports.{Benched, IsNotMissed, IsWithinBounds, KeepsLaws, OnEnded, Ran}

-- a run of the parts of a bench is one of the bench
pub ran_on : {S : Type 0} (r : Ghosts S) (b : Benched) (c p : ConfigParts) (s q : ScriptParts) (before after : S)
    (run : Run) → p ≡ c → q ≡ s → record { config = c; script = s } ≡ b
    → Ran r (record { config = p; script = q }) before after run → Ran r b before after run
ran_on r b c p s q before after run config script is ran = rw (← is, ← script, ← config) ran

module _ (c : ConfigParts) (s : ScriptParts) (rules : IsConfig c) (script : IsScript c s) where
  -- the laws that are read from events
  pub laws_hold : KeepsLaws c (schedule c s)
  laws_hold = record {
    activations = activations_law c s rules script;
    owners = owners_are_right c s rules script;
    checks = checks_law c s rules script;
    interrupts = interrupts_law c s rules script;
  }

  -- where the check says yes and the bounds are kept, a run that ended did not end by a missed deadline
  pub run_meets : {S : Type 0} (r : Ghosts S) (before after : S) (run : Run)
      → Ran r (record { config = c; script = s }) before after run
      → answer_of c ≡ Yes → KeepsBounds c s → IsNotMissed run
  run_meets r before after (Ended report) ran said kept = λ task is.
      (no_miss c s rules script said kept).status task report.ticks
      (sym ran.reports.status ∙ ap (λ (end : RunEnd). status_by end report.ticks) is)
  run_meets r before after Failed ran said kept = tt

  -- the report of a run that ended has a depth and words that are at most their bounds
  pub run_bounded : {S : Type 0} (r : Ghosts S) (before after : S) (run : Run)
      → Ran r (record { config = c; script = s }) before after run → OnEnded run (IsWithinBounds c)
  run_bounded r before after (Ended report) ran =
      let bounds = stack_bounded c s rules script in
      record {
        depth = subst (λ (n : ℕ). n ≤ depth_bound c) (sym ran.reports.deepest_is) bounds.depth;
        words = subst (λ (n : ℕ). n ≤ words_bound c) (sym ran.reports.words_are) bounds.words;
      }
  run_bounded r before after Failed ran = tt
