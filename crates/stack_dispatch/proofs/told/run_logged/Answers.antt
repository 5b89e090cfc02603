use Rattle.stack_dispatch.specs.Reports.{Benched}
use Rattle.stack_dispatch.proofs.RunEvents.{enough_answered}
use Rattle.stack_dispatch.proofs.ToldRuns.{logged_run}
use Rattle.stack_dispatch.proofs.told.run_logged.Goals as goal

pub returns-clause-ran : goal.returns-clause-ran
returns-clause-ran g c =
    let b : Benched = record { config = c.args.config.now; script = c.args.script.now } in
    logged_run g.R.Recorder b c.args.log.now c.run-last.new.log c.run-last.result c.answer.result
    c.requires.fresh c.run-last.ensures.ran c.answer.ensures.value c.answer.ensures.ready

pub returns-clause-enough : goal.returns-clause-enough
returns-clause-enough g c =
    enough_answered c.run-last.result c.run-last.new.log c.answer.result _ c.run-last.ensures.enough
    c.answer.ensures.value
