use Rattle.std.proofs.Common.{◌∙◌, ap}
use Rattle.tt_world.specs.Monitoring.{is_at_end}
use Rattle.tt_world.proofs.Parts.{Latched}
use Rattle.round_table.specs.DueRows.{entries_due}
use Rattle.stack_dispatch.proofs.Served.{end_given, least_length}
use Rattle.stack_dispatch.proofs.Telling.{telling}
use Rattle.stack_dispatch.proofs.state.State.check_end.Goals as goal

pub returns-clause-gives : goal.returns-clause-gives
returns-clause-gives g c =
    let w = c.args.self.now.world in
    let due = c.end_checks-from.ensures.checks
    ∙ ap (λ n. entries_due (is_at_end n) c.args.table.now.mode) c.offset.ensures in
    let least = least_length c.args.config.now w.latched _ c.requires.over c.requires.served.timed.stands in
    end_given (telling g.R.Recorder) Latched c.args.config.now c.args.script.now c.args.table.now w c.requires.served
    c.requires.table
    c.args.log.now c.monitor.new.log c.monitor.new.self.world c.monitor.result _ c.monitor.ensures.gives least due
