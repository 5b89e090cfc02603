use Rattle.std.proofs.Common.{sym, ◌∙◌}
use Rattle.stack_dispatch.proofs.Served.{ended_next, ended_stop}
use Rattle.stack_dispatch.proofs.Telling.{telling}
use Rattle.stack_dispatch.proofs.state.State.end_round.Goals as goal

pub returns-in-None-clause-gives : goal.returns-in-None-clause-gives
returns-in-None-clause-gives g c =
    let over = sym c.is_over.ensures ∙ c.if-not-is_over.false in
    ended_next (telling g.R.Recorder) c.args.config.now c.args.script.now c.args.self.now.world over c.args.log.now
    c.check_end.new.log
    c.check_end.new.self.world c.check_end.result c.check_end.ensures.gives c.in-None.is c.next_round.new.log
    c.next_round.new.self.world c.next_round.result c.next_round.ensures.gives

pub returns-in_default-clause-gives : goal.returns-in_default-clause-gives
returns-in_default-clause-gives g c =
    let over = sym c.is_over.ensures ∙ c.if-not-is_over.false in
    ended_stop (telling g.R.Recorder) c.args.config.now c.args.script.now c.args.self.now.world over c.args.log.now
    c.check_end.new.log
    c.check_end.new.self.world c.check_end.result c.check_end.ensures.gives c.in_default.not-None
