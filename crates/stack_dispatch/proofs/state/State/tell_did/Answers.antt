use Rattle.std.proofs.Common.{ap, sym, ◌∙◌}
use Rattle.stack_dispatch.specs.State.{RunState}
use Rattle.stack_dispatch.proofs.Telling.{telling}
use Rattle.stack_dispatch.proofs.Stepping.{shut_down_follows}
use Rattle.stack_dispatch.proofs.state.State.tell_did.Goals as goal

pub returns-else-not-is_shutdown-clause-gives : goal.returns-else-not-is_shutdown-clause-gives
returns-else-not-is_shutdown-clause-gives g c =
    shut_down_follows (telling g.R.Recorder) c.args.config.now c.args.who c.in-Called.call c.in-Called.result
    c.args.self.now.world c.self.inside.tick
    c.args.log.now c.tell-in-Called.new.self c.shut_down.new.log c.shut_down.new.self.world _ c.args.did
    (ap (λ (x : RunState). x.world.tick) c.self.view_is) c.in-Called.is c.tell-in-Called.ensures
    (sym c.is_shutdown.ensures ∙ c.if-not-is_shutdown.false)
    c.shut_down.ensures.gives
