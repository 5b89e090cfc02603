use Rattle.std.proofs.Common.{◌∙◌}
use Rattle.osek_idle.specs.Standing.{subsystem_of}
use Rattle.stack_dispatch.proofs.Idling.{finish_is}
use Rattle.stack_dispatch.proofs.tick.finish_at.Goals as goal

pub returns-then-ended-clause-state : goal.returns-then-ended-clause-state
returns-then-ended-clause-state c = λ codes.
    c.finish.ensures.state codes
    ∙ finish_is c.args.who c.args.ended c.args.ends (subsystem_of codes c.args.osek.now) c.if-ended.true c.if-ends.false
