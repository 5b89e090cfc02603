use Rattle.std.proofs.Common.{ap, sym, ◌∙◌}
use Rattle.stack_dispatch.specs.State.{RunState}
use Rattle.stack_dispatch.proofs.Opened.{first_served, opens_first, opens_later}
use Rattle.stack_dispatch.proofs.Telling.{telling}
use Rattle.stack_dispatch.proofs.state.State.open.Goals as goal

pub open_due-requires-clause-served : goal.open_due-requires-clause-served
open_due-requires-clause-served g c =
    first_served (telling g.R.Recorder) c.args.config.now c.args.script.now c.args.self.now.world _ _
    (ap (λ (z : RunState). z.world.tick) (sym c.self.view_is) ∙ c.if-self-ne0.false) c.begin.ensures c.requires.served

pub returns-then-self-ne0-clause-gives : goal.returns-then-self-ne0-clause-gives
returns-then-self-ne0-clause-gives g c =
    opens_later (telling g.R.Recorder) c.args.config.now c.args.script.now c.args.self.now.world _ _ _ _
    (λ z. c.if-self-ne0.true (ap (λ (r : RunState). r.world.tick) c.self.view_is ∙ z)) c.open_later.ensures.gives

pub returns-clause-gives : goal.returns-clause-gives
returns-clause-gives g c =
    opens_first (telling g.R.Recorder) c.args.config.now c.args.script.now c.args.self.now.world _ _ _ _ _
    (ap (λ (z : RunState). z.world.tick) (sym c.self.view_is) ∙ c.if-self-ne0.false) c.begin.ensures
    c.open_due.ensures.gives
