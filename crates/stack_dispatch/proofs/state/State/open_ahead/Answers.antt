use Rattle.std.proofs.Common.{◌+◌, ap, sym, subst, arith}
use Rattle.stack_dispatch.specs.Served.{HasSources}
use Rattle.stack_dispatch.proofs.Opened.{opened_tick, opened_timed}
use Rattle.stack_dispatch.proofs.Telling.{outcome_is, telling}
use Rattle.stack_dispatch.proofs.state.State.open_ahead.Goals as goal

pub next_due-ahead-requires-clause-timed : goal.next_due-ahead-requires-clause-timed
next_due-ahead-requires-clause-timed g c =
    opened_timed (telling g.R.Recorder) c.args.config.now c.args.script.now c.args.self.now.world
    c.open.new.self.world _ _ (outcome_is c.open.ensures.gives c.in_default.is) c.requires.can.served
    c.requires.can.named

pub next_due-ahead-requires-clause-sources : goal.next_due-ahead-requires-clause-sources
next_due-ahead-requires-clause-sources g c =
    let tick = opened_tick (telling g.R.Recorder) c.args.config.now c.args.script.now c.args.self.now.world
    c.open.new.self.world _ _ (outcome_is c.open.ensures.gives c.in_default.is) c.requires.can.served
    c.requires.can.named in
    subst (λ n. HasSources c.args.config.now c.args.script.now n c.open.new.self) (ap (λ n. n + 1) (sym tick))
    (c.open.ensures.opened (sym c.in_default.is)).sources

pub next_due-ahead-requires-clause-number : goal.next_due-ahead-requires-clause-number
next_due-ahead-requires-clause-number g c =
    let tick = opened_tick (telling g.R.Recorder) c.args.config.now c.args.script.now c.args.self.now.world
    c.open.new.self.world _ _ (outcome_is c.open.ensures.gives c.in_default.is) c.requires.can.served
    c.requires.can.named in
    omega (arith, tick, c.requires.can.tick)
