use Rattle.std.proofs.Common.{refl, ◌∙◌, subst}
use Rattle.tt_world.proofs.Moves.{gives_first, gives_over}
use Rattle.stack_dispatch.specs.Served.{IsOpened}
use Rattle.stack_dispatch.proofs.Opened.{begun_served, ended_kept, has_sources, latched_kept, latched_served}
use Rattle.stack_dispatch.proofs.Telling.{outcome_is, telling}
use Rattle.stack_dispatch.proofs.state.State.open_later.Goals as goal

pub end_round-requires-clause-served : goal.end_round-requires-clause-served
end_round-requires-clause-served g c =
    latched_served (telling g.R.Recorder) c.args.config.now c.args.script.now c.args.self.now.world _ _ _
    c.latch.ensures.gives c.requires.served

pub returns-in-Some-clause-gives : goal.returns-in-Some-clause-gives
returns-in-Some-clause-gives g c =
    gives_first (telling g.R.Recorder) _ _ _ _ _ _ _ _ _ c.latch.ensures.gives
    (gives_over _ _ _ _ _ _ _ refl (outcome_is c.end_round.ensures.gives c.in-Some.is))

pub open_due-requires-clause-served : goal.open_due-requires-clause-served
open_due-requires-clause-served g c =
    begun_served (telling g.R.Recorder) c.args.config.now c.args.script.now c.latch.new.self.world _ _ _
    (outcome_is c.end_round.ensures.gives c.in_default.is)
    (latched_served (telling g.R.Recorder) c.args.config.now c.args.script.now c.args.self.now.world _ _ _
    c.latch.ensures.gives c.requires.served)

pub open_due-requires-clause-sources : goal.open_due-requires-clause-sources
open_due-requires-clause-sources g c =
    let first = latched_kept (telling g.R.Recorder) c.args.config.now c.args.script.now c.args.self.now.world
    c.latch.ensures.gives in
    let next = ended_kept (telling g.R.Recorder) c.args.config.now c.args.script.now c.latch.new.self.world
    (outcome_is c.end_round.ensures.gives c.in_default.is) in
    has_sources (telling g.R.Recorder) c.args.config.now c.args.script.now c.latch.new.self c.end_round.new.self
    c.end_round.ensures.beside next
    (has_sources (telling g.R.Recorder) c.args.config.now c.args.script.now c.args.self.now c.latch.new.self
    c.latch.ensures.beside first c.requires.sources)

pub returns-clause-gives : goal.returns-clause-gives
returns-clause-gives g c =
    gives_first (telling g.R.Recorder) _ _ _ _ _ _ _ _ _ c.latch.ensures.gives
    (gives_first (telling g.R.Recorder) _ _ _ _ _ _ _ _ _ (outcome_is c.end_round.ensures.gives c.in_default.is)
    c.open_due.ensures.gives)

pub returns-clause-opened : goal.returns-clause-opened
returns-clause-opened g c =
    let first = latched_kept (telling g.R.Recorder) c.args.config.now c.args.script.now c.args.self.now.world
    c.latch.ensures.gives in
    let next = ended_kept (telling g.R.Recorder) c.args.config.now c.args.script.now c.latch.new.self.world
    (outcome_is c.end_round.ensures.gives c.in_default.is) in
    λ is. subst (λ t. IsOpened c.args.config.now c.args.script.now t c.open_due.new.self) (next.tick ∙ first.tick)
    (c.open_due.ensures.opened is)
