use Rattle.std.proofs.Common.{subst}
use Rattle.std.specs.Prelude.{Some}
use Rattle.task_machine.specs.Stored.{Store}
use Rattle.tt_world.specs.declared.world.RunEnd.TheVariants as ending
use Rattle.tt_world.specs.Hooks.{misses, shuts_down}
use Rattle.tt_world.specs.Moved.{Gives}
use Rattle.stack_dispatch.specs.State.{RunState}
use Rattle.stack_dispatch.specs.Told.{Tells}
use Rattle.stack_dispatch.specs.contracts.state.State.{the_view}
use Rattle.stack_dispatch.proofs.Playing.{with_env}
use Rattle.stack_dispatch.proofs.Telling.{tells_both}
use Rattle.stack_dispatch.proofs.state.State.miss.Goals as goal

pub returns-clause-gives : goal.returns-clause-gives
returns-clause-gives g c =
    let w = (the_view c.self.inside).world in
    let gives = subst (λ (e : Store). Gives
    (Tells g.R.Recorder) c.play.new.log c.shut_down.new.log c.shut_down.new.self.world
    (Some c.shut_down.result) (shuts_down c.args.config.now (Some (ending.Missed c.args.task)) (with_env w e)))
    c.play.ensures.env
    c.shut_down.ensures.gives in
    subst (λ (z : RunState). Gives (Tells g.R.Recorder) c.args.log.now c.shut_down.new.log c.shut_down.new.self.world
    (Some c.shut_down.result) (misses c.args.config.now c.args.task z.world)) c.self.view_is
    (record {
      world_is = gives.world_is;
      told = tells_both g.R.Recorder _ _ _ _ _
          (tells_both g.R.Recorder _ _ _ _ _ c.tell.ensures c.play.ensures.told) gives.told;
      end_is = gives.end_is;
    })
