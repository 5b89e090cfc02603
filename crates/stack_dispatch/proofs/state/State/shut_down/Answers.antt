use Rattle.std.proofs.Common.{refl, ap, subst}
use Rattle.std.specs.Prelude.{Some}
use Rattle.tt_world.specs.Hooks.{shuts_down}
use Rattle.tt_world.specs.Moved.{Gives}
use Rattle.stack_dispatch.specs.State.{RunState}
use Rattle.stack_dispatch.specs.Told.{Tells}
use Rattle.stack_dispatch.specs.contracts.state.State.{the_view}
use Rattle.stack_dispatch.proofs.Chains.{tells_between}
use Rattle.stack_dispatch.proofs.Playing.{with_env}
use Rattle.stack_dispatch.proofs.state.State.shut_down.Goals as goal

pub returns-clause-gives : goal.returns-clause-gives
returns-clause-gives g c =
    let w = (the_view c.self.inside).world in
    subst (λ (z : RunState). Gives (Tells g.R.Recorder) c.args.log.now c.tell-2.new.self (with_env w c.play.new.env)
    (Some c.args.end)
    (shuts_down c.args.config.now (Some c.args.end) z.world)) c.self.view_is
    (record {
      world_is = ap (with_env w) c.play.ensures.env;
      told = tells_between g.R.Recorder _ _ _ _ _ _ _ c.tell.ensures c.play.ensures.told c.tell-2.ensures;
      end_is = refl;
    })
