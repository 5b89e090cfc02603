use Rattle.std.proofs.Common.{◌-◌, true, sym, subst}
use Rattle.tt_world.specs.declared.world.Runner.{Runner}
use Rattle.stack_dispatch.specs.Jumps.{lessened}
use Rattle.stack_dispatch.specs.Ticking.{Took}
use Rattle.stack_dispatch.specs.declared.took.Did.TheVariants as did
use Rattle.stack_dispatch.proofs.Stepping.{took_nobody}
use Rattle.stack_dispatch.proofs.state.State.take.Goals as goal

pub returns-in-Nobody-clause-took : goal.returns-in-Nobody-clause-took
returns-in-Nobody-clause-took g c =
    subst (λ (r : Runner). Took c.args.config.now c.args.script.now r
    (lessened (c.args.k - 1) r c.args.self.now.world) (record { did = did.Nothing; ended = true })
    c.args.self.now.world)
    (sym c.in-Nobody.is) (took_nobody c.args.config.now c.args.script.now (c.args.k - 1) c.args.self.now.world)
