use Rattle.std.proofs.Common.{ℕ, Option, length, ap, subst, arith}
use Rattle.stack_dispatch.specs.Served.{CanActivate, HasRoom}
use Rattle.stack_dispatch.specs.State.{RunState}
use Rattle.stack_dispatch.proofs.state.State.activate_entry.Goals as goal

pub activate-requires-clause-in_count : goal.activate-requires-clause-in_count
activate-requires-clause-in_count g c =
    let same = ap (λ (z : RunState). length z.world.jobs) c.self.view_is in
    let room : HasRoom c.args.config.now c.args.table.now c.in-Some.entry c.args.self.now =
    subst (λ (o : Option ℕ). CanActivate c.args.config.now c.args.table.now o c.args.self.now) c.in-Some.is
    c.requires in
    let few = room.few in omega arith
