use Rattle.std.proofs.Common.{◌≡◌, ap, ◌∙◌, length, arith}
use Rattle.tt_world.specs.declared.config.ConfigParts.{ConfigParts}
use Rattle.schedule_check.specs.Windows.{most_open}
use Rattle.schedule_check.proofs.StackBound.{stack_bounded}
use Rattle.schedule_check.proofs.windows.depth_bound.Goals as goal

pub returns-clause-every_run : goal.returns-clause-every_run
returns-clause-every_run c = λ s script.
    let config = c.args.config.now in
    let within = (stack_bounded config s c.parts.ensures.rules script).depth in
    let windows : c.most_open.result ≡ most_open (λ row. 1) config = c.most_open.ensures.exact in
    let isrs : c.len.result ≡ length config.isrs = c.len.ensures
    ∙ ap (λ (p : ConfigParts). length p.isrs) c.parts.ensures.same in
    omega arith
