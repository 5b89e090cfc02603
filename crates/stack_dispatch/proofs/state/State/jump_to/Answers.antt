use Rattle.std.proofs.Common.{ℕ, ◌-◌, ap, ◌∙◌}
use Rattle.std.specs.Prelude.{max, min}
use Rattle.tt_world.specs.Runners.{left_of}
use Rattle.stack_dispatch.specs.State.{RunState}
use Rattle.stack_dispatch.proofs.Jumping.{somebody_jump}
use Rattle.stack_dispatch.proofs.state.State.jump_to.Goals as goal

pub returns-in_default : goal.returns-in_default
returns-in_default c =
    let free = c.args.next - c.args.self.now.world.tick in
    somebody_jump c.args.runner (left_of c.args.self.now.world c.args.runner) free c.max-in_default.result
    c.in_default.not-Nobody
    (c.max-in_default.ensures
    ∙ ap (λ (n : ℕ). max n 1)
    (c.min.ensures
    ∙ ap (λ (n : ℕ). min n c.work_left-left.result)
    (c.saturating_sub-free.ensures ∙ ap (λ (x : RunState). c.args.next - x.world.tick) c.self.view_is)
    ∙ ap (λ (n : ℕ). min free n) c.work_left-left.ensures))
