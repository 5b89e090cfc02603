use Rattle.std.proofs.Common.{length, sym, ap, subst}
use Rattle.stack_dispatch.specs.State.{RunState, window_in}
use Rattle.isr_window.specs.Played.{AreUnfinished}
use Rattle.stack_dispatch.proofs.Marks.{are_unfinished}
use Rattle.stack_dispatch.proofs.state.State.busy.Goals as goal

pub returns : goal.returns
returns c =
    let busy = c.mark_oisrs.new.busy in
    let isrs = rw (sym c.mark_oisrs.ensures.isrs, ap length c.as_slice.ensures) at c.mark_isrs.ensures.isrs in
    let oisrs = rw (ap length c.as_slice-2.ensures) at
    (c.mark_oisrs.ensures.oisrs c.self.inside.stack.codes c.self.invariant.1) in
    subst (λ (z : RunState). AreUnfinished c.args.config.now busy z.world (window_in z)) c.self.view_is
    (are_unfinished c.args.config.now busy _ _ isrs oisrs)
