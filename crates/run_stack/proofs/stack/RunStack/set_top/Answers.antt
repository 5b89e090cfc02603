use Rattle.std.proofs.Common.{◌<◌, rules, length, ap, ◌∙◌}
use Rattle.run_stack.specs.Frames.{with_last}
use Rattle.run_stack.proofs.Lists.{isr_moved, keeps_with_last, refilled, task_moved}
use Rattle.run_stack.proofs.stack.RunStack.set_top.Goals as goal

pub invariant_of-self : goal.invariant_of-self
invariant_of-self c =
    let tasks = c.self.inside.tasks.items in
    let some : 0 < length tasks = search rules in
    let now = c.set_last.ensures ∙ ap (with_last c.args.frame) c.as_mut_slice.ensures.value in
    rw (refilled c.args.frame tasks c.set_last.new.frames some now)
    (task_moved (with_last c.args.frame tasks) (keeps_with_last c.args.frame tasks some) c.self.invariant)

pub invariant_of-self-else-is_empty : goal.invariant_of-self-else-is_empty
invariant_of-self-else-is_empty c =
    let isrs = c.self.inside.isrs.items in
    let some : 0 < length isrs = search rules in
    let now = c.set_last-else-is_empty.ensures
    ∙ ap (with_last c.args.frame) c.as_mut_slice-else-is_empty.ensures.value in
    rw (refilled c.args.frame isrs c.set_last-else-is_empty.new.frames some now)
    (isr_moved (with_last c.args.frame isrs) (keeps_with_last c.args.frame isrs some) c.self.invariant)
