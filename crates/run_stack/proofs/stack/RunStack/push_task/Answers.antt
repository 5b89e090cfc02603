use Rattle.std.proofs.Common.{arith}
use Rattle.run_stack.proofs.Lists.{stack_small}
use Rattle.run_stack.proofs.stack.RunStack.push_task.Goals as goal

pub overflow_add-self : goal.overflow_add-self
overflow_add-self c = let small = stack_small c.self.invariant in omega (arith, small)
