use Rattle.run_stack.proofs.Lists.{set_last_is}
use Rattle.run_stack.proofs.stack.set_last.Goals as goal

pub returns : goal.returns
returns c = set_last_is c.args.frame c.args.frames.now _ c.requires
