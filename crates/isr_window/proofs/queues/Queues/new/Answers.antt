use Rattle.isr_window.proofs.Taken.{untaken_none}
use Rattle.isr_window.proofs.queues.Queues.new.Goals as goal

pub returns : goal.returns
returns c = untaken_none 16 c.args.lists
