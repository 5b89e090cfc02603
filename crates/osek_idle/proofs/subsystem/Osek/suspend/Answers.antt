use Rattle.std.proofs.Common.{None}
use Rattle.osek_idle.specs.Slots.{frames}
use Rattle.osek_idle.proofs.Changes.{states_are, with_tasks}
use Rattle.osek_idle.proofs.subsystem.Osek.suspend.Goals as goal

pub returns-clause-state : goal.returns-clause-state
returns-clause-state c = λ codes.
    with_tasks _ _ _ (states_are codes (frames c.end.new.self)
    (frames c.args.self.now.tasks) c.args.task.0 None c.end.ensures.frames)
