use Rattle.std.proofs.Common.{Some, ap, ◌∙◌}
use Rattle.std.specs.Prelude.{slice_set}
use Rattle.task_machine.specs.Standing.{body_of}
use Rattle.osek_idle.specs.Standing.{states}
use Rattle.osek_idle.specs.Slots.{frames}
use Rattle.osek_idle.proofs.Changes.{states_are, with_tasks}
use Rattle.osek_idle.proofs.subsystem.Osek.make_ready.Goals as goal

pub returns-clause-state : goal.returns-clause-state
returns-clause-state c =
    let codes = c.args.codes.now in
    let old = states codes (frames c.args.self.now.tasks) in
    with_tasks _ _ _ (states_are codes (frames c.begin.new.self)
    (frames c.args.self.now.tasks) c.args.task.0 (Some c.start.result) c.begin.ensures.frames
    ∙ ap (λ l. slice_set old c.args.task.0 (Some l))
    (c.start.ensures.whole.left ∙ ap (body_of codes) c.number_after-program.ensures))
