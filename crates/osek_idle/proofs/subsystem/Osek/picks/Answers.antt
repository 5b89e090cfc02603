use Rattle.std.proofs.Common.{None, ap, sym, ◌∙◌}
use Rattle.tt_world.specs.Runners.{highest}
use Rattle.osek_idle.specs.Subsystem.{ready_numbers, routine_first}
use Rattle.osek_idle.specs.Slots.{priorities, frames}
use Rattle.osek_idle.proofs.Parts.{picked_is}
use Rattle.osek_idle.proofs.subsystem.Osek.picks.Goals as goal

pub returns-in-Some : goal.returns-in-Some
returns-in-Some c = λ codes.
    let tasks = c.args.self.now.tasks in
    sym (picked_is codes c.args.self.now
    ∙ ap (λ r. routine_first r (highest (priorities tasks) (ready_numbers (frames tasks))))
    (sym c.top_routine.ensures ∙ c.in-Some.is))

pub returns-in-Some-top_task : goal.returns-in-Some-top_task
returns-in-Some-top_task c = λ codes.
    let tasks = c.args.self.now.tasks in
    sym (picked_is codes c.args.self.now
    ∙ ap (λ r. routine_first r (highest (priorities tasks) (ready_numbers (frames tasks))))
    (sym c.top_routine.ensures ∙ c.in-None.is)
    ∙ ap (λ t. routine_first None t) (sym c.top_task.ensures ∙ c.in-Some-top_task.is))

pub returns-in-None-top_task : goal.returns-in-None-top_task
returns-in-None-top_task c = λ codes.
    let tasks = c.args.self.now.tasks in
    sym (picked_is codes c.args.self.now
    ∙ ap (λ r. routine_first r (highest (priorities tasks) (ready_numbers (frames tasks))))
    (sym c.top_routine.ensures ∙ c.in-None.is)
    ∙ ap (λ t. routine_first None t) (sym c.top_task.ensures ∙ c.in-None-top_task.is))
