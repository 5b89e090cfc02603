use Rattle.std.proofs.Common.{ap, sym, ◌∙◌}
use Rattle.task_machine.specs.Standing.{work_in_front}
use Rattle.osek_idle.specs.Subsystem.{owner_left}
use Rattle.osek_idle.specs.Standing.{subsystem_of}
use Rattle.osek_idle.proofs.subsystem.Osek.work_left.Goals as goal

pub returns-in-Some : goal.returns-in-Some
returns-in-Some c = λ codes sound.
    c.owner_work_left.ensures codes sound
    ∙ ap (λ who. work_in_front (owner_left (subsystem_of codes c.args.self.now) who))
    (sym c.in-Some.is ∙ c.picks.ensures codes)

pub returns-in-None : goal.returns-in-None
returns-in-None c = λ codes sound.
    ap (λ who. work_in_front (owner_left (subsystem_of codes c.args.self.now) who))
    (sym c.in-None.is ∙ c.picks.ensures codes)
