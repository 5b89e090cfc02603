use Rattle.std.proofs.Common.{ap, sym, ◌∙◌}
use Rattle.osek_idle.specs.Subsystem.{finished}
use Rattle.osek_idle.specs.Standing.{subsystem_of}
use Rattle.osek_idle.proofs.subsystem.Osek.finish.Goals as goal

pub returns-in-Osek-clause-state : goal.returns-in-Osek-clause-state
returns-in-Osek-clause-state c = λ codes. c.suspend.ensures.state codes
    ∙ ap (λ o. finished o (subsystem_of codes c.args.self.now)) (sym c.in-Osek.is)

pub returns-in-Oisr-clause-state : goal.returns-in-Oisr-clause-state
returns-in-Oisr-clause-state c = λ codes. c.give_up.ensures.state codes
    ∙ ap (λ o. finished o (subsystem_of codes c.args.self.now)) (sym c.in-Oisr.is)
