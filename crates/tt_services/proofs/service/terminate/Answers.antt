use Rattle.std.proofs.Common.{ap, sym, ◌∙◌}
use Rattle.osek_idle.specs.Standing.{subsystem_of}
use Rattle.osek_idle.specs.Subsystem.{suspended}
use Rattle.tt_services.specs.Performed.{caller_of}
use Rattle.tt_services.proofs.service.terminate.Goals as goal

pub returns-in-Osek-clause-state : goal.returns-in-Osek-clause-state
returns-in-Osek-clause-state c =
    let codes = c.args.codes.now in
    c.terminate.ensures.state codes
    ∙ ap (λ who. suspended (caller_of who) (subsystem_of codes c.args.osek.now)) (sym c.in-Osek.is)
