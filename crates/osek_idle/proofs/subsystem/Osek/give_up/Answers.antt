use Rattle.std.proofs.Common.{None}
use Rattle.osek_idle.specs.Slots.{frames}
use Rattle.osek_idle.proofs.Changes.{states_are, with_routines}
use Rattle.osek_idle.proofs.subsystem.Osek.give_up.Goals as goal

pub returns-clause-state : goal.returns-clause-state
returns-clause-state c = λ codes.
    with_routines _ _ _ (states_are codes (frames c.end.new.self)
    (frames c.args.self.now.routines) c.args.oisr.0 None c.end.ensures.frames)
