use Rattle.std.proofs.Common.{◌≡◌, ◌+◌, length, Some, ap, ◌∙◌, arith}
use Rattle.std.specs.Prelude.{slice_set}
use Rattle.std.proofs.lemmas.List.{length-map}
use Rattle.task_machine.specs.Standing.{body_of}
use Rattle.osek_idle.specs.Standing.{states}
use Rattle.osek_idle.specs.Slots.{priorities, frames}
use Rattle.osek_idle.specs.declared.slot.Slot.{Slot}
use Rattle.osek_idle.proofs.Changes.{states_are, with_routines}
use Rattle.osek_idle.proofs.subsystem.Osek.accept.Goals as goal

pub returns-clause-state : goal.returns-clause-state
returns-clause-state c =
    let codes = c.args.codes.now in
    let osek = c.args.self.now in
    let old = states codes (frames osek.routines) in
    let number : c.number_after-program.result ≡ osek.first + (length (priorities osek.tasks) + c.args.oisr.0) =
    omega (
      arith,
      length-map osek.tasks (λ (slot : Slot). slot.priority),
      c.number_after-program.ensures,
      c.number_after-first.ensures,
      c.len.ensures.value,
    ) in
    with_routines _ _ _ (states_are codes (frames c.begin.new.self)
    (frames osek.routines) c.args.oisr.0 (Some c.start.result) c.begin.ensures.frames
    ∙ ap (λ l. slice_set old c.args.oisr.0 (Some l)) (c.start.ensures.whole.left ∙ ap (body_of codes) number))
