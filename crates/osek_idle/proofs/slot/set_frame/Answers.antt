use Rattle.std.proofs.Common.{ap, ◌∙◌, refl}
use Rattle.std.specs.Prelude.{slice_set}
use Rattle.osek_idle.specs.Slots.{frames}
use Rattle.osek_idle.proofs.Parts.{no_slot, slots_set, frames_set}
use Rattle.osek_idle.proofs.slot.set_frame.Goals as goal

pub returns-then-place-slots-clause-priorities : goal.returns-then-place-slots-clause-priorities
returns-then-place-slots-clause-priorities c = slots_set c.args.slots.now c.from-place.result no_slot _ refl

pub returns-then-place-slots-clause-frames : goal.returns-then-place-slots-clause-frames
returns-then-place-slots-clause-frames c =
    frames_set c.args.slots.now c.from-place.result _
    ∙ ap (λ n. slice_set (frames c.args.slots.now) n c.args.frame) c.from-place.ensures
