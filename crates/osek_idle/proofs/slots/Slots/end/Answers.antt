use Rattle.std.proofs.Common.{None, ap, sym, ◌≡◌, ◌∙◌}
use Rattle.std.proofs.lemmas.Bool.{false≢true}
use Rattle.std.specs.Prelude.{slice_set}
use Rattle.osek_idle.specs.Slots.{frames, priorities, top_of}
use Rattle.osek_idle.proofs.Leading.{refilled, top_without}
use Rattle.osek_idle.proofs.slots.Slots.end.Goals as goal

pub invariant_of-self-else-is_number : goal.invariant_of-self-else-is_number
invariant_of-self-else-is_number c =
    let old = c.self.inside.slots.items in
    let new = c.set_frame.new.slots in
    let set : frames new ≡ slice_set (frames old) c.args.number None =
    c.set_frame.ensures.frames ∙ ap (λ s. slice_set (frames s) c.args.number None) c.as_mut_slice.ensures.value in
    let same : priorities new ≡ priorities old =
    c.set_frame.ensures.priorities ∙ ap priorities c.as_mut_slice.ensures.value in
    top_without old new c.args.number c.self.inside.top c.self.invariant
    (λ is. false≢true (sym c.if-is_number.false ∙ c.is_number.ensures.1 is)) same set
    ∙ ap top_of (sym (refilled old new c.args.number None set))
