use Rattle.std.proofs.Common.{Some, ◌≡◌, ◌<◌, length, ap, sym, ◌∙◌, arith}
use Rattle.std.specs.Prelude.{slice_set}
use Rattle.osek_idle.specs.Slots.{first_of, frames, priorities, top_of}
use Rattle.osek_idle.proofs.Leading.{refilled, top_with}
use Rattle.osek_idle.proofs.slots.Slots.begin.Goals as goal

pub invariant_of-self : goal.invariant_of-self
invariant_of-self c =
    let old = c.self.inside.slots.items in
    let new = c.set_frame.new.slots in
    let set : frames new ≡ slice_set (frames old) c.args.number (Some c.args.frame) =
    c.set_frame.ensures.frames
    ∙ ap (λ s. slice_set (frames s) c.args.number (Some c.args.frame)) c.as_mut_slice.ensures.value in
    let same : priorities new ≡ priorities old =
    c.set_frame.ensures.priorities ∙ ap priorities c.as_mut_slice.ensures.value in
    let whole = refilled old new c.args.number (Some c.args.frame) set in
    let few : c.args.number < length old = omega (arith, c.requires, ap length c.self.view_is) in
    ap Some c.first_of.ensures
    ∙ ap (λ s. Some (first_of (priorities s) c.args.number c.self.inside.top)) (c.as_slice.ensures.value ∙ whole)
    ∙ top_with old new c.args.number c.args.frame c.self.inside.top few c.self.invariant same set
    ∙ ap top_of (sym whole)
