use Rattle.std.proofs.Common.{◌≡◌, ◌↔◌, [], IsTrue, None, Some, ap, sym, subst, ◌∙◌}
use Rattle.std.specs.Prelude.{slice_index_or, option_to_list}
use Rattle.task_lang.specs.Tick.{supply_of, state_of, ticks}
use Rattle.osek_idle.specs.Slots.{frames}
use Rattle.osek_idle.proofs.Changes.{new_left, others_stay}
use Rattle.osek_idle.proofs.Parts.{left_is, numbers_as_before}
use Rattle.osek_idle.specs.Subsystem.{ready_numbers}
use Rattle.osek_idle.proofs.slot.advance_slot.Goals as goal

pub returns-in-Some-clause-others : goal.returns-in-Some-clause-others
returns-in-Some-clause-others g c =
    let here : slice_index_or (frames c.args.slots.now) c.args.number None ≡ Some c.in-Some.frame =
    sym c.frame_at.ensures ∙ c.in-Some.is in
    others_stay c.args.codes.now c.args.slots.now c.set_frame.new.slots c.args.number c.in-Some.frame
    c.advance-progress.new.frame here c.set_frame.ensures.frames

pub returns-in-Some-clause-ticks : goal.returns-in-Some-clause-ticks
returns-in-Some-clause-ticks g c =
    let codes = c.args.codes.now in
    let env = c.args.env.now in
    let new = c.advance-progress.new.env in
    let here : slice_index_or (frames c.args.slots.now) c.args.number None ≡ Some c.in-Some.frame =
    sym c.frame_at.ensures ∙ c.in-Some.is in
    ap (λ l. state_of l new.vars new.cursors (option_to_list c.advance-progress.result.effect))
    (new_left codes c.args.slots.now c.set_frame.new.slots c.args.number c.in-Some.frame
    c.advance-progress.new.frame here c.set_frame.ensures.frames)
    ∙ c.advance-progress.ensures.ticks
    ∙ ap (λ l. ticks (supply_of env.demands env.values) c.args.k (state_of l env.vars env.cursors []))
    (sym (left_is codes c.args.slots.now c.args.number c.in-Some.frame here))

pub returns-in-Some-clause-ended : goal.returns-in-Some-clause-ended
returns-in-Some-clause-ended g c =
    let here : slice_index_or (frames c.args.slots.now) c.args.number None ≡ Some c.in-Some.frame =
    sym c.frame_at.ensures ∙ c.in-Some.is in
    let left = new_left c.args.codes.now c.args.slots.now c.set_frame.new.slots c.args.number
    c.in-Some.frame c.advance-progress.new.frame here
    c.set_frame.ensures.frames in
    subst (λ l. IsTrue c.advance-progress.result.ended ↔ (l ≡ [])) (sym left) c.advance-progress.ensures.ended

pub returns-in-Some-clause-ready : goal.returns-in-Some-clause-ready
returns-in-Some-clause-ready g c =
    ap ready_numbers c.set_frame.ensures.frames
    ∙ numbers_as_before (frames c.args.slots.now) c.args.number c.in-Some.frame c.advance-progress.new.frame
    (sym c.frame_at.ensures ∙ c.in-Some.is)
