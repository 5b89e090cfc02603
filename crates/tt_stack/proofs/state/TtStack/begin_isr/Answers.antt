use Rattle.std.proofs.Common.{◌≡◌, ◌≢◌, ◌<◌, true, [], ap, ◌∙◌, length, subst, sym, arith}
use Rattle.std.specs.Prelude.{slice_index_or}
use Rattle.task_machine.specs.Standing.{left_of, IsSound}
use Rattle.run_stack.specs.Frames.{isr_frame, with_isr as with_frame}
use Rattle.tt_world.specs.Runners.{is_done}
use Rattle.tt_stack.specs.Kept.{stacked}
use Rattle.tt_stack.specs.Stacked.{Stacked, with_isr}
use Rattle.tt_stack.proofs.Calls.{isr_begun, isr_kept, isr_room, new_level, not_held}
use Rattle.tt_stack.proofs.Seen.{codes_are}
use Rattle.tt_stack.proofs.state.TtStack.begin_isr.Goals as goal

pub accept_isr-requires-clause-room : goal.accept_isr-requires-clause-room
accept_isr-requires-clause-room c =
    let i = c.self.inside in
    let exists = subst (λ (s : Stacked). c.args.isr.0 < length s.levels) (sym c.self.view_is) c.requires.exists in
    let finished =
    subst (λ (s : Stacked). is_done (slice_index_or s.isrs c.args.isr.0 []) ≡ true)
    (sym c.self.view_is) c.requires.finished in
    let room = isr_room i c.self.invariant c.args.isr exists finished in
    let same = ap length c.deref.ensures.0 in
    omega (arith, room, same, c.deref.ensures.1)

pub accept_isr-requires-clause-new : goal.accept_isr-requires-clause-new
accept_isr-requires-clause-new c =
    let i = c.self.inside in
    let finished =
    subst (λ (s : Stacked). is_done (slice_index_or s.isrs c.args.isr.0 []) ≡ true)
    (sym c.self.view_is) c.requires.finished in
    not_held i c.self.invariant c.args.isr finished

pub accept_isr-requires-clause-new_level : goal.accept_isr-requires-clause-new_level
accept_isr-requires-clause-new_level c =
    let i = c.self.inside in
    let exists = subst (λ (s : Stacked). c.args.isr.0 < length s.levels) (sym c.self.view_is) c.requires.exists in
    let finished =
    subst (λ (s : Stacked). is_done (slice_index_or s.isrs c.args.isr.0 []) ≡ true)
    (sym c.self.view_is) c.requires.finished in
    rw (c.deref.ensures.0, c.from.ensures)
    (new_level i c.self.invariant c.args.isr exists finished)

pub invariant_of-self : goal.invariant_of-self
invariant_of-self c =
    let i = c.self.inside in
    let exists = subst (λ (s : Stacked). c.args.isr.0 < length s.levels) (sym c.self.view_is) c.requires.exists in
    let finished =
    subst (λ (s : Stacked). is_done (slice_index_or s.isrs c.args.isr.0 []) ≡ true)
    (sym c.self.view_is) c.requires.finished in
    let codes = codes_are i c.self.invariant c.args.self.now c.self.view_is in
    rw (c.accept_isr.ensures, c.deref.ensures.0, c.from.ensures, c.of_isr-words.ensures)
    (isr_kept i c.self.invariant c.args.isr exists finished c.args.frame
    (subst (λ l. IsSound l c.args.frame) (sym codes) c.requires.sound)
    (subst (λ l. left_of l c.args.frame ≢ []) (sym codes) c.requires.some))

pub returns : goal.returns
returns c =
    let i = c.self.inside in
    let exists = subst (λ (s : Stacked). c.args.isr.0 < length s.levels) (sym c.self.view_is) c.requires.exists in
    let finished =
    subst (λ (s : Stacked). is_done (slice_index_or s.isrs c.args.isr.0 []) ≡ true)
    (sym c.self.view_is) c.requires.finished in
    let codes = codes_are i c.self.invariant c.args.self.now c.self.view_is in
    ap (λ s. stacked i.codes i.first i.levels.items i.words s i.entries.items i.reached) c.accept_isr.ensures
    ∙ ap (λ l. stacked i.codes i.first i.levels.items i.words
    (with_frame
    (isr_frame c.args.isr
    (slice_index_or l c.from.result 0) c.args.frame c.of_isr-words.result) i.stack) i.entries.items i.reached)
    c.deref.ensures.0
    ∙ ap (λ n. stacked i.codes i.first i.levels.items i.words
    (with_frame
    (isr_frame c.args.isr
    (slice_index_or i.levels.items n 0) c.args.frame c.of_isr-words.result) i.stack) i.entries.items i.reached)
    c.from.ensures
    ∙ ap (λ n. stacked i.codes i.first i.levels.items i.words
    (with_frame
    (isr_frame c.args.isr
    (slice_index_or i.levels.items c.args.isr.0 0) c.args.frame n) i.stack) i.entries.items i.reached)
    c.of_isr-words.ensures
    ∙ isr_begun i c.self.invariant c.args.isr exists finished c.args.frame
    (subst (λ l. IsSound l c.args.frame) (sym codes) c.requires.sound)
    (subst (λ l. left_of l c.args.frame ≢ []) (sym codes) c.requires.some)
    ∙ ap (with_isr c.args.isr.0 (left_of i.codes c.args.frame)) c.self.view_is
    ∙ ap (λ l. with_isr c.args.isr.0 (left_of l c.args.frame) c.args.self.now) codes
