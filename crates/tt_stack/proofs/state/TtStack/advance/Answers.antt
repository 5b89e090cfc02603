use Rattle.std.proofs.Common.{◌≡◌, ◌≢◌, ◌↔◌, IsTrue, [], ap, sym, subst, ◌∙◌}
use Rattle.task_machine.specs.Standing.{left_of}
use Rattle.tt_stack.specs.Stacked.{left_in, running}
use Rattle.tt_stack.proofs.Seen.{codes_are, left_then}
use Rattle.tt_stack.proofs.state.TtStack.advance.Goals as goal

pub returns-in-Some-clause-ended : goal.returns-in-Some-clause-ended
returns-in-Some-clause-ended g c =
    let i = c.self.inside in
    let now = c.args.self.now in
    let codes = codes_are i c.self.invariant now c.self.view_is in
    let some : left_in now (running now) ≢ [] = λ none. c.in-Some.ensures.some (c.in-Some.ensures.left ∙ none) in
    let left : left_in c.leave.new.self (running now) ≡ left_of i.codes c.advance-progress.new.frame =
    ap (λ s. left_in s (running now)) c.leave.ensures
    ∙ left_then now (running now) (left_of now.codes c.advance-progress.new.frame) some
    ∙ ap (λ l. left_of l c.advance-progress.new.frame) (sym codes) in
    subst (λ l. IsTrue c.advance-progress.result.ended ↔ (l ≡ [])) (sym left) c.advance-progress.ensures.ended
