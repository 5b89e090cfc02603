use Rattle.std.proofs.Common.{◌≢◌, ◌<◌, ◌≤◌, ◌-◌, ◌^◌, List, arith, length, sym, ap, ◌∙◌, subst}
use Rattle.std.specs.Prelude.{All}
use Rattle.run_stack.specs.Frames.{Frames, isr_frame, with_isr}
use Rattle.run_stack.specs.declared.stack.StackFrame.{StackFrame}
use Rattle.run_stack.proofs.Lists.{stack_small, stack_accepted}
use Rattle.run_stack.proofs.stack.RunStack.accept_isr.Goals as goal

pub overflow_add-self : goal.overflow_add-self
overflow_add-self c = let small = stack_small c.self.invariant in omega (arith, small)

pub invariant_of-self : goal.invariant_of-self
invariant_of-self c =
    let new = isr_frame c.args.isr c.args.level c.args.frame c.args.words in
    let HasRoom : Frames → Type 0 = λ s. length s.isrs < 16 in
    let IsNewLevel : Frames → Type 0 = λ s. All (λ f. f.level ≢ c.args.level) s.isrs in
    let fits : c.args.words ≤ 2 ^ 32 - 1 = omega arith in
    rw (c.insert_by_level.ensures, c.from.ensures)
    (stack_accepted new (subst HasRoom (sym c.self.view_is) c.requires.room) fits
    (subst IsNewLevel (sym c.self.view_is) c.requires.new_level) c.self.invariant)

pub returns : goal.returns
returns c =
    let new = isr_frame c.args.isr c.args.level c.args.frame c.args.words in
    let with_isrs : List StackFrame → Frames = λ isrs. record { tasks = c.self.inside.tasks.items; isrs = isrs } in
    ap with_isrs c.insert_by_level.ensures
    ∙ ap (with_isr new) c.self.view_is
