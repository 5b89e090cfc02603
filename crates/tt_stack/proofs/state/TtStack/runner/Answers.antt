use Rattle.std.proofs.Common.{◌-◌, ap, sym, ◌∙◌, length}
use Rattle.std.specs.Prelude.{slice_get}
use Rattle.tt_stack.specs.Kept.{runner_for}
use Rattle.tt_stack.proofs.Seen.{none_then, run_at, runner_is}
use Rattle.tt_stack.proofs.state.TtStack.runner.Goals as goal

pub returns-in-Some : goal.returns-in-Some
returns-in-Some c =
    let i = c.self.inside in
    let r = run_at i c.self.invariant c.args.self.now c.self.view_is c.in-Some.top
    (sym c.top.ensures.top ∙ c.in-Some.is) in
    c.runner_for.ensures
    ∙ ap (runner_for c.in-Some.top.owner)
    (c.last_of.ensures ∙ ap (λ es. slice_get es (length es - 1)) c.as_slice.ensures.value)
    ∙ r.code
    ∙ sym (runner_is i c.self.invariant c.args.self.now c.self.view_is c.in-Some.top r)

pub returns-in-None : goal.returns-in-None
returns-in-None c =
    let i = c.self.inside in
    sym (none_then i c.self.invariant c.args.self.now c.self.view_is (sym c.top.ensures.top ∙ c.in-None.is))
