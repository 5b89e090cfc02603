use Rattle.std.proofs.Common.{ap, sym, ◌∙◌}
use Rattle.run_stack.specs.Frames.{popped}
use Rattle.tt_stack.specs.Kept.{stacked}
use Rattle.tt_stack.proofs.Seen.{ended_now, none_none, none_then, run_at}
use Rattle.tt_stack.proofs.state.TtStack.take_off.Goals as goal

pub invariant_of-self : goal.invariant_of-self
invariant_of-self c =
    let i = c.self.inside in
    let r = run_at i c.self.invariant c.args.self.now c.self.view_is c.in-Some.top
    (sym c.top.ensures.top ∙ c.in-Some.is) in
    rw (c.pop.ensures, c.drop_entry.ensures) r.ended_kept

pub returns-in-Some : goal.returns-in-Some
returns-in-Some c =
    let i = c.self.inside in
    let r = run_at i c.self.invariant c.args.self.now c.self.view_is c.in-Some.top
    (sym c.top.ensures.top ∙ c.in-Some.is) in
    ap (λ s. stacked i.codes i.first i.levels.items i.words s c.drop_entry.new.entries.items i.reached) c.pop.ensures
    ∙ ap (λ es. stacked i.codes i.first i.levels.items i.words (popped i.stack) es i.reached) c.drop_entry.ensures
    ∙ ended_now i c.self.invariant c.args.self.now c.self.view_is c.in-Some.top r

pub returns-in_default : goal.returns-in_default
returns-in_default c =
    let i = c.self.inside in
    absurd (none_none c.args.self.now c.requires.runs
    (none_then i c.self.invariant c.args.self.now c.self.view_is (sym c.top.ensures.top ∙ c.in_default.is)))
