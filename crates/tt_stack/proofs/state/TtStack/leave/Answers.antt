use Rattle.std.proofs.Common.{◌≡◌, ◌≢◌, true, false, [], ap, sym, ◌∙◌, subst}
use Rattle.task_machine.specs.Standing.{left_of, IsSound}
use Rattle.tt_stack.specs.Kept.{stacked}
use Rattle.tt_stack.proofs.Seen.{codes_are, moved_now, run_now}
use Rattle.tt_stack.proofs.state.TtStack.leave.Goals as goal

pub set_top-requires : goal.set_top-requires
set_top-requires c =
    let i = c.self.inside in
    let (top, r) = run_now i c.self.invariant c.args.self.now c.self.view_is c.requires.runs in
    r.deep

pub invariant_of-self : goal.invariant_of-self
invariant_of-self c =
    let i = c.self.inside in
    let (top, r) = run_now i c.self.invariant c.args.self.now c.self.view_is c.requires.runs in
    let codes = codes_are i c.self.invariant c.args.self.now c.self.view_is in
    let some : left_of c.args.self.now.codes c.args.frame ≢ [] =
    λ none. let over : true ≡ false =
    sym ((c.ended.ensures.nothing c.args.self.now.codes c.requires.sound).1 none) ∙ c.if-ended.false in cc in
    rw c.set_top.ensures
    (r.moved_kept c.args.frame (subst (λ l. IsSound l c.args.frame) (sym codes) c.requires.sound)
    (subst (λ l. left_of l c.args.frame ≢ []) (sym codes) some))

pub returns-else-ended : goal.returns-else-ended
returns-else-ended c =
    let i = c.self.inside in
    let (top, r) = run_now i c.self.invariant c.args.self.now c.self.view_is c.requires.runs in
    ap (λ s. stacked i.codes i.first i.levels.items i.words s i.entries.items i.reached) c.set_top.ensures
    ∙ moved_now i c.self.invariant c.args.self.now c.self.view_is top r c.args.frame
