use Rattle.std.proofs.Common.{◌≡◌, ◌≤◌, List, ap, ◌∙◌, subst, length, arith}
use Rattle.std.specs.Prelude.{sum_by}
use Rattle.std.proofs.lemmas.List.{take_all}
use Rattle.tt_world.specs.declared.config.ConfigParts.{ConfigParts}
use Rattle.tt_world.specs.declared.config.IsrDef.{IsrDef}
use Rattle.schedule_check.specs.Windows.{most_open, stack_of}
use Rattle.schedule_check.proofs.StackBound.{stack_bounded}
use Rattle.schedule_check.proofs.windows.words_bound.Goals as goal

pub returns-clause-every_run : goal.returns-clause-every_run
returns-clause-every_run c = λ s script.
    let config = c.args.config.now in
    let within = (stack_bounded config s c.parts.ensures.rules script).words in
    let windows : c.most_open.result ≡ most_open (stack_of config) config = c.most_open.ensures.exact in
    let items : c.as_slice-isr-items.result.now ≡ config.isrs = c.as_slice-isr-items.ensures
    ∙ ap (λ (p : ConfigParts). p.isrs) c.parts.ensures.same in
    let past : length config.isrs ≤ c.loop-isr.isr-index =
    subst (λ (xs : List IsrDef). length xs ≤ c.loop-isr.isr-index) items c.loop-isr-test.false in
    let isrs : c.loop-isr.stacks ≡ sum_by (λ (isr : IsrDef). isr.stack) config.isrs = c.loop-isr.invariant.stacks
    ∙ ap (sum_by (λ (isr : IsrDef). isr.stack)) (take_all c.loop-isr.isr-index config.isrs past) in
    omega arith
