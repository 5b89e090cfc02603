use Rattle.std.proofs.Common.{refl, ap, sym, ◌∙◌, arith, subst, ◌+◌}
use Rattle.isr_window.specs.Busy.{BusySources}
use Rattle.stack_dispatch.proofs.Marks.{MarkedTo, none_marked, one_marked, not_marked}
use Rattle.stack_dispatch.proofs.interrupts.mark_isrs.Goals as goal
use Rattle.stack_dispatch.proofs.interrupts.mark_isrs.Goals.{then-not-is_isr_done, else-not-is_isr_done}

pub loop-number-init : goal.loop-number-init
loop-number-init c = record { isrs = none_marked _ _ c.requires.none; oisrs = refl }

pub loop-number-preserved : goal.loop-number-preserved
loop-number-preserved c =
    let done = sym c.is_isr_done.ensures in
    elim c.if-not-is_isr_done.branch [
      | then-not-is_isr_done w ↦
          let next = w.busy-is ∙ w.mark.ensures in
          record {
            isrs = subst (λ (b : BusySources). MarkedTo (c.loop-number.number + 1) c.args.stack.now.isrs b.isrs)
                (sym next)
                (one_marked _ _ _ (let few = c.requires.few in omega arith)
                (done ∙ w.if-not-is_isr_done.true) c.loop-number.invariant.isrs);
            oisrs = ap (λ (b : BusySources). b.oisrs) next ∙ c.loop-number.invariant.oisrs;
          }
      | else-not-is_isr_done w ↦
          record {
            isrs = subst (λ (b : BusySources). MarkedTo (c.loop-number.number + 1) c.args.stack.now.isrs b.isrs)
                (sym w.busy-is)
                (not_marked _ _ _ (done ∙ w.if-not-is_isr_done.false) c.loop-number.invariant.isrs);
            oisrs = ap (λ (b : BusySources). b.oisrs) w.busy-is ∙ c.loop-number.invariant.oisrs;
          }
    ]

pub returns-clause-isrs : goal.returns-clause-isrs
returns-clause-isrs c = λ number l. c.loop-number.invariant.isrs.marked number (omega arith)
