use Rattle.std.proofs.Common.{refl, ap, sym, ◌∙◌, arith, subst, ◌+◌}
use Rattle.isr_window.specs.Busy.{BusySources}
use Rattle.osek_idle.specs.Subsystem.{lefts}
use Rattle.osek_idle.specs.Standing.{subsystem_of}
use Rattle.stack_dispatch.proofs.Marks.{MarkedTo, none_marked, one_marked, not_marked, left_where, none_where}
use Rattle.stack_dispatch.proofs.interrupts.mark_oisrs.Goals as goal
use Rattle.stack_dispatch.proofs.interrupts.mark_oisrs.Goals.{then-unfinished, else-unfinished}

pub loop-number-init : goal.loop-number-init
loop-number-init c = record { oisrs = λ codes settled. none_marked _ _ c.requires.none; isrs = refl }

pub loop-number-preserved : goal.loop-number-preserved
loop-number-preserved c =
    elim c.if-unfinished.branch [
      | then-unfinished w ↦
          let next = w.busy-is ∙ w.mark.ensures in
          record {
            oisrs = λ codes settled.
                subst (λ (b : BusySources). MarkedTo (c.loop-number.number + 1)
                (lefts (subsystem_of codes c.args.osek.now).routines) b.oisrs) (sym next)
                (one_marked _ _ _ (let few = c.requires.few in omega arith)
                (left_where _ _ settled.routines (sym (c.unfinished.ensures codes) ∙ w.if-unfinished.true))
                (c.loop-number.invariant.oisrs codes settled));
            isrs = ap (λ (b : BusySources). b.isrs) next ∙ c.loop-number.invariant.isrs;
          }
      | else-unfinished w ↦
          record {
            oisrs = λ codes settled.
                subst (λ (b : BusySources). MarkedTo (c.loop-number.number + 1)
                (lefts (subsystem_of codes c.args.osek.now).routines) b.oisrs) (sym w.busy-is)
                (not_marked _ _ _ (none_where _ _ settled.routines
                (sym (c.unfinished.ensures codes) ∙ w.if-unfinished.false))
                (c.loop-number.invariant.oisrs codes settled));
            isrs = ap (λ (b : BusySources). b.isrs) w.busy-is ∙ c.loop-number.invariant.isrs;
          }
    ]

pub returns-clause-oisrs : goal.returns-clause-oisrs
returns-clause-oisrs c = λ codes settled number l. (c.loop-number.invariant.oisrs codes settled).marked number
    (omega arith)
