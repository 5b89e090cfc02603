use Rattle.std.proofs.Common.{◌≡◌, ◌+◌, ℕ, List, get_or, ap, ◌∙◌, arith}
use Rattle.std.proofs.lemmas.List.{get_or_default}
use Rattle.tt_world.specs.declared.config.IsrDef.{IsrDef}
use Rattle.tt_world.specs.Rows.{no_isr}
use Rattle.schedule_check.specs.Demand.{isr_demand, isr_of}
use Rattle.schedule_check.proofs.Numbers.{sum_push}
use Rattle.schedule_check.proofs.demands.isrs_demand.Goals as goal

pub loop-number-preserved : goal.loop-number-preserved
loop-number-preserved c =
    let parts = c.args.parts.now in
    let counts = c.args.counts.now in
    let n = c.loop-number.number in
    let isr : c.index-isrs-number.result ≡ isr_of parts n = c.index-isrs-number.is
    ∙ get_or_default c.as_slice-isrs.result.now n c.index-isrs-number.result no_isr c.loop-number-test.true
    ∙ ap (λ (isrs : List IsrDef). get_or isrs n no_isr) c.as_slice-isrs.ensures in
    let is : c.isr_demand-sum.result ≡ isr_demand (isr_of parts n) (get_or counts n 0) c.args.ticks =
    c.isr_demand-sum.ensures.exact
    ∙ ap (λ (i : IsrDef). isr_demand i (get_or counts n 0) c.args.ticks) isr in
    record {
      sum = ap (λ s. s + c.isr_demand-sum.result) c.loop-number.invariant.sum
          ∙ sum_push (λ (number : ℕ). isr_demand (isr_of parts number) (get_or counts number 0) c.args.ticks)
          n c.isr_demand-sum.result is;
      bounded = let b = c.loop-number.invariant.bounded in let d = c.isr_demand-sum.ensures.bounded in omega arith;
    }
