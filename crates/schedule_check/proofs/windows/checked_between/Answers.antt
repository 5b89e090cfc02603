use Rattle.std.proofs.Common.{◌+◌, ap, ◌∙◌, arith}
use Rattle.schedule_check.specs.Measures.{weight_of}
use Rattle.schedule_check.proofs.Sweeping.{checked_more, checked_less}
use Rattle.schedule_check.proofs.windows.checked_between.Goals as goal

pub overflow_add-sum : goal.overflow_add-sum
overflow_add-sum c =
    let w = weight_of c.args.measure c.args.parts.now in
    let table = c.args.table.now in
    let weight = c.weight_of-sum.ensures.exact ∙ ap w c.activation.ensures in
    let more = checked_more w table c.loop-place.place c.check_at.result c.weight_of-sum.result c.check_at.ensures.at
    weight in
    let so_far = c.loop-place.invariant.sum in
    let test = c.loop-place-test.true in
    let less = checked_less w table (c.loop-place.place + 1) c.args.to (omega arith) in
    let small = c.requires.small in
    omega arith

pub loop-place-preserved : goal.loop-place-preserved
loop-place-preserved c =
    let w = weight_of c.args.measure c.args.parts.now in
    let table = c.args.table.now in
    let weight = c.weight_of-sum.ensures.exact ∙ ap w c.activation.ensures in
    let more = checked_more w table c.loop-place.place c.check_at.result c.weight_of-sum.result c.check_at.ensures.at
    weight in
    let so_far = c.loop-place.invariant.sum in
    let order = c.loop-place.invariant.order in
    record { order = omega arith; sum = omega arith }
