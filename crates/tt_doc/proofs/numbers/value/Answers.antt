use Rattle.std.proofs.Common.{◌≤◌, ◌^◌, arith}
use Rattle.tt_doc.proofs.Tens.{tens_rise}
use Rattle.tt_doc.proofs.numbers.value.Goals as goal

pub overflow_mul-value : goal.overflow_mul-value
overflow_mul-value c =
    let most : 10 ^ c.loop-digit.digit-index ≤ 10 ^ 12 = tens_rise c.loop-digit.digit-index 12 (omega arith) in
    omega arith

pub overflow_add-value : goal.overflow_add-value
overflow_add-value c =
    let most : 10 ^ c.loop-digit.digit-index ≤ 10 ^ 12 = tens_rise c.loop-digit.digit-index 12 (omega arith) in
    omega arith
