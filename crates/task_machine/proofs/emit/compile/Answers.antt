use Rattle.std.proofs.Common.{ap, ◌∙◌, arith}
use Rattle.task_machine.specs.Layout.{body_code}
use Rattle.task_machine.proofs.Compiles.{is_compiled, is_read}
use Rattle.task_machine.proofs.emit.compile.Goals as goal

pub invariant_of-result : goal.invariant_of-result
invariant_of-result c =
    let is = c.in_ok-instrs.ensures ∙ ap (body_code 0) c.as_slice.ensures in
    is_compiled c.in_ok-instrs.instrs.items c.args.body.now is c.requires.nested c.requires.numbers (omega arith)

pub returns : goal.returns
returns c = is_read c.in_ok-instrs.instrs.items c.args.body.now
    (c.in_ok-instrs.ensures ∙ ap (body_code 0) c.as_slice.ensures)
