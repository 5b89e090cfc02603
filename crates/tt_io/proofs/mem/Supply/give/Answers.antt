use Rattle.std.proofs.Common.{rules}
use Rattle.tt_io.proofs.Taking.{given_front}
use Rattle.tt_io.proofs.mem.Supply.give.Goals as goal

pub returns-clause-got : goal.returns-clause-got
returns-clause-got c = given_front _ c.deref.result.now c.copy_from_slice.new.self c.args.buf.now _ _
    c.deref.ensures.value (search rules) c.copy_from_slice.ensures.after
