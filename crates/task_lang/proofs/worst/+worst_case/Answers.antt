use Rattle.std.proofs.Common.{◌^◌, rules}
use Rattle.task_lang.specs.declared.syntax.Stmt.{the_lemmas}
use Rattle.task_lang.proofs.Numbers.{repeat_body}
use Rattle.task_lang.proofs.worst.+worst_case.Goals as goal

pub worst_of-worst_in-requires-in-Repeat : goal.worst_of-worst_in-requires-in-Repeat
worst_of-worst_in-requires-in-Repeat t c =
    let inner = repeat_body c.args.demands.now c.in-Repeat.turns c.in-Repeat.body (2 ^ 128)
    (rw c.in-Repeat.is at c.requires.numbers) (rw c.in-Repeat.is at c.requires.fits) in
    (search (rules, the_lemmas), (rw c.as_slice-in-Repeat.ensures inner.0, rw c.as_slice-in-Repeat.ensures inner.1))
