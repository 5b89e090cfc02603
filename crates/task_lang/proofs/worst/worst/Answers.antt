use Rattle.task_lang.proofs.Bound.{worst_fits}
use Rattle.task_lang.proofs.worst.worst.Goals as goal

pub worst_in-requires-clause-fits : goal.worst_in-requires-clause-fits
worst_in-requires-clause-fits c =
    rw (c.as_slice.ensures, c.as_slice-2.ensures)
    (worst_fits c.args.demands.now c.requires.mosts c.args.body.now c.requires.nested c.requires.counted
    c.requires.numbers)
