use Rattle.std.proofs.Common.{[], ◌∷◌}
use Rattle.task_machine.proofs.Standings.{started}
use Rattle.task_machine.proofs.frame.Frame.start.Goals as goal

pub returns-clause-whole : goal.returns-clause-whole
returns-clause-whole c =
    started c.args.codes.now c.instrs.result.now
    (0 ∷ 0 ∷ 0 ∷ 0 ∷ []) c.settle.new.frame c.args.program c.instrs.ensures.layout c.requires
    c.settle.ensures.program c.settle.ensures.at
