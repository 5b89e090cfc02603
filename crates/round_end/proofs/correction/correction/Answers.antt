use Rattle.std.proofs.Common.{arith, refl}
use Rattle.round_end.proofs.Corrections.{shorter, longer}
use Rattle.round_end.proofs.correction.correction.Goals as goal

pub returns-then-ahead-round-clause-value : goal.returns-then-ahead-round-clause-value
returns-then-ahead-round-clause-value c =
    shorter c.args.round c.args.adjust c.args.offset c.args.global _ c.min.result
    (omega arith) refl c.if-ahead-round.true c.min.ensures

pub returns-else-ahead-round-clause-value : goal.returns-else-ahead-round-clause-value
returns-else-ahead-round-clause-value c =
    longer c.args.round c.args.adjust c.args.offset c.args.global _ c.min-else-ahead-round.result
    (omega arith) refl c.if-ahead-round.false c.min-else-ahead-round.ensures
