use Rattle.std.proofs.Common.{rules}
use Rattle.tt_io.proofs.Giving.{bytes_after}
use Rattle.tt_io.proofs.standard.StdSinkSink.write.Goals as goal

pub returns-in-Took-clause-kept : goal.returns-in-Took-clause-kept
returns-in-Took-clause-kept g c =
    bytes_after c.args.self.now.history.items c.with_piece-self.result.items _ (search rules)
