use Rattle.std.proofs.Common.{ap, sym, ◌∙◌}
use Rattle.tt_base.specs.Name.{with_zeros}
use Rattle.tt_base.proofs.name.Name.padded.Goals as goal

pub returns-clause-whole : goal.returns-clause-whole
returns-clause-whole c =
    sym c.self.invariant.whole ∙ ap with_zeros c.self.view_is
