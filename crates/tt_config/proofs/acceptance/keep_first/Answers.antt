use Rattle.std.proofs.Common.{Some, refl, sym, ◌∙◌}
use Rattle.tt_config.proofs.Asked.{broken_by}
use Rattle.tt_config.proofs.acceptance.keep_first.Goals as goal

pub returns-in-Some-clause-rule : goal.returns-in-Some-clause-rule
returns-in-Some-clause-rule c =
    broken_by c.args.rows.now (Some c.in-Some.field-0) _ (sym c.in-Some.is ∙ c.in_ok-first_broken.ensures) refl
