use Rattle.std.proofs.Common.{rules, sym, ◌∙◌}
use Rattle.std.specs.Prelude.{not}
use Rattle.tt_rules.specs.StructureRules.{is_header}
use Rattle.tt_rules.proofs.structure.rule_1.Goals as goal

pub returns-then-is_header : goal.returns-then-is_header
returns-then-is_header c = rw (c.in-Some.ensures.cases.0, sym c.is_header.ensures ∙ c.if-is_header.true)
    (c.failing_row.ensures (λ row. not (is_header row)) (search rules))
