use Rattle.std.proofs.Common.{rules, ◌∙◌}
use Rattle.tt_config.specs.Parts.{value_place}
use Rattle.tt_config.proofs.script.values_of.Goals as goal

pub returns : goal.returns
returns c = c.into_series.ensures ∙ c.in_ok-lists.ensures value_place (search rules)
