use Rattle.std.proofs.Common.{rules, ap, ◌∙◌}
use Rattle.tt_parts.specs.Located.{parts}
use Rattle.tt_config.specs.Lists.{by_number}
use Rattle.tt_config.specs.Parts.{arrival_place}
use Rattle.tt_config.proofs.script.arrivals_of.Goals as goal

pub returns : goal.returns
returns c =
    c.into_series.ensures ∙ c.in_ok-lists.ensures (arrival_place c.args.kind) (search rules)
    ∙ ap (λ n. by_number n (arrival_place c.args.kind) (parts c.args.arrivals.now)) c.count_of-sources.ensures
