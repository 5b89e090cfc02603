use Rattle.std.proofs.Common.{◌≡◌, rules, ◌∙◌}
use Rattle.tt_rules.specs.ActivationKeys.{is_apart}
use Rattle.tt_rules.specs.Shapes.{is_clear, parts}
use Rattle.tt_rules.specs.TableRules.{comes_between}
use Rattle.tt_rules.proofs.ActivationLemmas.{apart-exactly}
use Rattle.tt_rules.proofs.overtaken.rule_23.Goals as goal

pub returns : goal.returns
returns c = c.failing.ensures (is_clear comes_between (parts c.args.entries.now)) (λ x answer says.
    let is : answer ≡ is_apart c.in_ok-keys.keys.keys x = search rules in
    is ∙ apart-exactly c.in_ok-keys.keys c.args.entries.now c.in_ok-keys.ensures x)
