use Rattle.tt_parts.specs.declared.located.At.{At}
use Rattle.tt_parts.specs.declared.bodies.BodyPart.{BodyPart}
use Rattle.tt_rules.specs.BodyRules.{IsTellable}
use Rattle.tt_rules.proofs.Each.{each_index}
use Rattle.tt_rules.proofs.bodies.rule_17.Goals as goal

pub is_light-requires : goal.is_light-requires
is_light-requires c = rw c.at-item.is (each_index (λ (x : At BodyPart). IsTellable c.args.demands.now x.part.body)
    c.args.bodies.now c.loop-at.at-index c.at-item.result c.loop-at-test.true c.requires)
