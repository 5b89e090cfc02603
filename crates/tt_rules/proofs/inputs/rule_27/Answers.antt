use Rattle.std.proofs.Common.{[], refl, arith}
use Rattle.std.specs.HashMap.{get}
use Rattle.std.proofs.lemmas.Grind.{common_steps}
use Rattle.tt_rules.specs.TableRules.{same_pair}
use Rattle.tt_rules.proofs.ArrivalLemmas.{noted-more}
use Rattle.tt_rules.proofs.inputs.rule_27.Goals as goal

pub loop-at-init : goal.loop-at-init
loop-at-init c = record { above = []; has = λ q. rw c.new-latest.ensures.empty refl; lines = refl }

pub loop-at-preserved : goal.loop-at-preserved
loop-at-preserved c =
    noted-more (get same_pair c.loop-at.latest) _ c.loop-at.least _ c.args.arrivals.now c.loop-at.at-index _ _
    c.loop-at-test.true c.loop-at.invariant
    c.in_ok-is_after.ensures.after c.in_ok-is_after.ensures.latest c.with_line_unless-least.ensures

pub returns : goal.returns
returns c = grind (arith, common_steps, c.loop-at.invariant.lines)
