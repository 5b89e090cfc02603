use Rattle.std.proofs.Common.{rules, ◌∙◌}
use Rattle.osektime_core.proofs.TableTexts.{modes_all, modes_more, modes_none}
use Rattle.osektime_core.proofs.table.table_text.Goals as goal

pub loop-number-init : goal.loop-number-init
loop-number-init c = c.new-text.ensures.items ∙ modes_none c.args.config.now

pub loop-number-preserved : goal.loop-number-preserved
loop-number-preserved c = modes_more c.args.config.now c.loop-number.number _ _ c.loop-number.invariant
    c.in_ok-put_mode.ensures

pub returns : goal.returns
returns c = c.loop-number.invariant ∙ modes_all c.args.config.now c.loop-number.number (search rules)
