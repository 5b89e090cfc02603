use Rattle.tt_doc.proofs.NumberLaws.{spelled_if_some, small_if_some}
use Rattle.tt_doc.proofs.numbers.number.Goals as goal

pub returns-clause-spelled : goal.returns-clause-spelled
returns-clause-spelled c = spelled_if_some c.short_number.result c.args.text.now c.short_number.ensures

pub returns-clause-small : goal.returns-clause-small
returns-clause-small c = small_if_some c.short_number.result c.args.text.now c.short_number.ensures
