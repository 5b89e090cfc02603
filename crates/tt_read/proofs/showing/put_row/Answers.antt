use Rattle.std.proofs.Common.{[], ◌∷◌}
use Rattle.tt_read.proofs.Pieces.{puts_err, puts_from, part_of_first, part_of_fields, puts_line}
use Rattle.tt_read.proofs.showing.put_row.Goals as goal

pub returns-in_err-put-clause-text : goal.returns-in_err-put-clause-text
returns-in_err-put-clause-text g c =
    puts_err c.from_residual.result _ _ c.args.buffer.now c.put.new.self _ c.from_residual.ensures.0
    (part_of_first c.args.row.now c.first_word.result _ _ c.args.buffer.now c.text.result.now c.first_word.ensures
    c.text.ensures c.in_err-put.ensures.part)

pub returns-in_err-put_fields-clause-text : goal.returns-in_err-put_fields-clause-text
returns-in_err-put_fields-clause-text g c =
    puts_err c.from_residual-in_err-put_fields.result _ _ c.args.buffer.now c.put_fields.new.buffer _
    c.from_residual-in_err-put_fields.ensures.0
    (part_of_fields c.args.row.now c.first_word.result _ _ _ c.args.buffer.now c.put.new.self c.text.result.now
    c.first_word.ensures c.text.ensures
    c.in_ok-put.ensures.ok c.in_err-put_fields.ensures.text)

pub returns-clause-text : goal.returns-clause-text
returns-clause-text g c =
    puts_line c.args.row.now c.first_word.result _ _ _ _ c.args.buffer.now c.put.new.self c.put_fields.new.buffer
    c.put-2.new.self c.text.result.now
    c.first_word.ensures c.text.ensures c.in_ok-put.ensures.ok c.in_ok-put_fields.ensures.text c.put-2.result
    (puts_from c.put-2.result _ _ c.put_fields.new.buffer c.put-2.new.self
    (10 ∷ []) c.put-2.ensures.ok c.put-2.ensures.part)
