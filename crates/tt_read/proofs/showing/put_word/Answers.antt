use Rattle.std.proofs.Common.{[], ◌∷◌, ◌++◌, append_assoc, sym}
use Rattle.tt_io.proofs.Passing.{part_of_front}
use Rattle.tt_read.specs.Parts.{spaced}
use Rattle.tt_read.proofs.Pieces.{puts_err, puts_then, puts_from}
use Rattle.tt_read.proofs.showing.put_word.Goals as goal

pub returns-in_err-put-clause-text : goal.returns-in_err-put-clause-text
returns-in_err-put-clause-text g c =
    let waited = c.args.buffer.now in
    let word = c.args.word.now in
    puts_err c.from_residual.result _ _ waited c.put.new.self _ c.from_residual.ensures.0
    (part_of_front _ _ (waited ++ 32 ∷ []) word _ (sym (append_assoc waited (32 ∷ []) word)) c.in_err-put.ensures.part)

pub returns-clause-text : goal.returns-clause-text
returns-clause-text g c =
    let waited = c.args.buffer.now in
    let word = c.args.word.now in
    puts_then c.in_ok-put.ensures.ok c.put-2.result (g.O.Sink.written c.put-2.new.sink) waited c.put-2.new.self word
    (spaced word) (sym (append_assoc waited (32 ∷ []) word))
    (puts_from c.put-2.result _ _ c.put.new.self c.put-2.new.self word c.put-2.ensures.ok c.put-2.ensures.part)
