-- The leading plain bytes give the first line and what is wrong with it.
use Rattle.std.proofs.Common.{arith, List, ℕ, ap, subst, length, length-drop}
use Rattle.std.proofs.lemmas.List.{take_rest}
use Rattle.tt_doc.specs.LineStep.{BeginsWithFault}
use Rattle.tt_doc.specs.Lines.{lines_of}
use Rattle.tt_doc.specs.declared.lines.LineKind.TheVariants.{Byte, Long, Cut}
use Rattle.tt_doc.proofs.LineLaws.{begins_with_byte, begins_with_long_line, begins_with_long_end, begins_with_cut, ended_line}
use Rattle.tt_doc.proofs.lines.next_line.Goals as goal

pub returns-then-len-gt-MOST_BYTES-clause-fault : goal.returns-then-len-gt-MOST_BYTES-clause-fault
returns-then-len-gt-MOST_BYTES-clause-fault c =
    subst (λ (text : List ℕ). BeginsWithFault (lines_of text) Long) (take_rest c.args.bytes.now c.args.at)
    (begins_with_long_end _ c.plain_len-len.result c.plain_len-len.ensures.value c.if-len-rest.true
    c.if-len-gt-MOST_BYTES.true)

pub returns-else-len-gt-MOST_BYTES-clause-fault : goal.returns-else-len-gt-MOST_BYTES-clause-fault
returns-else-len-gt-MOST_BYTES-clause-fault c =
    subst (λ (text : List ℕ). BeginsWithFault (lines_of text) Cut) (take_rest c.args.bytes.now c.args.at)
    (begins_with_cut _ c.plain_len-len.result c.plain_len-len.ensures.value c.if-len-rest.true
    (omega (arith, length-drop c.args.at c.args.bytes.now, ap length (take_rest c.args.bytes.now c.args.at)))
    c.if-len-gt-MOST_BYTES.false)

pub returns-then-rest-len-ne10-clause-fault : goal.returns-then-rest-len-ne10-clause-fault
returns-then-rest-len-ne10-clause-fault c =
    subst (λ (text : List ℕ). BeginsWithFault (lines_of text) Byte) (take_rest c.args.bytes.now c.args.at)
    (begins_with_byte _ c.plain_len-len.result c.plain_len-len.ensures.value c.if-len-rest.false
    c.if-rest-len-ne10.true)

pub returns-then-len-gt-MOST_BYTES-2-clause-fault : goal.returns-then-len-gt-MOST_BYTES-2-clause-fault
returns-then-len-gt-MOST_BYTES-2-clause-fault c =
    subst (λ (text : List ℕ). BeginsWithFault (lines_of text) Long) (take_rest c.args.bytes.now c.args.at)
    (begins_with_long_line _ c.plain_len-len.result c.plain_len-len.ensures.value c.if-len-rest.false
    c.if-rest-len-ne10.false c.if-len-gt-MOST_BYTES-2.true)

pub returns-else-len-gt-MOST_BYTES-2-clause-line : goal.returns-else-len-gt-MOST_BYTES-2-clause-line
returns-else-len-gt-MOST_BYTES-2-clause-line c =
    (ended_line c.args.bytes.now c.args.at c.plain_len-len.result _
    (take_rest c.args.bytes.now c.args.at) c.plain_len-len.ensures.value
    c.if-len-rest.false c.if-rest-len-ne10.false).line

pub returns-else-len-gt-MOST_BYTES-2-clause-good : goal.returns-else-len-gt-MOST_BYTES-2-clause-good
returns-else-len-gt-MOST_BYTES-2-clause-good c =
    (ended_line c.args.bytes.now c.args.at c.plain_len-len.result _
    (take_rest c.args.bytes.now c.args.at) c.plain_len-len.ensures.value
    c.if-len-rest.false c.if-rest-len-ne10.false).good c.if-len-gt-MOST_BYTES-2.false
