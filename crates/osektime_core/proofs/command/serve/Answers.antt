use Rattle.std.proofs.Common.{◌≡◌, ◌≢◌, Some, refl, ap, sym, subst, ◌∙◌}
use Rattle.std.specs.Io.KnownBytes.{Appends}
use Rattle.tt_io.specs.Known.{AppendsPart}
use Rattle.osektime_core.specs.InBounds.{IsLoading}
use Rattle.osektime_core.specs.NoMiss.{IsSchedulable, NoneIsMissed}
use Rattle.osektime_core.specs.declared.status.Status.TheVariants.{Memory, ReadFault, TooLong, Usage, WriteFault}
use Rattle.osektime_core.specs.declared.words.Command.TheVariants.{Bulk}
use Rattle.osektime_core.specs.Answer.{IsReading, IsAnswered}
use Rattle.osektime_core.specs.Moves.{run_of}
use Rattle.osektime_core.proofs.InBounds.{told_in_bounds}
use Rattle.osektime_core.proofs.Moves.{bulk_counted, heard_counted, none_counted, none_for}
use Rattle.osektime_core.specs.Heard.{Heard}
use Rattle.osektime_core.proofs.Hearing.{heard_whole}
use Rattle.osektime_core.proofs.Told.{bulk_answer, bulk_bytes, is_reading, none_missed, on_answered, told_answer, told_bytes, was_taken}
use Rattle.osektime_core.specs.Words.{command_of}
use Rattle.osektime_core.proofs.command.serve.Given.{Over}
use Rattle.osektime_core.proofs.command.serve.Goals as goal

-- the whole answer, where one was given
given : (g : Over) (c : goal.After-respond-2 g) → c.respond-2.result ≢ Memory
    → c.respond-2.result ≢ WriteFault
    → IsAnswered c.args.words.now (g.I.Source.left c.args.input.now) c.respond-2.result
    (g.O.Sink.written c.args.output.now) (g.O.Sink.written c.respond-2.new.output)
given g c ample whole =
    told_answer (λ a. (c.respond-2.result ≡ a.status)
    × Appends (g.O.Sink.written c.args.output.now) (g.O.Sink.written c.respond-2.new.output) a.text)
    c.args.words.now c.in-Some.command _ (g.I.Source.left c.take_all.new.source) c.in-Ok-take_all.bytes.items
    (sym c.command.ensures ∙ c.in-Some.is) (is_reading c.in-Some.command c.in_default-command.not-Bulk)
    c.in-Ok-take_all.ensures.bytes c.in-Ok-take_all.ensures.fits
    (c.respond-2.ensures.responds.answered ample whole)

-- the same of the bytes that were given
heard : (g : Over) (c : goal.After-respond-2 g) → c.respond-2.result ≢ Memory
    → c.respond-2.result ≢ WriteFault
    → Heard c.args.words.now c.respond-2.result (g.I.Source.gave c.args.input.now)
    (g.I.Source.gave c.take_all.new.source)
    (g.O.Sink.written c.args.output.now) (g.O.Sink.written c.respond-2.new.output)
heard g c ample whole =
    heard_whole c.args.words.now c.in-Some.command _ _ c.in-Ok-take_all.bytes.items
    (sym c.command.ensures ∙ c.in-Some.is) (is_reading c.in-Some.command c.in_default-command.not-Bulk)
    c.respond-2.result _ _ c.in-Ok-take_all.ensures.fits c.in-Ok-take_all.ensures.gave
    (c.respond-2.ensures.responds.answered ample whole)
    c.respond-2.ensures.no_miss

pub returns-clause-heard : goal.returns-clause-heard
returns-clause-heard g c = λ reads calm_input calm_output ample.
    heard g c ample (λ fault. calm_output (c.respond-2.ensures.responds.cause fault))

pub returns-clause-heard_answered : goal.returns-clause-heard_answered
returns-clause-heard_answered g c = λ reads. on_answered c.respond-2.result _ (heard g c)

pub returns-clause-complete : goal.returns-clause-complete
returns-clause-complete g c = λ calm_input calm_output ample.
    given g c ample (λ fault. calm_output (c.respond-2.ensures.responds.cause fault))

pub returns-clause-answered : goal.returns-clause-answered
returns-clause-answered g c = on_answered c.respond-2.result _ (given g c)

pub returns-clause-taken : goal.returns-clause-taken
returns-clause-taken g c = λ reads. on_answered c.respond-2.result _
    (λ ample whole. was_taken _ _ c.in-Ok-take_all.bytes.items c.in-Ok-take_all.ensures.bytes)

pub returns-clause-not_read : goal.returns-clause-not_read
returns-clause-not_read g c = λ other. absurd (other (subst IsReading (sym (sym c.command.ensures ∙ c.in-Some.is))
    (is_reading c.in-Some.command c.in_default-command.not-Bulk)))

pub returns-clause-write_fault : goal.returns-clause-write_fault
returns-clause-write_fault g c = λ fault. (
  c.respond-2.ensures.responds.cause fault,
  told_answer (λ a. AppendsPart (g.O.Sink.written c.args.output.now) (g.O.Sink.written c.respond-2.new.output) a.text)
      c.args.words.now c.in-Some.command _ (g.I.Source.left c.take_all.new.source) c.in-Ok-take_all.bytes.items
      (sym c.command.ensures ∙ c.in-Some.is) (is_reading c.in-Some.command c.in_default-command.not-Bulk)
      c.in-Ok-take_all.ensures.bytes c.in-Ok-take_all.ensures.fits
      (c.respond-2.ensures.responds.part fault),
)

pub returns-clause-no_miss : goal.returns-clause-no_miss
returns-clause-no_miss g c =
    told_bytes (λ bytes. IsSchedulable bytes → NoneIsMissed c.respond-2.result) c.args.words.now c.in-Some.command _
    (g.I.Source.left c.take_all.new.source) c.in-Ok-take_all.bytes.items
    (sym c.command.ensures ∙ c.in-Some.is) (is_reading c.in-Some.command c.in_default-command.not-Bulk)
    c.in-Ok-take_all.ensures.bytes c.respond-2.ensures.no_miss

-- the words name `bulk`
bulk_is : (g : Over) (c : goal.After-respond g) → command_of c.args.words.now ≡ Some (Bulk c.in-Bulk.number)
bulk_is g c = sym c.command.ensures ∙ c.in-Some.is ∙ ap Some c.in-Bulk.is

-- the whole answer to the document of `bulk`, where one was given
bulk_given : (g : Over) (c : goal.After-respond g) → c.respond.result ≢ Memory → c.respond.result ≢ WriteFault
    → IsAnswered c.args.words.now (g.I.Source.left c.args.input.now) c.respond.result
    (g.O.Sink.written c.args.output.now) (g.O.Sink.written c.respond.new.output)
bulk_given g c ample whole =
    bulk_answer (λ a. (c.respond.result ≡ a.status)
    × Appends (g.O.Sink.written c.args.output.now) (g.O.Sink.written c.respond.new.output) a.text)
    c.args.words.now (g.I.Source.left c.args.input.now) c.in-Bulk.number c.in-Ok.bytes.items (bulk_is g c)
    c.in-Ok.ensures.document c.in-Ok.ensures.short (c.respond.ensures.responds.answered ample whole)

pub returns-in-Bulk-clause-complete : goal.returns-in-Bulk-clause-complete
returns-in-Bulk-clause-complete g c = λ calm_input calm_output ample.
    bulk_given g c ample (λ fault. calm_output (c.respond.ensures.responds.cause fault))

pub returns-in-Bulk-clause-answered : goal.returns-in-Bulk-clause-answered
returns-in-Bulk-clause-answered g c = on_answered c.respond.result _ (bulk_given g c)

pub returns-in-Bulk-clause-write_fault : goal.returns-in-Bulk-clause-write_fault
returns-in-Bulk-clause-write_fault g c = λ fault. (
  c.respond.ensures.responds.cause fault,
  bulk_answer (λ a. AppendsPart (g.O.Sink.written c.args.output.now) (g.O.Sink.written c.respond.new.output) a.text)
      c.args.words.now (g.I.Source.left c.args.input.now) c.in-Bulk.number c.in-Ok.bytes.items (bulk_is g c)
      c.in-Ok.ensures.document c.in-Ok.ensures.short (c.respond.ensures.responds.part fault),
)

pub returns-in-Bulk-clause-no_miss : goal.returns-in-Bulk-clause-no_miss
returns-in-Bulk-clause-no_miss g c =
    bulk_bytes (λ bytes. IsSchedulable bytes → NoneIsMissed c.respond.result) c.args.words.now
    (g.I.Source.left c.args.input.now) c.in-Bulk.number c.in-Ok.bytes.items (bulk_is g c)
    c.in-Ok.ensures.document c.respond.ensures.no_miss

pub returns-in-Bulk-clause-moves : goal.returns-in-Bulk-clause-moves
returns-in-Bulk-clause-moves g c =
    bulk_counted c.args.words.now (g.I.Source.left c.args.input.now) c.in-Bulk.number c.in-Ok.bytes.items
    c.respond.result _ _ (bulk_is g c) c.in-Ok.ensures.document c.in-Ok.ensures.short c.respond.ensures.moves

pub returns-in-Bulk-clause-bounded : goal.returns-in-Bulk-clause-bounded
returns-in-Bulk-clause-bounded g c = λ loads.
    told_in_bounds c.respond.result (g.O.Sink.written c.args.output.now) (g.O.Sink.written c.respond.new.output)
    (Bulk c.in-Bulk.number) tt c.in-Ok.bytes.items c.in-Ok.ensures.short
    (λ ample whole. c.respond.ensures.responds.answered ample whole)

pub returns-clause-bounded : goal.returns-clause-bounded
returns-clause-bounded g c = λ loads.
    told_in_bounds c.respond-2.result (g.O.Sink.written c.args.output.now) (g.O.Sink.written c.respond-2.new.output)
    c.in-Some.command (subst IsLoading (sym c.command.ensures ∙ c.in-Some.is) loads) c.in-Ok-take_all.bytes.items
    c.in-Ok-take_all.ensures.fits
    (λ ample whole. c.respond-2.ensures.responds.answered ample whole)

pub returns-in-Err-Memory-clause-no_miss : goal.returns-in-Err-Memory-clause-no_miss
returns-in-Err-Memory-clause-no_miss g c =
    none_missed c.args.words.now (g.I.Source.left c.args.input.now) Memory (λ task tick is. cc is)

pub returns-in-Err-Memory-clause-moves : goal.returns-in-Err-Memory-clause-moves
returns-in-Err-Memory-clause-moves g c =
    none_for c.args.words.now (g.I.Source.left c.args.input.now) Memory _ _ (λ P. tt) refl

pub returns-in-Err-Memory-clause-heard_moves : goal.returns-in-Err-Memory-clause-heard_moves
returns-in-Err-Memory-clause-heard_moves g c =
    λ reads bytes all. none_counted (run_of c.args.words.now bytes) Memory _ _ (λ P. tt) refl

pub returns-in-Err-ReadFault-clause-no_miss : goal.returns-in-Err-ReadFault-clause-no_miss
returns-in-Err-ReadFault-clause-no_miss g c =
    none_missed c.args.words.now (g.I.Source.left c.args.input.now) ReadFault (λ task tick is. cc is)

pub returns-in-Err-ReadFault-clause-moves : goal.returns-in-Err-ReadFault-clause-moves
returns-in-Err-ReadFault-clause-moves g c =
    none_for c.args.words.now (g.I.Source.left c.args.input.now) ReadFault _ _ (λ P. tt) refl

pub returns-in-Err-ReadFault-clause-heard_moves : goal.returns-in-Err-ReadFault-clause-heard_moves
returns-in-Err-ReadFault-clause-heard_moves g c =
    λ reads bytes all. none_counted (run_of c.args.words.now bytes) ReadFault _ _ (λ P. tt) refl

pub returns-in-Err-TooLong-clause-no_miss : goal.returns-in-Err-TooLong-clause-no_miss
returns-in-Err-TooLong-clause-no_miss g c =
    none_missed c.args.words.now (g.I.Source.left c.args.input.now) TooLong (λ task tick is. cc is)

pub returns-in-Err-TooLong-clause-moves : goal.returns-in-Err-TooLong-clause-moves
returns-in-Err-TooLong-clause-moves g c =
    none_for c.args.words.now (g.I.Source.left c.args.input.now) TooLong _ _ (λ P. tt) refl

pub returns-in-Err-TooLong-clause-heard_moves : goal.returns-in-Err-TooLong-clause-heard_moves
returns-in-Err-TooLong-clause-heard_moves g c =
    λ reads bytes all. none_counted (run_of c.args.words.now bytes) TooLong _ _ (λ P. tt) refl

pub returns-clause-heard_moves : goal.returns-clause-heard_moves
returns-clause-heard_moves g c = λ reads bytes all.
    heard_counted c.args.words.now c.in-Some.command (g.I.Source.gave c.args.input.now)
    (g.I.Source.gave c.take_all.new.source) c.in-Ok-take_all.bytes.items bytes c.respond-2.result _ _
    (sym c.command.ensures ∙ c.in-Some.is) c.in-Ok-take_all.ensures.fits c.in-Ok-take_all.ensures.gave all
    c.respond-2.ensures.moves

pub returns-in_default-clause-no_miss : goal.returns-in_default-clause-no_miss
returns-in_default-clause-no_miss g c =
    none_missed c.args.words.now (g.I.Source.left c.args.input.now) Usage (λ task tick is. cc is)

pub returns-in_default-clause-moves : goal.returns-in_default-clause-moves
returns-in_default-clause-moves g c =
    none_for c.args.words.now (g.I.Source.left c.args.input.now) Usage _ _ (λ P. tt) refl

pub returns-in_default-bulk_document-clause-no_miss : goal.returns-in_default-bulk_document-clause-no_miss
returns-in_default-bulk_document-clause-no_miss g c =
    none_missed c.args.words.now (g.I.Source.left c.args.input.now) Memory (λ task tick is. cc is)

pub returns-in_default-bulk_document-clause-moves : goal.returns-in_default-bulk_document-clause-moves
returns-in_default-bulk_document-clause-moves g c =
    none_for c.args.words.now (g.I.Source.left c.args.input.now) Memory _ _ (λ P. tt) refl
