use Rattle.std.proofs.Common.{◌++◌, ap, sym, ◌∙◌}
use Rattle.trace_text.specs.Lines.{call_words, spaced}
use Rattle.trace_text.proofs.Words.{spaced_two}
use Rattle.trace_text.proofs.line_buffer.LineBuffer.call.Goals as goal

pub returns-in-Switch-clause-text : goal.returns-in-Switch-clause-text
returns-in-Switch-clause-text c =
    spaced_two _ _ _ _ _ c.word.ensures.text c.name.ensures.text
    ∙ ap (λ call. c.args.self.now ++ spaced (call_words c.args.names.now call)) (sym c.in-Switch.is)

pub returns-in-Sync-clause-text : goal.returns-in-Sync-clause-text
returns-in-Sync-clause-text c =
    c.word-in-Sync.ensures.text
    ∙ ap (λ call. c.args.self.now ++ spaced (call_words c.args.names.now call)) (sym c.in-Sync.is)

pub returns-in-Shutdown-clause-text : goal.returns-in-Shutdown-clause-text
returns-in-Shutdown-clause-text c =
    c.word-in-Shutdown.ensures.text
    ∙ ap (λ call. c.args.self.now ++ spaced (call_words c.args.names.now call)) (sym c.in-Shutdown.is)

pub returns-in-Chain-clause-text : goal.returns-in-Chain-clause-text
returns-in-Chain-clause-text c =
    spaced_two _ _ _ _ _ c.word-in-Chain.ensures.text c.name-in-Chain.ensures.text
    ∙ ap (λ call. c.args.self.now ++ spaced (call_words c.args.names.now call)) (sym c.in-Chain.is)
