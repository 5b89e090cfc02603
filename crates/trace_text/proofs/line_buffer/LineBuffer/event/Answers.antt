use Rattle.std.proofs.Common.{◌++◌, ap, sym, ◌∙◌}
use Rattle.trace_text.specs.Lines.{line_of}
use Rattle.trace_text.proofs.line_buffer.LineBuffer.event.Goals as goal

pub returns-in-ErrorHook-clause-line : goal.returns-in-ErrorHook-clause-line
unfolding line_of
returns-in-ErrorHook-clause-line c = c.with_name-in-ErrorHook.ensures.line
    ∙ ap (λ event. c.args.self.now ++ line_of c.args.names.now event) (sym c.in-ErrorHook.is)
