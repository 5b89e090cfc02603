use Rattle.trace_text.proofs.Recording.{cut_event}
use Rattle.trace_text.proofs.notes.note_one.Goals as goal

pub returns-in-Failed : goal.returns-in-Failed
returns-in-Failed g c =
    cut_event g.R.Recorder _ _ c.args.event.now _ c.in-Failed.ensures.cut c.in-Failed.ensures.cause
    c.in-Failed.ensures.never_falls
