use Rattle.std.proofs.Common.{◌+◌, ◌<◌, rules, length, sym, take-append-drop}
use Rattle.std.proofs.lemmas.List.{take_more}
use Rattle.trace_text.proofs.Recording.{cut_before, cut_then, notes_then}
use Rattle.trace_text.proofs.notes.note_all.Goals as goal

pub loop-event-preserved : goal.loop-event-preserved
loop-event-preserved g c =
    let within : c.loop-event.event-index < length c.args.events.now = search rules in
    notes_then _ (take_more c.args.events.now c.loop-event.event-index _ within) c.loop-event.invariant c.in-Ok.ensures

pub returns-in-Err : goal.returns-in-Err
returns-in-Err g c =
    let within : c.loop-event.event-index < length c.args.events.now = search rules in
    cut_before _ _ (sym (take-append-drop (c.loop-event.event-index + 1) c.args.events.now))
    (cut_then _ (take_more c.args.events.now c.loop-event.event-index _ within) c.loop-event.invariant c.in-Err.ensures)
