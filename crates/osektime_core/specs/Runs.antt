-- What a run puts to a recorder before a sink.
use Rattle.std.specs.Prelude.{ℕ, Option, List}
use Rattle.trace_text.specs.Lines.{text_of}
use Rattle.trace_text.specs.SinkRecorder.{Cuts, Puts}
use Rattle.trace_text.specs.declared.sink_recorder.SinkRecorder.{SinkRecorder}
use Rattle.tt_world.specs.declared.config.ConfigParts.{ConfigParts}
use Rattle.tt_world.specs.declared.script.ScriptParts.{ScriptParts}
use Rattle.tt_world.specs.Schedule.{schedule}
use Rattle.stack_dispatch.specs.Reports.{Reports}
use Rattle.stack_dispatch.specs.declared.report.Run.{Run}
use Rattle.stack_dispatch.specs.declared.report.Run.TheVariants.{Ended, Failed}

-- by its answer: the text of the schedule was put, and this is the report of the run; or the text was cut
abbrev pub PutsRun : {O : Type 0} → (O → Option (List ℕ)) → ConfigParts → ScriptParts → SinkRecorder O → SinkRecorder O
    → Run → Type 0
PutsRun written c s before after (Ended report) =
    Puts written before (text_of c.names (schedule c s)) after × Reports c s report
PutsRun written c s before after Failed = Cuts written before (text_of c.names (schedule c s)) after
