-- What contracts see of a recorder that writes to a sink, and what its notes do.
use Rattle.std.specs.Prelude.{◌≡◌, ℕ, Bool, false, not, Option, List, ◌++◌}
use Rattle.std.specs.Borrow.{MutBor}
use Rattle.tt_io.specs.Known.{AppendsPart}
use Rattle.tt_io.specs.Passes.{Passes}
use Rattle.trace_text.specs.declared.sink_recorder.SinkRecorder.{SinkRecorder}

-- the sink that it borrows
abbrev pub sink_of : {O : Type 0} → SinkRecorder O → MutBor O
sink_of r = r.sink

-- the bytes that wait for the sink
abbrev pub waiting_in : {O : Type 0} → SinkRecorder O → List ℕ
waiting_in r = r.waiting

-- whether it takes an event: no note has failed
abbrev pub takes : {O : Type 0} → SinkRecorder O → Bool
takes r = not r.failed

-- the recorder after the call borrows the same sink as before it
abbrev pub SameSink : {O : Type 0} → SinkRecorder O → SinkRecorder O → Type 0
SameSink before after = (sink_of after).ghost_name ≡ (sink_of before).ghost_name

-- a text was added to what waited: a prefix of both was appended to the sink, if it says what it took; the rest waits
pub record Puts {O : Type 0} (written : O → Option (List ℕ)) (before : SinkRecorder O) (text : List ℕ)
    (after : SinkRecorder O)
    : Type 0 where
  pub passes : Passes (written (sink_of before).now) (written (sink_of after).now) (waiting_in before ++ text)
      (waiting_in after)
  pub same_sink : SameSink before after

-- a text was added to what waited: a proper prefix of both was appended to the sink, if it says what it took
pub record Cuts {O : Type 0} (written : O → Option (List ℕ)) (before : SinkRecorder O) (text : List ℕ)
    (after : SinkRecorder O)
    : Type 0 where
  pub part : AppendsPart (written (sink_of before).now) (written (sink_of after).now) (waiting_in before ++ text)
  pub same_sink : SameSink before after
  pub over : takes after ≡ false
