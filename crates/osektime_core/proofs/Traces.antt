-- What a run puts to a recorder before a sink.
use Rattle.std.proofs.Common.{◌≡◌, ℕ, ◌≤◌, List, [], ◌++◌, Option, ap, sym, ◌∙◌, subst}
use Rattle.std.specs.Io.KnownBytes.{Appends}
use Rattle.std.proofs.KnownBytes.{Appends-trans}
use Rattle.tt_io.specs.Count.{Rose}
use Rattle.tt_io.specs.Known.{AppendsPart}
use Rattle.trace_text.specs.SinkRecorder.{Puts, sink_of, waiting_in}
use Rattle.trace_text.specs.declared.sink_recorder.SinkRecorder.{SinkRecorder}
use Rattle.trace_text.proofs.Sending.{cut_text, noted_text, sent_part, to_sink}
use Rattle.tt_world.specs.Schedule.{schedule}
use Rattle.stack_dispatch.specs.Reports.{Benched, Ran}
use Rattle.stack_dispatch.specs.declared.report.Run.{Run}
use Rattle.stack_dispatch.specs.declared.report.Run.TheVariants.{Ended, Failed}
use Rattle.osektime_core.specs.Runs.{PutsRun}

module _ {O : Type 0} (written : O → Option (List ℕ)) (faults : O → ℕ) (b : Benched) (s t : SinkRecorder O) where
  -- the text of the schedule was put, or cut
  pub puts_run : (run : Run) → Ran (to_sink written faults) b s t run → PutsRun written b.config b.script s t run
  puts_run (Ended report) p =
      (noted_text written faults b.config.names s (schedule b.config b.script) t p.noted, p.reports)
  puts_run Failed p = cut_text written faults b.config.names s (schedule b.config b.script) t p

  -- a run that failed had a fault
  pub run_cause : (run : Run) → Ran (to_sink written faults) b s t run → run ≡ Failed
      → Rose (faults (sink_of s).now) (faults (sink_of t).now)
  run_cause (Ended report) p is = absurd (cc is)
  run_cause Failed p is = p.cause

  -- the count of faults did not fall
  pub run_never_falls : (run : Run) → Ran (to_sink written faults) b s t run
      → faults (sink_of s).now ≤ faults (sink_of t).now
  run_never_falls (Ended report) p = p.noted.never_falls
  run_never_falls Failed p = p.never_falls

module _ {O : Type 0} (written : O → Option (List ℕ)) (s t : SinkRecorder O) (text : List ℕ)
    (before after : Option (List ℕ)) where
  -- a text was put, and what waited was sent
  pub sent_whole : waiting_in s ≡ [] → written (sink_of s).now ≡ before → Puts written s text t
      → Appends (written (sink_of t).now) after (waiting_in t) → Appends before after text
  sent_whole none begun put sent =
      let all = put.passes in
      let same : text ≡ all.sent ++ waiting_in t = ap (λ w. w ++ text) (sym none) ∙ all.split in
      subst (λ a. Appends a after text) begun
      (subst (Appends (written (sink_of s).now) after) (sym same)
      (Appends-trans (written (sink_of s).now) (written (sink_of t).now) after all.sent
      (waiting_in t) all.appended sent))

  -- a text was put, and a part of what waited was sent
  pub sent_some : waiting_in s ≡ [] → written (sink_of s).now ≡ before → Puts written s text t
      → AppendsPart (written (sink_of t).now) after (waiting_in t) → AppendsPart before after text
  sent_some none begun put sent =
      subst (λ a. AppendsPart a after text) begun (sent_part written s t text after none put sent)
