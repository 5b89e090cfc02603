-- What a run gives.
use Rattle.std.specs.Prelude.{◌≡◌, ◌≢◌, ◌≤◌, suc, ⊤, true, List, ◌++◌, length, Option, None, Some, if◌then◌else◌}
use Rattle.tt_base.specs.declared.event.Event.{Event}
use Rattle.tt_base.specs.declared.number.TaskNo.{TaskNo}
use Rattle.tt_io.specs.Count.{counted}
use Rattle.tt_world.specs.declared.config.ConfigParts.{ConfigParts}
use Rattle.tt_world.specs.declared.script.ScriptParts.{ScriptParts}
use Rattle.tt_world.specs.declared.world.RunEnd.TheVariants as ending
use Rattle.tt_world.specs.EventLaws.{ActivatesRows, ChecksMonitor, InterruptsWait, OwnersRun}
use Rattle.tt_world.specs.ScriptRules.{IsScript}
use Rattle.tt_world.specs.Schedule.{last_instant, schedule}
use Rattle.tt_world.specs.Status.{last_stamp, status_by, status_of}
use Rattle.round_table.specs.TableRows.{TableRows, tables_of}
use Rattle.schedule_check.specs.Windows.{depth_bound, words_bound}
use Rattle.trace_text.specs.declared.recorder.Recorder.{Ghosts}
use Rattle.trace_text.specs.Records.{CutWithin, Notes}
use Rattle.stack_dispatch.specs.declared.report.Report.{Report}
use Rattle.stack_dispatch.specs.declared.report.Run.{Run}
use Rattle.stack_dispatch.specs.declared.report.Run.TheVariants.{Ended, Failed}
use Rattle.stack_dispatch.specs.declared.run.Last.{Last}
use Rattle.stack_dispatch.specs.First.{first_state}
use Rattle.stack_dispatch.specs.Peaks.{peaks_before}
use Rattle.stack_dispatch.specs.State.{RunState}
use Rattle.tt_world.specs.Load.{activations_in, deepest, last_round, most_words}
use Rattle.stack_dispatch.specs.Told.{Logged, Tells}

-- an application and its script
pub record Benched : Type 0 where
  pub config : ConfigParts
  pub script : ScriptParts

-- the tables and the state before tick 0 are those of an application and its script
pub record IsMade (c : ConfigParts) (s : ScriptParts) (tables : List TableRows) (state : RunState) : Type 0 where
  pub script_is : IsScript c s
  pub tables_are : tables ≡ tables_of c
  pub state_is : state ≡ first_state c s

-- all events of the schedule were reported, and this is how it ends
pub record EndsAll {S : Type 0} (r : Ghosts S) (c : ConfigParts) (s : ScriptParts) (before after : Logged S)
    (last : Last) : Type 0 where
  pub told : Tells r before (schedule c s) after
  pub status : status_by last.end last.tick ≡ status_of (schedule c s)
  pub tick : last.tick ≡ last_stamp (schedule c s)
  pub rounds : last.rounds ≡ last_round (schedule c s)
  pub peaks : last.peaks ≡ peaks_before c s (suc (last_instant c s))

-- a prefix of the events of a schedule was reported, and the log failed within it
pub record FailsWithin {S : Type 0} (r : Ghosts S) (before : Logged S) (events : List Event)
    (after : Logged S) : Type 0 where
  pub front : List Event
  pub rest : List Event
  pub split : events ≡ front ++ rest
  pub told : Tells r before front after
  pub failed : after.failed ≡ true

-- the report of the run of a configuration and a script: how its schedule ends, the stamp of the last event, the
-- number of the last round, how many events and activations there are, and how deep the stack was
pub record Reports (c : ConfigParts) (s : ScriptParts) (report : Report) : Type 0 where
  pub status : status_by report.end report.ticks ≡ status_of (schedule c s)
  pub ticks : report.ticks ≡ last_stamp (schedule c s)
  pub rounds : report.rounds ≡ last_round (schedule c s)
  pub events_are : report.events ≡ counted 0 (length (schedule c s))
  pub activations_are : report.activations ≡ counted 0 (activations_in (schedule c s))
  pub deepest_is : report.deepest ≡ deepest c s
  pub words_are : report.words ≡ most_words c s

-- the recorder noted the events of the schedule, and this is the report of the run
pub record EndedRun {S : Type 0} (r : Ghosts S) (b : Benched) (before after : S) (report : Report) : Type 0 where
  pub noted : Notes r b.config.names before (schedule b.config b.script) after
  pub reports : Reports b.config b.script report

-- by the run's answer: the recorder noted the schedule, and this is its report, or it was cut within the schedule
abbrev pub Ran : {S : Type 0} → Ghosts S → Benched → S → S → Run → Type 0
Ran r b before after (Ended report) = EndedRun r b before after report
Ran r b before after Failed = CutWithin r b.config.names before (schedule b.config b.script) after

-- a fact of the report, where there is one
abbrev pub OnEnded : Run → (Report → Type 0) → Type 0
OnEnded (Ended report) P = P report
OnEnded Failed P = ⊤

-- the depth and the words of a report are at most the bounds of the configuration
pub record IsWithinBounds (c : ConfigParts) (report : Report) : Type 0 where
  pub depth : report.deepest ≤ depth_bound c
  pub words : report.words ≤ words_bound c

-- the laws that are read from the events alone: the activations of each round are those of its mode; the owner of each
-- tick is the one whom the order of the standard names, also in idle time; each check comes at its point; and each
-- acceptance of an interrupt has its arrival and its enable
pub record KeepsLaws (c : ConfigParts) (events : List Event) : Type 0 where
  pub activations : ActivatesRows c events
  pub owners : OwnersRun c events
  pub checks : ChecksMonitor c events
  pub interrupts : InterruptsWait c events

-- it did not end by a missed deadline
abbrev pub IsNotMissed : Run → Type 0
IsNotMissed run = OnEnded run (λ report. (task : TaskNo) → report.end ≢ ending.Missed task)

-- the answer of a run with this end, if it ended, and with this log
abbrev pub answered : {S : Type 0} → Option Last → Logged S → Run
answered None log = Failed
answered (Some last) log = if log.failed then Failed
    else Ended (record {
      ticks = last.tick;
      rounds = last.rounds;
      events = log.events;
      activations = log.activations;
      deepest = last.peaks.deepest;
      words = last.peaks.words;
      end = last.end;
    })
