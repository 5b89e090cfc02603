-- The summary of a run, in numbers.
use Rattle.std.specs.Prelude.{◌≡◌, ℕ, List, [], ◌∷◌, ◌++◌, codes, decimal, slice_index_or}
use Rattle.tt_base.specs.declared.names.NameKind.TheVariants as Named
use Rattle.tt_base.specs.Names.{names_of}
use Rattle.trace_text.specs.Lines.{line}
use Rattle.tt_world.specs.declared.config.ConfigParts.{ConfigParts}
use Rattle.tt_world.specs.Status.{Status, Done, Missed, Shut, status_by}
use Rattle.schedule_check.specs.Windows.{depth_bound, words_bound}
use Rattle.stack_dispatch.specs.declared.report.Report.{Report}
use Rattle.osektime_core.specs.declared.load.Outline.{Outline}

-- the numbers of a run
pub record Summary : Type 0 where
  -- the tick of the last event
  pub ticks : ℕ
  -- the number of the last round that began
  pub rounds : ℕ
  -- how many events there were, and how many of them activated a task
  pub events : ℕ
  pub activations : ℕ
  -- how many activations and time-triggered routines were unfinished at once, at most, and the bound of it
  pub deepest : ℕ
  pub depth_bound : ℕ
  -- how many words of stack these had declared, at most, and the bound of it
  pub words : ℕ
  pub words_bound : ℕ
  -- how it ended
  pub end : Status

-- the line of a number
abbrev pub number_line : (word : List ℕ) → ℕ → List ℕ
number_line word number = line (word ∷ decimal number ∷ [])

-- the line of a number and its bound
abbrev pub bounded_line : (word : List ℕ) → (number bound : ℕ) → List ℕ
bounded_line word number bound = line (word ∷ decimal number ∷ codes "of" ∷ decimal bound ∷ [])

-- how a run ended, by the names of the tasks
abbrev pub end_line : (tasks : List (List ℕ)) → Status → List ℕ
end_line tasks Done = line (codes "end" ∷ codes "last" ∷ codes "round" ∷ [])
end_line tasks (Missed task tick) = line (codes "end" ∷ codes "missed" ∷ slice_index_or tasks task.0 [] ∷ [])
end_line tasks (Shut tick) = line (codes "end" ∷ codes "shutdown" ∷ [])

-- the lines of the summary
unfoldable pub load_text : (tasks : List (List ℕ)) → Summary → List ℕ
load_text tasks summary =
    number_line (codes "ticks") summary.ticks
    ++ (number_line (codes "rounds") summary.rounds
    ++ (number_line (codes "events") summary.events
    ++ (number_line (codes "activations") summary.activations
    ++ (bounded_line (codes "depth") summary.deepest summary.depth_bound
    ++ (bounded_line (codes "words") summary.words summary.words_bound
    ++ end_line tasks summary.end)))))

-- the numbers of a report, and the bounds of its application
abbrev pub summary_by : Report → (depth_bound words_bound : ℕ) → Summary
summary_by report depth_bound words_bound = record {
  ticks = report.ticks;
  rounds = report.rounds;
  events = report.events;
  activations = report.activations;
  deepest = report.deepest;
  depth_bound = depth_bound;
  words = report.words;
  words_bound = words_bound;
  end = status_by report.end report.ticks;
}

-- the names of the tasks of a configuration, and its bounds
pub record IsOutline (c : ConfigParts) (outline : Outline) : Type 0 where
  pub tasks : outline.tasks.items ≡ names_of Named.Task c.names
  pub depth : outline.depth_bound ≡ depth_bound c
  pub words : outline.words_bound ≡ words_bound c
