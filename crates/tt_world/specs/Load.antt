-- The numbers of a run: its last round, its activations, and how deep its preemption stack was.
use Rattle.std.specs.Prelude.{ℕ, zero, suc, ◌+◌, max, not, Bool, true, false, List, [], ◌∷◌, length, filter, if◌then◌else◌, slice_index_or}
use Rattle.std.specs.List.{count_by, sum_by}
use Rattle.task_lang.specs.declared.syntax.Stmt.{Stmt}
use Rattle.tt_base.specs.declared.event.Event.{Event}
use Rattle.tt_base.specs.declared.event.Event.TheVariants.{Activate, Round}
use Rattle.tt_world.specs.declared.config.ConfigParts.{ConfigParts}
use Rattle.tt_world.specs.declared.config.ModeDef.{ModeDef}
use Rattle.tt_world.specs.declared.script.ScriptParts.{ScriptParts}
use Rattle.tt_world.specs.World.{World, Job}
use Rattle.tt_world.specs.Rows.{mode_of, no_isr, no_task, row_of}
use Rattle.tt_world.specs.Runners.{is_done, unfinished}
use Rattle.tt_world.specs.Moved.{Moved, is_over}
use Rattle.tt_world.specs.Opening.{opening}
use Rattle.tt_world.specs.Schedule.{last_instant, world_at}

-- ---- from the events

-- whether an event is an activation
abbrev pub is_activation : Event → Bool
is_activation (Activate at task) = true
is_activation event = false

-- how many of some events are activations
abbrev pub activations_in : List Event → ℕ
activations_in events = length (filter is_activation events)

-- the number of the last round that begins in some events; this one where none does
abbrev pub round_after : ℕ → List Event → ℕ
round_after number [] = number
round_after number (Round at next mode ∷ rest) = round_after next rest
round_after number (event ∷ rest) = round_after number rest

-- the number of the last round that began, 0 where none did
abbrev pub last_round : List Event → ℕ
last_round events = round_after 0 events

-- ---- the depth of an instant

-- how many activations have statements left
abbrev pub count_unfinished : List Job → ℕ
count_unfinished jobs = count_by (λ (job : Job). not (is_done job.left)) jobs

-- how many routines have statements left
abbrev pub count_left : List (List Stmt) → ℕ
count_left lefts = count_by (λ (left : List Stmt). not (is_done left)) lefts

-- how many activations and time-triggered routines are unfinished
abbrev pub depth_of : World → ℕ
depth_of w = count_unfinished w.jobs + count_left w.isrs

-- the declared words of stack of an activation that is unfinished, and none where it has ended
abbrev pub job_words : ConfigParts → ModeDef → Job → ℕ
job_words c mode job =
    if is_done job.left then 0 else (slice_index_or c.tasks (row_of mode job.entry).task.0 no_task).stack

-- the declared words of stack of a routine
abbrev pub isr_words : ConfigParts → ℕ → ℕ
isr_words c isr = (slice_index_or c.isrs isr no_isr).stack

-- the words of some activations and of the routines that have these statements left
abbrev pub words_in : ConfigParts → ModeDef → List Job → List (List Stmt) → ℕ
words_in c mode jobs isrs = sum_by (job_words c mode) jobs + sum_by (isr_words c) (unfinished isrs)

-- the words of all that are unfinished
abbrev pub words_of : ConfigParts → World → ℕ
words_of c w = words_in c (mode_of c w) w.jobs w.isrs

-- ---- the greatest of a run

-- a number of the world after an opening, where the instant takes a tick, else 0
abbrev pub in_tick : (World → ℕ) → Moved → ℕ
in_tick number opened = if is_over opened.end then 0 else number opened.world

-- the greatest value of a number of the world, after those openings of the instants before n whose instant takes a tick
unfoldable pub most_before : (World → ℕ) → ConfigParts → ScriptParts → ℕ → ℕ
most_before number c s zero = 0
most_before number c s (suc n) = max (most_before number c s n) (in_tick number (opening c s (world_at c s n)))

-- the greatest depth of a schedule
abbrev pub deepest : ConfigParts → ScriptParts → ℕ
deepest c s = most_before depth_of c s (suc (last_instant c s))

-- the most words of a schedule
abbrev pub most_words : ConfigParts → ScriptParts → ℕ
most_words c s = most_before (words_of c) c s (suc (last_instant c s))
