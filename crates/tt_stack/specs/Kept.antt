-- What the frames on the stack stand for, and what they keep.
use Rattle.std.specs.Prelude.{◌≡◌, ◌≢◌, ℕ, ◌+◌, ◌-◌, ◌≤◌, ◌<◌, true, List, [], ◌∷◌, length, map, replicate, take, Option, Some, option_map, All, AllPairs, slice_index_or, slice_set}
use Rattle.std.specs.List.{zip}
use Rattle.tt_base.specs.declared.event.Owner.{Owner}
use Rattle.tt_base.specs.declared.event.Owner.TheVariants as By
use Rattle.tt_base.specs.declared.number.TaskNo.{TaskNo}
use Rattle.tt_base.specs.declared.number.IsrNo.{IsrNo}
use Rattle.task_lang.specs.declared.syntax.Stmt.{Stmt}
use Rattle.task_machine.specs.Standing.{left_of, IsSound}
use Rattle.run_stack.specs.Frames.{Frames, IsByLevel}
use Rattle.run_stack.specs.declared.stack.StackFrame.{StackFrame}
use Rattle.tt_world.specs.ConfigRules.{are_distinct}
use Rattle.tt_world.specs.World.{Job}
use Rattle.tt_world.specs.declared.world.Runner.{Runner}
use Rattle.tt_world.specs.declared.world.Runner.TheVariants as runner
use Rattle.tt_stack.specs.Stacked.{Stacked}
use Rattle.tt_stack.specs.Words.{Words, entry_words, routine_words}

-- ---- what is left of each number

-- a number, and what is left of it
abbrev pub Left : Type 0
Left = ℕ × List Stmt

-- a list after what is left of each of these numbers was written into it, one after another
abbrev pub written : List (List Stmt) → List Left → List (List Stmt)
written lefts [] = lefts
written lefts (one ∷ rest) = written (slice_set lefts one.0 one.1) rest

-- nothing is left of any of the first n but these
abbrev pub lefts_of : ℕ → List Left → List (List Stmt)
lefts_of count given = written (replicate count []) given

-- the activations of which this is left, with entry numbers from one on
abbrev pub jobs_from : ℕ → List (List Stmt) → List Job
jobs_from entry [] = []
jobs_from entry (left ∷ rest) = record { entry = entry; left = left } ∷ jobs_from (entry + 1) rest

-- ---- frames

-- the number of the routine of a frame
abbrev pub routine_number : Owner → ℕ
routine_number (By.Isr isr) = isr.0
routine_number _ = 0

-- what is left of the routine of a frame
abbrev pub routine_left : List (List Stmt) → StackFrame → Left
routine_left codes f = (routine_number f.owner, left_of codes f.frame)

abbrev pub routine_lefts : List (List Stmt) → List StackFrame → List Left
routine_lefts codes fs = map (routine_left codes) fs

abbrev pub bodies_left : List (List Stmt) → List StackFrame → List (List Stmt)
bodies_left codes fs = map (λ (f : StackFrame). left_of codes f.frame) fs

-- what is left of the activations of these entries
abbrev pub task_lefts : List (List Stmt) → List ℕ → List StackFrame → List Left
task_lefts codes entries fs = zip entries (bodies_left codes fs)

abbrev pub stacked : List (List Stmt) → ℕ → List ℕ → Words → Frames → List ℕ → ℕ → Stacked
stacked codes first levels words frames entries reached = record {
  codes = codes;
  first = first;
  levels = levels;
  words = words;
  jobs = jobs_from 0 (lefts_of reached (task_lefts codes entries frames.tasks));
  isrs = lefts_of (length levels) (routine_lefts codes frames.isrs);
}

-- ---- the top

-- who runs, where the frame on top has this owner and the last entry is this one
abbrev pub runner_for : Owner → Option ℕ → Option Runner
runner_for (By.Isr isr) last = Some (runner.Isr isr)
runner_for _ last = option_map (λ (place : ℕ). runner.Job place) last

-- the entries after a frame of this owner was taken off
abbrev pub entries_after : Owner → List ℕ → List ℕ
entries_after (By.Isr isr) entries = entries
entries_after _ entries = take (length entries - 1) entries

-- ---- what is kept

-- The frame is one of these codes, and something is left of it.
pub record IsOn (codes : List (List Stmt)) (f : StackFrame) : Type 0 where
  pub sound : IsSound codes f.frame
  pub some : left_of codes f.frame ≢ []

-- a frame of a task
pub record IsOfTask (codes : List (List Stmt)) (f : StackFrame) : Type 0 where
  pub on : IsOn codes f
  pub task : TaskNo
  pub owner : f.owner ≡ By.Task task

-- a frame of a routine that has this level
pub record IsOfRoutine (codes : List (List Stmt)) (levels : List ℕ) (f : StackFrame) : Type 0 where
  pub on : IsOn codes f
  pub isr : IsrNo
  pub owner : f.owner ≡ By.Isr isr
  pub exists : isr.0 < length levels
  pub level : f.level ≡ slice_index_or levels isr.0 0

-- each entry is below all later ones
abbrev pub DoAscend : List ℕ → Type 0
DoAscend entries = AllPairs (λ entry later. entry < later) entries

-- The codes of the routines are there, and their levels are distinct. Each frame on the stack has statements left, and
-- each frame of a routine has the routine's level. The frames of tasks are those of the entries, which ascend. Each
-- frame has the declared words of its entry or routine.
pub record AreKept (codes : List (List Stmt)) (first : ℕ) (levels : List ℕ) (words : Words) (frames : Frames)
    (entries : List ℕ) (reached : ℕ) : Type 0 where
  pub enough : first + length levels ≤ length codes
  pub distinct : are_distinct levels ≡ true
  pub tasks : All (IsOfTask codes) frames.tasks
  pub isrs : All (IsOfRoutine codes levels) frames.isrs
  pub by_level : IsByLevel frames.isrs
  pub as_many : length entries ≡ length frames.tasks
  pub ascend : DoAscend entries
  pub in_count : All (λ entry. entry < reached) entries
  pub task_words : map (λ (f : StackFrame). f.words) frames.tasks ≡ map (entry_words words) entries
  pub isr_words : All (λ (f : StackFrame). f.words ≡ routine_words words (routine_number f.owner)) frames.isrs
