-- The activations of a round and the time-triggered routines: what is left of each, and who of them runs.
use Rattle.std.specs.Prelude.{ℕ, ◌+◌, List, [], ◌∷◌, ◌++◌, length, Option, None, Some, if◌then◌else◌, unwrap_or, option_map, slice_index_or, slice_set, sum_by}
use Rattle.task_lang.specs.declared.syntax.Stmt.{Stmt}
use Rattle.task_machine.specs.Standing.{body_of}
use Rattle.tt_world.specs.declared.world.Runner.{Runner}
use Rattle.tt_world.specs.declared.world.Runner.TheVariants.{Isr, Nobody}
use Rattle.tt_world.specs.declared.world.Runner.TheVariants as runner
use Rattle.tt_world.specs.Load.{count_left, count_unfinished}
use Rattle.tt_world.specs.World.{Job}
use Rattle.tt_world.specs.Runners.{is_done, job_at, with_left, unfinished, highest, last_unfinished}
use Rattle.tt_stack.specs.Words.{Words, entry_words, routine_words}

pub record Stacked : Type 0 where
  -- the bodies by program number, the number of the program of the first routine, and the levels of the routines: these
  -- never change
  pub codes : List (List Stmt)
  pub first : ℕ
  pub levels : List ℕ
  -- the declared words of stack, and the mode of the present round
  pub words : Words
  -- all activations of the present round, in their order
  pub jobs : List Job
  -- what is left of each routine; nothing where it is finished
  pub isrs : List (List Stmt)

-- ---- what a call makes of them

-- one more activation, of which this is left
abbrev pub with_job : List Stmt → Stacked → Stacked
with_job left s = record s { jobs = s.jobs ++ record { entry = length s.jobs; left = left } ∷ [] }

-- this is left of a routine
abbrev pub with_isr : ℕ → List Stmt → Stacked → Stacked
with_isr isr left s = record s { isrs = slice_set s.isrs isr left }

-- the body of a routine
abbrev pub isr_body : Stacked → ℕ → List Stmt
isr_body s isr = body_of s.codes (s.first + isr)

-- ---- who runs

-- the unfinished routine of the highest level
abbrev pub isr_runner : Stacked → Option Runner
isr_runner s = option_map (λ (number : ℕ). Isr (record { 0 = number })) (highest s.levels (unfinished s.isrs))

-- the last activation that has statements left
abbrev pub task_runner : Stacked → Option Runner
task_runner s = option_map (λ (place : ℕ). runner.Job place) (last_unfinished 0 s.jobs)

-- the first, if there is one, else the second
abbrev pub first_of : Option Runner → Option Runner → Option Runner
first_of None other = other
first_of (Some one) other = Some one

-- who of them runs, if one does
abbrev pub runner_in : Stacked → Option Runner
runner_in s = first_of (isr_runner s) (task_runner s)

-- who of them runs, or nobody
abbrev pub running : Stacked → Runner
running s = unwrap_or (runner_in s) Nobody

-- what is left of a runner
abbrev pub left_in : Stacked → Runner → List Stmt
left_in s (Isr isr) = slice_index_or s.isrs isr.0 []
left_in s (runner.Job place) = (job_at s.jobs place).left
left_in s _ = []

-- now this is left of a runner; all others stay
abbrev pub leaving_in : Stacked → Runner → List Stmt → Stacked
leaving_in s (Isr isr) left = with_isr isr.0 left s
leaving_in s (runner.Job place) left = record s { jobs = with_left s.jobs place left }
leaving_in s _ left = s

-- ---- how many are unfinished

-- how many activations and routines
abbrev pub depth_in : Stacked → ℕ
depth_in s = count_unfinished s.jobs + count_left s.isrs

-- ---- their words of stack

-- the words of an activation that is unfinished, and none where it has ended
abbrev pub job_words : Words → Job → ℕ
job_words words job = if is_done job.left then 0 else entry_words words job.entry

-- the words of all that are unfinished
abbrev pub words_in : Stacked → ℕ
words_in s = sum_by (job_words s.words) s.jobs + sum_by (routine_words s.words) (unfinished s.isrs)
