-- The frames on a stack as two lists, and what each call does to them.
use Rattle.std.specs.Prelude.{◌≡◌, ℕ, ◌+◌, ◌-◌, ◌<◌, ◌≤◌, ◌^◌, ◌⊎◌, Bool, nat_lt, if◌then◌else◌, Option, option_map, option_to_list, List, [], ◌∷◌, ◌++◌, All, AllPairs, Any, length, take, sum_by, slice_get}
use Rattle.tt_base.specs.declared.event.Owner.{Owner}
use Rattle.tt_base.specs.declared.event.Owner.TheVariants as By
use Rattle.tt_base.specs.declared.number.TaskNo.{TaskNo}
use Rattle.tt_base.specs.declared.number.IsrNo.{IsrNo}
use Rattle.task_machine.specs.declared.frame.Frame.{Frame}
use Rattle.run_stack.specs.declared.stack.StackFrame.{StackFrame}
use Rattle.run_stack.specs.declared.top.Top.{Top}

-- the tasks in the order of activation, and the routines by level, the lowest first
pub record Frames : Type 0 where
  pub tasks : List StackFrame
  pub isrs : List StackFrame

abbrev pub task_frame : TaskNo → Frame → ℕ → StackFrame
task_frame task frame words = record { owner = By.Task task; level = 0; words = words; frame = frame }

abbrev pub isr_frame : IsrNo → ℕ → Frame → ℕ → StackFrame
isr_frame isr level frame words = record { owner = By.Isr isr; level = level; words = words; frame = frame }

-- whether a frame has a lower level than this one
abbrev pub is_lower : ℕ → StackFrame → Bool
is_lower level f = nat_lt f.level level

-- ---- one list

-- the last frame
abbrev pub last : List StackFrame → Option StackFrame
last fs = slice_get fs (length fs - 1)

-- all but the last
abbrev pub without_last : List StackFrame → List StackFrame
without_last fs = take (length fs - 1) fs

-- an entry with this frame: it is elsewhere in its body
abbrev pub standing_at : Frame → StackFrame → StackFrame
standing_at frame f = record f { frame = frame }

-- the last one is elsewhere in its body
abbrev pub with_last : Frame → List StackFrame → List StackFrame
with_last frame fs = without_last fs ++ option_to_list (option_map (standing_at frame) (last fs))

-- a frame after those of lower levels
abbrev pub by_level : StackFrame → List StackFrame → List StackFrame
by_level new [] = new ∷ []
by_level new (f ∷ fs) = if is_lower new.level f then f ∷ by_level new fs else new ∷ f ∷ fs

abbrev pub sum_of_words : List StackFrame → ℕ
sum_of_words fs = sum_by (λ f. f.words) fs

-- ---- both lists

-- the first where there is a routine, else the second
abbrev pub by_top : {T : Type 0} → List StackFrame → T → T → T
by_top [] isr task = task
by_top (f ∷ fs) isr task = isr

-- the frame on top
abbrev pub top_of : Frames → Option StackFrame
top_of s = by_top s.isrs (last s.isrs) (last s.tasks)

-- what is seen of it
abbrev pub seen : StackFrame → Top
seen f = record { owner = f.owner; frame = f.frame }

-- an activated task
abbrev pub with_task : StackFrame → Frames → Frames
with_task new s = record { tasks = s.tasks ++ new ∷ []; isrs = s.isrs }

-- an accepted routine
abbrev pub with_isr : StackFrame → Frames → Frames
with_isr new s = record { tasks = s.tasks; isrs = by_level new s.isrs }

-- the top one is elsewhere in its body
abbrev pub with_top : Frame → Frames → Frames
with_top frame s = by_top s.isrs
    (record { tasks = s.tasks; isrs = with_last frame s.isrs })
    (record { tasks = with_last frame s.tasks; isrs = s.isrs })

-- the top one is taken away
abbrev pub popped : Frames → Frames
popped s = by_top s.isrs
    (record { tasks = s.tasks; isrs = without_last s.isrs })
    (record { tasks = without_last s.tasks; isrs = s.isrs })

-- there is a frame of this owner
abbrev pub Holds : Frames → Owner → Type 0
Holds s owner = Any (λ f. f.owner ≡ owner) s.tasks ⊎ Any (λ f. f.owner ≡ owner) s.isrs

-- how many frames there are
abbrev pub depth_of : Frames → ℕ
depth_of s = length s.tasks + length s.isrs

-- the sum of their words
abbrev pub words_of : Frames → ℕ
words_of s = sum_of_words s.tasks + sum_of_words s.isrs

-- ---- what a stack keeps

-- each level is below all later ones
abbrev pub IsByLevel : List StackFrame → Type 0
IsByLevel fs = AllPairs (λ f later. f.level < later.level) fs

abbrev pub AreWords : List StackFrame → Type 0
AreWords fs = All (λ f. f.words ≤ 2 ^ 32 - 1) fs

-- two lists and the sum of their words
pub record IsStack (tasks isrs : List StackFrame) (words : ℕ) : Type 0 where
  pub few_tasks : length tasks ≤ 64
  pub few_isrs : length isrs ≤ 16
  pub by_level : IsByLevel isrs
  pub task_words : AreWords tasks
  pub isr_words : AreWords isrs
  pub sum : words ≡ sum_of_words tasks + sum_of_words isrs
