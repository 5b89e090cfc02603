-- Who runs, and what each call makes of the stack.
use Rattle.std.proofs.Common.{◌≡◌, ◌≢◌, ℕ, ◌+◌, ◌-◌, ◌<◌, List, [], ◌∷◌, ◌++◌, length, take, Option, None, Some, refl, sym, ap, ◌∙◌, subst, arith, IsSome}
use Rattle.std.specs.Prelude.{map, option_map, slice_get, slice_set}
use Rattle.std.proofs.Math.Seq.{take-append_seam}
use Rattle.std.proofs.lemmas.List.{length-append, get_or-set_same, set-set}
use Rattle.std.proofs.lemmas.List.Elements.{All-push}
use Rattle.std.proofs.lemmas.List.Quantifiers.{all_pairs_push}
use Rattle.task_lang.specs.declared.syntax.Stmt.{Stmt}
use Rattle.task_machine.specs.declared.frame.Frame.{Frame}
use Rattle.task_machine.specs.Standing.{left_of, IsSound}
use Rattle.run_stack.specs.declared.stack.StackFrame.{StackFrame}
use Rattle.run_stack.specs.declared.top.Top.{Top}
use Rattle.run_stack.specs.Frames.{Frames, by_top, depth_of, popped, seen, standing_at, top_of, with_top}
use Rattle.run_stack.proofs.Lists.{All-front, All-last, AllPairs-front, AllPairs-last, ends, last_is, with_last_is, without_last_is}
use Rattle.tt_world.specs.declared.world.Runner.{Runner}
use Rattle.tt_world.specs.declared.world.Runner.TheVariants as runner
use Rattle.tt_world.specs.World.{Job}
use Rattle.tt_world.specs.Runners.{with_left}
use Rattle.tt_stack.specs.Stacked.{Stacked, first_of, runner_in, task_runner, left_in, leaving_in}
use Rattle.tt_stack.specs.Kept.{lefts_of, jobs_from, routine_number, task_lefts, stacked, runner_for, entries_after, AreKept, IsOfTask, IsOfRoutine}
use Rattle.tt_stack.proofs.Frames.{entries_apart, isr_gone, isr_left, isr_moved, isr_none, isr_top, isrs_of, task_none, task_top, tasks_push}
use Rattle.tt_stack.specs.Words.{Words, entry_words, routine_words}
use Rattle.tt_stack.proofs.Jobs.{job_left, jobs_set}
use Rattle.tt_stack.proofs.Pairs.{map-push}
use Rattle.tt_stack.proofs.Written.{at, IsNotIn, gone, length-lefts_of}

-- the frames of tasks and those of routines
abbrev pub frames_of : List StackFrame → List StackFrame → Frames
frames_of tasks isrs = record { tasks = tasks; isrs = isrs }

-- what is on top
pub data Shape : Frames → List ℕ → Type 0 where
  Empty : Shape (frames_of [] []) []
  Task_on_top : (front : List StackFrame) (f : StackFrame) (before : List ℕ) (e : ℕ) → length before ≡ length front
      → Shape (frames_of (front ++ f ∷ []) []) (before ++ e ∷ [])
  Isr_on_top : (tasks front : List StackFrame) (f : StackFrame) (entries : List ℕ)
      → Shape (frames_of tasks (front ++ f ∷ [])) entries

shape_of : (tasks isrs : List StackFrame) (entries : List ℕ) → length entries ≡ length tasks
    → Shape (frames_of tasks isrs) entries
shape_of tasks (x ∷ xs) entries same =
    let (front, f, is) = ends x xs in
    subst (λ isrs. Shape (frames_of tasks isrs) entries) (sym is) (Isr_on_top tasks front f entries)
shape_of [] [] [] same = Empty
shape_of [] [] (n ∷ ns) same = absurd (omega arith)
shape_of (x ∷ xs) [] [] same = absurd (omega arith)
shape_of (x ∷ xs) [] (n ∷ ns) same =
    let (front, f, is) = ends x xs in
    let (before, e, so) = ends n ns in
    let a : length (x ∷ xs) ≡ length front + 1 = ap length is ∙ length-append front (f ∷ []) in
    let b : length (n ∷ ns) ≡ length before + 1 = ap length so ∙ length-append before (e ∷ []) in
    subst (λ tasks. Shape (frames_of tasks []) (n ∷ ns)) (sym is)
    (subst (λ entries. Shape (frames_of (front ++ f ∷ []) []) entries) (sym so)
    (Task_on_top front f before e (omega (arith, same, a, b))))

-- each stack with as many entries as frames of tasks has one of these shapes
pub shape : (s : Frames) (entries : List ℕ) → length entries ≡ length s.tasks → Shape s entries
shape s entries same = shape_of s.tasks s.isrs entries same

-- ---- a routine on top

top_some : {T : Type 0} (front : List StackFrame) (f : StackFrame) (a b : T) → by_top (front ++ f ∷ []) a b ≡ a
top_some [] f a b = refl
top_some (x ∷ xs) f a b = refl

last_entry : (before : List ℕ) (e : ℕ) → slice_get (before ++ e ∷ []) (length (before ++ e ∷ []) - 1) ≡ Some e
last_entry before e =
    let same : length (before ++ e ∷ []) - 1 ≡ length before = omega (arith, length-append before (e ∷ [])) in
    ap (slice_get (before ++ e ∷ [])) same ∙ at_seam before
  where
    at_seam : (xs : List ℕ) → slice_get (xs ++ e ∷ []) (length xs) ≡ Some e
    at_seam [] = refl
    at_seam (x ∷ xs) = at_seam xs

without_entry : (before : List ℕ) (e : ℕ) → take (length (before ++ e ∷ []) - 1) (before ++ e ∷ []) ≡ before
without_entry before e =
    let same : length (before ++ e ∷ []) - 1 ≡ length before = omega (arith, length-append before (e ∷ [])) in
    ap (λ n. take n (before ++ e ∷ [])) same ∙ take-append_seam before (e ∷ [])

-- two lists that are the same with one more item each are the same without it
fronts_same : (xs ys : List ℕ) (x y : ℕ) → xs ++ x ∷ [] ≡ ys ++ y ∷ [] → xs ≡ ys
fronts_same xs ys x y same =
    sym (without_entry xs x) ∙ ap (λ (l : List ℕ). take (length l - 1) l) same ∙ without_entry ys y

-- the words of a frame
abbrev pub words_of_frame : StackFrame → ℕ
words_of_frame f = f.words

-- a frame of a routine has the words of the routine
abbrev pub HasRoutineWords : Words → StackFrame → Type 0
HasRoutineWords words f = f.words ≡ routine_words words (routine_number f.owner)

module _ (codes : List (List Stmt)) (first : ℕ) (levels : List ℕ) (words : Words) (reached : ℕ) where
  -- what contracts see of the frames and the entries
  abbrev pub view : Frames → List ℕ → Stacked
  view s entries = stacked codes first levels words s entries reached

  -- the invariant of the frames and the entries
  abbrev pub Kept : Frames → List ℕ → Type 0
  Kept s entries = AreKept codes first levels words s entries reached

  -- the activations that the frames of tasks stand for
  abbrev pub jobs_of : List StackFrame → List ℕ → List Job
  jobs_of tasks entries = jobs_from 0 (lefts_of reached (task_lefts codes entries tasks))

  -- what the frame on top stands for, and what becomes of the stack when it moves or ends
  pub record Running (s : Frames) (entries : List ℕ) (top : Top) : Type 0 where
    pub who : Runner
    pub is : runner_in (view s entries) ≡ Some who
    pub code : runner_for top.owner (slice_get entries (length entries - 1)) ≡ Some who
    pub sound : IsSound codes top.frame
    pub some : left_of codes top.frame ≢ []
    pub left : left_of codes top.frame ≡ left_in (view s entries) who
    pub deep : 0 < depth_of s
    pub moved_kept : (frame : Frame) → IsSound codes frame → left_of codes frame ≢ [] → Kept (with_top frame s) entries
    pub moved : (frame : Frame) → view (with_top frame s) entries
        ≡ leaving_in (view s entries) who (left_of codes frame)
    pub ended_kept : Kept (popped s) (entries_after top.owner entries)
    pub ended : view (popped s) (entries_after top.owner entries) ≡ leaving_in (view s entries) who []

  -- ---- a routine runs

  module _ (tasks front : List StackFrame) (f : StackFrame) (entries : List ℕ)
      (k : Kept (frames_of tasks (front ++ f ∷ [])) entries) where
    the_routine : IsOfRoutine codes levels f
    the_routine = All-last (IsOfRoutine codes levels) front f k.isrs

    with_isrs : List (List Stmt) → Stacked
    with_isrs isrs = record {
      codes = codes;
      first = first;
      levels = levels;
      words = words;
      jobs = jobs_of tasks entries;
      isrs = isrs;
    }

    isr_moved_is : (frame : Frame) → with_top frame (frames_of tasks (front ++ f ∷ []))
        ≡ frames_of tasks (front ++ standing_at frame f ∷ [])
    isr_moved_is frame = top_some front f _ _ ∙ ap (frames_of tasks) (with_last_is frame front f)

    isr_popped_is : popped (frames_of tasks (front ++ f ∷ [])) ≡ frames_of tasks front
    isr_popped_is = top_some front f _ _ ∙ ap (frames_of tasks) (without_last_is front f)

    moved_isr_kept : (frame : Frame) → IsSound codes frame → left_of codes frame ≢ []
        → Kept (frames_of tasks (front ++ standing_at frame f ∷ [])) entries
    moved_isr_kept frame sound some = record {
      enough = k.enough;
      distinct = k.distinct;
      tasks = k.tasks;
      isrs = All-push (IsOfRoutine codes levels) front (standing_at frame f)
          (All-front (IsOfRoutine codes levels) front (f ∷ []) k.isrs)
          (record {
            on = record { sound = sound; some = some };
            isr = the_routine.isr;
            owner = the_routine.owner;
            exists = the_routine.exists;
            level = the_routine.level;
          });
      by_level = all_pairs_push (λ (a b : StackFrame). a.level < b.level) front (standing_at frame f)
          (AllPairs-front (λ (a b : StackFrame). a.level < b.level) front (f ∷ []) k.by_level)
          (AllPairs-last (λ (a b : StackFrame). a.level < b.level) front f k.by_level);
      as_many = k.as_many;
      ascend = k.ascend;
      in_count = k.in_count;
      task_words = k.task_words;
      isr_words = All-push (HasRoutineWords words) front (standing_at frame f)
          (All-front (HasRoutineWords words) front (f ∷ []) k.isr_words)
          (All-last (HasRoutineWords words) front f k.isr_words);
    }

    popped_isr_kept : Kept (frames_of tasks front) entries
    popped_isr_kept = record {
      enough = k.enough;
      distinct = k.distinct;
      tasks = k.tasks;
      isrs = All-front (IsOfRoutine codes levels) front (f ∷ []) k.isrs;
      by_level = AllPairs-front (λ (a b : StackFrame). a.level < b.level) front (f ∷ []) k.by_level;
      as_many = k.as_many;
      ascend = k.ascend;
      in_count = k.in_count;
      task_words = k.task_words;
      isr_words = All-front (HasRoutineWords words) front (f ∷ []) k.isr_words;
    }

    running_isr : Running (frames_of tasks (front ++ f ∷ [])) entries (seen f)
    unfolding with_isrs
    running_isr = record {
      who = runner.Isr (record { 0 = routine_number f.owner });
      is = ap (λ o. first_of (option_map (λ (n : ℕ). runner.Isr (record { 0 = n })) o)
          (task_runner (view (frames_of tasks (front ++ f ∷ [])) entries)))
          (isr_top codes levels front f k.isrs k.by_level);
      code = ap (λ o. runner_for o (slice_get entries (length entries - 1))) the_routine.owner
          ∙ ap (λ o. Some (runner.Isr (record { 0 = routine_number o }))) (sym the_routine.owner);
      sound = the_routine.on.sound;
      some = the_routine.on.some;
      left = sym (isr_left codes levels front f k.isrs k.by_level);
      deep = omega (arith, length-append front (f ∷ []));
      moved_kept =
          λ frame sound some. subst (λ s. Kept s entries) (sym (isr_moved_is frame)) (moved_isr_kept frame sound some);
      moved = λ frame. ap (λ s. view s entries) (isr_moved_is frame)
          ∙ ap with_isrs (isr_moved codes levels front f k.isrs k.by_level (standing_at frame f) refl);
      ended_kept = subst (λ s. Kept s (entries_after f.owner entries)) (sym isr_popped_is)
          (subst (λ o. Kept (frames_of tasks front) (entries_after o entries)) (sym the_routine.owner) popped_isr_kept);
      ended = ap (λ s. view s (entries_after f.owner entries)) isr_popped_is
          ∙ ap (λ o. view (frames_of tasks front) (entries_after o entries)) the_routine.owner
          ∙ ap with_isrs (isr_gone codes levels front f k.isrs k.by_level);
    }

  -- ---- an activation runs

  module _ (front : List StackFrame) (f : StackFrame) (before : List ℕ) (e : ℕ) (same : length before ≡ length front)
      (k : Kept (frames_of (front ++ f ∷ []) []) (before ++ e ∷ [])) where
    the_task : IsOfTask codes f
    the_task = All-last (IsOfTask codes) front f k.tasks

    below : e < reached
    below = All-last (λ (n : ℕ). n < reached) before e k.in_count

    with_jobs : List Job → Stacked
    with_jobs jobs = record {
      codes = codes;
      first = first;
      levels = levels;
      words = words;
      jobs = jobs;
      isrs = isrs_of codes levels [];
    }

    lefts_before : List (List Stmt)
    lefts_before = lefts_of reached (task_lefts codes before front)

    apart : IsNotIn e (task_lefts codes before front)
    apart = entries_apart codes before e front k.ascend

    push_is : (g : StackFrame) → jobs_of (front ++ g ∷ []) (before ++ e ∷ [])
        ≡ jobs_from 0 (slice_set lefts_before e (left_of codes g.frame))
    unfolding lefts_before
    push_is g = ap (λ (l : List (List Stmt)). jobs_from 0 l) (tasks_push codes reached before e front g same)

    -- what was left is written over
    over : (left : List Stmt) → jobs_from 0 (slice_set (slice_set lefts_before e (left_of codes f.frame)) e left)
        ≡ with_left (jobs_of (front ++ f ∷ []) (before ++ e ∷ [])) e left
    over left =
        jobs_set 0 (slice_set lefts_before e (left_of codes f.frame)) e left
        ∙ ap (λ (js : List Job). with_left js e left) (sym (push_is f))

    moved_jobs : (g : StackFrame) → jobs_of (front ++ g ∷ []) (before ++ e ∷ [])
        ≡ with_left (jobs_of (front ++ f ∷ []) (before ++ e ∷ [])) e (left_of codes g.frame)
    moved_jobs g =
        push_is g
        ∙ ap (λ (l : List (List Stmt)). jobs_from 0 l)
        (sym (set-set lefts_before e (left_of codes f.frame) (left_of codes g.frame)))
        ∙ over (left_of codes g.frame)

    ended_jobs : jobs_of front before ≡ with_left (jobs_of (front ++ f ∷ []) (before ++ e ∷ [])) e []
    unfolding lefts_before
    ended_jobs =
        ap (λ (l : List (List Stmt)). jobs_from 0 l)
        (gone reached (task_lefts codes before front) e (left_of codes f.frame) apart)
        ∙ over []

    moved_task_kept : (frame : Frame) → IsSound codes frame → left_of codes frame ≢ []
        → Kept (frames_of (front ++ standing_at frame f ∷ []) []) (before ++ e ∷ [])
    moved_task_kept frame sound some = record {
      enough = k.enough;
      distinct = k.distinct;
      tasks = All-push (IsOfTask codes) front (standing_at frame f) (All-front (IsOfTask codes) front (f ∷ []) k.tasks)
          (record { on = record { sound = sound; some = some }; task = the_task.task; owner = the_task.owner });
      isrs = k.isrs;
      by_level = k.by_level;
      as_many = omega (arith, same, length-append before (e ∷ []), length-append front (standing_at frame f ∷ []));
      ascend = k.ascend;
      in_count = k.in_count;
      task_words = map-push words_of_frame front (standing_at frame f)
          ∙ sym (map-push words_of_frame front f) ∙ k.task_words;
      isr_words = k.isr_words;
    }

    popped_task_kept : Kept (frames_of front []) before
    popped_task_kept = record {
      enough = k.enough;
      distinct = k.distinct;
      tasks = All-front (IsOfTask codes) front (f ∷ []) k.tasks;
      isrs = k.isrs;
      by_level = k.by_level;
      as_many = same;
      ascend = AllPairs-front (λ (a b : ℕ). a < b) before (e ∷ []) k.ascend;
      in_count = All-front (λ (n : ℕ). n < reached) before (e ∷ []) k.in_count;
      task_words = fronts_same (map words_of_frame front) (map (entry_words words) before) f.words
          (entry_words words e)
          (sym (map-push words_of_frame front f) ∙ k.task_words ∙ map-push (entry_words words) before e);
      isr_words = k.isr_words;
    }

    entries_are : entries_after f.owner (before ++ e ∷ []) ≡ before
    entries_are = ap (λ o. entries_after o (before ++ e ∷ [])) the_task.owner ∙ without_entry before e

    running_task : Running (frames_of (front ++ f ∷ []) []) (before ++ e ∷ []) (seen f)
    unfolding with_jobs
    running_task = record {
      who = runner.Job e;
      is = ap (λ o. first_of (option_map (λ (n : ℕ). runner.Isr (record { 0 = n })) o)
          (task_runner (view (frames_of (front ++ f ∷ []) []) (before ++ e ∷ []))))
          (isr_none codes levels)
          ∙ ap (option_map (λ (n : ℕ). runner.Job n))
          (task_top codes reached before e front f same k.ascend below the_task.on.some);
      code = ap (λ o. runner_for o (slice_get (before ++ e ∷ []) (length (before ++ e ∷ []) - 1))) the_task.owner
          ∙ ap (option_map (λ (n : ℕ). runner.Job n)) (last_entry before e);
      sound = the_task.on.sound;
      some = the_task.on.some;
      left = sym (job_left 0 (lefts_of reached (task_lefts codes (before ++ e ∷ []) (front ++ f ∷ []))) e
          ∙ ap (λ (l : List (List Stmt)). at l e) (tasks_push codes reached before e front f same)
          ∙ get_or-set_same (lefts_of reached (task_lefts codes before front)) e (left_of codes f.frame) []
          (subst (λ n. e < n) (sym (length-lefts_of reached (task_lefts codes before front))) below));
      deep = omega (arith, length-append front (f ∷ []));
      moved_kept =
          λ frame sound some. subst (λ (ts : List StackFrame). Kept (frames_of ts []) (before ++ e ∷ []))
          (sym (with_last_is frame front f))
          (moved_task_kept frame sound some);
      moved = λ frame. ap (λ (ts : List StackFrame). view (frames_of ts []) (before ++ e ∷ []))
          (with_last_is frame front f)
          ∙ ap with_jobs (moved_jobs (standing_at frame f));
      ended_kept =
          subst (λ (ts : List StackFrame). Kept (frames_of ts []) (entries_after f.owner (before ++ e ∷ [])))
          (sym (without_last_is front f))
          (subst (λ (es : List ℕ). Kept (frames_of front []) es) (sym entries_are) popped_task_kept);
      ended = ap (λ (ts : List StackFrame). view (frames_of ts []) (entries_after f.owner (before ++ e ∷ [])))
          (without_last_is front f)
          ∙ ap (λ (es : List ℕ). view (frames_of front []) es) entries_are
          ∙ ap with_jobs ended_jobs;
    }

  -- ---- whoever runs

  none_runs : runner_in (view (frames_of [] []) []) ≡ None
  none_runs =
      ap (λ o. first_of (option_map (λ (n : ℕ). runner.Isr (record { 0 = n })) o)
      (task_runner (view (frames_of [] []) []))) (isr_none codes levels)
      ∙ ap (option_map (λ (n : ℕ). runner.Job n)) (task_none codes reached)

  seen_is : (s : Frames) (entries : List ℕ) (f : StackFrame) (top : Top) → top_of s ≡ Some f
      → option_map seen (top_of s) ≡ Some top
      → Running s entries (seen f) → Running s entries top
  seen_is s entries f top is so r = let same : seen f ≡ top = cc in subst (Running s entries) same r

  -- the frame on top is that of the one that runs
  pub running_at : (s : Frames) (entries : List ℕ) → Shape s entries → Kept s entries → (top : Top)
      → option_map seen (top_of s) ≡ Some top
      → Running s entries top
  running_at _ _ Empty k top is = absurd cc
  running_at _ _ (Task_on_top front f before e same) k top is =
      seen_is (frames_of (front ++ f ∷ []) []) (before ++ e ∷ []) f top (last_is front f) is
      (running_task front f before e same k)
  running_at _ _ (Isr_on_top tasks front f entries) k top is =
      seen_is (frames_of tasks (front ++ f ∷ [])) entries f top (top_some front f _ _ ∙ last_is front f) is
      (running_isr tasks front f entries k)

  some_top : (s : Frames) (f : StackFrame) → top_of s ≡ Some f → option_map seen (top_of s) ≡ None → ⊥
  some_top s f is none = cc

  -- where no frame is on top, nobody runs
  pub none_at : (s : Frames) (entries : List ℕ) → Shape s entries → option_map seen (top_of s) ≡ None
      → runner_in (view s entries) ≡ None
  none_at _ _ Empty is = none_runs
  none_at _ _ (Task_on_top front f before e same) is =
      absurd (some_top (frames_of (front ++ f ∷ []) []) f (last_is front f) is)
  none_at _ _ (Isr_on_top tasks front f entries) is =
      absurd (some_top (frames_of tasks (front ++ f ∷ [])) f (top_some front f _ _ ∙ last_is front f) is)

  no_runner : (o : Option Runner) → o ≡ None → IsSome o → ⊥
  no_runner None is some = cc
  no_runner (Some r) is some = cc

  -- where one runs, its frame is on top
  pub running_now : (s : Frames) (entries : List ℕ) → Shape s entries → Kept s entries
      → IsSome (runner_in (view s entries)) → (top : Top) × Running s entries top
  running_now _ _ Empty k runs = absurd (no_runner _ none_runs runs)
  running_now _ _ (Task_on_top front f before e same) k runs = (seen f, running_task front f before e same k)
  running_now _ _ (Isr_on_top tasks front f entries) k runs = (seen f, running_isr tasks front f entries k)
