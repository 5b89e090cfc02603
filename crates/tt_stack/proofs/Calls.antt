-- How each call changes what contracts see.
use Rattle.std.proofs.Common.{◌≡◌, ◌≢◌, ◌↔◌, IsTrue, ℕ, zero, suc, ◌+◌, ◌<◌, inr, ⊎_elim, Bool, true, false, List, [], ◌∷◌, ◌++◌, length, refl, sym, ap, ◌∙◌, subst, arith, replicate, eq-eqb, nat_eq}
use Rattle.std.specs.Prelude.{All, Any, not, ◌&&◌, ◌||◌, ◌==◌, slice_index_or, slice_set, sum_by}
use Rattle.std.specs.List.{list_any}
use Rattle.std.proofs.Math.Seq.{set-append_seam}
use Rattle.std.proofs.lemmas.Bool.{eqb-false, ne_eqb}
use Rattle.std.proofs.lemmas.List.{length-append, length-map}
use Rattle.std.proofs.lemmas.List.Elements.{All-map, All-push, All-weaker, All-contains_itself}
use Rattle.std.proofs.lemmas.List.Folds.{list_any-from_Any, list_any_none}
use Rattle.std.proofs.lemmas.List.Quantifiers.{all_pairs_push}
use Rattle.task_lang.specs.declared.syntax.Stmt.{Stmt}
use Rattle.task_machine.specs.declared.frame.Frame.{Frame}
use Rattle.task_machine.specs.Standing.{left_of, IsSound}
use Rattle.tt_base.specs.declared.number.TaskNo.{TaskNo}
use Rattle.tt_base.specs.declared.number.IsrNo.{IsrNo}
use Rattle.tt_base.specs.declared.event.Owner.TheVariants as By
use Rattle.run_stack.specs.declared.stack.StackFrame.{StackFrame}
use Rattle.run_stack.specs.Frames.{Frames, Holds, depth_of, isr_frame, task_frame, with_isr as with_isr_frame, with_task, words_of}
use Rattle.run_stack.proofs.Lists.{All-by_level, order-by_level}
use Rattle.tt_world.specs.ConfigRules.{are_distinct}
use Rattle.tt_world.specs.Load.{count_left, count_unfinished}
use Rattle.tt_world.specs.World.{Job}
use Rattle.tt_world.specs.Runners.{is_done, job_at}
use Rattle.tt_stack.specs.Stacked.{Stacked, depth_in, with_isr, with_job, words_in}
use Rattle.tt_stack.specs.Words.{Words, entry_words, routine_words}
use Rattle.tt_stack.specs.Kept.{Left, written, lefts_of, jobs_from, routine_number, routine_lefts, bodies_left, task_lefts, stacked, AreKept, IsOfTask, IsOfRoutine}
use Rattle.tt_stack.specs.declared.state.TtStack.TheInside.{Inside}
use Rattle.tt_stack.proofs.Frames.{isrs_insert, isrs_of, left_at, level_is, level_of, not_among, number_within, routines_given, tasks_given, tasks_push}
use Rattle.tt_stack.proofs.Jobs.{count_jobs, job, job_left, jobs_push, length-jobs}
use Rattle.tt_stack.proofs.Pairs.{All-from_zip, All-zip_first, length-zip, map-push}
use Rattle.tt_stack.proofs.Running.{HasRoutineWords, words_of_frame}
use Rattle.tt_stack.proofs.Weights.{isrs_sum, job_weight, sum-same, unfinished_weights, weights_given}
use Rattle.tt_stack.proofs.Written.{at, AreGiven, at_none, count_lefts_of, count_room, finished_not_in, length-lefts_of, length-none, none_more, written_more, written_or}

-- ---- levels

both : (a b : Bool) → (a && b) ≡ true → (a ≡ true) × (b ≡ true)
both true true is = (refl, refl)
both true false is = cc
both false b is = cc

neither : (a b : Bool) → not (a || b) ≡ true → (a ≡ false) × (not b ≡ true)
neither true b is = cc
neither false b is = (refl, is)

none_equal : (xs : List ℕ) (n i : ℕ) → not (list_any (λ (other : ℕ). other == n) xs) ≡ true → i < length xs
    → slice_index_or xs i 0 ≢ n
none_equal [] n i none within = absurd (omega arith)
none_equal (x ∷ xs) n zero none within =
    eqb-false x n (neither (x == n) (list_any (λ (other : ℕ). other == n) xs) none).0
none_equal (x ∷ xs) n (suc i) none within =
    none_equal xs n i (neither (x == n) (list_any (λ (other : ℕ). other == n) xs) none).1 (omega arith)

-- two numbers have different levels
distinct_levels : (levels : List ℕ) (i j : ℕ) → are_distinct levels ≡ true → i < length levels → j < length levels
    → i ≢ j
    → slice_index_or levels i 0 ≢ slice_index_or levels j 0
distinct_levels [] i j distinct a b apart = absurd (omega arith)
distinct_levels (x ∷ xs) zero zero distinct a b apart = absurd (apart refl)
distinct_levels (x ∷ xs) zero (suc j) distinct a b apart =
    λ e. none_equal xs x j (both (not (list_any (λ (other : ℕ). other == x) xs)) (are_distinct xs) distinct).0
    (omega arith) (sym e)
distinct_levels (x ∷ xs) (suc i) zero distinct a b apart =
    none_equal xs x i (both (not (list_any (λ (other : ℕ). other == x) xs)) (are_distinct xs) distinct).0 (omega arith)
distinct_levels (x ∷ xs) (suc i) (suc j) distinct a b apart =
    distinct_levels xs i j (both (not (list_any (λ (other : ℕ). other == x) xs)) (are_distinct xs) distinct).1
    (omega arith) (omega arith)
    (λ e. apart (omega (arith, e)))

module _ (inside : Inside)
    (k : AreKept inside.codes inside.first inside.levels.items inside.words inside.stack inside.entries.items
    inside.reached) where
  abbrev codes : List (List Stmt)
  codes = inside.codes

  abbrev first : ℕ
  first = inside.first

  abbrev levels : List ℕ
  levels = inside.levels.items

  abbrev words : Words
  words = inside.words

  abbrev reached : ℕ
  reached = inside.reached

  abbrev s : Frames
  s = inside.stack

  abbrev entries : List ℕ
  entries = inside.entries.items

  abbrev view : Stacked
  view = stacked codes first levels words s entries reached

  abbrev given : List Left
  given = task_lefts codes entries s.tasks

  given_tasks : AreGiven reached given
  given_tasks = tasks_given codes entries s.tasks reached k.tasks k.ascend k.in_count

  bodies_as_many : length entries ≡ length (bodies_left codes s.tasks)
  bodies_as_many = k.as_many ∙ sym (length-map s.tasks (left_at codes))

  -- ---- how many

  -- contracts see as many activations as were reached
  pub length_jobs_is : length view.jobs ≡ reached
  length_jobs_is = length-jobs 0 (lefts_of reached given) ∙ length-lefts_of reached given

  -- each frame of a task is an unfinished activation
  pub count_tasks : count_unfinished view.jobs ≡ length s.tasks
  count_tasks =
      count_jobs 0 (lefts_of reached given) ∙ count_lefts_of reached given given_tasks
      ∙ length-zip entries (bodies_left codes s.tasks) bodies_as_many ∙ length-map s.tasks (left_at codes)

  -- each frame of a routine is an unfinished routine
  pub count_isrs : count_left view.isrs ≡ length s.isrs
  count_isrs =
      count_lefts_of (length levels) (routine_lefts codes s.isrs) (routines_given codes levels s.isrs k.isrs k.by_level)
      ∙ length-map s.isrs (λ (f : StackFrame). (routine_number f.owner, left_of codes f.frame))

  -- there are as many frames as unfinished activations and routines
  pub depth_is : depth_of s ≡ depth_in view
  depth_is = omega (arith, count_tasks, count_isrs)

  -- the weights of all activations are those of the entries on the stack
  pub weights_tasks : (weight : ℕ → ℕ) → sum_by (job_weight weight) view.jobs ≡ sum_by weight entries
  weights_tasks weight = weights_given weight reached entries (bodies_left codes s.tasks) bodies_as_many given_tasks

  -- the words of all frames are those of the unfinished activations and routines
  pub words_are : words_of s ≡ words_in view
  words_are =
      let given = routines_given codes levels s.isrs k.isrs k.by_level in
      let tasks = sum-same words_of_frame (entry_words words) s.tasks entries k.task_words in
      let jobs = weights_tasks (entry_words words) in
      let isrs = isrs_sum codes words s.isrs k.isr_words in
      let routines = unfinished_weights (routine_words words) (length levels) (routine_lefts codes s.isrs) given in
      omega (arith, tasks, jobs, isrs, routines)

  -- ---- an activation

  lefts_more : lefts_of (reached + 1) given ≡ lefts_of reached given ++ [] ∷ []
  lefts_more =
      let next : reached + 1 ≡ suc reached = omega arith in
      ap (λ (n : ℕ). written (replicate n []) given) next
      ∙ ap (λ (l : List (List Stmt)). written l given) (none_more reached)
      ∙ written_more (replicate reached []) given []
      (subst (λ n. All (λ (one : Left). one.0 < n) given) (sym (length-none reached)) given_tasks.below)

  more_in_count : All (λ (n : ℕ). n < reached + 1) entries
  more_in_count =
      All-weaker (λ (n : ℕ). n < reached) (λ (n : ℕ). n < reached + 1)
      (λ n less. omega (arith, less)) entries k.in_count

  with_jobs : List Job → Stacked
  with_jobs jobs = record {
    codes = codes;
    first = first;
    levels = levels;
    words = words;
    jobs = jobs;
    isrs = isrs_of codes levels s.isrs;
  }

  at_end : (left : List Stmt) → jobs_from 0 (lefts_of reached given ++ left ∷ [])
      ≡ view.jobs ++ job (length view.jobs) left ∷ []
  at_end left =
      let lefts = lefts_of reached given in
      let same : 0 + length lefts ≡ length (jobs_from 0 lefts) = omega (arith, length-jobs 0 lefts) in
      jobs_push 0 lefts left ∙ ap (λ n. jobs_from 0 lefts ++ job n left ∷ []) same

  -- one more place of the round, of which nothing is left, is one more activation that has ended
  pub counted : stacked codes first levels words s entries (reached + 1) ≡ with_job [] view
  unfolding with_jobs
  counted = ap with_jobs (ap (λ (l : List (List Stmt)). jobs_from 0 l) lefts_more ∙ at_end [])

  module _ (task : TaskNo) (frame : Frame) (sound : IsSound codes frame) (some : left_of codes frame ≢ []) where
    abbrev new_task : StackFrame
    new_task = task_frame task frame (entry_words words reached)

    -- the invariant holds with the frame of one more activation
    pub task_kept : AreKept codes first levels words (with_task new_task s) (entries ++ reached ∷ []) (reached + 1)
    task_kept = record {
      enough = k.enough;
      distinct = k.distinct;
      tasks = All-push (IsOfTask codes) s.tasks new_task k.tasks
          (record { on = record { sound = sound; some = some }; task = task; owner = refl });
      isrs = k.isrs;
      by_level = k.by_level;
      as_many = omega (arith, k.as_many, length-append entries (reached ∷ []), length-append s.tasks (new_task ∷ []));
      ascend = all_pairs_push (λ (a b : ℕ). a < b) entries reached k.ascend k.in_count;
      in_count = All-push (λ (n : ℕ). n < reached + 1) entries reached more_in_count (omega arith);
      task_words = map-push words_of_frame s.tasks new_task
          ∙ ap (λ (ws : List ℕ). ws ++ entry_words words reached ∷ []) k.task_words
          ∙ sym (map-push (entry_words words) entries reached);
      isr_words = k.isr_words;
    }

    -- contracts see the frame of one more activation as that activation, with what is left of it
    pub task_begun : stacked codes first levels words (with_task new_task s) (entries ++ reached ∷ []) (reached + 1)
        ≡ with_job (left_of codes frame) view
    unfolding with_jobs
    task_begun =
        let left = left_of codes frame in
        let lefts = lefts_of reached given in
        ap with_jobs (ap (λ (l : List (List Stmt)). jobs_from 0 l)
        (tasks_push codes (reached + 1) entries reached s.tasks new_task k.as_many
        ∙ ap (λ (l : List (List Stmt)). slice_set l reached left) lefts_more
        ∙ ap (λ (n : ℕ). slice_set (lefts ++ [] ∷ []) n left) (sym (length-lefts_of reached given))
        ∙ set-append_seam lefts [] [] left)
        ∙ at_end left)

  -- ---- a routine

  with_isrs : List (List Stmt) → Stacked
  with_isrs isrs = record {
    codes = codes;
    first = first;
    levels = levels;
    words = words;
    jobs = view.jobs;
    isrs = isrs;
  }

  not_task : (isr : IsrNo) (f : StackFrame) → IsOfTask codes f → f.owner ≡ By.Isr isr → ⊥
  not_task isr f t e = two_owners t.task isr (sym t.owner ∙ e)
    where
      two_owners : (task : TaskNo) (isr : IsrNo) → By.Task task ≡ By.Isr isr → ⊥
      two_owners task isr e = cc

  module _ (isr : IsrNo) where
    -- a routine of which nothing is left has no frame
    pub not_held : is_done (at view.isrs isr.0) ≡ true → Holds s (By.Isr isr) → ⊥
    not_held done held =
        ⊎_elim
        (λ (any : Any (λ (f : StackFrame). f.owner ≡ By.Isr isr) s.tasks).
        not_task isr any.1 (subst (IsOfTask codes) any.3 (k.tasks any.0 any.1 any.2)) any.4)
        (λ (any : Any (λ (f : StackFrame). f.owner ≡ By.Isr isr) s.isrs).
        let others = not_among codes levels s.isrs isr.0 k.isrs k.by_level done in
        subst (λ (f : StackFrame). routine_number f.owner ≢ isr.0) any.3 (others any.0 any.1 any.2)
        (ap routine_number any.4))
        held

    is_held : is_done (at view.isrs isr.0) ≡ false → Holds s (By.Isr isr)
    is_held some =
        let Q : ℕ → Type 0 = λ n. Any (λ (f : StackFrame). f.owner ≡ By.Isr (record { 0 = n })) s.isrs in
        ⊎_elim
        (λ (same : at view.isrs isr.0 ≡ at (replicate (length levels) []) isr.0).
        let e : true ≡ false = sym (ap is_done (same ∙ at_none (length levels) isr.0)) ∙ some in absurd cc)
        (λ (q : Q isr.0). inr q)
        (written_or Q (replicate (length levels) []) (routine_lefts codes s.isrs) isr.0 every)
      where
        own : (f : StackFrame) → IsOfRoutine codes levels f → f.owner ≡ By.Isr (record { 0 = routine_number f.owner })
        own f r = r.owner ∙ ap (λ o. By.Isr (record { 0 = routine_number o })) (sym r.owner)

        every : All (λ (one : Left). Any (λ (f : StackFrame). f.owner ≡ By.Isr (record { 0 = one.0 })) s.isrs)
            (routine_lefts codes s.isrs)
        every =
            All-map (λ (one : Left). Any (λ (f : StackFrame). f.owner ≡ By.Isr (record { 0 = one.0 })) s.isrs)
            (λ (f : StackFrame). (routine_number f.owner, left_of codes f.frame)) s.isrs
            (λ i d l. let here = All-contains_itself s.isrs i d l in
            let f = slice_index_or s.isrs i d in
            (here.0, f, here.1, here.2, own f (k.isrs i d l)))

    by_held : (held : Bool) → IsTrue held ↔ Holds s (By.Isr isr) → (done : Bool) → is_done (at view.isrs isr.0) ≡ done
        → not held ≡ done
    by_held true same true is = absurd (not_held is (same.0 refl))
    by_held true same false is = refl
    by_held false same true is = refl
    by_held false same false is = let e : false ≡ true = same.1 (is_held is) in cc

    -- a routine has no frame exactly where nothing is left of it
    pub held_is : (held : Bool) → IsTrue held ↔ Holds s (By.Isr isr) → not held ≡ is_done (at view.isrs isr.0)
    held_is held same = by_held held same (is_done (at view.isrs isr.0)) refl

    module _ (exists : isr.0 < length levels) (finished : is_done (at view.isrs isr.0) ≡ true) where
      -- while one routine is finished, there are fewer frames than routines
      pub isr_room : length s.isrs < length levels
      isr_room =
          let all = length-lefts_of (length levels) (routine_lefts codes s.isrs) in
          let less = count_room view.isrs isr.0 (subst (λ n. isr.0 < n) (sym all) exists) finished in
          omega (arith, count_isrs, all, less)

      -- a finished routine has a level that no frame has
      pub new_level : All (λ (f : StackFrame). f.level ≢ level_of codes levels isr.0) s.isrs
      new_level = λ i d l e.
          let f = slice_index_or s.isrs i d in
          distinct_levels levels (routine_number f.owner) isr.0 k.distinct
          (number_within codes levels f (k.isrs i d l)) exists
          (not_among codes levels s.isrs isr.0 k.isrs k.by_level finished i d l)
          (sym (level_is codes levels f (k.isrs i d l)) ∙ e)

      module _ (frame : Frame) (sound : IsSound codes frame) (some : left_of codes frame ≢ []) where
        abbrev new_isr : StackFrame
        new_isr = isr_frame isr (level_of codes levels isr.0) frame (routine_words words isr.0)

        -- the invariant holds with the frame of a routine that was finished
        pub isr_kept : AreKept codes first levels words (with_isr_frame new_isr s) entries reached
        isr_kept = record {
          enough = k.enough;
          distinct = k.distinct;
          tasks = k.tasks;
          isrs = All-by_level (IsOfRoutine codes levels) new_isr s.isrs
              (record {
                on = record { sound = sound; some = some };
                isr = isr;
                owner = refl;
                exists = exists;
                level = refl;
              }) k.isrs;
          by_level = order-by_level new_isr s.isrs new_level k.by_level;
          as_many = k.as_many;
          ascend = k.ascend;
          in_count = k.in_count;
          task_words = k.task_words;
          isr_words = All-by_level (HasRoutineWords words) new_isr s.isrs refl k.isr_words;
        }

        -- contracts see the frame of a routine that was finished as that routine, with what is left of it
        pub isr_begun : stacked codes first levels words (with_isr_frame new_isr s) entries reached
            ≡ with_isr isr.0 (left_of codes frame) view
        unfolding with_isrs
        isr_begun =
            ap with_isrs (isrs_insert codes levels (replicate (length levels) []) new_isr s.isrs
            (finished_not_in (length levels) (routine_lefts codes s.isrs) isr.0
            (routines_given codes levels s.isrs k.isrs k.by_level) finished))

  -- ---- whether nothing is left of an activation

  module _ (place : ℕ) where
    abbrev is_place : ℕ → Bool
    is_place entry = nat_eq entry place

    not_found : is_done (at (lefts_of reached given) place) ≡ true → list_any is_place entries ≡ false
    not_found done =
        list_any_none is_place entries
        (All-weaker (λ (n : ℕ). n ≢ place) (λ (n : ℕ). is_place n ≡ false) (λ n apart. ne_eqb n place apart) entries
        (All-from_zip (λ (n : ℕ). n ≢ place) entries (bodies_left codes s.tasks) bodies_as_many
        (finished_not_in reached given place given_tasks done)))

    is_found : is_done (at (lefts_of reached given) place) ≡ false → list_any is_place entries ≡ true
    is_found some =
        let Q : ℕ → Type 0 = λ n. list_any (λ (entry : ℕ). nat_eq entry n) entries ≡ true in
        ⊎_elim
        (λ (same : at (lefts_of reached given) place ≡ at (replicate reached []) place).
        let e : true ≡ false = sym (ap is_done (same ∙ at_none reached place)) ∙ some in absurd cc)
        (λ (q : Q place). q)
        (written_or Q (replicate reached []) given place
        (All-zip_first Q entries (bodies_left codes s.tasks) (λ i d l.
        let here = All-contains_itself entries i d l in
        let n = slice_index_or entries i d in
        list_any-from_Any (λ (entry : ℕ). nat_eq entry n) entries (here.0, n, here.1, here.2, eq-eqb n n refl))))

    by_found : (done : Bool) → is_done (at (lefts_of reached given) place) ≡ done → not (list_any is_place entries)
        ≡ done
    by_found true is = ap not (not_found is)
    by_found false is = ap not (is_found is)

    -- a place is not among the entries exactly where nothing is left of its activation
    pub found_is : not (list_any is_place entries) ≡ is_done (job_at view.jobs place).left
    found_is = by_found (is_done (at (lefts_of reached given) place)) refl
        ∙ sym (ap is_done (job_left 0 (lefts_of reached given) place))
