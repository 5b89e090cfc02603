-- The frames on the stack, and what is left of each.
use Rattle.std.proofs.Common.{◌≡◌, ◌≢◌, ℕ, ◌+◌, ◌<◌, ⊎_elim, Bool, true, false, cond, List, [], ◌∷◌, ◌++◌, length, None, Some, refl, sym, ap, ◌∙◌, subst, arith, replicate}
use Rattle.std.specs.Prelude.{All, not, slice_index_or, slice_set}
use Rattle.std.proofs.lemmas.List.{length-map, get_or-set_same, get_or-set_other, length-set, set-set}
use Rattle.std.proofs.lemmas.List.Elements.{All-map, All-tail}
use Rattle.task_lang.specs.declared.syntax.Stmt.{Stmt}
use Rattle.task_machine.specs.Standing.{left_of}
use Rattle.run_stack.specs.declared.stack.StackFrame.{StackFrame}
use Rattle.run_stack.specs.Frames.{IsByLevel, by_level, is_lower}
use Rattle.run_stack.proofs.Lists.{All-front, All-last, AllPairs-last}
use Rattle.tt_world.specs.Runners.{is_done, highest, unfinished, last_unfinished}
use Rattle.tt_stack.specs.Kept.{Left, written, lefts_of, jobs_from, routine_number, routine_left, routine_lefts, bodies_left, task_lefts, IsOfTask, IsOfRoutine, DoAscend}
use Rattle.tt_stack.proofs.Highest.{none_of, top_of}
use Rattle.tt_stack.proofs.Jobs.{none_last, last_is}
use Rattle.tt_stack.proofs.Pairs.{All-zip_first, All-zip_second, AllPairs-zip, AllPairs-map, All-from_map, zip-push, map-push}
use Rattle.std.specs.List.{range_with_len, zip}
use Rattle.tt_stack.proofs.Written.{at, IsNotIn, AreGiven, written-push, written_comm, written_or, length-lefts_of, at_none, gone, finished_not_in}

-- a list that is not empty is not done
pub not_done : (left : List Stmt) → left ≢ [] → is_done left ≡ false
not_done [] some = absurd (some refl)
not_done (x ∷ xs) some = refl

-- ---- activations

module _ (codes : List (List Stmt)) where
  -- what is left of a frame
  abbrev pub left_at : StackFrame → List Stmt
  left_at f = left_of codes f.frame

  -- the entries with what is left of them are distinct, within the places reached, and none is done
  pub tasks_given : (entries : List ℕ) (fs : List StackFrame) (reached : ℕ) → All (IsOfTask codes) fs → DoAscend entries
      → All (λ entry. entry < reached) entries → AreGiven reached (task_lefts codes entries fs)
  tasks_given entries fs reached all ascend below = record {
    below = All-zip_first (λ (entry : ℕ). entry < reached) entries (bodies_left codes fs) below;
    some = All-zip_second (λ (left : List Stmt). is_done left ≡ false) entries (bodies_left codes fs)
        (All-map (λ (left : List Stmt). is_done left ≡ false) left_at fs (λ k d l. not_done _ (all k d l).on.some));
    distinct = AllPairs-zip (λ (a b : ℕ). a ≢ b) entries (bodies_left codes fs)
        (λ i j d before within e. let less = ascend i j d before within in omega (arith, less, e));
  }

  -- one more frame of a task writes what is left of its entry
  pub tasks_push : (reached : ℕ) (before : List ℕ) (e : ℕ) (front : List StackFrame) (f : StackFrame) → length before
      ≡ length front
      → lefts_of reached (task_lefts codes (before ++ e ∷ []) (front ++ f ∷ []))
      ≡ slice_set (lefts_of reached (task_lefts codes before front)) e (left_at f)
  tasks_push reached before e front f same =
      ap (λ (given : List Left). lefts_of reached given)
      (ap (λ (ls : List (List Stmt)). zip (before ++ e ∷ []) ls) (map-push left_at front f)
      ∙ zip-push before e (bodies_left codes front) (left_at f) (same ∙ sym (length-map front left_at)))
      ∙ written-push (replicate reached []) (task_lefts codes before front) (e, left_at f)

  -- the entries before the last are different from it
  pub entries_apart : (before : List ℕ) (e : ℕ) (front : List StackFrame) → DoAscend (before ++ e ∷ [])
      → IsNotIn e (task_lefts codes before front)
  entries_apart before e front ascend =
      All-zip_first (λ (n : ℕ). n ≢ e) before (bodies_left codes front)
      (λ k d l same. let less = AllPairs-last (λ (a b : ℕ). a < b) before e ascend k d l in omega (arith, less, same))

  -- the last entry is that of the last activation that has statements left
  pub task_top : (reached : ℕ) (before : List ℕ) (e : ℕ) (front : List StackFrame) (f : StackFrame) → length before
      ≡ length front
      → DoAscend (before ++ e ∷ []) → e < reached → left_at f ≢ []
      → last_unfinished 0 (jobs_from 0 (lefts_of reached (task_lefts codes (before ++ e ∷ []) (front ++ f ∷ []))))
      ≡ Some e
  task_top reached before e front f same ascend below some =
      let given = task_lefts codes before front in
      let lefts = lefts_of reached given in
      let within : e < length lefts = subst (λ n. e < n) (sym (length-lefts_of reached given)) below in
      let now = slice_set lefts e (left_at f) in
      let here : is_done (at now e) ≡ false =
      ap is_done (get_or-set_same lefts e (left_at f) [] within) ∙ not_done (left_at f) some in
      let earlier : All (λ (one : Left). one.0 < e) given =
      All-zip_first (λ (n : ℕ). n < e) before (bodies_left codes front)
      (AllPairs-last (λ (a b : ℕ). a < b) before e ascend) in
      let after : (k : ℕ) → e < k → is_done (at now k) ≡ true =
      λ k later.
      ap is_done (get_or-set_other lefts e k (left_at f) [] (λ (s : k ≡ e). omega (arith, s)))
      ∙ ⊎_elim (λ (s : at lefts k ≡ at (replicate reached []) k). ap is_done (s ∙ at_none reached k))
      (λ (q : k < e). absurd (omega arith))
      (written_or (λ (n : ℕ). n < e) (replicate reached []) given k earlier) in
      let zero_more : 0 + e ≡ e = omega arith in
      ap (λ (l : List (List Stmt)). last_unfinished 0 (jobs_from 0 l)) (tasks_push reached before e front f same)
      ∙ last_is 0 0 now e (subst (λ n. e < n) (sym (length-set lefts e (left_at f))) within) here after
      ∙ ap Some zero_more

  -- without entries no activation has statements left
  pub task_none : (reached : ℕ) → last_unfinished 0 (jobs_from 0 (lefts_of reached [])) ≡ None
  task_none reached = none_last 0 0 (replicate reached []) (λ n. ap is_done (at_none reached n))

  -- ---- routines

  module _ (levels : List ℕ) where
    -- what is left of each routine, by its frames
    abbrev pub isrs_of : List StackFrame → List (List Stmt)
    isrs_of fs = lefts_of (length levels) (routine_lefts codes fs)

    -- the level of a routine, by number
    abbrev pub level_of : ℕ → ℕ
    level_of n = slice_index_or levels n 0

    -- the level of a frame is that of its routine
    pub level_is : (f : StackFrame) → IsOfRoutine codes levels f → f.level ≡ level_of (routine_number f.owner)
    level_is f r = r.level ∙ ap level_of (sym (ap routine_number r.owner))

    -- the number of the routine of a frame is that of a routine that exists
    pub number_within : (f : StackFrame) → IsOfRoutine codes levels f → routine_number f.owner < length levels
    number_within f r = subst (λ n. n < length levels) (sym (ap routine_number r.owner)) r.exists

    -- the routines of the frames with what is left of them are distinct, and none is done
    pub routines_given : (fs : List StackFrame) → All (IsOfRoutine codes levels) fs → IsByLevel fs
        → AreGiven (length levels) (routine_lefts codes fs)
    routines_given fs all order = record {
      below = All-map (λ (one : Left). one.0 < length levels) (routine_left codes) fs
          (λ k d l. number_within _ (all k d l));
      some = All-map (λ (one : Left). is_done one.1 ≡ false) (routine_left codes) fs
          (λ k d l. not_done _ (all k d l).on.some);
      distinct = AllPairs-map (routine_left codes) (λ (one other : Left). one.0 ≢ other.0) fs
          (λ i j d before within same.
          let less = order i j d before within in
          let a = level_is (slice_index_or fs i d) (all i d (omega arith)) in
          let b = level_is (slice_index_or fs j d) (all j d within) in
          let alike = ap level_of same in
          omega (arith, less, a, b, alike));
    }

    -- one more frame of a routine writes what is left of that routine
    pub isrs_push : (front : List StackFrame) (f : StackFrame)
        → isrs_of (front ++ f ∷ []) ≡ slice_set (isrs_of front) (routine_number f.owner) (left_at f)
    isrs_push front f =
        ap (λ (given : List Left). lefts_of (length levels) given) (map-push (routine_left codes) front f)
        ∙ written-push (replicate (length levels) []) (routine_lefts codes front) (routine_left codes f)

    module _ (front : List StackFrame) (f : StackFrame) (all : All (IsOfRoutine codes levels) (front ++ f ∷ []))
        (order : IsByLevel (front ++ f ∷ [])) where
      last_routine : IsOfRoutine codes levels f
      last_routine = All-last (IsOfRoutine codes levels) front f all

      lower : All (λ (one : Left). level_of one.0 < level_of (routine_number f.owner)) (routine_lefts codes front)
      lower =
          All-map (λ (one : Left). level_of one.0 < level_of (routine_number f.owner)) (routine_left codes) front
          (λ k d l.
          let less = AllPairs-last (λ (a b : StackFrame). a.level < b.level) front f order k d l in
          let a = level_is (slice_index_or front k d) (All-front (IsOfRoutine codes levels) front (f ∷ []) all k d l) in
          let b = level_is f last_routine in
          omega (arith, less, a, b))

      -- the routines before the last are different from it
      pub routines_apart : IsNotIn (routine_number f.owner) (routine_lefts codes front)
      routines_apart = λ k d l same. let less = lower k d l in let alike =
          ap level_of same in omega (arith, less, alike)

      within : routine_number f.owner < length (isrs_of front)
      within = subst (λ n. routine_number f.owner < n)
          (sym (length-lefts_of (length levels) (routine_lefts codes front))) (number_within f last_routine)

      -- what is left of the last routine is what is left of its frame
      pub isr_left : at (isrs_of (front ++ f ∷ [])) (routine_number f.owner) ≡ left_at f
      isr_left =
          ap (λ (l : List (List Stmt)). at l (routine_number f.owner)) (isrs_push front f)
          ∙ get_or-set_same (isrs_of front) (routine_number f.owner) (left_at f) [] within

      -- the last frame is that of the unfinished routine of the highest level
      pub isr_top : highest levels (unfinished (isrs_of (front ++ f ∷ []))) ≡ Some (routine_number f.owner)
      isr_top =
          let n = routine_number f.owner in
          let lefts = isrs_of front in
          let now = slice_set lefts n (left_at f) in
          let passes : ℕ → Bool = λ k. not (is_done (at now k)) in
          let here : passes n ≡ true =
          ap (λ (l : List Stmt). not (is_done l)) (get_or-set_same lefts n (left_at f) [] within)
          ∙ ap not (not_done (left_at f) last_routine.on.some) in
          let others : (k : ℕ) → passes k ≡ true → k ≢ n → level_of k < level_of n =
          λ k p apart. ⊎_elim
          (λ (s : at lefts k ≡ at (replicate (length levels) []) k).
          let done : passes k ≡ false =
          ap (λ (l : List Stmt). not (is_done l))
          (get_or-set_other lefts n k (left_at f) [] apart ∙ s ∙ at_none (length levels) k) in
          let f : true ≡ false = sym p ∙ done in absurd cc)
          (λ (q : level_of k < level_of n). q)
          (written_or (λ (k : ℕ). level_of k < level_of n) (replicate (length levels) [])
          (routine_lefts codes front) k lower) in
          ap (λ (l : List (List Stmt)). highest levels (unfinished l)) (isrs_push front f)
          ∙ top_of levels passes n here others 0 (length now) (omega arith)
          (subst (λ m. n < 0 + m) (sym (length-set lefts n (left_at f))) (omega (arith, within)))

      -- where the last frame is taken off, nothing is left of its routine, and the others stay
      pub isr_gone : isrs_of front ≡ slice_set (isrs_of (front ++ f ∷ [])) (routine_number f.owner) []
      isr_gone =
          gone (length levels) (routine_lefts codes front) (routine_number f.owner) (left_at f) routines_apart
          ∙ ap (λ (l : List (List Stmt)). slice_set l (routine_number f.owner) []) (sym (isrs_push front f))

      -- where the last frame moves, what is left of its routine changes, and the others stay
      pub isr_moved : (g : StackFrame) → g.owner ≡ f.owner → isrs_of (front ++ g ∷ [])
          ≡ slice_set (isrs_of (front ++ f ∷ [])) (routine_number f.owner) (left_at g)
      isr_moved g owner =
          isrs_push front g
          ∙ ap (λ o. slice_set (isrs_of front) (routine_number o) (left_at g)) owner
          ∙ sym (ap (λ (l : List (List Stmt)). slice_set l (routine_number f.owner) (left_at g)) (isrs_push front f)
          ∙ set-set (isrs_of front) (routine_number f.owner) (left_at f) (left_at g))

    -- without frames no routine is unfinished
    pub isr_none : highest levels (unfinished (isrs_of [])) ≡ None
    isr_none =
        none_of levels (λ (k : ℕ). not (is_done (at (replicate (length levels) []) k)))
        (λ n. ap (λ (l : List Stmt). not (is_done l)) (at_none (length levels) n))
        (range_with_len 0 (length (isrs_of [])))

    -- ---- a routine that begins

    -- a routine of which nothing is left is that of none of the frames
    pub not_among : (fs : List StackFrame) (n : ℕ) → All (IsOfRoutine codes levels) fs → IsByLevel fs
        → is_done (at (isrs_of fs) n) ≡ true
        → All (λ (f : StackFrame). routine_number f.owner ≢ n) fs
    not_among fs n all order done =
        All-from_map (routine_left codes) (λ (one : Left). one.0 ≢ n) fs
        (finished_not_in (length levels) (routine_lefts codes fs) n (routines_given fs all order) done)

    insert_step : (lefts : List (List Stmt)) (new f : StackFrame) (fs : List StackFrame) (b : Bool)
        → IsNotIn (routine_number new.owner) (routine_lefts codes (f ∷ fs))
        → written (slice_set lefts (routine_number f.owner) (left_at f)) (routine_lefts codes (by_level new fs))
        ≡ slice_set (written lefts (routine_lefts codes (f ∷ fs))) (routine_number new.owner) (left_at new)
        → written lefts (routine_lefts codes (cond b (f ∷ by_level new fs) (new ∷ f ∷ fs)))
        ≡ slice_set (written lefts (routine_lefts codes (f ∷ fs))) (routine_number new.owner) (left_at new)
    insert_step lefts new f fs true apart rest = rest
    insert_step lefts new f fs false apart rest =
        written_comm lefts (routine_lefts codes (f ∷ fs)) (routine_number new.owner) (left_at new) apart

    -- a frame that is inserted by its level writes what is left of its routine
    pub isrs_insert : (lefts : List (List Stmt)) (new : StackFrame) (fs : List StackFrame)
        → IsNotIn (routine_number new.owner) (routine_lefts codes fs)
        → written lefts (routine_lefts codes (by_level new fs))
        ≡ slice_set (written lefts (routine_lefts codes fs)) (routine_number new.owner) (left_at new)
    isrs_insert lefts new [] apart = refl
    isrs_insert lefts new (f ∷ fs) apart =
        insert_step lefts new f fs (is_lower new.level f) apart
        (isrs_insert (slice_set lefts (routine_number f.owner) (left_at f)) new fs
        (All-tail (λ (one : Left). one.0 ≢ routine_number new.owner) (routine_left codes f)
        (routine_lefts codes fs) apart))
