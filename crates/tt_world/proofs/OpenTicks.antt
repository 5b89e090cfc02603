-- Over a tick, what is unfinished according to the events stays what is unfinished in the world.
use Rattle.std.proofs.Common.{ℕ, zero, suc, ◌≡◌, ◌≢◌, ◌<◌, ◌≤◌, ◌+◌, ◌-◌, List, [], ◌∷◌, ◌++◌, Bool, true, false, Option, None, Some, refl, ap, sym, ◌∙◌, subst, arith, length, get_or, append-nil, ◌⊎◌, ⊎_elim, inl, inr, get_or-set_same, get_or-set_other}
use Rattle.std.specs.Prelude.{◌==◌, ◌&&◌, ◌||◌, not, cond, filter, slice_set}
use Rattle.std.proofs.lemmas.List.{length-set, get_or_past}
use Rattle.std.proofs.lemmas.List.Elements.{filter-append}
use Rattle.std.proofs.lemmas.Bool.{cond_both, cases_Bool, cases_lt, cases_eq, false≢true, eqb-true, eq-eqb, ne_eqb}
use Rattle.tt_base.specs.declared.number.TaskNo.{TaskNo}
use Rattle.tt_base.specs.declared.number.IsrNo.{IsrNo}
use Rattle.tt_base.specs.declared.event.Event.{Event}
use Rattle.tt_base.specs.declared.event.Event.TheVariants.{Round, Accept, Activate, Run, End}
use Rattle.tt_base.specs.declared.event.Call.{Call}
use Rattle.tt_base.specs.declared.event.Call.TheVariants as call
use Rattle.tt_base.specs.declared.event.Owner.{Owner}
use Rattle.tt_base.specs.declared.event.Owner.TheVariants as owner
use Rattle.task_lang.specs.declared.syntax.Stmt.{Stmt}
use Rattle.task_lang.specs.declared.tick.Effect.{Effect}
use Rattle.task_lang.specs.declared.tick.Effect.TheVariants as effect
use Rattle.tt_world.specs.declared.config.ConfigParts.{ConfigParts}
use Rattle.tt_world.specs.declared.config.ModeDef.{ModeDef}
use Rattle.tt_world.specs.declared.script.ScriptParts.{ScriptParts}
use Rattle.tt_world.specs.declared.world.Point.{Point}
use Rattle.tt_world.specs.declared.world.Point.TheVariants as point
use Rattle.tt_world.specs.declared.world.Runner.{Runner}
use Rattle.tt_world.specs.declared.world.Runner.TheVariants as runner
use Rattle.tt_world.specs.World.{World, Job}
use Rattle.tt_world.specs.ConfigRules.{IsConfig}
use Rattle.tt_world.specs.Rows.{mode_at, mode_of, row_of}
use Rattle.tt_world.specs.Moved.{Moved, is_over, preceded, event_if}
use Rattle.tt_world.specs.Runners.{job_at, with_left, is_done, left_of, leaving, runner_of, owner_of, same_owner, ran_before}
use Rattle.tt_world.specs.Services.{Answer, service, synced, is_suspended, is_caller, is_shutdown}
use Rattle.tt_world.specs.Step.{effected, state_after, runner_tick, step, run_line, tick_over, is_somebody}
use Rattle.tt_world.specs.Status.{stamp_of}
use Rattle.tt_world.proofs.Parts.{Anything, LeadsTo, followed_at}
use Rattle.tt_world.proofs.Keeps.{IsOsek, caller_is_osek, service_answers}
use Rattle.tt_world.proofs.Deadlines.{IsFrom, IsUpTo, point_up_to}
use Rattle.tt_world.proofs.TableRows.{mode_rows, rows_later, rows_apart}
use Rattle.tt_world.proofs.Points.{Ahead}
use Rattle.tt_world.proofs.Emits.{Of, all_more, event_if_all}
use Rattle.tt_world.proofs.SourceEvents.{SourceLists, lists_of, lists_left}
use Rattle.tt_world.proofs.JobLists.{entry_of_set}
use Rattle.tt_world.proofs.WhoRuns.{Says, runner_says, last_found_at}
use Rattle.tt_world.proofs.WhoRuns.{isr_runs, highest_undone}
use Rattle.tt_world.proofs.Stamps.{each_of, is_still, StillAt, served_still}
use Rattle.tt_world.proofs.OpenLists.{tasks_of, isrs_of, is_plain, tasks_end, isrs_end}
use Rattle.tt_world.proofs.Unended.{has, open_task, open_tasks, Facts, FactsOf, PlainAt, facts_plains}

still_plain : (e : Event) → is_still e ≡ true → is_plain e ≡ true
still_plain (Round at number mode) n = cc
still_plain (Accept at source) n = cc
still_plain (Activate at task) n = cc
still_plain (End at who) n = cc
still_plain e n = refl

-- ---- a task has one unfinished activation

between : (o x : ℕ) (p : Point) → IsFrom (o + 1) p → IsUpTo x p → x ≤ o → ⊥
between o x (point.At place) a b l = omega arith
between o x point.RoundEnd a b l = b

module _ (c : ConfigParts) (rules : IsConfig c) (T : ℕ) (w : World) (es : List Event) (f : FactsOf c T (T + 1) w es)
    (a : Ahead c 1 w) where
  pub one_of_task : (i j : ℕ) → i < j → j < length w.jobs → is_done (job_at w.jobs i).left ≡ false
      → (row_of (mode_of c w) (job_at w.jobs i).entry).task ≡ (row_of (mode_of c w) (job_at w.jobs j).entry).task → ⊥
  one_of_task i j k l u same =
      let mode = mode_of c w in
      let xs = w.jobs in
      let rows = mode_rows c w.mode.0 rules in
      let first : i < length xs = omega arith in
      let e = (job_at xs i).entry in
      let d = (job_at xs j).entry in
      let later = rows_later c mode e d rows (f.1.rows i first).0 (f.1.up i j k l) in
      let dead = rows_apart c mode e d rows later (f.1.rows j l).0 same in
      let late = (f.1.rows j l).1 in
      let t = f.0 in
      between (w.tick - w.start) (row_of mode d).offset _ (a.ahead i first u)
      (point_up_to mode (row_of mode e) d (f.1.rows j l).0 dead) (omega arith)

-- ---- lists

keep_all : {X : Type 0} (xs : List X) → filter (λ (x : X). true) xs ≡ xs
keep_all [] = refl
keep_all (x ∷ xs) = ap (λ ys. x ∷ ys) (keep_all xs)

keep_if : {X : Type 0} (b : Bool) (xs : List X) → cond b (filter (λ (x : X). true) xs) xs ≡ xs
keep_if true xs = keep_all xs
keep_if false xs = refl

abbrev other_task : TaskNo → TaskNo → Bool
other_task t x = not (x.0 == t.0)

keep_one : (b : Bool) (u t : TaskNo) → (b ≡ false → u.0 ≢ t.0)
    → filter (other_task t) (cond b [] (u ∷ [])) ≡ cond b [] (u ∷ [])
keep_one true u t h = refl
keep_one false u t h = ap (λ (b : Bool). cond (not b) (u ∷ []) []) (ne_eqb u.0 t.0 (h refl))

module _ (mode : ModeDef) where
  abbrev task_of : Job → TaskNo
  task_of x = (row_of mode x.entry).task

  keep_open : (t : TaskNo) (xs : List Job)
      → ((p : ℕ) → p < length xs → is_done (job_at xs p).left ≡ false → (task_of (job_at xs p)).0 ≢ t.0)
      → filter (other_task t) (open_tasks mode xs) ≡ open_tasks mode xs
  keep_open t [] h = refl
  keep_open t (x ∷ xs) h =
      filter-append (other_task t) (open_task mode x) (open_tasks mode xs)
      ∙ ap (λ ys. ys ++ filter (other_task t) (open_tasks mode xs))
      (keep_one (is_done x.left) (task_of x) t (h 0 (omega arith)))
      ∙ ap (λ ys. open_task mode x ++ ys) (keep_open t xs (λ p l u. h (suc p) (omega arith) u))

  drop_one : (b : Bool) (u t : TaskNo) → b ≡ false → u.0 ≡ t.0 → filter (other_task t) (cond b [] (u ∷ [])) ≡ []
  drop_one true u t d e = cc
  drop_one false u t d e = ap (λ (b : Bool). cond (not b) (u ∷ []) []) (eq-eqb u.0 t.0 e)

  -- the end of a task's one unfinished activation removes it from the list
  pub close_open : (t : TaskNo) (xs : List Job) (q : ℕ) (y : Job) → q < length xs → is_done y.left ≡ true
      → is_done (job_at xs q).left ≡ false → (task_of (job_at xs q)).0 ≡ t.0
      → ((p : ℕ) → p < length xs → is_done (job_at xs p).left ≡ false → p ≢ q → (task_of (job_at xs p)).0 ≢ t.0)
      → filter (other_task t) (open_tasks mode xs) ≡ open_tasks mode (slice_set xs q y)
  close_open t [] q y l d u e h = absurd (omega arith)
  close_open t (x ∷ xs) zero y l d u e h =
      filter-append (other_task t) (open_task mode x) (open_tasks mode xs)
      ∙ ap (λ ys. ys ++ filter (other_task t) (open_tasks mode xs)) (drop_one (is_done x.left) (task_of x) t u e)
      ∙ keep_open t xs (λ p m v. h (suc p) (omega arith) v (λ z. absurd (omega arith)))
      ∙ sym (ap (λ (b : Bool). cond b [] (task_of y ∷ []) ++ open_tasks mode xs) d)
  close_open t (x ∷ xs) (suc q) y l d u e h =
      filter-append (other_task t) (open_task mode x) (open_tasks mode xs)
      ∙ ap (λ ys. ys ++ filter (other_task t) (open_tasks mode xs))
      (keep_one (is_done x.left) (task_of x) t (λ v. h 0 (omega arith) v (λ z. absurd (omega arith))))
      ∙ ap (λ ys. open_task mode x ++ ys)
      (close_open t xs q y (omega arith) d u e (λ p m v n. h (suc p) (omega arith) v (λ z. n (omega arith))))

  pub same_open : (xs : List Job) (q : ℕ) (y : Job) → open_task mode y ≡ open_task mode (job_at xs q)
      → open_tasks mode (slice_set xs q y) ≡ open_tasks mode xs
  same_open [] q y e = refl
  same_open (x ∷ xs) zero y e = ap (λ ys. ys ++ open_tasks mode xs) e
  same_open (x ∷ xs) (suc q) y e = ap (λ ys. open_task mode x ++ ys) (same_open xs q y e)

abbrev other_isr : IsrNo → IsrNo → Bool
other_isr i x = not (x.0 == i.0)

not_true : (b : Bool) → not b ≡ true → b ≡ false
not_true true e = cc
not_true false e = refl

not_false : (b : Bool) → not b ≡ false → b ≡ true
not_false true e = refl
not_false false e = cc

without_same : (i : IsrNo) (xs : List IsrNo) → has i.0 (filter (other_isr i) xs) ≡ false
without_same i [] = refl
without_same i (x ∷ xs) =
    cond_both (other_isr i x) _ _ (λ ys. has i.0 ys ≡ false)
    (λ e. ap (λ (b : Bool). b || has i.0 (filter (other_isr i) xs)) (not_true (x.0 == i.0) e) ∙ without_same i xs)
    (λ _. without_same i xs)

without_other : (i : IsrNo) (n : ℕ) (xs : List IsrNo) → i.0 ≢ n → has n (filter (other_isr i) xs) ≡ has n xs
without_other i n [] h = refl
without_other i n (x ∷ xs) h =
    cond_both (other_isr i x) _ _ (λ ys. has n ys ≡ has n (x ∷ xs))
    (λ _. ap (λ (b : Bool). (x.0 == n) || b) (without_other i n xs h))
    (λ e.
    let z = eqb-true x.0 i.0 (not_false (x.0 == i.0) e) in
    without_other i n xs h ∙ sym (ap (λ (b : Bool). b || has n xs) (ne_eqb x.0 n (λ y. h (sym z ∙ y)))))

-- ---- what a tick leaves

abbrev left_acts : Runner → List Job → List Stmt → List Job
left_acts (runner.Job q) xs after = with_left xs q after
left_acts r xs after = xs

abbrev left_isrs : Runner → List (List Stmt) → List Stmt → List (List Stmt)
left_isrs (runner.Isr i) xs after = slice_set xs i.0 after
left_isrs r xs after = xs

-- a runner that is no OSEK task ends exactly where nothing is left of it
abbrev pub Ended : Runner → Bool → List Stmt → Type 0
Ended r ended after = IsOsek r ⊎ (ended ≡ is_done after)

-- what a tick leaves of a world, and of its runner
pub record Left (w : World) (r : Runner) (v : World) (ended : Bool) : Type 0 where
  pub after : List Stmt
  pub start : v.start ≡ w.start
  pub mode : v.mode ≡ w.mode
  pub tick : v.tick ≡ w.tick
  pub acts : v.jobs ≡ left_acts r w.jobs after
  pub isrs : v.isrs ≡ left_isrs r w.isrs after
  pub gates : v.isrs_held ≡ w.isrs_held
  pub lists : lists_of v ≡ lists_left r (lists_of w) after
  pub ends : Ended r ended after

leaving_left : (w : World) (r : Runner) (v : World) (after : List Stmt) (ended : Bool) → v.start ≡ w.start
    → v.mode ≡ w.mode → v.tick ≡ w.tick → v.jobs ≡ w.jobs → lists_of v ≡ lists_of w → Ended r ended after
    → Left w r (leaving v r after) ended
leaving_left w (runner.Isr i) v after ended a b t d h e =
    record {
      after = after;
      start = a;
      mode = b;
      tick = t;
      acts = d;
      isrs = ap (λ (l : SourceLists). slice_set l.isrs i.0 after) h;
      gates = ap (λ (l : SourceLists). l.isrs_held) h;
      lists = ap (λ (l : SourceLists). lists_left (runner.Isr i) l after) h;
      ends = e;
    }
leaving_left w (runner.Job q) v after ended a b t d h e =
    record {
      after = after;
      start = a;
      mode = b;
      tick = t;
      acts = ap (λ (xs : List Job). with_left xs q after) d;
      isrs = ap (λ (l : SourceLists). l.isrs) h;
      gates = ap (λ (l : SourceLists). l.isrs_held) h;
      lists = h;
      ends = e;
    }
leaving_left w (runner.Oisr i) v after ended a b t d h e =
    record {
      after = after;
      start = a;
      mode = b;
      tick = t;
      acts = d;
      isrs = ap (λ (l : SourceLists). l.isrs) h;
      gates = ap (λ (l : SourceLists). l.isrs_held) h;
      lists = ap (λ (l : SourceLists). lists_left (runner.Oisr i) l after) h;
      ends = e;
    }
leaving_left w (runner.Osek i) v after ended a b t d h e =
    record {
      after = after;
      start = a;
      mode = b;
      tick = t;
      acts = d;
      isrs = ap (λ (l : SourceLists). l.isrs) h;
      gates = ap (λ (l : SourceLists). l.isrs_held) h;
      lists = h;
      ends = e;
    }
leaving_left w runner.Nobody v after ended a b t d h e =
    record {
      after = after;
      start = a;
      mode = b;
      tick = t;
      acts = d;
      isrs = ap (λ (l : SourceLists). l.isrs) h;
      gates = ap (λ (l : SourceLists). l.isrs_held) h;
      lists = h;
      ends = e;
    }

-- a service that ends its caller leaves nothing of it, unless the caller is an OSEK task
abbrev Fine : Runner → Answer → Type 0
Fine r a = IsOsek r ⊎ (a.ends ≡ true → is_done a.left ≡ true)

synced_fine : (c : ConfigParts) (r : Runner) (global : Option ℕ) (left : List Stmt) (w : World)
    → Fine r (synced c global w left)
synced_fine c r None left w = inr (λ e. cc)
synced_fine c r (Some global) left w = inr (λ e. cc)

service_fine : (c : ConfigParts) (s : ScriptParts) (r : Runner) (k : Call) (left : List Stmt) (w : World)
    → Fine r (service c s r k left w)
unfolding service
service_fine c s r (call.Switch mode) left w = inr (λ e. cc)
service_fine c s r call.Sync left w = synced_fine c r _ left w
service_fine c s r call.Shutdown left w = inr (λ e. cc)
service_fine c s r (call.Activate task) left w =
    cond_both (is_suspended w task) _ _ (Fine r) (λ _. inr (λ e. cc)) (λ _. inr (λ e. cc))
service_fine c s r (call.Chain task) left w =
    cond_both (is_caller r task) _ _ (Fine r) (λ e. inl (caller_is_osek r task e))
    (λ _. cond_both (is_suspended w task) _ _ (Fine r) (λ _. inr (λ e. refl)) (λ _. inr (λ e. cc)))
service_fine c s r call.Terminate left w = inr (λ e. refl)

or_same : (a b : Bool) → (a ≡ true → b ≡ true) → (a || b) ≡ b
or_same true b h = sym (h refl)
or_same false b h = refl

pub effected_left : (c : ConfigParts) (s : ScriptParts) (r : Runner) (who : Owner) (effects : List Effect)
    (left : List Stmt) (w v : World) → v.start ≡ w.start → v.mode ≡ w.mode → v.tick ≡ w.tick → v.jobs ≡ w.jobs
    → lists_of v ≡ lists_of w
    → is_over (effected c s r who effects left v).move.end ≡ false
    → Left w r (effected c s r who effects left v).move.world (effected c s r who effects left v).ended
effected_left c s r who [] left w v a b t d h on = leaving_left w r v left (is_done left) a b t d h (inr refl)
effected_left c s r who (effect.Out value ∷ rest) left w v a b t d h on =
    leaving_left w r v left (is_done left) a b t d h (inr refl)
effected_left c s r who (effect.Service k ∷ rest) left w v a b t d e on =
    let answer = service c s r k left v in
    let h = (service_answers c s r k left v).world in
    let fine : Ended r (answer.ends || is_done answer.left) answer.left =
    ⊎_elim (λ (o : IsOsek r). inl o) (λ (n : answer.ends ≡ true → is_done answer.left ≡ true). inr
    (or_same answer.ends (is_done answer.left) n)) (service_fine c s r k left v) in
    cond_both (is_shutdown k) _ _ (λ (m : Moved). is_over m.end ≡ false
    → Left w r m.world (answer.ends || is_done answer.left)) (λ _ on. cc)
    (λ _ on.
    leaving_left w r answer.world answer.left (answer.ends || is_done answer.left)
    (ap (λ (y : World). y.start) h.is ∙ a) (ap (λ (y : World). y.mode) h.is ∙ b)
    (ap (λ (y : World). y.tick) h.is ∙ t) (ap (λ (y : World). y.jobs) h.is ∙ d)
    (ap lists_of h.is ∙ e) fine)
    on

-- ---- the tick is over

tasks_if : (b : Bool) (ds : List Event) (t : ℕ) (who : Owner) → Of (λ e. stamp_of e < t) ds
    → tasks_of (ds ++ event_if b (End t who)) ≡ cond b
    (filter (λ (x : TaskNo). not (same_owner (owner.Task x) who)) (tasks_of ds)) (tasks_of ds)
tasks_if true ds t who p = tasks_end ds t who p
tasks_if false ds t who p = ap tasks_of (append-nil ds)

isrs_if : (b : Bool) (ds : List Event) (t : ℕ) (who : Owner) → Of (λ e. stamp_of e < t) ds
    → isrs_of (ds ++ event_if b (End t who)) ≡ cond b
    (filter (λ (x : IsrNo). not (same_owner (owner.Isr x) who)) (isrs_of ds)) (isrs_of ds)
isrs_if true ds t who p = isrs_end ds t who p
isrs_if false ds t who p = ap isrs_of (append-nil ds)

module _ (c : ConfigParts) (s : ScriptParts) (rules : IsConfig c) (T : ℕ) where
  -- with other lists of what is left
  more_facts : (start mode : ℕ) (acts acts' : List Job) (isrs isrs' : List (List Stmt)) (held : ℕ) (ds gs : List Event)
      → Facts c T (T + 1) start mode acts isrs held ds → Of (λ e. stamp_of e ≤ T + 1) gs
      → length acts' ≡ length acts → ((p : ℕ) → p < length acts' → (job_at acts' p).entry ≡ (job_at acts p).entry)
      → tasks_of (ds ++ gs) ≡ open_tasks (mode_at c mode) acts'
      → ((n : ℕ) → has n (isrs_of (ds ++ gs)) ≡ not (is_done (get_or isrs' n []))) → length isrs' ≡ length isrs
      → Facts c (T + 1) (T + 1) start mode acts' isrs' held (ds ++ gs)
  more_facts start mode acts acts' isrs isrs' held ds gs f low long same tasks runs sized =
      let begun = f.started in
      let offset : ℕ → ℕ = λ (entry : ℕ). (row_of (mode_at c mode) entry).offset in
      record {
        stamps = all_more (λ e. stamp_of e ≤ T + 1) ds gs
            (each_of (λ e. stamp_of e ≤ T) (λ e. stamp_of e ≤ T + 1) (λ e l. omega arith) ds f.stamps) low;
        started = omega arith;
        rows = λ p l. subst (λ (entry : ℕ). (entry < length (mode_at c mode).activations)
            × (start + (row_of (mode_at c mode) entry).offset < T + 1)) (sym (same p l)) (f.rows p (omega arith));
        up = λ i j k l.
            subst (λ (entry : ℕ). (row_of (mode_at c mode) entry).offset <
            (row_of (mode_at c mode) (job_at acts' j).entry).offset) (sym (same i (omega arith)))
            (subst (λ (entry : ℕ). (row_of (mode_at c mode) (job_at acts i).entry).offset <
            (row_of (mode_at c mode) entry).offset) (sym (same j l)) (f.up i j k (omega arith)));
        tasks = tasks;
        runs = runs;
        sized = sized ∙ f.sized;
        gates = f.gates;
      }

  set_done : (xs : List (List Stmt)) (i : ℕ) (after : List Stmt) → is_done after ≡ true
      → is_done (get_or (slice_set xs i after) i []) ≡ true
  set_done xs i after d =
      ⊎_elim (λ (l : i < length xs). ap is_done (get_or-set_same xs i after [] l) ∙ d)
      (λ (g : length xs ≤ i). ap is_done
      (get_or_past (slice_set xs i after) i [] (let n = length-set xs i after in omega arith)))
      (cases_lt i (length xs))

  module _ (w : World) (ds : List Event) (f : FactsOf c T (T + 1) w ds) (a : Ahead c 1 w) (ended : Bool)
      (after : List Stmt) where
    abbrev Over : Runner → Type 0
    Over r = Facts c (T + 1) (T + 1) w.start w.mode.0 (left_acts r w.jobs after) (left_isrs r w.isrs after)
        (length w.isrs_held) (ds ++ event_if (is_somebody r && ended) (End (T + 1) (owner_of c w r)))

    low : Of (λ e. stamp_of e < T + 1) ds
    low = each_of (λ e. stamp_of e ≤ T) (λ e. stamp_of e < T + 1) (λ e l. omega arith) ds f.1.stamps

    -- neither a task nor a time-triggered routine
    over_other : (b : Bool) (who : Owner) → ((x : TaskNo) → same_owner (owner.Task x) who ≡ false)
        → ((x : IsrNo) → same_owner (owner.Isr x) who ≡ false)
        → (tasks_of (ds ++ event_if b (End (T + 1) who)) ≡ tasks_of ds)
        × (isrs_of (ds ++ event_if b (End (T + 1) who)) ≡ isrs_of ds)
    over_other b who h k = (
      tasks_if b ds (T + 1) who low
          ∙ other_tasks b who h (tasks_of ds),
      isrs_if b ds (T + 1) who low ∙ other_isrs b who k (isrs_of ds),
    )
      where
        none_tasks : (who : Owner) → ((x : TaskNo) → same_owner (owner.Task x) who ≡ false) → (xs : List TaskNo)
            → filter (λ (x : TaskNo). not (same_owner (owner.Task x) who)) xs ≡ xs
        none_tasks who h [] = refl
        none_tasks who h (x ∷ xs) =
            ap (λ (b : Bool). cond (not b) (x ∷ filter (λ (x : TaskNo). not (same_owner (owner.Task x) who)) xs)
            (filter (λ (x : TaskNo). not (same_owner (owner.Task x) who)) xs)) (h x)
            ∙ ap (λ ys. x ∷ ys) (none_tasks who h xs)

        none_isrs : (who : Owner) → ((x : IsrNo) → same_owner (owner.Isr x) who ≡ false) → (xs : List IsrNo)
            → filter (λ (x : IsrNo). not (same_owner (owner.Isr x) who)) xs ≡ xs
        none_isrs who h [] = refl
        none_isrs who h (x ∷ xs) =
            ap (λ (b : Bool). cond (not b) (x ∷ filter (λ (x : IsrNo). not (same_owner (owner.Isr x) who)) xs)
            (filter (λ (x : IsrNo). not (same_owner (owner.Isr x) who)) xs)) (h x)
            ∙ ap (λ ys. x ∷ ys) (none_isrs who h xs)

        other_tasks : (b : Bool) (who : Owner) → ((x : TaskNo) → same_owner (owner.Task x) who ≡ false)
            → (xs : List TaskNo) → cond b (filter (λ (x : TaskNo). not (same_owner (owner.Task x) who)) xs) xs ≡ xs
        other_tasks true who h xs = none_tasks who h xs
        other_tasks false who h xs = refl

        other_isrs : (b : Bool) (who : Owner) → ((x : IsrNo) → same_owner (owner.Isr x) who ≡ false) → (xs : List IsrNo)
            → cond b (filter (λ (x : IsrNo). not (same_owner (owner.Isr x) who)) xs) xs ≡ xs
        other_isrs true who h xs = none_isrs who h xs
        other_isrs false who h xs = refl

    alone : (b : Bool) (who : Owner) → ((x : TaskNo) → same_owner (owner.Task x) who ≡ false)
        → ((x : IsrNo) → same_owner (owner.Isr x) who ≡ false)
        → Facts c (T + 1) (T + 1) w.start w.mode.0 w.jobs w.isrs (length w.isrs_held)
        (ds ++ event_if b (End (T + 1) who))
    alone b who h k =
        let o = over_other b who h k in
        more_facts w.start w.mode.0 w.jobs w.jobs w.isrs w.isrs (length w.isrs_held) ds
        (event_if b (End (T + 1) who)) f.1
        (event_if_all (λ e. stamp_of e ≤ T + 1) b (End (T + 1) who) (omega arith)) refl (λ p l. refl)
        (o.0 ∙ f.1.tasks) (λ n. ap (has n) o.1 ∙ f.1.runs n) refl

    over_task : (q : ℕ) → q < length w.jobs → is_done (job_at w.jobs q).left ≡ false → ended ≡ is_done after
        → Over (runner.Job q)
    over_task q l u e =
        let xs = w.jobs in
        let mode = mode_of c w in
        let t = (row_of mode (job_at xs q).entry).task in
        let y : Job = record { entry = (job_at xs q).entry; left = after } in
        let closes : cond ended (filter (other_task t) (open_tasks mode xs)) (open_tasks mode xs) ≡ open_tasks mode
        (with_left xs q after) =
        ⊎_elim
        (λ (d : is_done after ≡ true).
        ap (λ (b : Bool). cond b (filter (other_task t) (open_tasks mode xs)) (open_tasks mode xs)) (e ∙ d)
        ∙ close_open mode t xs q y l d u refl
        (λ p m v n same.
        let is : (row_of mode (job_at xs p).entry).task ≡ t = ap (λ (k : ℕ). record { 0 = k }) same in
        ⊎_elim (λ (lt : p < q). one_of_task c rules T w ds f a p q lt l v is)
        (λ (ge : q ≤ p). one_of_task c rules T w ds f a q p (omega (arith, n)) m u (sym is)) (cases_lt p q)))
        (λ (d : is_done after ≡ false).
        ap (λ (b : Bool). cond b (filter (other_task t) (open_tasks mode xs)) (open_tasks mode xs)) (e ∙ d)
        ∙ sym (same_open mode xs q y (ap (λ (b : Bool). cond b [] (t ∷ [])) (d ∙ sym u))))
        (cases_Bool (is_done after)) in
        more_facts w.start w.mode.0 xs (with_left xs q after) w.isrs w.isrs (length w.isrs_held) ds
        (event_if ended (End (T + 1) (owner.Task t))) f.1
        (event_if_all (λ e. stamp_of e ≤ T + 1) ended (End (T + 1) (owner.Task t)) (omega arith))
        (length-set xs q y) (λ p m. entry_of_set xs q after p m)
        (tasks_if ended ds (T + 1) (owner.Task t) low
        ∙ ap (λ (ys : List TaskNo). cond ended (filter (other_task t) ys) ys) f.1.tasks ∙ closes)
        (λ n. ap (has n) (isrs_if ended ds (T + 1) (owner.Task t) low ∙ keep_if ended (isrs_of ds)) ∙ f.1.runs n) refl

    over_isr : (i : IsrNo) → is_done (get_or w.isrs i.0 []) ≡ false → ended ≡ is_done after → Over (runner.Isr i)
    over_isr i u e =
        let xs = w.isrs in
        let now : (n : ℕ) → has n (cond ended (filter (other_isr i) (isrs_of ds)) (isrs_of ds)) ≡ not
        (is_done (get_or (slice_set xs i.0 after) n [])) = λ n.
        ⊎_elim
        (λ (z : i.0 ≡ n).
        ⊎_elim
        (λ (d : is_done after ≡ true).
        ap (λ (b : Bool). has n (cond b (filter (other_isr i) (isrs_of ds)) (isrs_of ds))) (e ∙ d)
        ∙ ap (λ (k : ℕ). has k (filter (other_isr i) (isrs_of ds))) (sym z) ∙ without_same i (isrs_of ds)
        ∙ sym (ap (λ (k : ℕ). not (is_done (get_or (slice_set xs i.0 after) k []))) (sym z)
        ∙ ap not (set_done xs i.0 after d)))
        (λ (d : is_done after ≡ false).
        let here : i.0 < length xs = ⊎_elim (λ (l : i.0 < length xs). l)
        (λ (g : length xs ≤ i.0). absurd (false≢true (sym u ∙ ap is_done (get_or_past xs i.0 [] g))))
        (cases_lt i.0 (length xs)) in
        ap (λ (b : Bool). has n (cond b (filter (other_isr i) (isrs_of ds)) (isrs_of ds))) (e ∙ d) ∙ f.1.runs n
        ∙ ap (λ (k : ℕ). not (is_done (get_or xs k []))) (sym z) ∙ ap not u
        ∙ sym (ap (λ (k : ℕ). not (is_done (get_or (slice_set xs i.0 after) k []))) (sym z)
        ∙ ap (λ (ys : List Stmt). not (is_done ys)) (get_or-set_same xs i.0 after [] here) ∙ ap not d))
        (cases_Bool (is_done after)))
        (λ (z : i.0 ≢ n).
        let kept : has n (cond ended (filter (other_isr i) (isrs_of ds)) (isrs_of ds)) ≡ has n (isrs_of ds) =
        cond_both ended _ _ (λ ys. has n ys ≡ has n (isrs_of ds)) (λ _. without_other i n (isrs_of ds) z)
        (λ _. refl) in
        kept ∙ f.1.runs n
        ∙ sym (ap (λ (ys : List Stmt). not (is_done ys)) (get_or-set_other xs i.0 n after [] (λ d. z (sym d)))))
        (cases_eq i.0 n) in
        more_facts w.start w.mode.0 w.jobs w.jobs xs (slice_set xs i.0 after) (length w.isrs_held) ds
        (event_if ended (End (T + 1) (owner.Isr i))) f.1
        (event_if_all (λ e. stamp_of e ≤ T + 1) ended (End (T + 1) (owner.Isr i)) (omega arith))
        refl (λ p l. refl)
        (tasks_if ended ds (T + 1) (owner.Isr i) low ∙ keep_if ended (tasks_of ds) ∙ f.1.tasks)
        (λ n. ap (has n) (isrs_if ended ds (T + 1) (owner.Isr i) low) ∙ now n) (length-set xs i.0 after)

    over_facts : (r : Runner) → runner_of c w ≡ r → Says w.jobs r → Ended r ended after → Over r
    over_facts (runner.Isr i) e says o =
        over_isr i (highest_undone _ w.isrs i.0 (isr_runs c w i e))
        (⊎_elim (λ (n : IsOsek (runner.Isr i)). cc) (λ (h : ended ≡ is_done after). h) o)
    over_facts (runner.Job q) e says o =
        let last = last_found_at w.jobs q says in
        let z : q - 0 ≡ q = omega arith in
        over_task q (subst (λ (k : ℕ). k < length w.jobs) z last.within)
        (subst (λ (k : ℕ). is_done (job_at w.jobs k).left ≡ false) z last.undone)
        (⊎_elim (λ (n : IsOsek (runner.Job q)). cc) (λ (h : ended ≡ is_done after). h) o)
    over_facts (runner.Oisr i) e says o = alone ended (owner.Oisr i) (λ x. refl) (λ x. refl)
    over_facts (runner.Osek i) e says o = alone ended (owner.Osek i) (λ x. refl) (λ x. refl)
    over_facts runner.Nobody e says o = alone false owner.Idle (λ x. refl) (λ x. refl)

  -- the events of a tick before its end change nothing
  pub now_facts : (w : World) (es : List Event) → FactsOf c T (T + 1) w es
      → FactsOf c T (T + 1) w
      (es ++ (run_line w (owner_of c w (runner_of c w))
      ++ (runner_tick c s (runner_of c w) (owner_of c w (runner_of c w)) w).move.events))
  now_facts w es f =
      let r = runner_of c w in
      let who = owner_of c w r in
      let fs = (runner_tick c s r who w).move.events in
      let line = run_line w who in (
        f.0,
        facts_plains c T (T + 1) w.start w.mode.0 w.jobs w.isrs (length w.isrs_held) es (line ++ fs)
            (all_more (PlainAt T) line fs (event_if_all (PlainAt T) (not (ran_before w.last who)) (Run w.tick who)
            (f.0, refl))
            (each_of (StillAt w.tick) (PlainAt T) (λ e q. (q.0 ∙ f.0, still_plain e q.1)) fs
            (served_still c s w r who))) f.1,
      )

  pub step_facts : (w : World) (es : List Event) → FactsOf c T (T + 1) w es → Ahead c 1 w
      → LeadsTo (FactsOf c (T + 1) (T + 1)) Anything es (step c s w)
  unfolding step
  step_facts w es f a =
      let r = runner_of c w in
      let who = owner_of c w r in
      let state = state_after c s w (left_of w r) in
      let tick = runner_tick c s r who w in
      let ds = es ++ (run_line w who ++ tick.move.events) in
      followed_at (FactsOf c (T + 1) (T + 1)) Anything es (preceded (run_line w who) tick.move)
      (tick_over who (is_somebody r && tick.ended)) (λ _. tt)
      (λ on.
      let v = tick.move.world in
      let l : Left w r v tick.ended = effected_left c s r who state.effects state.left w
      (record w { vars = state.vars; cursors = state.cursors }) refl refl refl refl refl on in
      let t : v.tick ≡ T = l.tick ∙ f.0 in
      let over = over_facts w ds (now_facts w es f) a tick.ended l.after r refl (runner_says c w) l.ends in
      let there = λ (k start mode : ℕ) (acts : List Job) (isrs : List (List Stmt)) (held : ℕ). Facts c (T + 1)
      (T + 1) start mode acts isrs held (ds ++ event_if (is_somebody r && tick.ended) (End (k + 1) who)) in (
        ap (λ (k : ℕ). k + 1) t,
        subst (λ (k : ℕ). there k v.start v.mode.0 v.jobs v.isrs (length v.isrs_held)) (sym t)
            (subst (λ (k : ℕ). there T k v.mode.0 v.jobs v.isrs (length v.isrs_held)) (sym l.start)
            (subst (λ (k : _). there T w.start k.0 v.jobs v.isrs (length v.isrs_held)) (sym l.mode)
            (subst (λ (k : List Job). there T w.start w.mode.0 k v.isrs (length v.isrs_held)) (sym l.acts)
            (subst (λ (k : List (List Stmt)). there T w.start w.mode.0 (left_acts r w.jobs l.after) k
            (length v.isrs_held)) (sym l.isrs)
            (subst (λ (k : List Bool). there T w.start w.mode.0 (left_acts r w.jobs l.after)
            (left_isrs r w.isrs l.after) (length k)) (sym l.gates) over))))),
      ))
