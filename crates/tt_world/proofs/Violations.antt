-- A missed check is followed by the hooks and nothing else, and ttErrorHook is called only after a missed check.
use Rattle.std.proofs.Common.{ℕ, zero, suc, ◌≡◌, ◌+◌, List, [], ◌∷◌, ◌++◌, Bool, true, false, Option, None, Some, refl, ap, sym, ◌∙◌, subst, arith, append_assoc, ◌⊎◌, ⊎_elim, inl, inr}
use Rattle.std.specs.Prelude.{ℤ}
use Rattle.std.proofs.lemmas.Bool.{cond_both, false≢true}
use Rattle.tt_base.specs.declared.number.TaskNo.{TaskNo}
use Rattle.tt_base.specs.declared.event.Event.{Event}
use Rattle.tt_base.specs.declared.event.Event.TheVariants.{Check, Run, End, ErrorHook, Shutdown}
use Rattle.tt_base.specs.declared.event.Owner.{Owner}
use Rattle.tt_base.specs.declared.event.Owner.TheVariants as owner
use Rattle.task_lang.specs.declared.syntax.Stmt.{Stmt, out-Stmt}
use Rattle.task_lang.specs.declared.syntax.Stmt.TheOpen.{Stmt-F}
use Rattle.task_lang.specs.declared.tick.Effect.{Effect}
use Rattle.task_lang.specs.declared.tick.Effect.TheVariants as effect
use Rattle.task_lang.specs.Value.{value_of}
use Rattle.tt_world.specs.declared.config.ConfigParts.{ConfigParts}
use Rattle.tt_world.specs.declared.config.ModeDef.{ModeDef}
use Rattle.tt_world.specs.declared.script.ScriptParts.{ScriptParts}
use Rattle.tt_world.specs.declared.world.Point.{Point}
use Rattle.tt_world.specs.declared.world.Runner.{Runner}
use Rattle.tt_world.specs.World.{World, Job}
use Rattle.tt_world.specs.ConfigRules.{IsConfig}
use Rattle.tt_world.specs.ScriptRules.{IsScript}
use Rattle.tt_world.specs.Moved.{Moved, preceded}
use Rattle.tt_world.specs.Hooks.{vars_by, vars_after, outs_by, outs_of, shuts_down, misses}
use Rattle.tt_world.specs.Rows.{offset_of, mode_of, row_of, entry_at}
use Rattle.tt_world.specs.Points.{point_of}
use Rattle.tt_world.specs.Correction.{is_length}
use Rattle.tt_world.specs.Monitoring.{Checked, check_then, check_if, checked, after_checks, monitored, is_at, is_at_end}
use Rattle.tt_world.specs.Rounds.{head, latch, next_round, round_end}
use Rattle.tt_world.specs.Gates.{enables, arrivals, acceptances}
use Rattle.tt_world.specs.Opening.{checks, activation}
use Rattle.tt_world.specs.Runners.{is_done, left_of, leaving, runner_of, owner_of}
use Rattle.tt_world.specs.Services.{service, is_shutdown}
use Rattle.tt_world.specs.Step.{state_after, effected, runner_tick, run_line, step}
use Rattle.tt_world.specs.Schedule.{IsLast, instant, instant_at, world_at, events_before, last_instant, schedule}
use Rattle.tt_world.specs.EventLaws.{IsOutOf, IsViolation}
use Rattle.tt_world.specs.RunLaws.{is_missed}
use Rattle.tt_world.proofs.Parts.{OfRun, OfEnd, OpeningKeeps, LeadsTo, Leads, leads_by, led_on, led_over, still_leads, followed_leads, instant_leads, GoesOnBefore}
use Rattle.tt_world.proofs.Ends.{are_bounded, last_is}
use Rattle.tt_world.proofs.Through.{of_inner}
use Rattle.tt_world.proofs.Emits.{Of, of_all, all_more, event_if_all, followed_all, latch_all, next_round_all, enables_all, arrivals_all, acceptances_all, activated_all}
use Rattle.tt_world.specs.declared.world.RunEnd.TheVariants as ending

-- ---- a list has one such event

module _ (test : Event → Bool) where
  abbrev pub Not : Event → Type 0
  Not e = test e ≡ false

  pub none_such : (es before after : List Event) (e : Event) → Of Not es → test e ≡ true → es ≡ before ++ e ∷ after → ⊥
  none_such es before after e p t f = false≢true (sym (of_inner Not before after e (subst (Of Not) f p)) ∙ t)

  heads : (x y : Event) (xs ys : List Event) → x ∷ xs ≡ y ∷ ys → x ≡ y
  heads x y xs ys e = cc

  tails : (x y : Event) (xs ys : List Event) → x ∷ xs ≡ y ∷ ys → xs ≡ ys
  tails x y xs ys e = cc

  pub one_such : (xs more ys others : List Event) (x y : Event) → Of Not xs → Of Not more → test y ≡ true
      → xs ++ x ∷ more ≡ ys ++ y ∷ others → (xs ≡ ys) × (x ≡ y) × (more ≡ others)
  one_such [] more [] others x y p q t e = (refl, heads x y more others e, tails x y more others e)
  one_such [] more (b ∷ ys) others x y p q t e =
      absurd (none_such more ys others y q t (tails x b more (ys ++ y ∷ others) e))
  one_such (a ∷ xs) more [] others x y p q t e =
      absurd (false≢true (sym p.0 ∙ ap test (heads a y (xs ++ x ∷ more) others e) ∙ t))
  one_such (a ∷ xs) more (b ∷ ys) others x y p q t e =
      let h = heads a b (xs ++ x ∷ more) (ys ++ y ∷ others) e in
      let k = one_such xs more ys others x y p.1 q t (tails a b (xs ++ x ∷ more) (ys ++ y ∷ others) e) in
      (ap (λ (z : Event). z ∷ xs) h ∙ ap (λ (zs : List Event). b ∷ zs) k.0, k.1, k.2)

-- ---- what no other part writes

abbrev pub is_error : Event → Bool
is_error (ErrorHook at task) = true
is_error event = false

-- it is neither a missed check nor a call of ttErrorHook
abbrev pub IsPlain : Event → Type 0
IsPlain e = (is_missed e ≡ false) × (is_error e ≡ false)

pub not_missed : (es : List Event) → Of IsPlain es → Of (Not is_missed) es
not_missed [] p = tt
not_missed (e ∷ es) p = (p.0.0, not_missed es p.1)

pub not_error : (es : List Event) → Of IsPlain es → Of (Not is_error) es
not_error [] p = tt
not_error (e ∷ es) p = (p.0.1, not_error es p.1)

outs_by_are : (at : ℕ) (hook : Owner) (vars : List ℤ) (stmt : Stmt-F Stmt)
    → Of (IsOutOf hook at) (outs_by at hook vars stmt)
outs_by_are at hook vars (Stmt-F.Out expr) = ((value_of vars expr, refl), tt)
outs_by_are at hook vars _ = tt

outs_are : (at : ℕ) (hook : Owner) (vars : List ℤ) (body : List Stmt) → Of (IsOutOf hook at) (outs_of at hook vars body)
unfolding outs_of
outs_are at hook vars [] = tt
outs_are at hook vars (stmt ∷ rest) =
    all_more (IsOutOf hook at) (outs_by at hook vars (out-Stmt stmt))
    (outs_of at hook (vars_by vars (out-Stmt stmt)) rest) (outs_by_are at hook vars (out-Stmt stmt))
    (outs_are at hook (vars_by vars (out-Stmt stmt)) rest)

outs_plain : (at : ℕ) (hook : Owner) (es : List Event) → Of (IsOutOf hook at) es → Of IsPlain es
outs_plain at hook [] p = tt
outs_plain at hook (e ∷ es) p = ((ap is_missed p.0.1, ap is_error p.0.1), outs_plain at hook es p.1)

shuts_plain : (c : ConfigParts) (end : _) (w : World) → Of IsPlain (shuts_down c end w).events
shuts_plain c end w =
    let outs = outs_of w.tick owner.ShutdownHook w.vars c.shutdown_hook in (
      (refl, refl),
      all_more IsPlain outs (Shutdown w.tick ∷ [])
          (outs_plain w.tick owner.ShutdownHook outs (outs_are w.tick owner.ShutdownHook w.vars c.shutdown_hook))
          ((refl, refl), tt),
    )

module _ (c : ConfigParts) (s : ScriptParts) where
  effected_plain : (r : Runner) (who : Owner) (effects : List Effect) (left : List Stmt) (w : World)
      → Of IsPlain (effected c s r who effects left w).move.events
  effected_plain r who [] left w = tt
  effected_plain r who (effect.Out value ∷ rest) left w = ((refl, refl), tt)
  effected_plain r who (effect.Service k ∷ rest) left w =
      let answer = service c s r k left w in
      cond_both (is_shutdown k) _ _ (λ (m : Moved). Of IsPlain m.events)
      (λ _. ((refl, refl), shuts_plain c (Some ending.Shutdown) (leaving answer.world r answer.left)))
      (λ _. ((refl, refl), tt))

  step_plain : (w : World) → Of IsPlain (step c s w).events
  unfolding step
  step_plain w =
      let r = runner_of c w in
      let who = owner_of c w r in
      let state = state_after c s w (left_of w r) in
      followed_all IsPlain (preceded (run_line w who) (runner_tick c s r who w).move) _
      (all_more IsPlain (run_line w who) (runner_tick c s r who w).move.events
      (event_if_all IsPlain _ (Run w.tick who) (refl, refl)) (effected_plain r who state.effects state.left _))
      (λ v. event_if_all IsPlain _ (End (v.tick + 1) who) (refl, refl))

-- ---- checks

-- the checks at a tick: they are plain where none was missed, otherwise the last of them is the missed one
abbrev pub CheckForm : ℕ → List Event → Option TaskNo → Type 0
CheckForm at fs None = Of IsPlain fs
CheckForm at fs (Some task) = (before : List Event) × (fs ≡ before ++ Check at task false ∷ []) × Of IsPlain before

met_form : (at : ℕ) (task : TaskNo) (fs : List Event) (missed : Option TaskNo) → CheckForm at fs missed
    → CheckForm at (Check at task true ∷ fs) missed
met_form at task fs None p = ((refl, refl), p)
met_form at task fs (Some other) p =
    (Check at task true ∷ p.0, ap (λ (xs : List Event). Check at task true ∷ xs) p.1, ((refl, refl), p.2))

then_form : (at : ℕ) (task : TaskNo) (met : Bool) (others : Checked) → CheckForm at others.events others.missed
    → CheckForm at (check_then at task met others).events (check_then at task met others).missed
then_form at task true others p = met_form at task others.events others.missed p
then_form at task false others p = ([], refl, tt)

if_form : (at : ℕ) (due : Bool) (check others : Checked) → CheckForm at check.events check.missed
    → CheckForm at others.events others.missed
    → CheckForm at (check_if due check others).events (check_if due check others).missed
if_form at true check others p q = p
if_form at false check others p q = q

pub checked_form : (at : ℕ) (mode : ModeDef) (is_due : Point → Bool) (xs : List Job)
    → CheckForm at (checked at mode is_due xs).events (checked at mode is_due xs).missed
unfolding checked
checked_form at mode is_due [] = tt
checked_form at mode is_due (x ∷ xs) =
    if_form at (is_due (point_of mode (row_of mode x.entry))) _ (checked at mode is_due xs)
    (then_form at (row_of mode x.entry).task (is_done x.left) (checked at mode is_due xs)
    (checked_form at mode is_due xs)) (checked_form at mode is_due xs)

-- all events of a run that a missed check ends
pub record Violated (es : List Event) : Type 0 where
  pub at : ℕ
  pub task : TaskNo
  pub before : List Event
  pub following : List Event
  pub is : es ≡ before ++ Check at task false ∷ (ErrorHook at task ∷ following)
  pub plain : Of IsPlain before
  pub following_plain : Of IsPlain following
  pub follows : IsViolation at task (ErrorHook at task ∷ following)

abbrev pub Plain : OfRun
Plain w es = Of IsPlain es

abbrev pub PlainOr : OfEnd
PlainOr end w es = Of IsPlain es ⊎ Violated es

module _ (c : ConfigParts) (s : ScriptParts) where
  plain_leads : (w : World) (es : List Event) (m : Moved) → Of IsPlain es → Of IsPlain m.events
      → LeadsTo Plain PlainOr es m
  plain_leads w es m p q = leads_by Plain PlainOr es m (λ _. all_more IsPlain es m.events p q)
      (λ _. inl (all_more IsPlain es m.events p q))

  violated : (task : TaskNo) (w : World) (es fs : List Event) → Of IsPlain es → CheckForm w.tick fs (Some task)
      → Violated (es ++ (fs ++ (misses c task w).events))
  violated task w es fs p k =
      let errors = outs_of w.tick owner.ErrorHook w.vars c.error_hook in
      let u = record w { vars = vars_after w.vars c.error_hook } in
      let outs = outs_of u.tick owner.ShutdownHook u.vars c.shutdown_hook in
      let following = errors ++ (shuts_down c (Some (ending.Missed task)) u).events in
      let rest = ErrorHook w.tick task ∷ following in
      record {
        at = w.tick;
        task = task;
        before = es ++ k.0;
        following = following;
        is = ap (λ (xs : List Event). es ++ (xs ++ rest)) k.1
            ∙ ap (λ (xs : List Event). es ++ xs) (append_assoc k.0 (Check w.tick task false ∷ []) rest)
            ∙ sym (append_assoc es k.0 (Check w.tick task false ∷ rest));
        plain = all_more IsPlain es k.0 p k.2;
        following_plain = all_more IsPlain errors (shuts_down c (Some (ending.Missed task)) u).events
            (outs_plain w.tick owner.ErrorHook errors (outs_are w.tick owner.ErrorHook w.vars c.error_hook))
            (shuts_plain c (Some (ending.Missed task)) u);
        follows = record {
          errors = errors;
          outs = outs;
          errors_are = of_all (IsOutOf owner.ErrorHook w.tick) errors
              (outs_are w.tick owner.ErrorHook w.vars c.error_hook);
          outs_are = of_all (IsOutOf owner.ShutdownHook w.tick) outs
              (outs_are w.tick owner.ShutdownHook u.vars c.shutdown_hook);
          is = refl;
        };
      }

  after_plain : (fs : List Event) (missed : Option TaskNo) (w : World) (es : List Event) → CheckForm w.tick fs missed
      → Of IsPlain es → LeadsTo Plain PlainOr es (after_checks c fs missed w)
  after_plain fs None w es k p = all_more IsPlain es fs p k
  after_plain fs (Some task) w es k p = inr (violated task w es fs p k)

  monitored_plain : (is_due : Point → Bool) → Leads Plain Plain PlainOr (monitored c is_due)
  monitored_plain is_due w es p =
      after_plain (checked w.tick (mode_of c w) is_due w.jobs).events
      (checked w.tick (mode_of c w) is_due w.jobs).missed w es (checked_form w.tick (mode_of c w) is_due w.jobs) p

  checks_plain : Leads Plain Plain PlainOr (checks c)
  unfolding checks
  checks_plain w es p = monitored_plain (is_at (offset_of w)) w es p

  round_end_plain : Leads Plain Plain PlainOr (round_end c s)
  unfolding round_end
  round_end_plain w es p =
      cond_both (is_length w.latched (offset_of w)) _ _ (LeadsTo Plain PlainOr es)
      (λ _. followed_leads Plain Plain PlainOr es (monitored c (is_at_end (offset_of w)) w) (next_round s)
      (monitored_plain (is_at_end (offset_of w)) w es p)
      (λ v ds q. plain_leads v ds (next_round s v) q
      (next_round_all IsPlain s (λ _. (refl, refl)) (λ _ _ _. (refl, refl)) v)))
      (λ _. still_leads Plain PlainOr es w p)

  head_plain : (w : World) → Of IsPlain (head s w).events
  unfolding head
  head_plain w = ((refl, refl), ((refl, refl), tt))

  activation_plain : (w : World) → Of IsPlain (activation c w).events
  unfolding activation
  activation_plain w = activated_all IsPlain c (entry_at (offset_of w) (mode_of c w).activations)
      (λ _ _. (refl, refl)) w

  opening_plain : OpeningKeeps c s (λ _. Plain) PlainOr
  opening_plain = record {
    head_is = λ w es z p. plain_leads w es (head s w) p (head_plain w);
    latch_is = λ w es p. plain_leads w es (latch c w) p (latch_all IsPlain c (λ _ _. (refl, refl)) w);
    round_end_is = round_end_plain;
    checks_are = checks_plain;
    enables_are = λ w es p. plain_leads w es (enables c w) p (enables_all IsPlain c (λ _ _. (refl, refl)) w);
    arrivals_are = λ w es p. plain_leads w es (arrivals c s w) p
        (arrivals_all IsPlain c s (λ _ _. (refl, refl)) (λ _ _. (refl, refl)) w);
    acceptances_are = λ w es p. plain_leads w es (acceptances c w) p
        (acceptances_all IsPlain c (λ _ _. (refl, refl)) w);
    activation_is = λ w es p. plain_leads w es (activation c w) p (activation_plain w);
  }

  instant_plain : (w : World) (es : List Event) → Of IsPlain es → LeadsTo Plain PlainOr es (instant c s w)
  instant_plain w es p = instant_leads c s (λ _. Plain) PlainOr opening_plain Plain
      (λ v ds q. plain_leads v ds (step c s v) q (step_plain c s v)) w es p

  plain_at : (n : ℕ) → GoesOnBefore c s n → Of IsPlain (events_before c s n)
  unfolding events_before instant_at
  plain_at zero g = tt
  plain_at (suc n) g = led_on Plain PlainOr (events_before c s n) (instant c s (world_at c s n)) (g n (omega arith))
      (instant_plain (world_at c s n) (events_before c s n) (plain_at n (λ k l. g k (omega arith))))

  plain_or : (n : ℕ) → IsLast c s n → Of IsPlain (events_before c s (suc n)) ⊎ Violated (events_before c s (suc n))
  unfolding events_before instant_at
  plain_or n last = led_over Plain PlainOr (events_before c s n) (instant c s (world_at c s n)) last.ends
      (instant_plain (world_at c s n) (events_before c s n) (plain_at n last.first))

-- ---- so of a schedule

same_at : (a b : ℕ) (x y : TaskNo) (m n : Bool) → Check a x m ≡ Check b y n → a ≡ b
same_at a b x y m n e = cc

same_task : (a b : ℕ) (x y : TaskNo) (m n : Bool) → Check a x m ≡ Check b y n → x ≡ y
same_task a b x y m n e = cc

hook_at : (a b : ℕ) (x y : TaskNo) → ErrorHook a x ≡ ErrorHook b y → a ≡ b
hook_at a b x y e = cc

hook_task : (a b : ℕ) (x y : TaskNo) → ErrorHook a x ≡ ErrorHook b y → x ≡ y
hook_task a b x y e = cc

abbrev pub Violations : List Event → Type 0
Violations es = (before after : List Event) (at : ℕ) (task : TaskNo) → es ≡ before ++ Check at task false ∷ after
    → IsViolation at task after

abbrev pub ErrorHooks : List Event → Type 0
ErrorHooks es = (before after : List Event) (at : ℕ) (task : TaskNo) → es ≡ before ++ ErrorHook at task ∷ after
    → (first : List Event) × (before ≡ first ++ Check at task false ∷ [])

violation_from : (es : List Event) → Of IsPlain es ⊎ Violated es → Violations es
violation_from es p before after at task e =
    ⊎_elim (λ (q : Of IsPlain es). absurd
    (none_such is_missed es before after (Check at task false) (not_missed es q) refl e))
    (λ (v : Violated es).
    let rest = ErrorHook v.at v.task ∷ v.following in
    let k = one_such is_missed v.before rest before after (Check v.at v.task false) (Check at task false)
    (not_missed v.before v.plain) (refl, not_missed v.following v.following_plain) refl (sym v.is ∙ e) in
    subst (IsViolation at task) k.2 (subst (λ (t : TaskNo). IsViolation at t rest)
    (same_task v.at at v.task task false false k.1)
    (subst (λ (x : ℕ). IsViolation x v.task rest) (same_at v.at at v.task task false false k.1) v.follows)))
    p

hook_from : (es : List Event) → Of IsPlain es ⊎ Violated es → ErrorHooks es
hook_from es p before after at task e =
    ⊎_elim (λ (q : Of IsPlain es). absurd
    (none_such is_error es before after (ErrorHook at task) (not_error es q) refl e))
    (λ (v : Violated es).
    let front = v.before ++ Check v.at v.task false ∷ [] in
    let is : es ≡ front ++ ErrorHook v.at v.task ∷ v.following = v.is
    ∙ sym (append_assoc v.before (Check v.at v.task false ∷ []) (ErrorHook v.at v.task ∷ v.following)) in
    let k = one_such is_error front v.following before after (ErrorHook v.at v.task) (ErrorHook at task)
    (all_more (Not is_error) v.before _ (not_error v.before v.plain) (refl, tt))
    (not_error v.following v.following_plain) refl (sym is ∙ e) in (
      v.before,
      sym k.0 ∙ ap (λ (x : ℕ). v.before ++ Check x v.task false ∷ []) (hook_at v.at at v.task task k.1)
          ∙ ap (λ (t : TaskNo). v.before ++ Check at t false ∷ []) (hook_task v.at at v.task task k.1),
    ))
    p

-- what follows a missed check: the hooks, and nothing else
pub violations : (c : ConfigParts) (s : ScriptParts) → IsConfig c → IsScript c s → Violations (schedule c s)
unfolding schedule
violations c s rules script = violation_from (events_before c s (suc (last_instant c s)))
    (plain_or c s (last_instant c s) (last_is c s (are_bounded c s rules script)))

-- ttErrorHook is called right after a missed check, and nowhere else
pub error_hooks : (c : ConfigParts) (s : ScriptParts) → IsConfig c → IsScript c s → ErrorHooks (schedule c s)
unfolding schedule
error_hooks c s rules script = hook_from (events_before c s (suc (last_instant c s)))
    (plain_or c s (last_instant c s) (last_is c s (are_bounded c s rules script)))
