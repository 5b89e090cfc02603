-- What holds of each event of a part of an instant.
use Rattle.std.proofs.Common.{ℕ, ◌+◌, ◌-◌, List, [], ◌∷◌, ◌++◌, Bool, true, false, Option, None, Some, eqb, arith}
use Rattle.std.specs.Prelude.{ℤ, ◌==◌, not, All, map}
use Rattle.std.specs.List.{list_any}
use Rattle.std.proofs.lemmas.List.Elements.{All-cons}
use Rattle.std.proofs.lemmas.Bool.{cond_both}
use Rattle.tt_base.specs.declared.number.TaskNo.{TaskNo}
use Rattle.tt_base.specs.declared.number.IsrNo.{IsrNo}
use Rattle.tt_base.specs.declared.number.ModeNo.{ModeNo}
use Rattle.tt_base.specs.declared.event.Call.{Call}
use Rattle.tt_base.specs.declared.event.Owner.{Owner}
use Rattle.tt_base.specs.declared.event.Owner.TheVariants as owner
use Rattle.tt_base.specs.declared.event.Event.{Event}
use Rattle.tt_base.specs.declared.event.Event.TheVariants.{Round, Correct, Check, Enable, Arrive, Merge, Accept, Activate, Run, End, Out, Called, ErrorHook, ShutdownHook, Shutdown, Stop}
use Rattle.task_lang.specs.declared.syntax.Stmt.{Stmt, out-Stmt}
use Rattle.task_lang.specs.declared.syntax.Stmt.TheOpen.{Stmt-F}
use Rattle.task_lang.specs.declared.tick.Effect.{Effect}
use Rattle.task_lang.specs.declared.tick.Effect.TheVariants as effect
use Rattle.tt_world.specs.declared.config.ConfigParts.{ConfigParts}
use Rattle.tt_world.specs.declared.config.ModeDef.{ModeDef}
use Rattle.tt_world.specs.declared.script.ScriptParts.{ScriptParts}
use Rattle.tt_world.specs.declared.world.Point.{Point}
use Rattle.tt_world.specs.declared.world.Runner.{Runner}
use Rattle.tt_world.specs.World.{World, Source, Job}
use Rattle.tt_world.specs.Hooks.{vars_by, vars_after, outs_by, outs_of, shuts_down, misses}
use Rattle.tt_world.specs.Rows.{offset_of, mode_of, row_of, enables_at}
use Rattle.tt_world.specs.Moved.{Moved, is_over, preceded, continued, followed, chain, event_if}
use Rattle.tt_world.specs.Correction.{is_no_change, is_length}
use Rattle.tt_world.specs.Monitoring.{Checked, check_then, check_if, checked, monitored, after_checks, is_at_end}
use Rattle.tt_world.specs.Points.{point_of}
use Rattle.tt_world.specs.Rounds.{latch, next_round, round_end}
use Rattle.tt_world.specs.Gates.{enable, enables, arrived, arrival, arrivals, is_accepted, acceptance, acceptances, sources, arrivals_of, is_held}
use Rattle.tt_world.specs.Opening.{activated}
use Rattle.tt_world.specs.Runners.{is_done, left_of, leaving, runner_of, owner_of}
use Rattle.tt_world.specs.Services.{is_shutdown, service, Answer}
use Rattle.tt_world.specs.Step.{effected, called, state_after, runner_tick, step, run_line}
use Rattle.tt_world.specs.declared.world.RunEnd.TheVariants as ending
use Rattle.tt_world.specs.Moved.{Outcome}

-- it holds of each of these events
abbrev pub Of : (Event → Type 0) → List Event → Type 0
Of E [] = Unit {0}
Of E (e ∷ es) = E e × Of E es

module _ (E : Event → Type 0) where
  pub of_all : (es : List Event) → Of E es → All E es
  of_all [] p = λ k d l. absurd (omega arith)
  of_all (e ∷ es) p = All-cons E e es p.0 (of_all es p.1)

  pub all_more : (xs ys : List Event) → Of E xs → Of E ys → Of E (xs ++ ys)
  all_more [] ys p q = q
  all_more (x ∷ xs) ys p q = (p.0, all_more xs ys p.1 q)

  pub event_if_all : (b : Bool) (e : Event) → E e → Of E (event_if b e)
  event_if_all true e p = (p, tt)
  event_if_all false e p = tt

  continued_all : (over : Bool) (m : Moved) (next : World → Moved) → Of E m.events → Of E (next m.world).events
      → Of E (continued over m next).events
  continued_all true m next p q = p
  continued_all false m next p q = all_more m.events (next m.world).events p q

  pub followed_all : (m : Moved) (next : World → Moved) → Of E m.events → ((v : World) → Of E (next v).events)
      → Of E (followed m next).events
  unfolding followed
  followed_all m next p h = continued_all (is_over m.end) m next p (h m.world)

  pub chain_all : {X : Type 0} (part : X → World → Moved) (xs : List X) → ((x : X) (w : World) → Of E (part x w).events)
      → (w : World) → Of E (chain (map part xs) w).events
  unfolding chain
  chain_all part [] h w = tt
  chain_all part (x ∷ xs) h w = followed_all (part x w) (chain (map part xs)) (h x w) (chain_all part xs h)

  -- ---- the opening

  pub latch_all : (c : ConfigParts) → ((at : ℕ) (by : ℤ) → E (Correct at by)) → (w : World) → Of E (latch c w).events
  unfolding latch
  latch_all c h w =
      cond_both (eqb (offset_of w) (c.round - c.adjust)) _ _ (λ (m : Moved). Of E m.events)
      (λ _. event_if_all (not (is_no_change w.pending)) (Correct w.tick w.pending) (h _ _)) (λ _. tt)

  pub next_round_all : (s : ScriptParts) → ((at : ℕ) → E (Stop at))
      → ((at number : ℕ) (mode : ModeNo) → E (Round at number mode)) → (w : World) → Of E (next_round s w).events
  unfolding next_round
  next_round_all s stop round w = cond_both (eqb w.number s.rounds) _ _ (λ (m : Moved). Of E m.events)
      (λ _. (stop _, tt)) (λ _. (round _ _ _, tt))

  pub enables_all : (c : ConfigParts) → ((at : ℕ) (isr : IsrNo) → E (Enable at isr)) → (w : World)
      → Of E (enables c w).events
  unfolding enables enable
  enables_all c h w = chain_all enable (enables_at (offset_of w) (mode_of c w).enables) (λ row v. (h _ _, tt)) w

  arrived_all : (held : Bool) (source : Source) → ((at : ℕ) (who : Owner) → E (Arrive at who))
      → ((at : ℕ) (who : Owner) → E (Merge at who)) → (w : World) → Of E (arrived held source w).events
  arrived_all true source arrive merge w = (merge _ _, tt)
  arrived_all false source arrive merge w = (arrive _ _, tt)

  pub arrivals_all : (c : ConfigParts) (s : ScriptParts) → ((at : ℕ) (who : Owner) → E (Arrive at who))
      → ((at : ℕ) (who : Owner) → E (Merge at who)) → (w : World) → Of E (arrivals c s w).events
  unfolding arrivals arrival
  arrivals_all c s arrive merge w =
      chain_all (arrival s) (sources c)
      (λ source v. cond_both (list_any (λ (tick : ℕ). tick == v.tick) (arrivals_of s source)) _ _
      (λ (m : Moved). Of E m.events) (λ _. arrived_all (is_held v source) source arrive merge v) (λ _. tt)) w

  pub acceptances_all : (c : ConfigParts) → ((at : ℕ) (who : Owner) → E (Accept at who)) → (w : World)
      → Of E (acceptances c w).events
  unfolding acceptances acceptance
  acceptances_all c h w =
      chain_all (acceptance c) (sources c)
      (λ source v. cond_both (is_accepted v source) _ _ (λ (m : Moved). Of E m.events) (λ _. (h _ _, tt)) (λ _. tt))
      w

  pub activated_all : (c : ConfigParts) (entry : Option ℕ) → ((at : ℕ) (task : TaskNo) → E (Activate at task))
      → (w : World) → Of E (activated c entry w).events
  activated_all c None h w = tt
  activated_all c (Some entry) h w = (h _ _, tt)

  -- ---- checks that let the run go on, and the round's end

  if_all : (due : Bool) (check others : Checked) → Of E check.events → Of E others.events
      → Of E (check_if due check others).events
  if_all true check others a b = a
  if_all false check others a b = b

  then_all : (at : ℕ) (task : TaskNo) (met : Bool) (others : Checked)
      → ((at : ℕ) (task : TaskNo) (met : Bool) → E (Check at task met)) → Of E others.events
      → Of E (check_then at task met others).events
  then_all at task true others h q = (h _ _ _, q)
  then_all at task false others h q = (h _ _ _, tt)

  pub checked_all : (at : ℕ) (mode : ModeDef) (is_due : Point → Bool) (xs : List Job)
      → ((at : ℕ) (task : TaskNo) (met : Bool) → E (Check at task met)) → Of E (checked at mode is_due xs).events
  unfolding checked
  checked_all at mode is_due [] h = tt
  checked_all at mode is_due (x ∷ xs) h =
      if_all (is_due (point_of mode (row_of mode x.entry))) _ _
      (then_all at _ (is_done x.left) _ h (checked_all at mode is_due xs h)) (checked_all at mode is_due xs h)

  -- ---- hooks

  pub record OfHooks : Type 0 where
    pub error : (at : ℕ) (task : TaskNo) → E (ErrorHook at task)
    pub out : (at : ℕ) (who : Owner) (value : ℤ) → E (Out at who value)
    pub hook : (at : ℕ) → E (ShutdownHook at)
    pub shutdown : (at : ℕ) → E (Shutdown at)

  module _ (h : OfHooks) where
    outs_by_all : (at : ℕ) (hook : Owner) (vars : List ℤ) (stmt : Stmt-F Stmt) → Of E (outs_by at hook vars stmt)
    outs_by_all at hook vars (Stmt-F.Out expr) = (h.out _ _ _, tt)
    outs_by_all at hook vars _ = tt

    outs_all : (at : ℕ) (hook : Owner) (vars : List ℤ) (body : List Stmt) → Of E (outs_of at hook vars body)
    unfolding outs_of
    outs_all at hook vars [] = tt
    outs_all at hook vars (stmt ∷ rest) =
        all_more (outs_by at hook vars (out-Stmt stmt)) (outs_of at hook (vars_by vars (out-Stmt stmt)) rest)
        (outs_by_all at hook vars (out-Stmt stmt)) (outs_all at hook (vars_by vars (out-Stmt stmt)) rest)

    pub shuts_down_all : (c : ConfigParts) (end : Outcome) (w : World) → Of E (shuts_down c end w).events
    shuts_down_all c end w = (
      h.hook _,
      all_more (outs_of w.tick owner.ShutdownHook w.vars c.shutdown_hook) (Shutdown w.tick ∷ [])
          (outs_all w.tick owner.ShutdownHook w.vars c.shutdown_hook) (h.shutdown _, tt),
    )

    pub after_all : (c : ConfigParts) (fs : List Event) (missed : Option TaskNo) (w : World) → Of E fs
        → Of E (after_checks c fs missed w).events
    after_all c fs None w p = p
    after_all c fs (Some task) w p =
        all_more fs (misses c task w).events p (
          h.error _ _,
          all_more (outs_of w.tick owner.ErrorHook w.vars c.error_hook) _
              (outs_all w.tick owner.ErrorHook w.vars c.error_hook)
              (shuts_down_all c (Some (ending.Missed task)) (record w { vars = vars_after w.vars c.error_hook })),
        )

    pub monitored_all : (c : ConfigParts) (is_due : Point → Bool)
        → ((at : ℕ) (task : TaskNo) (met : Bool) → E (Check at task met)) → (w : World)
        → Of E (monitored c is_due w).events
    monitored_all c is_due check w = after_all c _ (checked w.tick (mode_of c w) is_due w.jobs).missed w
        (checked_all w.tick (mode_of c w) is_due w.jobs check)

    pub round_end_all : (c : ConfigParts) (s : ScriptParts)
        → ((at : ℕ) (task : TaskNo) (met : Bool) → E (Check at task met)) → ((at : ℕ) → E (Stop at))
        → ((at number : ℕ) (mode : ModeNo) → E (Round at number mode)) → (w : World) → Of E (round_end c s w).events
    unfolding round_end
    round_end_all c s check stop round w =
        cond_both (is_length w.latched (offset_of w)) _ _ (λ (m : Moved). Of E m.events)
        (λ _. followed_all (monitored c (is_at_end (offset_of w)) w) (next_round s) (monitored_all c _ check w)
        (next_round_all s stop round)) (λ _. tt)

    -- ---- the tick

    module _ (c : ConfigParts) (s : ScriptParts)
        (call : (at : ℕ) (who : Owner) (call : Call) (result : ℕ) → E (Called at who call result)) where
      called_all : (r : Runner) (who : Owner) (k : Call) (a : Answer) → Of E (called c r who k a).move.events
      called_all r who k a = cond_both (is_shutdown k) _ _ (λ (m : Moved). Of E m.events)
          (λ _. (call _ _ _ _, shuts_down_all c (Some ending.Shutdown) (leaving a.world r a.left)))
          (λ _. (call _ _ _ _, tt))

      pub effected_all : (r : Runner) (who : Owner) (effects : List Effect) (left : List Stmt) (w : World)
          → Of E (effected c s r who effects left w).move.events
      effected_all r who [] left w = tt
      effected_all r who (effect.Out value ∷ rest) left w = (h.out _ _ _, tt)
      effected_all r who (effect.Service k ∷ rest) left w = called_all r who k (service c s r k left w)

    module _ (c : ConfigParts) (s : ScriptParts) (run : (at : ℕ) (who : Owner) → E (Run at who))
        (end : (at : ℕ) (who : Owner) → E (End at who))
        (call : (at : ℕ) (who : Owner) (call : Call) (result : ℕ) → E (Called at who call result)) where
      pub step_all : (w : World) → Of E (step c s w).events
      unfolding step
      step_all w =
          let r = runner_of c w in
          let who = owner_of c w r in
          let state = state_after c s w (left_of w r) in
          followed_all (preceded (run_line w who) (runner_tick c s r who w).move) _
          (all_more (run_line w who) (runner_tick c s r who w).move.events (event_if_all _ (Run w.tick who) (run _ _))
          (effected_all c s call r who state.effects state.left _))
          (λ v. event_if_all _ (End (v.tick + 1) who) (end _ _))
