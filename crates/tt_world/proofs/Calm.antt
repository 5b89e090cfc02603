-- What a part of an instant says of how the run ends: nothing where it goes on, and a missed check or a shutdown where
-- it ends.
use Rattle.std.proofs.Common.{ℕ, ◌≡◌, ◌+◌, List, [], ◌∷◌, ◌++◌, Bool, true, false, Option, None, Some, refl, ◌∙◌}
use Rattle.std.specs.Prelude.{ℤ, ◌&&◌}
use Rattle.std.proofs.lemmas.Bool.{cond_both}
use Rattle.tt_base.specs.declared.number.TaskNo.{TaskNo}
use Rattle.tt_base.specs.declared.event.Event.{Event}
use Rattle.tt_base.specs.declared.event.Event.TheVariants.{Check, Run, End, Called, Shutdown}
use Rattle.tt_base.specs.declared.event.Owner.{Owner}
use Rattle.tt_base.specs.declared.event.Owner.TheVariants as owner
use Rattle.task_lang.specs.declared.syntax.Stmt.{Stmt, out-Stmt}
use Rattle.task_lang.specs.declared.syntax.Stmt.TheOpen.{Stmt-F}
use Rattle.task_lang.specs.declared.tick.Effect.{Effect}
use Rattle.task_lang.specs.declared.tick.Effect.TheVariants as effect
use Rattle.tt_world.specs.declared.config.ConfigParts.{ConfigParts}
use Rattle.tt_world.specs.declared.config.ModeDef.{ModeDef}
use Rattle.tt_world.specs.declared.script.ScriptParts.{ScriptParts}
use Rattle.tt_world.specs.declared.world.Point.{Point}
use Rattle.tt_world.specs.declared.world.Runner.{Runner}
use Rattle.tt_world.specs.World.{World, Job}
use Rattle.tt_world.specs.Moved.{Moved, preceded, event_if}
use Rattle.tt_world.specs.Hooks.{vars_by, outs_by, outs_of, shuts_down}
use Rattle.tt_world.specs.Rows.{row_of}
use Rattle.tt_world.specs.Points.{point_of}
use Rattle.tt_world.specs.Monitoring.{Checked, check_then, check_if, checked}
use Rattle.tt_world.specs.Runners.{is_done, left_of, leaving, runner_of, owner_of}
use Rattle.tt_world.specs.Services.{service, is_shutdown}
use Rattle.tt_world.specs.Step.{state_after, effected, runner_tick, is_somebody, run_line, tick_over, step}
use Rattle.tt_world.specs.Status.{Missed, Shut, status_of}
use Rattle.tt_world.proofs.Parts.{LeadsTo, followed_at, led_on, led_over}
use Rattle.tt_world.proofs.Emits.{Of, all_more, event_if_all}
use Rattle.tt_world.specs.declared.world.RunEnd.TheVariants as ending
use Rattle.tt_world.specs.Moved.{Outcome}

-- it says nothing about how the run ends
abbrev pub IsCalm : Event → Type 0
IsCalm e = (rest : List Event) → status_of (e ∷ rest) ≡ status_of rest

pub calm_status : (es fs : List Event) → Of IsCalm es → status_of (es ++ fs) ≡ status_of fs
calm_status [] fs p = refl
calm_status (e ∷ es) fs p = p.0 (es ++ fs) ∙ calm_status es fs p.1

-- ---- hooks

outs_by_calm : (at : ℕ) (hook : Owner) (vars : List ℤ) (stmt : Stmt-F Stmt) → Of IsCalm (outs_by at hook vars stmt)
outs_by_calm at hook vars (Stmt-F.Out expr) = (λ _. refl, tt)
outs_by_calm at hook vars _ = tt

pub outs_calm : (at : ℕ) (hook : Owner) (vars : List ℤ) (body : List Stmt) → Of IsCalm (outs_of at hook vars body)
unfolding outs_of
outs_calm at hook vars [] = tt
outs_calm at hook vars (stmt ∷ rest) =
    all_more IsCalm (outs_by at hook vars (out-Stmt stmt)) (outs_of at hook (vars_by vars (out-Stmt stmt)) rest)
    (outs_by_calm at hook vars (out-Stmt stmt)) (outs_calm at hook (vars_by vars (out-Stmt stmt)) rest)

pub shuts_status : (c : ConfigParts) (end : Outcome) (w : World) → status_of (shuts_down c end w).events ≡ Shut w.tick
shuts_status c end w = calm_status (outs_of w.tick owner.ShutdownHook w.vars c.shutdown_hook) (Shutdown w.tick ∷ [])
    (outs_calm w.tick owner.ShutdownHook w.vars c.shutdown_hook)

-- ---- checks

-- the checks at a tick: they are calm where none was missed, otherwise they say which was missed first
abbrev pub ChecksTell : ℕ → List Event → Option TaskNo → Type 0
ChecksTell at fs None = Of IsCalm fs
ChecksTell at fs (Some task) = (rest : List Event) → status_of (fs ++ rest) ≡ Missed task at

met_more : (at : ℕ) (task : TaskNo) (fs : List Event) (missed : Option TaskNo) (e : Event) → IsCalm e
    → ChecksTell at fs missed → ChecksTell at (e ∷ fs) missed
met_more at task fs None e q p = (q, p)
met_more at task fs (Some other) e q p = λ rest. q (fs ++ rest) ∙ p rest

then_tell : (at : ℕ) (task : TaskNo) (met : Bool) (others : Checked) → ChecksTell at others.events others.missed
    → ChecksTell at (check_then at task met others).events (check_then at task met others).missed
then_tell at task true others p = met_more at task others.events others.missed (Check at task true) (λ _. refl) p
then_tell at task false others p = λ rest. refl

if_tell : (at : ℕ) (due : Bool) (check others : Checked) → ChecksTell at check.events check.missed
    → ChecksTell at others.events others.missed
    → ChecksTell at (check_if due check others).events (check_if due check others).missed
if_tell at true check others p q = p
if_tell at false check others p q = q

pub checked_tell : (at : ℕ) (mode : ModeDef) (is_due : Point → Bool) (xs : List Job)
    → ChecksTell at (checked at mode is_due xs).events (checked at mode is_due xs).missed
unfolding checked
checked_tell at mode is_due [] = tt
checked_tell at mode is_due (x ∷ xs) =
    if_tell at (is_due (point_of mode (row_of mode x.entry))) _ (checked at mode is_due xs)
    (then_tell at (row_of mode x.entry).task (is_done x.left) (checked at mode is_due xs)
    (checked_tell at mode is_due xs)) (checked_tell at mode is_due xs)

-- ---- a tick

-- it is calm where the run goes on, otherwise it says that there was a shutdown
abbrev pub Tells : List Event → Moved → Type 0
Tells = LeadsTo (λ v fs. Of IsCalm fs) (λ end v fs. (t : ℕ) × (status_of fs ≡ Shut t))

module _ (c : ConfigParts) (s : ScriptParts) where
  effected_tells : (r : Runner) (who : Owner) (effects : List Effect) (left : List Stmt) (w : World) (line : List Event)
      → Of IsCalm line → Tells line (effected c s r who effects left w).move
  effected_tells r who [] left w line p = all_more IsCalm line [] p tt
  effected_tells r who (effect.Out value ∷ rest) left w line p = all_more IsCalm line _ p (λ _. refl, tt)
  effected_tells r who (effect.Service k ∷ rest) left w line p =
      let answer = service c s r k left w in
      let u = leaving answer.world r answer.left in
      cond_both (is_shutdown k) _ _ (Tells line)
      (λ _. (
        u.tick,
        calm_status line (Called u.tick who k answer.result ∷ (shuts_down c (Some ending.Shutdown) u).events)
            p ∙ shuts_status c (Some ending.Shutdown) u,
      ))
      (λ _. all_more IsCalm line (Called u.tick who k answer.result ∷ []) p (λ _. refl, tt))

  pub step_tells : (w : World) → Tells [] (step c s w)
  unfolding step
  step_tells w =
      let r = runner_of c w in
      let who = owner_of c w r in
      let state = state_after c s w (left_of w r) in
      let v = record w { vars = state.vars; cursors = state.cursors } in
      let tick = runner_tick c s r who w in
      let told = effected_tells r who state.effects state.left v (run_line w who)
      (event_if_all IsCalm _ (Run w.tick who) (λ _. refl)) in
      followed_at (λ v fs. Of IsCalm fs) (λ end v fs. (t : ℕ) × (status_of fs ≡ Shut t)) []
      (preceded (run_line w who) tick.move) (tick_over who (is_somebody r && tick.ended))
      (λ over. led_over (λ v fs. Of IsCalm fs) (λ end v fs. (t : ℕ) × (status_of fs ≡ Shut t))
      (run_line w who) tick.move over told)
      (λ on.
      all_more IsCalm (run_line w who ++ tick.move.events)
      (event_if (is_somebody r && tick.ended) (End (tick.move.world.tick + 1) who))
      (led_on (λ v fs. Of IsCalm fs) (λ end v fs. (t : ℕ) × (status_of fs ≡ Shut t)) (run_line w who) tick.move on told)
      (event_if_all IsCalm (is_somebody r && tick.ended) (End (tick.move.world.tick + 1) who) (λ _. refl)))
