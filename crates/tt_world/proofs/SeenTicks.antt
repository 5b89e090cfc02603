-- The ends that are seen, after a tick.
use Rattle.std.proofs.Common.{ℕ, ◌≡◌, ◌≢◌, ◌<◌, ◌+◌, ◌-◌, List, ◌++◌, Bool, true, false, Option, Some, refl, ap, sym, ◌∙◌, subst, arith, length, ⊎_elim}
use Rattle.std.specs.Prelude.{◌&&◌, ◌||◌, ◌==◌}
use Rattle.std.proofs.lemmas.Bool.{cases_Bool, cases_eq, eqb-true}
use Rattle.std.proofs.lemmas.List.{length-set}
use Rattle.tt_base.specs.declared.number.TaskNo.{TaskNo}
use Rattle.tt_base.specs.declared.event.Event.{Event}
use Rattle.tt_base.specs.declared.event.Event.TheVariants.{Run, End}
use Rattle.tt_base.specs.declared.event.Owner.{Owner}
use Rattle.tt_base.specs.declared.event.Owner.TheVariants as owner
use Rattle.task_lang.specs.declared.syntax.Stmt.{Stmt}
use Rattle.task_lang.specs.declared.tick.Effect.{Effect}
use Rattle.tt_world.specs.declared.config.Activation.{Activation as ActivationRow}
use Rattle.tt_world.specs.declared.config.ConfigParts.{ConfigParts}
use Rattle.tt_world.specs.declared.script.ScriptParts.{ScriptParts}
use Rattle.tt_world.specs.declared.world.Runner.{Runner}
use Rattle.tt_world.specs.declared.world.Runner.TheVariants as runner
use Rattle.tt_world.specs.World.{World, Job}
use Rattle.tt_world.specs.Moved.{is_over, preceded, event_if}
use Rattle.tt_world.specs.Rows.{mode_at, mode_of, row_of}
use Rattle.tt_world.specs.Runners.{job_at, is_done, with_left, left_of, runner_of, owner_of, same_owner}
use Rattle.tt_world.specs.Step.{state_after, effected, runner_tick, is_somebody, run_line, tick_over, step}
use Rattle.tt_world.specs.Readings.{has_ended}
use Rattle.tt_world.specs.RunLaws.{AreTasksSingle}
use Rattle.tt_world.proofs.Parts.{Anything, LeadsTo, followed_at}
use Rattle.tt_world.proofs.JobLists.{at_set, at_other}
use Rattle.tt_world.proofs.WhoRuns.{Says, runner_says, last_found_at}
use Rattle.tt_world.proofs.Emits.{Of, OfHooks, all_more, event_if_all, effected_all}
use Rattle.tt_world.proofs.Forward.{Mid, effected_mid}
use Rattle.tt_world.proofs.Places.{Placed}
use Rattle.tt_world.proofs.EndsSeen.{NoEnd, ended_more, ended_same, other_end, own_end, ActTick, act_tick}

-- for each activation of a round: nothing is left of it exactly where its task has an end later than its offset
abbrev pub Seen : ConfigParts → (start number : ℕ) → List Job → List Event → Type 0
Seen c start number acts es =
    (place : ℕ) → place < length acts
    → is_done (job_at acts place).left ≡ has_ended
    (start + (row_of (mode_at c number) (job_at acts place).entry).offset)
    (owner.Task (row_of (mode_at c number) (job_at acts place).entry).task) es

pub seen_same : (c : ConfigParts) (w v : World) (es : List Event) → v.start ≡ w.start → v.mode ≡ w.mode
    → v.jobs ≡ w.jobs → Seen c w.start w.mode.0 w.jobs es → Seen c v.start v.mode.0 v.jobs es
seen_same c w v es a b d p =
    subst (λ (x : ℕ). Seen c x v.mode.0 v.jobs es) (sym a)
    (subst (λ m. Seen c w.start m.0 v.jobs es) (sym b)
    (subst (λ (xs : List Job). Seen c w.start w.mode.0 xs es) (sym d) p))

pub seen_more : (c : ConfigParts) (start number : ℕ) (acts : List Job) (es fs : List Event) → Of NoEnd fs
    → Seen c start number acts es → Seen c start number acts (es ++ fs)
seen_more c start number acts es fs q p place l =
    let row = row_of (mode_at c number) (job_at acts place).entry in
    p place l ∙ sym (ended_same (start + row.offset) (owner.Task row.task) es fs q)

pub no_end_hooks : OfHooks NoEnd
no_end_hooks = record { error = λ _ _. refl; out = λ _ _ _. refl; hook = λ _. refl; shutdown = λ _. refl }

or_none : (a : Bool) → a ≡ false → (b : Bool) → a || b ≡ b
or_none true e b = cc
or_none false e b = refl

module _ (c : ConfigParts) (s : ScriptParts) where
  pub effected_no_end : (r : Runner) (who : Owner) (effects : List Effect) (left : List Stmt) (w : World)
      → Of NoEnd (effected c s r who effects left w).move.events
  effected_no_end r who effects left w = effected_all NoEnd no_end_hooks c s (λ _ _ _ _. refl) r who effects left w

  abbrev ActOf : Runner → World → World → Bool → Type 0
  ActOf (runner.Job q) w v ended = ActTick c s q w v ended
  ActOf r w v ended = Unit {0}

  act_of : (r : Runner) (who : Owner) (effects : List Effect) (left : List Stmt) (w v : World) → v.jobs ≡ w.jobs
      → is_over (effected c s r who effects left v).move.end ≡ false
      → ActOf r w (effected c s r who effects left v).move.world (effected c s r who effects left v).ended
  act_of (runner.Job q) who effects left w v d on = act_tick c s q who effects left w v d on
  act_of (runner.Isr i) who effects left w v d on = tt
  act_of (runner.Oisr i) who effects left w v d on = tt
  act_of (runner.Osek i) who effects left w v d on = tt
  act_of runner.Nobody who effects left w v d on = tt

  -- the end of another owner
  other_seen : (w v : World) (es : List Event) (b : Bool) (at : ℕ) (who : Owner)
      → ((task : TaskNo) → same_owner (owner.Task task) who ≡ false) → v.start ≡ w.start → v.mode ≡ w.mode
      → v.jobs ≡ w.jobs
      → Seen c w.start w.mode.0 w.jobs es → Seen c v.start v.mode.0 v.jobs (es ++ event_if b (End at who))
  other_seen w v es b at who n x m d p =
      seen_same c w v (es ++ event_if b (End at who)) x m d
      (λ place l.
      let row = row_of (mode_at c w.mode.0) (job_at w.jobs place).entry in
      let from = w.start + row.offset in
      p place l ∙ sym (ended_more from (owner.Task row.task) es (event_if b (End at who))
      ∙ ap (λ (e : Bool). has_ended from (owner.Task row.task) es || e)
      (other_end from at (owner.Task row.task) who b (n row.task))
      ∙ or_false (has_ended from (owner.Task row.task) es)))
    where
      or_false : (a : Bool) → a || false ≡ a
      or_false true = refl
      or_false false = refl

  -- the end of an activation
  act_seen : (w : World) (es : List Event) (q : ℕ) (after : List Stmt) (ended : Bool) → Placed c 1 w
      → AreTasksSingle c w → q < length w.jobs → is_done (job_at w.jobs q).left ≡ false → ended ≡ is_done after
      → Seen c w.start w.mode.0 w.jobs es
      → Seen c w.start w.mode.0 (with_left w.jobs q after)
      (es ++ event_if ended (End (w.tick + 1) (owner.Task (row_of (mode_of c w) (job_at w.jobs q).entry).task)))
  act_seen w es q after ended h one within undone ends p place l =
      let xs = w.jobs in
      let mode = mode_of c w in
      let fs = event_if ended (End (w.tick + 1) (owner.Task (row_of mode (job_at xs q).entry).task)) in
      let Goal : Job → Type 0 = λ (i : Job). is_done i.left ≡ has_ended (w.start + (row_of mode i.entry).offset)
      (owner.Task (row_of mode i.entry).task) (es ++ fs) in
      let n = length-set xs q (record { entry = (job_at xs q).entry; left = after }) in
      let long : place < length xs = omega arith in
      ⊎_elim
      (λ (e : place ≡ q).
      let y : Job = record { entry = (job_at xs q).entry; left = after } in
      let at : job_at (with_left xs q after) place ≡ y = ap (job_at (with_left xs q after)) e
      ∙ at_set xs q after within in
      subst Goal (sym at) here)
      (λ (ne : place ≢ q). subst Goal (sym (at_other xs q place after ne)) (there place long ne))
      (cases_eq place q)
    where
      row_q : ActivationRow
      row_q = row_of (mode_of c w) (job_at w.jobs q).entry

      low : w.start + row_q.offset < w.tick + 1
      low =
          let entry = h.entries q within in
          let b = h.begun q within in
          let same = ap (λ (i : ℕ). (row_of (mode_of c w) i).offset) entry in
          let started = h.started in
          omega arith

      here : is_done after ≡ has_ended (w.start + row_q.offset) (owner.Task row_q.task)
          (es ++ event_if ended (End (w.tick + 1) (owner.Task row_q.task)))
      here =
          let from = w.start + row_q.offset in
          let who = owner.Task row_q.task in
          let not_yet : has_ended from who es ≡ false = sym (p q within) ∙ undone in
          sym (ended_more from who es (event_if ended (End (w.tick + 1) who))
          ∙ or_none (has_ended from who es) not_yet (has_ended from who (event_if ended (End (w.tick + 1) who)))
          ∙ by_end ended ∙ ends)
        where
          by_end : (b : Bool) → has_ended (w.start + row_q.offset) (owner.Task row_q.task)
              (event_if b (End (w.tick + 1) (owner.Task row_q.task))) ≡ b
          by_end true = own_end (w.start + row_q.offset) (w.tick + 1) row_q.task low
          by_end false = refl

      there : (place : ℕ) → place < length w.jobs → place ≢ q
          → is_done (job_at w.jobs place).left ≡ has_ended
          (w.start + (row_of (mode_of c w) (job_at w.jobs place).entry).offset)
          (owner.Task (row_of (mode_of c w) (job_at w.jobs place).entry).task)
          (es ++ event_if ended (End (w.tick + 1) (owner.Task row_q.task)))
      there place long ne =
          let row = row_of (mode_of c w) (job_at w.jobs place).entry in
          let from = w.start + row.offset in
          let who = owner.Task row.task in
          let fs = event_if ended (End (w.tick + 1) (owner.Task row_q.task)) in
          let known = p place long in
          let more = ended_more from who es fs in
          ⊎_elim
          (λ (d : is_done (job_at w.jobs place).left ≡ true). d
          ∙ sym (more ∙ ap (λ (b : Bool). b || has_ended from who fs) (sym known ∙ d)))
          (λ (d : is_done (job_at w.jobs place).left ≡ false).
          let others : same_owner who (owner.Task row_q.task) ≡ false =
          ⊎_elim
          (λ (t : (row.task.0 == row_q.task.0) ≡ true).
          absurd
          (ne (one place q (record { within = long; undone = d }) (record { within = within; undone = undone })
          (ap (λ (n : ℕ). record { 0 = n }) (eqb-true row.task.0 row_q.task.0 t)))))
          (λ (t : (row.task.0 == row_q.task.0) ≡ false). t) (cases_Bool (row.task.0 == row_q.task.0)) in
          d ∙ sym (more ∙ or_none (has_ended from who es) (sym known ∙ d) (has_ended from who fs)
          ∙ other_end from (w.tick + 1) who (owner.Task row_q.task) ended others))
          (cases_Bool (is_done (job_at w.jobs place).left))

  tick_seen : (w : World) (r : Runner) (v : World) (ended : Bool) (es : List Event) (last : Option Owner)
      → Says w.jobs r → Mid w r v ended → ActOf r w v ended → Placed c 1 w → AreTasksSingle c w
      → Seen c w.start w.mode.0 w.jobs es
      → Seen c v.start v.mode.0 v.jobs (es ++ event_if (is_somebody r && ended) (End (v.tick + 1) (owner_of c w r)))
  tick_seen w (runner.Isr i) v ended es last y m k h one p =
      other_seen w v es ended (v.tick + 1) (owner.Isr i) (λ _. refl) m.start m.mode m.acts p
  tick_seen w (runner.Oisr i) v ended es last y m k h one p =
      other_seen w v es ended (v.tick + 1) (owner.Oisr i) (λ _. refl) m.start m.mode m.acts p
  tick_seen w (runner.Osek i) v ended es last y m k h one p =
      other_seen w v es ended (v.tick + 1) (owner.Osek i) (λ _. refl) m.start m.mode m.acts p
  tick_seen w runner.Nobody v ended es last y m k h one p =
      other_seen w v es false (v.tick + 1) owner.Idle (λ _. refl) m.start m.mode m.acts p
  tick_seen w (runner.Job q) v ended es last y m k h one p =
      let found = last_found_at w.jobs q y in
      let z : q - 0 ≡ q = omega arith in
      let who = owner.Task (row_of (mode_of c w) (job_at w.jobs q).entry).task in
      let u : World = record w { jobs = with_left w.jobs q k.after } in
      seen_same c u v (es ++ event_if ended (End (v.tick + 1) who)) m.start m.mode k.acts
      (subst (λ (t : ℕ). Seen c w.start w.mode.0 (with_left w.jobs q k.after) (es ++ event_if ended (End (t + 1) who)))
      (sym m.tick)
      (act_seen w es q k.after ended h one (let i = found.within in omega arith)
      (subst (λ (j : ℕ). is_done (job_at w.jobs j).left ≡ false) z found.undone) k.ends p))

  -- a tick keeps the ends that are seen
  pub step_seen : (w : World) (es : List Event) → Placed c 1 w → AreTasksSingle c w → Seen c w.start w.mode.0 w.jobs es
      → LeadsTo (λ v fs. Seen c v.start v.mode.0 v.jobs fs) Anything es (step c s w)
  unfolding step
  step_seen w es h one p =
      let r = runner_of c w in
      let who = owner_of c w r in
      let state = state_after c s w (left_of w r) in
      let v = record w { vars = state.vars; cursors = state.cursors } in
      let tick = runner_tick c s r who w in
      let line = run_line w who ++ tick.move.events in
      followed_at (λ v fs. Seen c v.start v.mode.0 v.jobs fs) Anything es (preceded (run_line w who) tick.move)
      (tick_over who (is_somebody r && tick.ended))
      (λ over. tt)
      (λ on. tick_seen w r tick.move.world tick.ended (es ++ line) (Some who) (runner_says c w)
      (effected_mid c s r who state.effects state.left w v refl refl refl refl on)
      (act_of r who state.effects state.left w v refl on) h one
      (seen_more c w.start w.mode.0 w.jobs es line
      (all_more NoEnd (run_line w who) tick.move.events (event_if_all NoEnd _ (Run w.tick who) refl)
      (effected_no_end r who state.effects state.left v)) p))
