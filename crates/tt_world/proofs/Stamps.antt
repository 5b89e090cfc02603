-- The stamps of an instant's events, and that an opening never ends the run as a ttShutdownOS does.
use Rattle.std.proofs.Common.{ℕ, ◌≡◌, ◌≤◌, ◌+◌, ◌-◌, List, [], ◌∷◌, ◌++◌, Bool, true, false, Option, None, Some, refl, ap, sym, ◌∙◌, subst, eqb, arith, append-nil, append_assoc, ⊎_elim}
use Rattle.std.specs.Prelude.{ℤ, cond, ◌==◌, ◌&&◌, not, nat_le, filter}
use Rattle.std.specs.List.{list_any}
use Rattle.std.proofs.lemmas.Bool.{cond_both, cases_Bool, false≢true, le-leb, lt-leb}
use Rattle.std.proofs.lemmas.List.Elements.{filter-append}
use Rattle.tt_base.specs.declared.number.TaskNo.{TaskNo}
use Rattle.tt_base.specs.declared.event.Event.{Event}
use Rattle.tt_base.specs.declared.event.Event.TheVariants.{Round, Check, Accept, Activate, Run, End, ErrorHook, ShutdownHook, Shutdown, Stop}
use Rattle.tt_base.specs.declared.event.Owner.{Owner}
use Rattle.tt_base.specs.declared.event.Owner.TheVariants as owner
use Rattle.task_lang.specs.declared.syntax.Stmt.{Stmt, out-Stmt}
use Rattle.task_lang.specs.declared.syntax.Stmt.TheOpen.{Stmt-F}
use Rattle.task_lang.specs.declared.tick.Effect.{Effect}
use Rattle.task_lang.specs.declared.tick.Effect.TheVariants as effect
use Rattle.tt_world.specs.declared.config.Enable.{Enable as EnableRow}
use Rattle.tt_world.specs.declared.config.ConfigParts.{ConfigParts}
use Rattle.tt_world.specs.declared.config.ModeDef.{ModeDef}
use Rattle.tt_world.specs.declared.script.ScriptParts.{ScriptParts}
use Rattle.tt_world.specs.declared.world.Point.{Point}
use Rattle.tt_world.specs.declared.world.Runner.{Runner}
use Rattle.tt_world.specs.declared.world.Runner.TheVariants as runner
use Rattle.tt_world.specs.World.{World, Source, IsrSource, OisrSource, Job}
use Rattle.tt_world.specs.Rows.{offset_of, mode_of, row_of, enables_at, entry_at}
use Rattle.tt_world.specs.Moved.{Moved, is_over, preceded, continued, followed, event_if}
use Rattle.tt_world.specs.Correction.{is_length, is_no_change}
use Rattle.tt_world.specs.Hooks.{vars_by, vars_after, outs_by, outs_of, shuts_down, misses}
use Rattle.tt_world.specs.Monitoring.{Checked, check_then, check_if, checked, monitored, after_checks, is_at, is_at_end}
use Rattle.tt_world.specs.Points.{point_of}
use Rattle.tt_world.specs.Rounds.{head, latch, next_round, round_end}
use Rattle.tt_world.specs.Gates.{enable, enables, arrived, arrival, arrivals, is_accepted, acceptance, acceptances, sources, arrivals_of, is_held}
use Rattle.tt_world.specs.Opening.{checks, activated, activation, opening}
use Rattle.tt_world.specs.Runners.{is_done, left_of, leaving, runner_of, owner_of, ran_before}
use Rattle.tt_world.specs.Services.{service, is_shutdown}
use Rattle.tt_world.specs.Step.{effected, state_after, runner_tick, step, run_line, tick_over, is_somebody}
use Rattle.tt_world.specs.Status.{stamp_of, status_of, status_by, last_event, IsLastEvent, Done, Missed as MissedAt, Shut as ShutAt}
use Rattle.tt_world.proofs.Parts.{OfRun, OfEnd, OpeningKeeps, LeadsTo, Leads, followed_leads, still_leads, chain_each, opening_leads}
use Rattle.tt_world.proofs.Keeps.{service_answers}
use Rattle.tt_world.proofs.Emits.{Of, all_more, event_if_all}
use Rattle.tt_world.specs.declared.world.RunEnd.TheVariants as ending
use Rattle.tt_world.specs.Moved.{Outcome}

-- ---- events that tell how a run ended

abbrev pub tells : Event → Bool
tells (Check at task false) = true
tells (Shutdown at) = true
tells event = false

abbrev pub Mute : Event → Type 0
Mute e = tells e ≡ false

abbrev pub IsAt : ℕ → Event → Type 0
IsAt t e = stamp_of e ≡ t

abbrev pub MuteAt : ℕ → Event → Type 0
MuteAt t e = IsAt t e × Mute e

mute_head : (e : Event) (rest : List Event) → tells e ≡ false → status_of (e ∷ rest) ≡ status_of rest
mute_head (Check at task false) rest n = cc
mute_head (Shutdown at) rest n = cc
mute_head event rest n = refl

pub status_after : (es fs : List Event) → Of Mute es → status_of (es ++ fs) ≡ status_of fs
status_after [] fs p = refl
status_after (e ∷ es) fs p = mute_head e (es ++ fs) p.0 ∙ status_after es fs p.1

-- these events do not end a run by a ttShutdownOS
abbrev pub NoShut : List Event → Type 0
NoShut es = (u : ℕ) → status_of es ≡ ShutAt u → ⊥

pub each_of : (E F : Event → Type 0) → ((e : Event) → E e → F e) → (es : List Event) → Of E es → Of F es
each_of E F h [] p = tt
each_of E F h (e ∷ es) p = (h e p.0, each_of E F h es p.1)

shut_head : (e : Event) (rest : List Event) (t u : ℕ) → stamp_of e ≡ t → (status_of rest ≡ ShutAt u → u ≡ t)
    → status_of (e ∷ rest) ≡ ShutAt u → u ≡ t
shut_head (Check at task false) rest t u a h e = cc
shut_head (Shutdown at) rest t u a h e = cc
shut_head event rest t u a h e = h e

-- a shutdown has the stamp of all events
pub shut_at : (es : List Event) (t u : ℕ) → Of (IsAt t) es → status_of es ≡ ShutAt u → u ≡ t
shut_at [] t u p e = cc
shut_at (x ∷ es) t u p e = shut_head x es t u p.0 (shut_at es t u p.1) e

-- ---- hooks

outs_by_at : (at : ℕ) (hook : Owner) (vars : List ℤ) (stmt : Stmt-F Stmt) → Of (IsAt at) (outs_by at hook vars stmt)
outs_by_at at hook vars (Stmt-F.Out expr) = (refl, tt)
outs_by_at at hook vars _ = tt

outs_at : (at : ℕ) (hook : Owner) (vars : List ℤ) (body : List Stmt) → Of (IsAt at) (outs_of at hook vars body)
unfolding outs_of
outs_at at hook vars [] = tt
outs_at at hook vars (stmt ∷ rest) =
    all_more (IsAt at) (outs_by at hook vars (out-Stmt stmt)) (outs_of at hook (vars_by vars (out-Stmt stmt)) rest)
    (outs_by_at at hook vars (out-Stmt stmt)) (outs_at at hook (vars_by vars (out-Stmt stmt)) rest)

shuts_at : (c : ConfigParts) (end : Outcome) (w : World) → Of (IsAt w.tick) (shuts_down c end w).events
shuts_at c end w = (
  refl,
  all_more (IsAt w.tick) (outs_of w.tick owner.ShutdownHook w.vars c.shutdown_hook) (Shutdown w.tick ∷ [])
      (outs_at w.tick owner.ShutdownHook w.vars c.shutdown_hook) (refl, tt),
)

misses_at : (c : ConfigParts) (task : TaskNo) (w : World) → Of (IsAt w.tick) (misses c task w).events
misses_at c task w =
    let v = record w { vars = vars_after w.vars c.error_hook } in (
      refl,
      all_more (IsAt w.tick) (outs_of w.tick owner.ErrorHook w.vars c.error_hook)
          (shuts_down c (Some (ending.Missed task)) v).events (outs_at w.tick owner.ErrorHook w.vars c.error_hook)
          (shuts_at c (Some (ending.Missed task)) v),
    )

-- ---- checks

abbrev OnMissed : ℕ → Option TaskNo → List Event → Type 0
OnMissed at None es = Of Mute es
OnMissed at (Some task) es = (rest : List Event) → status_of (es ++ rest) ≡ MissedAt task at

more_missed : (at : ℕ) (o : Option TaskNo) (e : Event) (es : List Event) → tells e ≡ false → OnMissed at o es
    → OnMissed at o (e ∷ es)
more_missed at None e es n p = (n, p)
more_missed at (Some task) e es n p = λ rest. mute_head e (es ++ rest) n ∙ p rest

abbrev Told : ℕ → Checked → Type 0
Told at all = Of (IsAt at) all.events × OnMissed at all.missed all.events

if_told : (at : ℕ) (due : Bool) (check others : Checked) → Told at check → Told at others
    → Told at (check_if due check others)
if_told at true check others a b = a
if_told at false check others a b = b

then_told : (at : ℕ) (task : TaskNo) (met : Bool) (others : Checked) → Told at others
    → Told at (check_then at task met others)
then_told at task true others p = (
  (refl, p.0),
  more_missed at others.missed (Check at task true) others.events refl p.1,
)
then_told at task false others p = ((refl, tt), λ rest. refl)

checked_told : (at : ℕ) (mode : ModeDef) (is_due : Point → Bool) (xs : List Job) → Told at (checked at mode is_due xs)
unfolding checked
checked_told at mode is_due [] = (tt, tt)
checked_told at mode is_due (x ∷ xs) =
    let rest = checked_told at mode is_due xs in
    if_told at (is_due (point_of mode (row_of mode x.entry))) _ (checked at mode is_due xs)
    (then_told at _ (is_done x.left) _ rest) rest

-- the checks of a tick have its stamp
pub checked_at : (at : ℕ) (mode : ModeDef) (is_due : Point → Bool) (xs : List Job)
    → Of (IsAt at) (checked at mode is_due xs).events
checked_at at mode is_due xs = (checked_told at mode is_due xs).0

both_of : (E F : Event → Type 0) (es : List Event) → Of E es → Of F es → Of (λ e. E e × F e) es
both_of E F [] p q = tt
both_of E F (e ∷ es) p q = ((p.0, q.0), both_of E F es p.1 q.1)

-- ---- events that begin, run and end nothing

abbrev pub is_still : Event → Bool
is_still (Round at number mode) = false
is_still (Accept at source) = false
is_still (Activate at task) = false
is_still (Run at who) = false
is_still (End at who) = false
is_still event = true

abbrev pub StillAt : ℕ → Event → Type 0
StillAt t e = IsAt t e × (is_still e ≡ true)

outs_by_still : (at : ℕ) (hook : Owner) (vars : List ℤ) (stmt : Stmt-F Stmt)
    → Of (StillAt at) (outs_by at hook vars stmt)
outs_by_still at hook vars (Stmt-F.Out expr) = ((refl, refl), tt)
outs_by_still at hook vars _ = tt

outs_still : (at : ℕ) (hook : Owner) (vars : List ℤ) (body : List Stmt) → Of (StillAt at) (outs_of at hook vars body)
unfolding outs_of
outs_still at hook vars [] = tt
outs_still at hook vars (stmt ∷ rest) =
    all_more (StillAt at) (outs_by at hook vars (out-Stmt stmt)) (outs_of at hook (vars_by vars (out-Stmt stmt)) rest)
    (outs_by_still at hook vars (out-Stmt stmt)) (outs_still at hook (vars_by vars (out-Stmt stmt)) rest)

shuts_still : (c : ConfigParts) (end : Outcome) (w : World) → Of (StillAt w.tick) (shuts_down c end w).events
shuts_still c end w = (
  (refl, refl),
  all_more (StillAt w.tick) (outs_of w.tick owner.ShutdownHook w.vars c.shutdown_hook)
      (Shutdown w.tick ∷ []) (outs_still w.tick owner.ShutdownHook w.vars c.shutdown_hook) ((refl, refl), tt),
)

-- ---- the last event

-- these events say that the run has ended in this way at a tick
abbrev pub EndsAs : Outcome → ℕ → List Event → Type 0
EndsAs None T es = Unit {0}
EndsAs (Some end) T es = (status_of es ≡ status_by end T) × IsLastEvent (last_event end T) es

pub last_more : (xs es : List Event) (e : Event) → IsLastEvent e es → IsLastEvent e (xs ++ es)
last_more xs es e p = (xs ++ p.0, ap (λ (ys : List Event). xs ++ ys) p.1 ∙ sym (append_assoc xs p.0 (e ∷ [])))

pub shuts_last : (c : ConfigParts) (end : Outcome) (w : World)
    → IsLastEvent (Shutdown w.tick) (shuts_down c end w).events
shuts_last c end w = (ShutdownHook w.tick ∷ outs_of w.tick owner.ShutdownHook w.vars c.shutdown_hook, refl)

misses_last : (c : ConfigParts) (task : TaskNo) (w : World) → IsLastEvent (Shutdown w.tick) (misses c task w).events
misses_last c task w =
    let v = record w { vars = vars_after w.vars c.error_hook } in
    last_more (ErrorHook w.tick task ∷ outs_of w.tick owner.ErrorHook w.vars c.error_hook)
    (shuts_down c (Some (ending.Missed task)) v).events (Shutdown w.tick)
    (shuts_last c (Some (ending.Missed task)) v)

-- ---- each part

module _ (c : ConfigParts) (s : ScriptParts) (T : ℕ) where
  -- all events of an instant are at its tick, and none says how the run ended where it goes on
  abbrev pub AtTick : OfRun
  AtTick w es = (w.tick ≡ T) × Of (MuteAt T) es

  abbrev pub EndsAtTick : OfEnd
  EndsAtTick end w es = Of (IsAt T) es × NoShut es × EndsAs end T es

  at_of : (es : List Event) → Of (MuteAt T) es → Of (IsAt T) es
  at_of es p = each_of (MuteAt T) (IsAt T) (λ e q. q.0) es p

  mute_of : (es : List Event) → Of (MuteAt T) es → Of Mute es
  mute_of es p = each_of (MuteAt T) Mute (λ e q. q.1) es p

  after_told : (fs : List Event) (missed : Option TaskNo) (w : World) (es : List Event) → AtTick w es → Of (IsAt T) fs
      → OnMissed w.tick missed fs → LeadsTo AtTick EndsAtTick es (after_checks c fs missed w)
  after_told fs None w es p a m = (p.0, all_more (MuteAt T) es fs p.1 (both_of (IsAt T) Mute fs a m))
  after_told fs (Some task) w es p a m =
      let more = fs ++ (misses c task w).events in
      let is : status_of (es ++ more) ≡ MissedAt task w.tick = status_after es more (mute_of es p.1)
      ∙ m (misses c task w).events in (
        all_more (IsAt T) es more (at_of es p.1) (all_more (IsAt T) fs (misses c task w).events a
            (subst (λ (t : ℕ). Of (IsAt t) (misses c task w).events) p.0 (misses_at c task w))),
        λ u q. let z : MissedAt task w.tick ≡ ShutAt u = sym is ∙ q in cc,
        subst (λ (t : ℕ). EndsAs (Some (ending.Missed task)) t (es ++ more)) p.0 (
          is,
          last_more es more (Shutdown w.tick)
              (last_more fs (misses c task w).events (Shutdown w.tick) (misses_last c task w)),
        ),
      )

  monitored_at : (is_due : Point → Bool) → Leads AtTick AtTick EndsAtTick (monitored c is_due)
  monitored_at is_due w es p =
      let all = checked w.tick (mode_of c w) is_due w.jobs in
      let told = checked_told w.tick (mode_of c w) is_due w.jobs in
      after_told all.events all.missed w es p (subst (λ (t : ℕ). Of (IsAt t) all.events) p.0 told.0) told.1

  one : (w : World) (es : List Event) (e : Event) → stamp_of e ≡ w.tick → tells e ≡ false → AtTick w es
      → Of (MuteAt T) (es ++ e ∷ [])
  one w es e a n p = all_more (MuteAt T) es (e ∷ []) p.1 ((a ∙ p.0, n), tt)

  latch_at : Leads AtTick AtTick EndsAtTick (latch c)
  unfolding latch
  latch_at w es p =
      cond_both (eqb (offset_of w) (c.round - c.adjust)) _ _ (LeadsTo AtTick EndsAtTick es)
      (λ _. (p.0, all_more (MuteAt T) es _ p.1 (event_if_all (MuteAt T) (not (is_no_change w.pending)) _ (p.0, refl))))
      (λ _. still_leads AtTick EndsAtTick es w p)

  next_round_at : Leads AtTick AtTick EndsAtTick (next_round s)
  unfolding next_round
  next_round_at w es p =
      cond_both (eqb w.number s.rounds) _ _ (LeadsTo AtTick EndsAtTick es)
      (λ _.
      let all = one w es _ refl refl p in
      let is : status_of (es ++ Stop w.tick ∷ []) ≡ Done = status_after es (Stop w.tick ∷ []) (mute_of es p.1) in (
        at_of _ all,
        λ u q. let z : Done ≡ ShutAt u = sym is ∙ q in cc,
        subst (λ (t : ℕ). EndsAs (Some ending.LastRound) t (es ++ Stop w.tick ∷ [])) p.0 (is, (es, refl)),
      ))
      (λ _. (p.0, one w es _ refl refl p))

  round_end_at : Leads AtTick AtTick EndsAtTick (round_end c s)
  unfolding round_end
  round_end_at w es p =
      cond_both (is_length w.latched (offset_of w)) _ _ (LeadsTo AtTick EndsAtTick es)
      (λ _. followed_leads AtTick AtTick EndsAtTick es (monitored c (is_at_end (offset_of w)) w) (next_round s)
      (monitored_at _ w es p) next_round_at)
      (λ _. still_leads AtTick EndsAtTick es w p)

  head_at : (w : World) (es : List Event) → w.tick ≡ 0 → AtTick w es → LeadsTo AtTick EndsAtTick es (head s w)
  unfolding head
  head_at w es z p = (p.0, all_more (MuteAt T) es _ p.1 ((p.0, refl), ((p.0, refl), tt)))

  enable_at : (row : EnableRow) → Leads AtTick AtTick EndsAtTick (enable row)
  unfolding enable
  enable_at row w es p = (p.0, one w es _ refl refl p)

  arrived_at : (held : Bool) (source : Source) (w : World) (es : List Event) → AtTick w es
      → LeadsTo AtTick EndsAtTick es (arrived held source w)
  arrived_at true source w es p = (p.0, one w es _ refl refl p)
  arrived_at false (IsrSource i) w es p = (p.0, one w es _ refl refl p)
  arrived_at false (OisrSource i) w es p = (p.0, one w es _ refl refl p)

  arrival_at : (source : Source) → Leads AtTick AtTick EndsAtTick (arrival s source)
  unfolding arrival
  arrival_at source w es p =
      cond_both (list_any (λ (tick : ℕ). tick == w.tick) (arrivals_of s source)) _ _ (LeadsTo AtTick EndsAtTick es)
      (λ _. arrived_at (is_held w source) source w es p) (λ _. still_leads AtTick EndsAtTick es w p)

  acceptance_at : (source : Source) → Leads AtTick AtTick EndsAtTick (acceptance c source)
  unfolding acceptance
  acceptance_at (IsrSource i) w es p =
      cond_both (is_accepted w (IsrSource i)) _ _ (LeadsTo AtTick EndsAtTick es) (λ _. (p.0, one w es _ refl refl p))
      (λ _. still_leads AtTick EndsAtTick es w p)
  acceptance_at (OisrSource i) w es p =
      cond_both (is_accepted w (OisrSource i)) _ _ (LeadsTo AtTick EndsAtTick es) (λ _. (p.0, one w es _ refl refl p))
      (λ _. still_leads AtTick EndsAtTick es w p)

  activated_at : (entry : Option ℕ) (w : World) (es : List Event) → AtTick w es
      → LeadsTo AtTick EndsAtTick es (activated c entry w)
  activated_at None w es p = still_leads AtTick EndsAtTick es w p
  activated_at (Some entry) w es p = (p.0, one w es _ refl refl p)

  opening_keeps : OpeningKeeps c s (λ _. AtTick) EndsAtTick
  unfolding checks enables arrivals acceptances activation
  opening_keeps = record {
    head_is = head_at;
    latch_is = latch_at;
    round_end_is = round_end_at;
    checks_are = λ w es p. monitored_at (is_at (offset_of w)) w es p;
    enables_are = λ w es p. chain_each AtTick EndsAtTick enable
        (enables_at (offset_of w) (mode_of c w).enables) enable_at w es p;
    arrivals_are = chain_each AtTick EndsAtTick (arrival s) (sources c) arrival_at;
    acceptances_are = chain_each AtTick EndsAtTick (acceptance c) (sources c) acceptance_at;
    activation_is = λ w es p. activated_at (entry_at (offset_of w) (mode_of c w).activations) w es p;
  }

  pub opening_at_tick : (w : World) → w.tick ≡ T → LeadsTo AtTick EndsAtTick [] (opening c s w)
  opening_at_tick w t = opening_leads c s (λ _. AtTick) EndsAtTick opening_keeps w [] (t, tt)

-- ---- the tick

pub leaving_tick : (x : World) (r : Runner) (after : List Stmt) → (leaving x r after).tick ≡ x.tick
leaving_tick x (runner.Isr i) after = refl
leaving_tick x (runner.Job q) after = refl
leaving_tick x (runner.Oisr i) after = refl
leaving_tick x (runner.Osek i) after = refl
leaving_tick x runner.Nobody after = refl

-- what a tick does before it is over
record Serves (T : ℕ) (m : Moved) : Type 0 where
  pub still : Of (StillAt T) m.events
  pub tick : m.world.tick ≡ T
  pub mute : is_over m.end ≡ false → Of Mute m.events

serves_effect : (c : ConfigParts) (s : ScriptParts) (r : Runner) (who : Owner) (effects : List Effect)
    (left : List Stmt) (v : World) → Serves v.tick (effected c s r who effects left v).move
serves_effect c s r who [] left v = record { still = tt; tick = leaving_tick v r left; mute = λ _. tt }
serves_effect c s r who (effect.Out value ∷ rest) left v =
    record { still = ((refl, refl), tt); tick = leaving_tick v r left; mute = λ _. (refl, tt) }
serves_effect c s r who (effect.Service k ∷ rest) left v =
    let answer = service c s r k left v in
    let u = leaving answer.world r answer.left in
    let tick : u.tick ≡ v.tick = leaving_tick answer.world r answer.left
    ∙ ap (λ (x : World). x.tick) (service_answers c s r k left v).world.is in
    cond_both (is_shutdown k) _ _ (Serves v.tick)
    (λ _.
    record {
      still = (
        (tick, refl),
        subst (λ (t : ℕ). Of (StillAt t) (shuts_down c (Some ending.Shutdown) u).events) tick
            (shuts_still c (Some ending.Shutdown) u),
      );
      tick = tick;
      mute = λ e. cc;
    })
    (λ _. record { still = ((tick, refl), tt); tick = tick; mute = λ _. (refl, tt) })

pub followed_go : (m : Moved) (next : World → Moved) → is_over m.end ≡ false
    → followed m next ≡ preceded m.events (next m.world)
unfolding followed
followed_go m next e = ap (λ b. continued b m next) e

pub followed_over : (m : Moved) (next : World → Moved) → is_over m.end ≡ true → followed m next ≡ m
unfolding followed
followed_over m next e = ap (λ b. continued b m next) e

-- all events up to a tick are seen at it, and none of those after it
pub all_seen : (t : ℕ) (es : List Event) → Of (λ e. stamp_of e ≤ t) es
    → filter (λ (event : Event). nat_le (stamp_of event) t) es ≡ es
all_seen t [] p = refl
all_seen t (e ∷ es) p =
    let rest = filter (λ (event : Event). nat_le (stamp_of event) t) es in
    ap (λ (b : Bool). cond b (e ∷ rest) rest) (le-leb (stamp_of e) t p.0)
    ∙ ap (λ (xs : List Event). e ∷ xs) (all_seen t es p.1)

pub none_seen : (t : ℕ) (es : List Event) → Of (λ e. t + 1 ≤ stamp_of e) es
    → filter (λ (event : Event). nat_le (stamp_of event) t) es ≡ []
none_seen t [] p = refl
none_seen t (e ∷ es) p =
    let rest = filter (λ (event : Event). nat_le (stamp_of event) t) es in
    ap (λ (b : Bool). cond b (e ∷ rest) rest) (lt-leb (stamp_of e) t (let l = p.0 in omega arith)) ∙ none_seen t es p.1

pub run_at : (w : World) (who : Owner) → Of (MuteAt w.tick) (run_line w who)
run_at w who = event_if_all (MuteAt w.tick) (not (ran_before w.last who)) (Run w.tick who) (refl, refl)

-- the events of an instant's tick: those with its stamp, and then an end, where the run goes on
pub record Reads (T : ℕ) (m : Moved) (now : List Event) : Type 0 where
  pub seen : filter (λ (event : Event). nat_le (stamp_of event) T) m.events ≡ now
  pub low : Of (λ e. T ≤ stamp_of e) m.events
  pub high : Of (λ e. stamp_of e ≤ T + 1) m.events
  pub on : is_over m.end ≡ false → Of Mute m.events
  pub over : is_over m.end ≡ true → Of (IsAt T) m.events

pub step_reads : (c : ConfigParts) (s : ScriptParts) (w : World)
    → Reads w.tick (step c s w) (run_line w (owner_of c w (runner_of c w))
    ++ (runner_tick c s (runner_of c w) (owner_of c w (runner_of c w)) w).move.events)
unfolding step
step_reads c s w =
    let r = runner_of c w in
    let who = owner_of c w r in
    let state = state_after c s w (left_of w r) in
    let T = w.tick in
    let tick = runner_tick c s r who w in
    let line = run_line w who in
    let fs = tick.move.events in
    let serves = serves_effect c s r who state.effects state.left
    (record w { vars = state.vars; cursors = state.cursors }) in
    let first = preceded line tick.move in
    let now = line ++ fs in
    let next = tick_over who (is_somebody r && tick.ended) in
    let run = run_at w who in
    let at : Of (IsAt T) now = all_more (IsAt T) line fs (each_of (MuteAt T) (IsAt T) (λ e q. q.0) line run)
    (each_of (StillAt T) (IsAt T) (λ e q. q.0) fs serves.still) in
    let le : Of (λ e. stamp_of e ≤ T) now = each_of (IsAt T) (λ e. stamp_of e ≤ T) (λ e q. omega arith) now at in
    let ge : Of (λ e. T ≤ stamp_of e) now = each_of (IsAt T) (λ e. T ≤ stamp_of e) (λ e q. omega arith) now at in
    let lo : Of (λ e. stamp_of e ≤ T + 1) now =
    each_of (IsAt T) (λ e. stamp_of e ≤ T + 1) (λ e q. omega arith) now at in
    let all = all_seen T now le in
    ⊎_elim
    (λ (over : is_over tick.move.end ≡ true).
    subst (λ (m : Moved). Reads T m now) (sym (followed_over first next over))
    (record { seen = all; low = ge; high = lo; on = λ on. absurd (false≢true (sym on ∙ over)); over = λ _. at }))
    (λ (on : is_over tick.move.end ≡ false).
    let end = event_if (is_somebody r && tick.ended) (End (tick.move.world.tick + 1) who) in
    let z = serves.tick in
    let later : Of (λ e. stamp_of e ≡ T + 1) end =
    event_if_all (λ e. stamp_of e ≡ T + 1) (is_somebody r && tick.ended) (End (tick.move.world.tick + 1) who)
    (ap (λ (t : ℕ). t + 1) z) in
    subst (λ (m : Moved). Reads T m now) (sym (followed_go first next on))
    (record {
      seen = filter-append (λ (event : Event). nat_le (stamp_of event) T) now end
          ∙ ap (λ (xs : List Event). xs ++ filter (λ (event : Event). nat_le (stamp_of event) T) end) all
          ∙ ap (λ (xs : List Event). now ++ xs)
          (none_seen T end (each_of (λ e. stamp_of e ≡ T + 1) (λ e. T + 1 ≤ stamp_of e)
          (λ e q. omega arith) end later))
          ∙ append-nil now;
      low = all_more (λ e. T ≤ stamp_of e) now end ge
          (each_of (λ e. stamp_of e ≡ T + 1) (λ e. T ≤ stamp_of e) (λ e q. omega arith) end later);
      high = all_more (λ e. stamp_of e ≤ T + 1) now end lo
          (each_of (λ e. stamp_of e ≡ T + 1) (λ e. stamp_of e ≤ T + 1) (λ e q. omega arith) end later);
      on =
          λ _. all_more Mute now end (all_more Mute line fs (each_of (MuteAt T) Mute (λ e q. q.1) line run)
          (serves.mute on)) (event_if_all Mute _ (End (tick.move.world.tick + 1) who) refl);
      over = λ over. cc;
    }))
    (cases_Bool (is_over tick.move.end))

-- what a tick does before it is over begins, runs and ends nothing
pub served_still : (c : ConfigParts) (s : ScriptParts) (w : World) (r : Runner) (who : Owner)
    → Of (StillAt w.tick) (runner_tick c s r who w).move.events
served_still c s w r who =
    let state = state_after c s w (left_of w r) in
    (serves_effect c s r who state.effects state.left (record w { vars = state.vars; cursors = state.cursors })).still
