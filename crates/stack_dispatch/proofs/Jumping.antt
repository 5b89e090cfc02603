-- The instants within a jump: nothing is due at them, and the one who runs works on.
use Rattle.std.proofs.Common.{ℕ, zero, suc, ◌≡◌, ◌<◌, ◌≤◌, ◌+◌, ◌-◌, List, [], ◌++◌, true, false, Some, refl, ap, sym, ◌∙◌, subst, arith, add-one, append_assoc, append-nil, Bool, inl, inr, ◌⊎◌, ⊎_elim}
use Rattle.std.specs.Prelude.{None, ◌&&◌, max, min, nat_le, not}
use Rattle.std.proofs.lemmas.Bool.{cases_lt, lt-leb}
use Rattle.task_lang.specs.declared.syntax.Stmt.{Stmt}
use Rattle.tt_base.specs.declared.event.Event.{Event}
use Rattle.tt_world.specs.declared.config.ConfigParts.{ConfigParts}
use Rattle.tt_world.specs.declared.script.ScriptParts.{ScriptParts}
use Rattle.task_machine.specs.Standing.{work_in_front}
use Rattle.tt_world.specs.declared.world.RunEnd.{RunEnd}
use Rattle.tt_world.specs.declared.world.Runner.{Runner}
use Rattle.tt_world.specs.declared.world.Runner.TheVariants as runner
use Rattle.tt_world.specs.ConfigRules.{IsConfig}
use Rattle.tt_world.specs.ScriptRules.{IsScript}
use Rattle.tt_world.specs.Load.{depth_of, in_tick, most_before, words_of}
use Rattle.tt_world.specs.Moved.{Gives, IsTelling, Moved, Outcome, followed, goes_on, is_over, preceded}
use Rattle.tt_world.specs.Opening.{opening}
use Rattle.tt_world.specs.Runners.{left_of, owner_of, runner_of}
use Rattle.tt_world.specs.Schedule.{events_between, instant, instant_at, runner_at, runner_if, world_at}
use Rattle.tt_world.specs.Step.{is_somebody, run_line, step}
use Rattle.tt_world.specs.World.{World}
use Rattle.tt_world.proofs.Ends.{goes_on_more}
use Rattle.tt_world.proofs.Openings.{opening_accepts}
use Rattle.tt_world.proofs.Parts.{GoesOnBefore}
use Rattle.tt_world.proofs.Still.{Still, owner_ends, step_still}
use Rattle.isr_window.proofs.Acceptances.{acceptances_silent}
use Rattle.stack_dispatch.specs.declared.peaks.Peaks.{Peaks}
use Rattle.stack_dispatch.specs.Counts.{FewMoves, IsDueAt, ends_at, is_due, list_at}
use Rattle.stack_dispatch.specs.Due.{NoneAccepted}
use Rattle.stack_dispatch.specs.Jumps.{CanJump, CanWork, IsOnSchedule, Passes, at_work, jump, jump_of, worked_off}
use Rattle.stack_dispatch.specs.Peaks.{peaks_before}
use Rattle.stack_dispatch.specs.Served.{CanPass, Foresees, HasSources, IsAhead, IsOpened}
use Rattle.stack_dispatch.specs.State.{Beside, IsFor, RunState}
use Rattle.stack_dispatch.specs.Ticking.{CanTick}
use Rattle.stack_dispatch.proofs.Begins.{few_by_due, few_by_end}
use Rattle.stack_dispatch.proofs.Foreseen.{ahead_idle, foresees, idle_sources, nothing_due}
use Rattle.stack_dispatch.proofs.Opened.{can_pass, can_tick, opened_tick, ticked_sources}
use Rattle.stack_dispatch.proofs.Peaked.{peaks_next, raised_over}
use Rattle.stack_dispatch.proofs.Quiet.{can_more, jump_none, jump_some, last_runner, no_line, quiet_goes_on, quiet_step}
use Rattle.stack_dispatch.proofs.Telling.{outcome_is}
use Rattle.stack_dispatch.proofs.WorkedOff.{front_worked}
use Rattle.stack_dispatch.proofs.Working.{fewer, somebody_works, work_left, work_more, work_owner, work_alike, work_tick}

-- the events of the opening after k ticks of work: only the first opening has any; and those of the instants before it
abbrev opened_then : ℕ → List Event → List Event
opened_then zero es = es
opened_then (suc k) es = []

abbrev told_then : ℕ → (es line : List Event) → List Event
told_then zero es line = []
told_then (suc k) es line = es ++ line

-- a reporting of events of which nothing is asked
quietly : IsTelling {L = Unit {0}} (λ _ _ _. Unit {0})
quietly = record { none = λ _. tt; both = λ _ _ _ _ _ _ _. tt }

some_runner : (r : Runner) → (r ≡ runner.Nobody → ⊥) → is_somebody r ≡ true
some_runner runner.Nobody some = absurd (some refl)
some_runner r some = refl

-- the line before the first tick, and none before those after it
abbrev line_of : ConfigParts → World → List Event
line_of c v = run_line v (owner_of c v (runner_of c v))

same_line : (c : ConfigParts) (v : World) (es : List Event) (k : ℕ)
    → CanWork (suc (suc k)) (runner_of c v) (left_of v (runner_of c v))
    → told_then k es (line_of c v) ++ (opened_then k es ++ line_of c (at_work c k v)) ≡ es ++ line_of c v
same_line c v es zero can = refl
same_line c v es (suc k) can =
    let u = at_work c (suc k) v in
    let less = fewer (suc (suc k)) (suc (suc (suc k))) (runner_of c v) (left_of v (runner_of c v)) (omega arith) can in
    let who = ap (owner_of c u) (work_alike c v (suc k) less).runner ∙ work_owner c v (suc k) less in
    let none = no_line u (owner_of c v (runner_of c v)) (last_runner c v k) in
    ap (λ xs. (es ++ line_of c v) ++ xs) (ap (run_line u) who ∙ none) ∙ append-nil (es ++ line_of c v)

-- the lines before k ticks of work, as events of the last tick
abbrev lines : ConfigParts → World → ℕ → List Event
lines c v zero = []
lines c v (suc k) = line_of c v

jump_is : (c : ConfigParts) (s : ScriptParts) (v : World) (k : ℕ)
    → CanWork (suc k) (runner_of c v) (left_of v (runner_of c v))
    → jump c s k v ≡ preceded (lines c v k) (step c s (at_work c k v))
jump_is c s v zero can = jump_none c s v
jump_is c s v (suc k) can = jump_some c s v k can

told_all : (c : ConfigParts) (v : World) (es : List Event) (k : ℕ) (xs : List Event)
    → es ++ (lines c v k ++ xs) ≡ told_then k es (line_of c v) ++ (opened_then k es ++ xs)
told_all c v es zero xs = refl
told_all c v es (suc k) xs = sym (append_assoc es (line_of c v) xs)

-- after the opening of instant t + k the one who runs has taken k ticks of work since that of instant t, which left the
-- world v and had the events es
pub record Reached (c : ConfigParts) (s : ScriptParts) (t next : ℕ) (v : World) (b : Beside) (es : List Event) (k : ℕ)
    : Type 0 where
  pub going : GoesOnBefore c s (t + k)
  pub opens : opening c s (world_at c s (t + k)) ≡ goes_on (at_work c k v) (opened_then k es)
  pub told : events_between c s t k ≡ told_then k es (line_of c v)
  pub can : CanTick c s (record { world = at_work c k v; beside = b })
  pub sources : HasSources c s (t + k + 1) (record { world = at_work c k v; beside = b })
  pub none : NoneAccepted c (at_work c k v)
  pub ahead : IsAhead c 1 (record { world = at_work c k v; beside = b }) next
  pub due : IsDueAt c s (at_work c k v) next
  pub deepest : most_before depth_of c s (suc (t + k)) ≡ max (most_before depth_of c s t) (depth_of v)
  pub words : most_before (words_of c) c s (suc (t + k)) ≡ max (most_before (words_of c) c s t) (words_of c v)

module _ {c : ConfigParts} {s : ScriptParts} {t next : ℕ} {v : World} {b : Beside} {es : List Event} where
  -- the instant after an opening that goes on
  module _ {k : ℕ} (h : Reached c s t next v b es k) where
    abbrev now : World
    now = at_work c k v

    instant_is : instant_at c s (t + k) ≡ preceded (opened_then k es) (step c s now)
    unfolding instant_at instant followed
    instant_is = ap (λ (m : Moved). followed m (step c s)) h.opens

    events_more : events_between c s t (suc k)
        ≡ told_then k es (line_of c v) ++ (opened_then k es ++ (step c s now).events)
    unfolding events_between
    events_more =
        ap (λ xs. xs ++ (instant_at c s (t + k)).events) h.told
        ∙ ap (λ (m : Moved). told_then k es (line_of c v) ++ m.events) instant_is

    -- an instant within the jump
    module _ (here : v.tick ≡ t) (can : CanWork (suc (suc k)) (runner_of c v) (left_of v (runner_of c v))) where
      abbrev later : World
      later = at_work c (suc k) v

      steps : step c s now ≡ goes_on later (line_of c now)
      steps = quiet_step c s now (can_more c s v k can)
          ∙ ap (λ (u : World). goes_on u (line_of c now)) (work_more c v k can)

      passed : instant_at c s (t + k) ≡ goes_on later (opened_then k es ++ line_of c now)
      passed = instant_is ∙ ap (preceded (opened_then k es)) steps

      number : t + suc k ≡ (t + k) + 1
      number = omega arith

      next_number : t + suc k ≡ suc (t + k)
      next_number = omega arith

      going_later : GoesOnBefore c s (t + suc k)
      going_later = subst (GoesOnBefore c s) (sym number)
          (goes_on_more c s (t + k) h.going (ap (λ (m : Moved). is_over m.end) passed))

      world_later : world_at c s (t + suc k) ≡ later
      unfolding world_at instant_at
      world_later = ap (world_at c s) next_number ∙ ap (λ (m : Moved). m.world) passed

      tick_later : (later).tick ≡ t + suc k
      tick_later = work_tick c v (suc k) ∙ ap (λ n. n + suc k) here

      -- where the next due tick is then, something is due
      pub due_there : t + suc k ≡ next → is_due c s (world_at c s (t + suc k)) ≡ true
      due_there e =
          let still : Still now later = subst (Still now) (ap (λ (m : Moved). m.world) steps)
          (step_still c s now (ap (λ (m : Moved). is_over m.end) steps)) in
          ap (is_due c s) world_later ∙ h.due later (tick_later ∙ e) still.start still.mode still.latched

      module _ (rules : IsConfig c) (script : IsScript c s) (fixed : IsFor c s b) (soon : t + suc k < next) where
        on_schedule : IsOnSchedule c s later
        on_schedule = record {
          world = sym world_later ∙ ap (world_at c s) (sym tick_later);
          going = subst (GoesOnBefore c s) (sym tick_later) going_later;
        }

        abbrev st : RunState
        st = record { world = now; beside = b }

        abbrev st_later : RunState
        st_later = record { world = later; beside = b }

        gives : Gives {L = Unit {0}} (λ _ _ _. Unit {0}) tt tt later None (step c s now)
        gives = record {
          world_is = sym (ap (λ (m : Moved). m.world) steps);
          told = tt;
          end_is = sym (ap (λ (m : Moved). m.end) steps);
        }

        foreseen : Foresees c s st_later (record { next = next; ended = false })
        foreseen = foresees quietly c s st st_later next false tt tt refl h.can.started gives
            (sym (quiet_goes_on c s now (can_more c s v k can))) h.none h.ahead h.due

        sources_now : HasSources c s (later).tick st_later
        sources_now =
            let same : t + k + 1 ≡ (later).tick = omega (arith, tick_later) in
            subst (λ n. HasSources c s n st_later) same
            (ticked_sources quietly c s (t + k + 1) st st_later tt tt gives refl h.sources)

        passes : CanPass c s st_later
        passes = can_pass quietly c s st_later rules script on_schedule fixed sources_now

        idle : (later).tick < next
        idle = omega (arith, tick_later, soon)

        silent : opening c s later ≡ goes_on later []
        silent = opening_accepts c s later (nothing_due quietly c s st_later passes next foreseen.next idle)
            ∙ acceptances_silent c later (foreseen.none refl)

        more_of : (f : World → ℕ) (most : ℕ) → f later ≡ f v
            → most_before f c s (suc (t + k)) ≡ max most (f v)
            → most_before f c s (suc (t + suc k)) ≡ max most (f v)
        unfolding most_before
        more_of f most same before =
            let greater : max (max most (f v)) (f v) ≡ max most (f v) = omega arith in
            ap (λ n. max (most_before f c s n) (in_tick f (opening c s (world_at c s (t + suc k))))) next_number
            ∙ ap (λ n. max n (in_tick f (opening c s (world_at c s (t + suc k))))) before
            ∙ ap (λ (w : World). max (max most (f v)) (in_tick f (opening c s w))) world_later
            ∙ ap (λ (m : Moved). max (max most (f v)) (in_tick f m)) silent
            ∙ ap (λ n. max (max most (f v)) n) same
            ∙ greater

        -- one more tick of work
        reached_more : Reached c s t next v b es (suc k)
        reached_more = record {
          going = going_later;
          opens = ap (opening c s) world_later ∙ silent;
          told = events_more
              ∙ ap (λ (m : Moved). told_then k es (line_of c v) ++ (opened_then k es ++ m.events)) steps
              ∙ same_line c v es k can;
          can = can_tick quietly c s later later tt tt
              (record {
                world_is = sym (ap (λ (m : Moved). m.world) silent);
                told = tt;
                end_is = sym (ap (λ (m : Moved). m.end) silent);
              })
              passes.served passes.named st_later refl fixed passes.tick;
          sources =
              let same : (later).tick + 1 ≡ t + suc k + 1 = omega (arith, tick_later) in
              subst (λ n. HasSources c s n st_later) same
              (idle_sources quietly c s st_later passes next foreseen.next idle);
          none = foreseen.none refl;
          ahead = ahead_idle quietly c s st_later next foreseen.next;
          due = foreseen.due idle;
          deepest = more_of depth_of (most_before depth_of c s t) (work_alike c v (suc k) can).depth h.deepest;
          words = more_of (words_of c) (most_before (words_of c) c s t) (work_alike c v (suc k) can).words h.words;
        }

  -- the first instant of the jump
  reached_first : GoesOnBefore c s t → opening c s (world_at c s t) ≡ goes_on v es
      → CanTick c s (record { world = v; beside = b }) → HasSources c s (t + 1) (record { world = v; beside = b })
      → NoneAccepted c v → IsAhead c 1 (record { world = v; beside = b }) next → IsDueAt c s v next
      → Reached c s t next v b es 0
  unfolding events_between most_before
  reached_first going opens can sources none ahead due =
      let same : t + 0 ≡ t = omega arith in
      let plus : t + 1 ≡ t + 0 + 1 = omega arith in
      record {
        going = subst (GoesOnBefore c s) (sym same) going;
        opens = ap (λ n. opening c s (world_at c s n)) same ∙ opens;
        told = refl;
        can = can;
        sources = subst (λ n. HasSources c s n (record { world = v; beside = b })) plus sources;
        none = none;
        ahead = ahead;
        due = due;
        deepest = ap (λ n. most_before depth_of c s (suc n)) same
            ∙ ap (λ (m : Moved). max (most_before depth_of c s t) (in_tick depth_of m)) opens;
        words = ap (λ n. most_before (words_of c) c s (suc n)) same
            ∙ ap (λ (m : Moved). max (most_before (words_of c) c s t) (in_tick (words_of c) m)) opens;
      }

  -- up to the last instant of the jump
  reached_upto : IsConfig c → IsScript c s → IsFor c s b → v.tick ≡ t → Reached c s t next v b es 0 → (k : ℕ)
      → CanWork (suc k) (runner_of c v) (left_of v (runner_of c v)) → ((i : ℕ) → 0 < i → i ≤ k → t + i < next)
      → Reached c s t next v b es k
  reached_upto rules script fixed here first zero can soon = first
  reached_upto rules script fixed here first (suc k) can soon =
      let less = fewer (suc k) (suc (suc k)) (runner_of c v) (left_of v (runner_of c v)) (omega arith) can in
      reached_more
      (reached_upto rules script fixed here first k less (λ i some within. soon i some (omega arith)))
      here can rules script fixed (soon (suc k) (omega arith) (omega arith))

  -- the last instant of the jump
  module _ {k : ℕ} (can : CanWork (suc k) (runner_of c v) (left_of v (runner_of c v)))
      (h : Reached c s t next v b es k) where
    runner_now : runner_at c s (t + k) ≡ runner_of c v
    unfolding runner_at
    runner_now =
        ap (λ (m : Moved). runner_if (is_over m.end) (runner_of c m.world)) h.opens ∙ (work_alike c v k can).runner

    list_now : list_at c s (t + k) ≡ worked_off k (left_of v (runner_of c v))
    list_now =
        ap (λ (m : Moved). left_of m.world (runner_at c s (t + k))) h.opens
        ∙ ap (left_of (at_work c k v)) runner_now ∙ work_left c v k can

    -- its tick ends a statement where no work is left after it
    last_ends : (runner_of c v ≡ runner.Nobody → ⊥) → suc k ≤ max 1 (work_in_front (left_of v (runner_of c v)))
        → work_in_front (left_of v (runner_of c v)) ≤ suc k → ends_at c s (t + k) ≡ true
    last_ends somebody within few =
        let front = front_worked k (left_of v (runner_of c v)) within in
        ap (λ (r : Runner). is_somebody r && not (nat_le 2 (work_in_front (list_at c s (t + k))))) runner_now
        ∙ ap (λ b. b && not (nat_le 2 (work_in_front (list_at c s (t + k))))) (some_runner (runner_of c v) somebody)
        ∙ ap (λ (left : List Stmt). not (nat_le 2 (work_in_front left))) list_now
        ∙ ap not (lt-leb 2 (work_in_front (worked_off k (left_of v (runner_of c v)))) (omega arith))

    last_gives : {L : Type 0} {Told : L → List Event → L → Type 0} {a d : L} {u : World} {end : Outcome}
        → Gives Told a d u end (jump c s k v)
        → Gives {L = Unit {0}} (λ _ _ _. Unit {0}) tt tt u end (step c s (at_work c k v))
    last_gives g = record {
      world_is = g.world_is ∙ ap (λ (m : Moved). m.world) (jump_is c s v k can);
      told = tt;
      end_is = g.end_is ∙ ap (λ (m : Moved). m.end) (jump_is c s v k can);
    }

    jump_passes : {L : Type 0} {Told : L → List Event → L → Type 0} {first a d : L} {u : World} {end : Outcome}
        → IsTelling Told → Told first es a → Gives Told a d u end (jump c s k v)
        → Passes Told c s t (t + k) first d u end
    jump_passes {Told = Told} {first} {a} {d} telling opened g =
        let number : suc (t + k) - t ≡ suc k = omega arith in
        record {
          later = omega arith;
          going = h.going;
          told = subst (λ xs. Told first xs d)
              (ap (λ (m : Moved). es ++ m.events) (jump_is c s v k can)
              ∙ told_all c v es k (step c s (at_work c k v)).events
              ∙ sym (events_more h) ∙ ap (events_between c s t) (sym number))
              (telling.both first a d es (jump c s k v).events opened g.told);
          world_is = (last_gives g).world_is ∙ sym (ap (λ (m : Moved). m.world) (instant_is h));
          end_is = (last_gives g).end_is ∙ sym (ap (λ (m : Moved). m.end) (instant_is h));
        }

-- ---- how many ticks

jump_numbers : (free work k : ℕ) → 1 ≤ free → k ≡ max (min free work) 1
    → (work ≤ k) ⊎ ((suc k ≤ max 1 work) × (k ≡ free))
jump_numbers free work k l e =
    ⊎_elim (λ (less : k < work). inr (omega (arith, l, e, less), omega (arith, l, e, less)))
    (λ (more : work ≤ k). inl more) (cases_lt k work)

-- the work ends with the ticks that are taken, or they reach the next due tick
jump_cases : (r : Runner) (left : List Stmt) (free k : ℕ) → 1 ≤ free → k ≡ jump_of r left free
    → ((r ≡ runner.Nobody → ⊥) × (work_in_front left ≤ k)) ⊎ (CanWork (suc k) r left × (k ≡ free))
jump_cases runner.Nobody left free k l e = inr (inl refl, omega (arith, l, e))
jump_cases r left free k l e =
    ⊎_elim (λ ends. inl (λ f. cc, ends)) (λ reaches. inr (inr reaches.0, reaches.1))
    (jump_numbers free (work_in_front left) k l e)

-- at least one, no more than the work that is left, and no more than are free
record JumpFits (r : Runner) (left : List Stmt) (free k : ℕ) : Type 0 where
  some : 1 ≤ k
  within : CanWork k r left
  most : k ≤ max 1 free

jump_fits : (r : Runner) (left : List Stmt) (free k : ℕ) → k ≡ jump_of r left free → JumpFits r left free k
jump_fits runner.Nobody left free k e =
    record { some = omega (arith, e); within = inl refl; most = omega (arith, e) }
jump_fits r left free k e =
    record { some = omega (arith, e); within = inr (omega (arith, e)); most = omega (arith, e) }

-- ---- the instants that are passed at once

-- after an opening that goes on, the one who runs takes k ticks at once
pub record Jumps (c : ConfigParts) (s : ScriptParts) (before st : RunState) (next k : ℕ) : Type 0 where
  pub can : CanPass c s before
  pub on : IsOnSchedule c s before.world
  pub world_is : st.world ≡ (opening c s before.world).world
  pub goes : None ≡ (opening c s before.world).end
  pub fixed : IsFor c s st.beside
  pub opened : IsOpened c s before.world.tick st
  pub ahead : IsAhead c 1 st next
  pub soon : st.world.tick < next
  pub due : IsDueAt c s st.world next
  pub ticks : k ≡ jump_of (runner_of c st.world) (left_of st.world (runner_of c st.world)) (next - st.world.tick)

module _ {c : ConfigParts} {s : ScriptParts} {before st : RunState} {next k : ℕ}
    (h : Jumps c s before st next k) where
  t : ℕ
  t = before.world.tick

  es : List Event
  es = (opening c s before.world).events

  abbrev who : Runner
  who = runner_of c st.world

  abbrev left_now : List Stmt
  left_now = left_of st.world who

  opening_gives : Gives {L = Unit {0}} (λ _ _ _. Unit {0}) tt tt st.world None (opening c s before.world)
  opening_gives = record { world_is = h.world_is; told = tt; end_is = h.goes }

  here : st.world.tick ≡ t
  unfolding t
  here = opened_tick quietly c s before.world st.world tt tt opening_gives h.can.served h.can.named

  fits : JumpFits who left_now (next - st.world.tick) k
  fits = jump_fits who left_now (next - st.world.tick) k h.ticks

  pub some_ticks : 1 ≤ k
  some_ticks = fits.some

  one_less : k ≡ suc (k - 1)
  one_less = omega (arith, some_ticks)

  can_work : CanWork (suc (k - 1)) who left_now
  can_work = subst (λ n. CanWork n who left_now) one_less fits.within

  reached_here : Reached c s t next st.world st.beside es 0
  unfolding t es
  reached_here =
      reached_first h.on.going
      (ap (opening c s) (sym h.on.world)
      ∙ ap (λ (w : World). record {
        world = w;
        events = (opening c s before.world).events;
        end = (opening c s before.world).end;
      }) (sym h.world_is)
      ∙ ap (λ (o : Outcome). record { world = st.world; events = (opening c s before.world).events; end = o })
      (sym h.goes))
      (can_tick quietly c s before.world st.world tt tt opening_gives h.can.served h.can.named st refl h.fixed
      h.can.tick)
      h.opened.sources h.opened.none h.ahead h.due

  reached_last : Reached c s t next st.world st.beside es (k - 1)
  reached_last =
      reached_upto h.can.served.rules h.can.served.script h.fixed here reached_here (k - 1) can_work
      (λ i some within.
      let most = fits.most in let soon = h.soon in omega (arith, most, soon, here, some, within))

  -- the one who runs can take them
  pub can_jump : CanJump c s k st
  can_jump = record { can = reached_here.can; last = reached_last.can; within = fits.within }

  module _ {L : Type 0} {Told : L → List Event → L → Type 0} {a d : L} {u : World} {over : Outcome} {last : ℕ}
      (last_is : last ≡ st.world.tick + (k - 1)) (gives : Gives Told a d u over (jump c s (k - 1) st.world)) where
    last_number : t + (k - 1) ≡ last
    last_number = ap (λ n. n + (k - 1)) (sym here) ∙ sym last_is

    -- they are passed
    pub passes_all : IsTelling Told → {first : L} → Told first (opening c s before.world).events a
        → Passes Told c s before.world.tick last first d u over
    unfolding t es
    passes_all telling {first} told = subst (λ n. Passes Told c s before.world.tick n first d u over) last_number
        (jump_passes can_work reached_last telling told gives)

    module _ (goes : over ≡ None) where
      last_goes_on : Gives {L = Unit {0}} (λ _ _ _. Unit {0}) tt tt u None (step c s (at_work c (k - 1) st.world))
      last_goes_on = outcome_is (last_gives can_work reached_last gives) goes

      -- the sources are those from the next tick on
      pub jump_sources : (after : RunState) → after.world ≡ u → after.beside ≡ st.beside
          → HasSources c s (last + 1) after
      jump_sources after is beside =
          ticked_sources quietly c s (last + 1)
          (record { world = at_work c (k - 1) st.world; beside = st.beside }) after tt tt
          (subst (λ w. Gives {L = Unit {0}} (λ _ _ _. Unit {0}) tt tt w None
          (step c s (at_work c (k - 1) st.world))) (sym is) last_goes_on) beside
          (subst (λ n. HasSources c s (n + 1) (record { world = at_work c (k - 1) st.world; beside = st.beside }))
          last_number reached_last.sources)

      -- and it is known until when nothing is due
      pub jump_foresees : (after : RunState) (ended : Bool) → after.world ≡ u → after.beside ≡ st.beside
          → ended ≡ owner_ends c s (at_work c (k - 1) st.world)
          → Foresees c s after (record { next = next; ended = ended })
      jump_foresees after ended is beside ended_is =
          foresees quietly c s (record { world = at_work c (k - 1) st.world; beside = st.beside }) after next ended
          tt tt beside reached_last.can.started
          (subst (λ w. Gives {L = Unit {0}} (λ _ _ _. Unit {0}) tt tt w None
          (step c s (at_work c (k - 1) st.world))) (sym is) last_goes_on) ended_is reached_last.none reached_last.ahead
          reached_last.due

    -- one move was counted, and a statement has ended, or something is due next
    pub jump_few : (moves moved : ℕ) → moved ≡ moves + 1 → FewMoves c s before.world.tick last moves moved
    unfolding t es
    jump_few moves moved counted =
        ⊎_elim
        (λ (ends : (who ≡ runner.Nobody → ⊥) × (work_in_front left_now ≤ k)).
        few_by_end c s before.world.tick (k - 1) last moves moved (sym last_number) counted
        (last_ends can_work reached_last ends.0 (somebody_works (suc (k - 1)) who left_now ends.0 can_work)
        (let m = ends.1 in omega arith)))
        (λ (reaches : CanWork (suc k) who left_now × (k ≡ next - st.world.tick)).
        few_by_due c s before.world.tick (k - 1) last moves moved (sym last_number) counted
        (due_there reached_last here (subst (λ n. CanWork (suc n) who left_now) one_less reaches.0)
        (let free = reaches.1 in let soon = h.soon in omega (arith, here, free, soon, some_ticks))))
        (jump_cases who left_now (next - st.world.tick) k (let soon = h.soon in omega arith) h.ticks)

    -- the peaks are those of the instants so far
    pub jump_peaks : (p q : Peaks) → p ≡ peaks_before c s before.world.tick
        → q ≡ record { deepest = max p.deepest (depth_of st.world); words = max p.words (words_of c st.world) }
        → q ≡ peaks_before c s (last + 1)
    unfolding t
    jump_peaks p q is more =
        let plus : suc (t + (k - 1)) ≡ last + 1 = ap suc last_number ∙ sym (add-one last) in
        more
        ∙ ap (λ (x : Peaks). record {
          deepest = max x.deepest (depth_of st.world);
          words = max x.words (words_of c st.world);
        }) is
        ∙ ap (λ (n : ℕ). record { deepest = n; words = max (most_before (words_of c) c s t) (words_of c st.world) })
        (sym reached_last.deepest)
        ∙ ap (λ (n : ℕ). record { deepest = most_before depth_of c s (suc (t + (k - 1))); words = n })
        (sym reached_last.words)
        ∙ ap (peaks_before c s) plus

-- an opening that ends the run is the last instant
pub over_passes : {L : Type 0} {Told : L → List Event → L → Type 0} → IsTelling Told → (c : ConfigParts)
    (s : ScriptParts) (w v : World) (first a : L) (end : Outcome) (n : ℕ) → IsOnSchedule c s w → n ≡ w.tick
    → Gives Told first a v end (instant c s w) → Passes Told c s w.tick n first a v end
unfolding events_between instant_at
over_passes {Told = Told} telling c s w v first a end n on here g =
    let one : suc w.tick - w.tick ≡ 1 = omega arith in
    let none : w.tick + 0 ≡ w.tick = omega arith in
    subst (λ m. Passes Told c s w.tick m first a v end) (sym here)
    (record {
      later = omega arith;
      going = on.going;
      told = subst (λ xs. Told first xs a)
          (ap (λ u. (instant c s u).events) (on.world ∙ ap (world_at c s) (sym none))
          ∙ ap (events_between c s w.tick) (sym one)) g.told;
      world_is = g.world_is ∙ ap (λ u. (instant c s u).world) on.world;
      end_is = g.end_is ∙ ap (λ u. (instant c s u).end) on.world;
    })

-- such an opening raises nothing
pub peaks_over : (c : ConfigParts) (s : ScriptParts) (w : World) (p : Peaks) (n : ℕ) (end : Outcome) (last : RunEnd)
    → IsOnSchedule c s w → n ≡ w.tick → end ≡ Some last → end ≡ (opening c s w).end
    → p ≡ peaks_before c s w.tick → p ≡ peaks_before c s (n + 1)
peaks_over c s w p n end last on here is same before =
    peaks_next c s w.tick w p p on.world before (raised_over c (opening c s w) p end same last is)
    ∙ ap (peaks_before c s) (ap suc (sym here) ∙ sym (add-one n))

-- how many ticks the one who runs takes
pub is_jump : (r : Runner) (w : World) (c : ConfigParts) (next k : ℕ) → r ≡ runner_of c w
    → k ≡ jump_of r (left_of w r) (next - w.tick)
    → k ≡ jump_of (runner_of c w) (left_of w (runner_of c w)) (next - w.tick)
is_jump r w c next k runs is = is ∙ ap (λ (q : Runner). jump_of q (left_of w q) (next - w.tick)) runs

-- unless nobody runs, no more than there is work left
pub somebody_jump : (r : Runner) (left : List Stmt) (free k : ℕ) → (r ≡ runner.Nobody → ⊥)
    → k ≡ max (min free (work_in_front left)) 1 → k ≡ jump_of r left free
somebody_jump runner.Nobody left free k some is = absurd (some refl)
somebody_jump r left free k some is = is
