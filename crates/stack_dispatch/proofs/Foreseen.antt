-- What the runner sees ahead: at which instants nothing is due.
use Rattle.std.proofs.Common.{ℕ, ◌≡◌, ◌<◌, ◌≤◌, ◌+◌, ◌-◌, List, [], Bool, true, false, Option, None, Some, refl, ap, sym, ◌∙◌, subst, arith, length, get_or}
use Rattle.std.specs.Prelude.{filter, IfSome}
use Rattle.std.specs.List.{range_with_len}
use Rattle.std.specs.Option.{ForSome}
use Rattle.std.proofs.lemmas.Bool.{false_from_ne_true, eqb-true, true≢false}
use Rattle.std.proofs.lemmas.List.FromFn.{get_or-range_with_len, length-range_with_len}
use Rattle.tt_base.specs.declared.event.Event.{Event}
use Rattle.tt_base.specs.declared.number.ModeNo.{ModeNo}
use Rattle.tt_world.specs.declared.config.ConfigParts.{ConfigParts}
use Rattle.tt_world.specs.declared.script.ScriptParts.{ScriptParts}
use Rattle.tt_world.specs.World.{World}
use Rattle.tt_world.specs.Correction.{is_length}
use Rattle.tt_world.specs.Gates.{acceptances, is_accepted}
use Rattle.tt_world.specs.Monitoring.{is_at}
use Rattle.tt_world.specs.Moved.{IsTelling, Gives, is_over}
use Rattle.tt_world.specs.Opening.{opening}
use Rattle.tt_world.specs.Points.{point_of}
use Rattle.tt_world.specs.Rows.{offset_of, mode_of, row_of}
use Rattle.tt_world.specs.Runners.{job_at}
use Rattle.tt_world.specs.Step.{step}
use Rattle.tt_world.proofs.Keeps.{acceptances_hold}
use Rattle.tt_world.proofs.Moves.{gives_none}
use Rattle.tt_world.proofs.Openings.{NothingDue, opening_accepts}
use Rattle.tt_world.proofs.Still.{Still, step_still, step_accepts, owner_ends}
use Rattle.isr_window.specs.Window.{next_tick}
use Rattle.isr_window.specs.Played.{source_at}
use Rattle.isr_window.proofs.Acceptances.{acceptances_silent}
use Rattle.isr_window.proofs.Arrivals.{arrivals_silent, left_jump}
use Rattle.round_end.specs.Round.{Round, next_own}
use Rattle.round_table.specs.ExpiryPoints.{IsFree}
use Rattle.round_table.proofs.Cutting.{filter_empty}
use Rattle.stack_dispatch.specs.First.{first_state}
use Rattle.stack_dispatch.specs.Counts.{IsDueAt}
use Rattle.stack_dispatch.specs.Due.{NoneAccepted}
use Rattle.stack_dispatch.specs.Served.{AreRowsFree, CanPass, Foresees, HasSources, IsAhead, round_in}
use Rattle.stack_dispatch.specs.State.{RunState, Beside, window_in}
use Rattle.stack_dispatch.proofs.Opened.{after}

-- ---- entries that are not due

none_kept : (p : ℕ → Bool) (n m : ℕ) → filter p (range_with_len n m) ≡ [] → (j : ℕ) → n ≤ j → j < n + m → p j ≡ false
none_kept p n m e j l u =
    let long = length-range_with_len n m in
    let there : get_or (range_with_len n m) (j - n) 0 ≡ j =
    omega (arith, get_or-range_with_len n m (j - n) 0 (omega arith)) in
    subst (λ k. p k ≡ false) there (filter_empty p (range_with_len n m) e (j - n) 0 (omega arith))

-- ---- the own ticks of a round

-- by whether the length of the round is fixed
pub own_is : (r : Round) (latched : Option ℕ) → r.latched ≡ latched
    → next_own r ≡ next_own (record r { latched = latched })
own_is r latched e = ap (λ l. next_own (record r { latched = l })) e

not_over : (r : Round) (latched : Option ℕ) (offset next : ℕ) → r.latched ≡ latched → next ≤ next_own r
    → r.start + offset < next
    → is_length latched offset ≡ false
not_over r None offset next e l m = refl
not_over r (Some length) offset next e l m =
    let own = own_is r (Some length) e in
    false_from_ne_true _ (λ d. let same = eqb-true length offset d in absurd (omega arith))

not_latched : (r : Round) (latched : Option ℕ) (offset next : ℕ) → r.latched ≡ latched → next ≤ next_own r
    → r.start + offset < next
    → ((length : ℕ) → r.latched ≡ Some length → r.round - r.adjust < offset) → offset ≡ r.round - r.adjust → ⊥
not_latched r None offset next e l m late here = let own = own_is r None e in absurd (omega arith)
not_latched r (Some length) offset next e l m late here = let after = late length e in absurd (omega arith)

module _ {L : Type 0} {Told : L → List Event → L → Type 0} (telling : IsTelling Told) where
  module _ (c : ConfigParts) (s : ScriptParts) where
    -- nothing is due before the next due tick
    module _ (st : RunState) (can : CanPass c s st) (next : ℕ) (ahead : IsAhead c 0 st next)
        (idle : st.world.tick < next) where
      here : st.world.start + offset_of st.world ≡ st.world.tick
      here = let started = can.late.started in omega arith

      free : IsFree (offset_of st.world) (mode_of c st.world)
      free = ahead.free (offset_of st.world) (omega arith) (let same = here in omega arith)

      later : ForSome (next_tick (window_in st)) (λ tick. st.world.tick + 1 ≤ tick)
      later = λ tick e. let l = ahead.arrivals tick e in omega arith

      pub nothing_due : NothingDue c s st.world
      nothing_due =
          let same = here in
          let round : st.beside.round ≡ c.round = ap (λ f. f.round) can.fixed in
          let adjust : st.beside.adjust ≡ c.adjust = ap (λ f. f.adjust) can.fixed in
          record {
            begun = λ z. let none = ahead.head (omega arith) in absurd (omega arith);
            latched = λ e.
                not_latched (round_in st) st.world.latched (offset_of st.world) next refl ahead.own (omega arith)
                (λ length f. let l = can.late.late length f in omega arith) (omega arith);
            round = not_over (round_in st) st.world.latched (offset_of st.world) next refl ahead.own (omega arith);
            checks = λ place l.
                none_kept (λ entry. is_at (offset_of st.world)
                (point_of (mode_of c st.world) (row_of (mode_of c st.world) entry))) 0
                (length (mode_of c st.world).activations) free.checks (job_at st.world.jobs place).entry (omega arith)
                (let few = can.served.placed.few in let e = can.served.placed.entries place l in omega arith);
            enables = free.enables;
            arrivals = arrivals_silent c s st.world (window_in st) can.served.script can.sources.left later;
            activation = free.activation;
          }

      -- an opening that tries the acceptances, and one that does nothing
      pub opens_accepting : (a b : L) (v : World) → Gives Told a b v None (acceptances c st.world)
          → Gives Told a b v None (opening c s st.world)
      opens_accepting a b v g = subst (Gives Told a b v None) (sym (opening_accepts c s st.world nothing_due)) g

      pub opens_idle : (a : L) → NoneAccepted c st.world → Gives Told a a st.world None (opening c s st.world)
      opens_idle a none = opens_accepting a a st.world
          (subst (Gives Told a a st.world None) (sym (acceptances_silent c st.world none))
          (gives_none telling a st.world))

      pub idle_sources : HasSources c s (st.world.tick + 1) st
      idle_sources = record {
        sources = can.sources.sources;
        left = left_jump c s st.world.tick (st.world.tick + 1) (window_in st) can.served.script
            (omega arith) can.sources.left later;
      }

    -- ---- what is foreseen is foreseen still

    pub record SameRound (w v : World) : Type 0 where
      pub tick : v.tick ≡ w.tick
      pub start : v.start ≡ w.start
      pub mode : v.mode ≡ w.mode
      pub latched : v.latched ≡ w.latched

    accepted_round : (w v : World) (a b : L) → Gives Told a b v None (acceptances c w) → SameRound w v
    accepted_round w v a b g =
        after telling (SameRound w) (acceptances c w) a b v g
        (acceptances_hold (SameRound w)
        (λ u _ _ _ _ _ p. record { tick = p.tick; start = p.start; mode = p.mode; latched = p.latched }) c w []
        (record { tick = refl; start = refl; mode = refl; latched = refl }))

    own_same : (st v : RunState) → v.beside ≡ st.beside → v.world.start ≡ st.world.start
        → v.world.latched ≡ st.world.latched
        → next_own (round_in v) ≡ next_own (round_in st)
    own_same st v beside start latched =
        ap (λ l. next_own (record (round_in v) { latched = l })) latched
        ∙ ap (λ (n : ℕ). next_own (record (round_in v) { start = n; latched = st.world.latched })) start
        ∙ ap (λ (b : Beside). next_own
        (record (round_in v) {
          round = b.round;
          adjust = b.adjust;
          start = st.world.start;
          latched =
              st.world.latched;
        })) beside
        ∙ by_latched st.world.latched
      where
        by_latched : (latched : Option ℕ)
            → next_own (record (round_in v)
            { round = st.beside.round; adjust = st.beside.adjust; start = st.world.start; latched = latched })
            ≡ next_own (record (round_in st) { latched = latched })
        by_latched None = refl
        by_latched (Some length) = refl

    -- one opening, or one tick, later
    ahead_kept : (j k : ℕ) (st v : RunState) (next : ℕ) → v.beside ≡ st.beside → v.world.start ≡ st.world.start
        → v.world.mode ≡ st.world.mode
        → v.world.latched ≡ st.world.latched → (v.world.tick + k ≡ 0 → ⊥)
        → offset_of st.world + j ≤ offset_of v.world + k
        → IsAhead c j st next → IsAhead c k v next
    ahead_kept j k st v next beside start mode latched some upto h = record {
      head = λ z. absurd (some z);
      free = λ offset l m. subst (λ (n : ModeNo). IsFree offset (mode_of c (record st.world { mode = n }))) (sym mode)
          (h.free offset (omega arith) (omega arith));
      own = let same = own_same st v beside start latched in let l = h.own in omega arith;
      arrivals = subst (λ (b : Beside). ForSome (next_tick (window_in (record { world = st.world; beside = b })))
          (λ tick. next ≤ tick)) (sym beside) h.arrivals;
    }

    pub ahead_accepted : (st v : RunState) (next : ℕ) (a b : L) → v.beside ≡ st.beside
        → Gives Told a b v.world None (acceptances c st.world)
        → IsAhead c 0 st next → IsAhead c 1 v next
    ahead_accepted st v next a b beside g h =
        let r = accepted_round st.world v.world a b g in
        let tick = r.tick in
        let start = r.start in
        ahead_kept 0 1 st v next beside r.start r.mode r.latched (λ z. absurd (omega arith)) (omega arith) h

    pub due_accepted : (w v : World) (next : ℕ) (a b : L) → Gives Told a b v None (acceptances c w)
        → IsDueAt c s w next → IsDueAt c s v next
    due_accepted w v next a b g due u at start mode latched =
        let r = accepted_round w v a b g in due u at (start ∙ r.start) (mode ∙ r.mode) (latched ∙ r.latched)

    pub tick_accepted : (w v : World) (a b : L) → Gives Told a b v None (acceptances c w) → v.tick ≡ w.tick
    tick_accepted w v a b g = (accepted_round w v a b g).tick

    pub ahead_idle : (st : RunState) (next : ℕ) → IsAhead c 0 st next → IsAhead c 1 st next
    ahead_idle st next h = ahead_kept 0 1 st st next refl refl refl refl (λ z. absurd (omega arith)) (omega arith) h

    pub foresees : (st v : RunState) (next : ℕ) (ended : Bool) (a b : L) → v.beside ≡ st.beside
        → st.world.start ≤ st.world.tick
        → Gives Told a b v.world None (step c s st.world) → ended ≡ owner_ends c s st.world → NoneAccepted c st.world
        → IsAhead c 1 st next → IsDueAt c s st.world next
        → Foresees c s v (record { next = next; ended = ended })
    foresees st v next ended a b beside started g is none h due =
        let on = ap is_over (sym g.end_is) in
        let still = subst (Still st.world) (sym g.world_is) (step_still c s st.world on) in
        let tick = still.tick in
        let start = still.start in
        record {
          next = ahead_kept 1 0 st v next beside still.start still.mode still.latched (λ z. absurd (omega arith))
              (omega arith) h;
          due = λ _ u at from mode latched.
              due u at (from ∙ still.start) (mode ∙ still.mode) (latched ∙ still.latched);
          none = λ undone place l.
              ap (λ (w : World). is_accepted w (source_at c place)) g.world_is
              ∙ step_accepts c s st.world (source_at c place) on (sym is ∙ undone) (none place l);
        }

    -- before tick 0
    pub foresees_first : Foresees c s (first_state c s) (record { next = 0; ended = true })
    foresees_first = record {
      due = λ l. absurd (omega arith);
      next = record {
        head = λ _. refl;
        free = λ offset l m. absurd (omega arith);
        own = omega arith;
        arrivals =
            λ tick e. omega arith;
      };
      none = λ e. absurd (true≢false e);
    }

module _ (c : ConfigParts) where
  -- the next due tick: of the rows, of the round, and of the arrivals
  pub rows_free : (w : World) (found : Option ℕ) (tick : ℕ)
      → ((between : ℕ) → offset_of w < between → IfSome found (λ o. between < o) → IsFree between (mode_of c w))
      → IfSome found (λ o. tick ≤ w.start + o) → AreRowsFree c w tick
  rows_free w None tick free upto offset l m = free offset (omega arith) tt
  rows_free w (Some o) tick free upto offset l m = free offset (omega arith) (omega arith)

  pub looks_ahead : (st : RunState) (row next : ℕ) → AreRowsFree c st.world row → next ≤ row
      → next ≤ next_own (round_in st)
      → ForSome (next_tick (window_in st)) (λ tick. next ≤ tick) → IsAhead c 1 st next
  looks_ahead st row next free upto own arrivals = record {
    head = λ z. absurd (omega arith);
    free = λ offset l m. free offset l (omega arith);
    own = own;
    arrivals = arrivals;
  }
