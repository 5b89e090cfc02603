-- The checks of each round at one tick: those of the points that are due at it, part after part of each instant.
use Rattle.std.proofs.Common.{ℕ, suc, ◌≡◌, ◌<◌, ◌≤◌, ◌+◌, ◌-◌, List, [], ◌∷◌, ◌++◌, Bool, true, false, Option, None, Some, refl, ap, sym, ◌∙◌, subst, eqb, arith, length, append-nil, ⊎_elim, inl, inr}
use Rattle.std.specs.Prelude.{◌==◌, filter, cond}
use Rattle.std.proofs.lemmas.Bool.{cond_both, cases_eq, eq-eqb, ne_eqb, eqb-true, eqb-false}
use Rattle.tt_base.specs.declared.number.TaskNo.{TaskNo}
use Rattle.tt_base.specs.declared.event.Event.{Event}
use Rattle.tt_base.specs.declared.event.Event.TheVariants.{Check}
use Rattle.tt_world.specs.declared.config.ConfigParts.{ConfigParts}
use Rattle.tt_world.specs.declared.script.ScriptParts.{ScriptParts}
use Rattle.tt_world.specs.declared.world.Point.{Point}
use Rattle.tt_world.specs.World.{World}
use Rattle.tt_world.specs.Moved.{Moved, is_over}
use Rattle.tt_world.specs.ConfigRules.{IsConfig}
use Rattle.tt_world.specs.Rows.{offset_of, mode_at, mode_of, entry_at}
use Rattle.tt_world.specs.Correction.{is_length}
use Rattle.tt_world.specs.Monitoring.{checked, is_at, is_at_end}
use Rattle.tt_world.specs.Rounds.{latch}
use Rattle.tt_world.specs.Opening.{activated}
use Rattle.tt_world.specs.Schedule.{IsBounded, IsLast, world_at, events_before}
use Rattle.tt_world.specs.Status.{Status, Missed, Shut, stamp_of}
use Rattle.tt_world.specs.Readings.{RoundStart}
use Rattle.tt_world.specs.EventLaws.{checked_rows, is_check_at, IsRoundLength, ChecksAtEnd}
use Rattle.tt_world.proofs.Parts.{Phase, Before, Latched, Begun, Alone, Anything, led_on, GoesOnBefore}
use Rattle.tt_world.proofs.Time.{Timed, Stands, latch_timed, timed_at}
use Rattle.tt_world.proofs.Ends.{tick_at}
use Rattle.tt_world.proofs.Emits.{Of, checked_all}
use Rattle.tt_world.proofs.Forward.{round_in}
use Rattle.tt_world.proofs.CheckRows.{checks_at_offset}
use Rattle.tt_world.proofs.SeenRuns.{checks_at}
use Rattle.tt_world.proofs.Stamps.{IsAt, checked_at}
use Rattle.tt_world.proofs.RoundRuns.{OfPresent, Ended, IsOfRows, RoundParts, ended_at}
use Rattle.tt_world.proofs.CheckEnds.{checks_at_end, SameEnds, rows_same}

module _ (c : ConfigParts) (t : ℕ) (seen : List Event) where
  -- the checks at tick t of the points of a round that are due, read from the events seen
  abbrev pub rows_of : RoundStart → (Point → Bool) → List Event
  rows_of round is_due =
      let mode = mode_at c round.mode.0 in checked_rows seen t round.start mode is_due mode.activations

  -- the checks at tick t that a round has had up to a tick: those of its points where t is before that tick, as `Here`
  -- says where t is that tick, and no others
  pub record Monitored (round : RoundStart) (end : ℕ) (Here : Type 0) (kept : List Event) : Type 0 where
    pub early : t < round.start → kept ≡ []
    pub at : round.start ≤ t → t < end → kept ≡ rows_of round (is_at (t - round.start))
    pub here : t ≡ end → Here
    pub late : end < t → kept ≡ []

  -- of a round that is over, which ended at this tick
  abbrev pub Has : RoundStart → ℕ → List Event → Type 0
  Has round end kept = Monitored round end (kept ≡ rows_of round (is_at_end (end - round.start))) kept

  -- of the present round, before the checks of tick T
  abbrev SoFar : ℕ → OfPresent
  SoFar T round kept = Monitored round T (kept ≡ []) kept

  -- with the checks of tick T
  abbrev With : (RoundStart → Point → Bool) → ℕ → OfPresent
  With due T round kept = Monitored round T (kept ≡ rows_of round (due round)) kept

  -- of the last round, where the run ends at tick T
  abbrev pub Finally : ℕ → Status → OfPresent
  Finally T status round kept =
      Monitored round T (ChecksAtEnd c true status (λ is_due. kept ≡ rows_of round is_due) (T - round.start)) kept

  abbrev offset_due : ℕ → RoundStart → Point → Bool
  offset_due T round = is_at (T - round.start)

  abbrev end_due : ℕ → RoundStart → Point → Bool
  end_due T round = is_at_end (T - round.start)

  -- with more events, of stamp T
  more : (round : RoundStart) (T : ℕ) (Here : Type 0) (kept fs : List Event) → round.start ≤ T
      → ((t ≡ T → ⊥) → fs ≡ []) → (t ≡ T → kept ≡ [] → Here) → SoFar T round kept
      → Monitored round T Here (kept ++ fs)
  more round T Here kept fs l other same p =
      let unchanged : (t ≡ T → ⊥) → kept ++ fs ≡ kept =
      λ n. ap (λ (xs : List Event). kept ++ xs) (other n) ∙ append-nil kept in
      record {
        early = λ a. unchanged (λ e. absurd (omega arith)) ∙ p.early a;
        at = λ a b. unchanged (λ e. absurd (omega arith)) ∙ p.at a b;
        here = λ e. same e (p.here e);
        late = λ a. unchanged (λ e. absurd (omega arith)) ∙ p.late a;
      }

  -- the same, at the next tick
  next_tick : (T : ℕ) (round : RoundStart) (kept : List Event) → With (offset_due T) T round kept
      → SoFar (T + 1) round kept
  next_tick T round kept p =
      record {
        early = p.early;
        at = λ a b.
            ⊎_elim
            (λ (e : t ≡ T). p.here e ∙ ap (λ (x : ℕ). rows_of round (is_at (x - round.start))) (sym e))
            (λ (n : t ≡ T → ⊥). p.at a (omega (arith, n))) (cases_eq t T);
        here = λ e. p.late (omega arith);
        late = λ a. p.late (omega arith);
      }

  -- where the run ends at an offset of the last round
  ends_at_offset : (T : ℕ) (status : Status) (round : RoundStart) (kept : List Event)
      → (kept ≡ rows_of round (is_at (T - round.start))
      → ChecksAtEnd c true status (λ is_due. kept ≡ rows_of round is_due) (T - round.start))
      → round.start ≤ T → SoFar (T + 1) round kept → Finally T status round kept
  ends_at_offset T status round kept h l p =
      record {
        early = p.early;
        at = λ a b. p.at a (omega arith);
        here = λ e.
            h (p.at (omega arith) (omega arith) ∙ ap (λ (x : ℕ). rows_of round (is_at (x - round.start))) e);
        late = λ a.
            ⊎_elim (λ (e : t ≡ T + 1). p.here e) (λ (n : t ≡ T + 1 → ⊥). p.late (omega (arith, n)))
            (cases_eq t (T + 1));
      }

  -- ---- the checks of an instant

  module _ (s : ScriptParts) (rules : IsConfig c) (bounded : IsBounded c s) where
    abbrev pub test : Event → Bool
    test = is_check_at t

    of_rows : IsOfRows c s test Has
    of_rows (Check at task met) n = cc
    of_rows e n = refl

    -- where t is this tick, the checks of the world are those read from the events seen
    abbrev IsRead : (ℕ → Point → Bool) → ℕ → World → Type 0
    IsRead due T w =
        t ≡ T
        → (checked w.tick (mode_of c w) (due (offset_of w)) w.jobs).events ≡ rows_of (round_in w) (due (T - w.start))

    record Ready (T : ℕ) (w : World) : Type 0 where
      pub now : IsRead is_at T w
      pub end : c.round - c.adjust ≤ T - w.start → IsRead is_at_end T w

    abbrev X : ℕ → Phase → World → Type 0
    X T Before w = Timed Before c s w × Ready T w
    X T Latched w = Timed Latched c s w × Ready T w
    X T Begun w = IsRead is_at T w × (T - w.start < c.round + c.adjust)
    X T phase w = Unit {0}

    read_from : (due : ℕ → Point → Bool) (T : ℕ) (w : World) (es : List Event) → w.tick ≡ T → (t ≡ T → SameEnds seen es)
        → (checked w.tick (mode_of c w) (due (offset_of w)) w.jobs).events
        ≡ checked_rows es w.tick w.start (mode_of c w) (due (offset_of w)) (mode_of c w).activations
        → IsRead due T w
    read_from due T w es tick same h e =
        let mode = mode_of c w in
        h ∙ sym (rows_same seen es (same e) w.tick w.start mode (due (offset_of w)) mode.activations)
        ∙ ap (λ (x : ℕ). checked_rows seen x w.start mode (due (offset_of w)) mode.activations) (tick ∙ sym e)
        ∙ ap (λ (x : ℕ). checked_rows seen t w.start mode (due (x - w.start)) mode.activations) tick

    -- a round that begins at a tick has no checks at it
    fresh : (T : ℕ) (w : World) → w.tick ≡ T → w.start ≡ w.tick → w.jobs ≡ [] → IsRead is_at T w
    fresh T w tick start none =
        let empty : length w.jobs ≡ 0 = ap length none in
        read_from is_at T w seen tick (λ _ from who. refl)
        (checks_at_offset c rules w seen
        (record {
          started = omega arith;
          entries = λ place l. absurd (omega arith);
          few = omega arith;
          begun = λ i l. absurd (omega arith);
          later = λ i g l. omega arith;
        })
        (λ i l. absurd (omega arith)))

    latch_ready : (T : ℕ) (w : World) → Ready T w → Ready T (latch c w).world
    unfolding latch
    latch_ready T w r =
        cond_both (eqb (offset_of w) (c.round - c.adjust)) _ _ (λ (m : Moved). Ready T m.world)
        (λ _. record { now = r.now; end = r.end }) (λ _. r)

    latch_on : (w : World) → is_over (latch c w).end ≡ false
    unfolding latch
    latch_on w =
        cond_both (eqb (offset_of w) (c.round - c.adjust)) _ _ (λ (m : Moved). is_over m.end ≡ false) (λ _. refl)
        (λ _. refl)

    -- ---- checks of a tick

    abbrev IsCheck : Event → Type 0
    IsCheck e = test e ≡ (stamp_of e == t)

    test_is : (T : ℕ) (e : Event) → IsCheck e → stamp_of e ≡ T → test e ≡ (T == t)
    test_is T e k a = k ∙ ap (λ (x : ℕ). x == t) a

    all_kept : (T : ℕ) (fs : List Event) → Of IsCheck fs → Of (IsAt T) fs → t ≡ T → filter test fs ≡ fs
    all_kept T [] k a e = refl
    all_kept T (f ∷ fs) k a e =
        ap (λ (b : Bool). cond b (f ∷ filter test fs) (filter test fs)) (test_is T f k.0 a.0 ∙ eq-eqb T t (sym e))
        ∙ ap (λ (xs : List Event). f ∷ xs) (all_kept T fs k.1 a.1 e)

    none_kept : (T : ℕ) (fs : List Event) → Of IsCheck fs → Of (IsAt T) fs → (t ≡ T → ⊥) → filter test fs ≡ []
    none_kept T [] k a n = refl
    none_kept T (f ∷ fs) k a n =
        ap (λ (b : Bool). cond b (f ∷ filter test fs) (filter test fs))
        (test_is T f k.0 a.0 ∙ ne_eqb T t (λ e. n (sym e)))
        ∙ none_kept T fs k.1 a.1 n

    with_checks : (due : ℕ → Point → Bool) (T : ℕ) (w : World) → w.tick ≡ T → w.start ≤ T → IsRead due T w
        → (kept : List Event) → SoFar T (round_in w) kept
        → With (λ round. due (T - round.start)) T (round_in w)
        (kept ++ filter test (checked w.tick (mode_of c w) (due (offset_of w)) w.jobs).events)
    with_checks due T w tick l read kept p =
        let mode = mode_of c w in
        let fs = (checked w.tick mode (due (offset_of w)) w.jobs).events in
        let checks : Of IsCheck fs = checked_all IsCheck w.tick mode (due (offset_of w)) w.jobs (λ _ _ _. refl) in
        let at : Of (IsAt T) fs =
        subst (λ (x : ℕ). Of (IsAt x) fs) tick (checked_at w.tick mode (due (offset_of w)) w.jobs) in
        more (round_in w) T (kept ++ filter test fs ≡ rows_of (round_in w) (due (T - w.start))) kept (filter test fs) l
        (none_kept T fs checks at)
        (λ e z. ap (λ (xs : List Event). xs ++ filter test fs) z ∙ all_kept T fs checks at e ∙ read e) p

    -- an activation is no check
    no_check : (found : Option ℕ) (w : World) → filter test (activated c found w).events ≡ []
    no_check None w = refl
    no_check (Some entry) w = refl

    -- ---- the parts of an instant

    length_of : (latched : Option ℕ) (offset : ℕ) → is_length latched offset ≡ true → Stands Latched c latched offset
        → IsRoundLength c offset
    length_of None offset e h = cc
    length_of (Some length) offset e h = subst (IsRoundLength c) (eqb-true length offset e) h.0

    long : (T : ℕ) (w : World) → w.tick ≡ T → Timed Latched c s w → is_length w.latched (offset_of w) ≡ true
        → IsRoundLength c (T - w.start)
    long T w tick timed e =
        subst (λ (x : ℕ). IsRoundLength c (x - w.start)) tick (length_of w.latched (offset_of w) e timed.stands)

    before_most : (latched : Option ℕ) (offset : ℕ) → is_length latched offset ≡ false
        → Stands Latched c latched offset → offset < c.round + c.adjust
    before_most None offset e h = omega arith
    before_most (Some length) offset e h =
        let ne = eqb-false length offset e in
        let low = h.1 in
        let most = h.0.1 in
        omega arith

    on : (T : ℕ) (w : World) → w.tick ≡ T → Timed Latched c s w → is_length w.latched (offset_of w) ≡ false
        → T - w.start < c.round + c.adjust
    on T w tick timed e =
        subst (λ (x : ℕ). x - w.start < c.round + c.adjust) tick (before_most w.latched (offset_of w) e timed.stands)

    begins : (T : ℕ) (w : World) → w.tick ≡ T → w.start ≡ w.tick → w.jobs ≡ [] → X T Begun w
    begins T w tick start none = (fresh T w tick start none, let long = bounded.round_long in omega arith)

    end_miss : (T : ℕ) (round : RoundStart) (kept : List Event) (task : TaskNo) (tick : ℕ)
        → IsRoundLength c (T - round.start) → With (end_due T) T round kept → Finally T (Missed task tick) round kept
    end_miss T round kept task tick l d =
        record { early = d.early; at = d.at; here = λ e. inr (l, d.here e); late = d.late }

    parts : (T : ℕ)
        → RoundParts c s test Has of_rows T (SoFar T) (With (end_due T) T) (SoFar (T + 1)) (SoFar (T + 1)) (Finally T)
        (X T)
    parts T = record {
      latch_is = λ w p. (
        led_on (Alone (Timed Latched c s)) Anything [] (latch c w) (latch_on w) (latch_timed c s bounded w [] p.0),
        latch_ready T w p.1,
      );
      end_checks = λ w can kept d.
          with_checks is_at_end T w can.tick can.started
          (can.world.1.end (long T w can.tick can.world.0 can.length).0) kept d;
      end_missed = λ w can kept task tick d.
          end_miss T (round_in w) kept task tick (long T w can.tick can.world.0 can.length) d;
      over = λ round kept d. d;
      stop = λ round kept d. d;
      begin = λ mode.
          record { early = λ _. refl; at = λ a b. absurd (omega arith); here = λ _. refl; late = λ _. refl };
      fresh = begins T;
      still = λ w tick e p. (p.1.now, on T w tick p.0 e);
      checks = λ w tick l begun kept d.
          next_tick T (round_in w) _ (with_checks is_at T w tick l begun.0 kept d);
      missed = λ w l begun kept task tick d.
          ends_at_offset T (Missed task tick) (round_in w) kept (λ h. inl (begun.1, h)) l d;
      activation = λ w tick l kept d.
          subst (SoFar (T + 1) (round_in w))
          (sym
          (ap (λ (xs : List Event). kept ++ xs) (no_check (entry_at (offset_of w) (mode_of c w).activations) w)
          ∙ append-nil kept))
          d;
      shut = λ round kept tick l d. ends_at_offset T (Shut tick) round kept (λ h. h) l d;
    }

    -- ---- a run

    module _ (same : (n : ℕ) → GoesOnBefore c s n → t ≡ n → SameEnds seen (events_before c s n)) where
      ready : (n : ℕ) → GoesOnBefore c s n → X n Before (world_at c s n)
      ready n g =
          let w = world_at c s n in
          let es = events_before c s n in
          let tick = tick_at c s n g in (
            timed_at c s bounded n g,
            record {
              now = read_from is_at n w es tick (same n g) (checks_at c s rules n g);
              end = λ late. read_from is_at_end n w es tick (same n g) (checks_at_end c s rules n g (omega arith));
            },
          )

      ready_first : X 0 Begun (world_at c s 0)
      unfolding world_at
      ready_first = begins 0 (world_at c s 0) refl refl refl

      first_due : SoFar 0 (record { start = 0; mode = s.start }) []
      first_due =
          record { early = λ _. refl; at = λ a b. absurd (omega arith); here = λ _. refl; late = λ _. refl }

      -- where the run ends, each round that is over has had its checks at tick t, and so has the last
      pub checks_ended : (n : ℕ) → IsLast c s n → Ended c s test Has n (Finally n) (events_before c s (suc n))
      checks_ended n last =
          ended_at c s test Has of_rows SoFar (λ T. With (end_due T) T) (λ T. SoFar (T + 1)) Finally X parts
          (λ k _ g. ready k g) ready_first first_due n last
