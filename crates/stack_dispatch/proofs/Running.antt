-- What a run keeps: the world and the events are those of the schedule at the present tick.
use Rattle.std.proofs.Common.{ℕ, zero, suc, ◌≡◌, ◌<◌, ◌≤◌, ◌+◌, ◌-◌, ◌*◌, ◌^◌, List, ◌++◌, true, false, Some, refl, ap, sym, ◌∙◌, subst, arith, add-one, append_assoc, append-nil, ⊎_elim}
use Rattle.std.specs.Prelude.{None}
use Rattle.std.proofs.Math.Nat.{mul-le-mul_right}
use Rattle.std.proofs.lemmas.Bool.{cases_lt, true≢false}
use Rattle.tt_base.specs.declared.event.Event.{Event}
use Rattle.tt_world.specs.declared.config.ConfigParts.{ConfigParts}
use Rattle.tt_world.specs.declared.script.ScriptParts.{ScriptParts}
use Rattle.tt_world.specs.declared.world.RunEnd.{RunEnd}
use Rattle.tt_world.specs.World.{World}
use Rattle.tt_world.specs.Moved.{IsTelling, Outcome, is_over}
use Rattle.tt_world.specs.Schedule.{IsBounded, instant_at, world_at, events_before, events_between, ends_at, last_instant, schedule, first_world}
use Rattle.tt_world.specs.Status.{status_by, status_of, last_stamp}
use Rattle.tt_world.specs.Load.{last_round}
use Rattle.tt_world.proofs.Parts.{GoesOnBefore}
use Rattle.stack_dispatch.specs.Jumps.{IsOnSchedule, Passes}
use Rattle.stack_dispatch.proofs.RoundNumbers.{last_round_is}
use Rattle.tt_world.proofs.Ends.{tick_at, few_ticks, last_is, last_unique, goes_on_more}
use Rattle.tt_world.proofs.Stamps.{EndsAs}
use Rattle.tt_world.proofs.Closing.{schedule_says, ended_status, ended_stamp}

-- the world is that of the schedule at the present tick, and the events of the instants before it were reported, from
-- `first` on
pub record AtTick {L : Type 0} (Told : L → List Event → L → Type 0) (c : ConfigParts) (s : ScriptParts) (first : L)
    (w : World) (now : L)
    : Type 0 where
  pub on : IsOnSchedule c s w
  pub told : Told first (events_before c s w.tick) now

-- instants that were passed leave fewer to come
pub nearer : (most a n b : ℕ) → a ≤ most → a ≤ n → b ≡ n + 1 → most + 1 - b < most + 1 - a
nearer most a n b l m e = omega arith

-- the next tick has a number
pub has_number : (c : ConfigParts) (s : ScriptParts) → IsBounded c s → (w : World) → IsOnSchedule c s w
    → w.tick + 1 < 2 ^ 64
has_number c s bounded w a =
    let few : w.tick ≤ s.rounds * (c.round + c.adjust) = few_ticks c s bounded w.tick a.going in
    let m : s.rounds * (c.round + c.adjust) ≤ 100000 * (c.round + c.adjust) =
    mul-le-mul_right (c.round + c.adjust) bounded.few_rounds in
    let adjust = bounded.adjust in
    let short = bounded.round_short in
    omega arith

-- ---- the events of a prefix of a run, and the others

front_is : (c : ConfigParts) (s : ScriptParts) (n k : ℕ)
    → events_before c s (n + k) ≡ events_before c s n ++ events_between c s n k
unfolding events_before events_between
front_is c s n zero = let z : n + 0 ≡ n = omega arith in ap (events_before c s) z
    ∙ sym (append-nil (events_before c s n))
front_is c s n (suc k) =
    let z : n + suc k ≡ suc (n + k) = omega arith in
    ap (events_before c s) z ∙ ap (λ es. es ++ (instant_at c s (n + k)).events) (front_is c s n k)
    ∙ append_assoc (events_before c s n) (events_between c s n k) (instant_at c s (n + k)).events

-- an instant at which the run goes on is before the last one
pub before_last : (c : ConfigParts) (s : ScriptParts) → IsBounded c s → (n : ℕ) → GoesOnBefore c s (n + 1)
    → n < last_instant c s
before_last c s bounded n going =
    let last = last_is c s bounded in
    ⊎_elim (λ (l : n < last_instant c s). l)
    (λ (g : last_instant c s ≤ n).
    absurd (true≢false (sym last.ends ∙ going (last_instant c s) (omega arith)))) (cases_lt n (last_instant c s))

pub schedule_rest : ConfigParts → ScriptParts → ℕ → List Event
schedule_rest c s n = events_between c s n (suc (last_instant c s) - n)

-- the events of a schedule are those before an instant up to which the run goes on, and the others
pub schedule_split : (c : ConfigParts) (s : ScriptParts) → IsBounded c s → (n : ℕ) → GoesOnBefore c s n
    → schedule c s ≡ events_before c s n ++ schedule_rest c s n
unfolding schedule schedule_rest
schedule_split c s bounded n going =
    let last = last_is c s bounded in
    let within : n ≤ last_instant c s =
    ⊎_elim (λ (l : last_instant c s < n). absurd (true≢false (sym last.ends ∙ going (last_instant c s) l)))
    (λ (l : n ≤ last_instant c s). l) (cases_lt (last_instant c s) n) in
    let z : suc (last_instant c s) ≡ n + (suc (last_instant c s) - n) = omega arith in
    ap (events_before c s) z ∙ front_is c s n (suc (last_instant c s) - n)

module _ {L : Type 0} {Told : L → List Event → L → Type 0} (telling : IsTelling Told) where
  pub at_first : (c : ConfigParts) (s : ScriptParts) (first : L) → AtTick Told c s first (first_world c s) first
  unfolding world_at events_before
  at_first c s first = record {
    on = record { world = refl; going = λ k l. absurd (omega arith) };
    told = telling.none first;
  }

  -- ---- some instants after others, of which the last is n

  module _ {c : ConfigParts} {s : ScriptParts} {first : L} {v w : World} {n : ℕ} {now next : L} {end : Outcome}
      (a : AtTick Told c s first v now) (g : Passes Told c s v.tick n now next w end) where
    ends_is : is_over end ≡ ends_at c s n
    ends_is = ap is_over g.end_is

    world_next : w ≡ world_at c s (n + 1)
    unfolding world_at instant_at
    world_next = g.world_is ∙ ap (world_at c s) (sym (add-one n))

    pub told_next : Told first (events_before c s (n + 1)) next
    told_next =
        let later = g.later in
        let number : v.tick + (suc n - v.tick) ≡ n + 1 = omega arith in
        subst (λ es. Told first es next)
        (sym (front_is c s v.tick (suc n - v.tick)) ∙ ap (events_before c s) number)
        (telling.both first now next _ _ a.told g.told)

    -- where the run goes on
    module _ (on : end ≡ None) where
      pub going_next : GoesOnBefore c s (n + 1)
      going_next =
          let less : ends_at c s n ≡ false = sym ends_is ∙ ap is_over on in
          goes_on_more c s n g.going less

      pub tick_next : w.tick ≡ n + 1
      tick_next = ap (λ x. x.tick) world_next ∙ tick_at c s (n + 1) going_next

      pub at_next : AtTick Told c s first w next
      at_next = record {
        on = record {
          world = world_next ∙ ap (world_at c s) (sym tick_next);
          going = subst (GoesOnBefore c s) (sym tick_next) going_next;
        };
        told = subst (λ (k : ℕ). Told first (events_before c s k) next) (sym tick_next) told_next;
      }

    -- where it has ended
    module _ {last : RunEnd} (is : end ≡ Some last) (bounded : IsBounded c s) where
      over : ends_at c s n ≡ true
      over = sym ends_is ∙ ap is_over is

      pub at_last : n ≡ last_instant c s
      at_last = last_unique c s n (last_instant c s) (record { ends = over; first = g.going })
          (last_is c s bounded)

      pub all_told : Told first (schedule c s) next
      unfolding schedule
      all_told = subst (λ (k : ℕ). Told first (events_before c s k) next) (add-one n ∙ ap suc at_last) told_next

      -- the number of the round is that of the last round
      pub number_is : w.number ≡ last_round (schedule c s)
      unfolding schedule
      number_is =
          ap (λ (x : World). x.number) g.world_is
          ∙ sym (last_round_is c s n g.going)
          ∙ ap (λ (k : ℕ). last_round (events_before c s (suc k))) at_last

      says : EndsAs (Some last) n (schedule c s)
      unfolding schedule
      says =
          let outcome : (instant_at c s n).end ≡ Some last = sym g.end_is ∙ is in
          subst (λ (k : ℕ). EndsAs (Some last) n (events_before c s (suc k))) at_last
          (subst (λ o. EndsAs o n (events_before c s (suc n))) outcome
          (schedule_says c s n g.going over))

      pub status_is : status_by last n ≡ status_of (schedule c s)
      status_is = ended_status last n (schedule c s) says

      pub stamp_is : n ≡ last_stamp (schedule c s)
      stamp_is = sym (ended_stamp last n (schedule c s) says)
