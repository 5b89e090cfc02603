-- The law of checks: each round has the checks of the points that it reaches, up to the first that is missed, and no
-- others.
use Rattle.std.proofs.Common.{ℕ, ◌≡◌, ◌<◌, ◌≤◌, ◌-◌, List, [], ◌∷◌, Bool, true, false, Option, None, Some, refl, sym, ◌∙◌, subst, ⊎_elim}
use Rattle.std.specs.Prelude.{IfSome, filter}
use Rattle.std.proofs.lemmas.Bool.{cases_lt, false≢true}
use Rattle.tt_base.specs.declared.event.Event.{Event}
use Rattle.tt_world.specs.declared.config.ConfigParts.{ConfigParts}
use Rattle.tt_world.specs.declared.script.ScriptParts.{ScriptParts}
use Rattle.tt_world.specs.ConfigRules.{IsConfig}
use Rattle.tt_world.specs.ScriptRules.{IsScript}
use Rattle.tt_world.specs.Schedule.{IsLast, events_before, last_instant, schedule}
use Rattle.tt_world.specs.Status.{Status, status_of, last_stamp}
use Rattle.tt_world.specs.Readings.{RoundStart, round_of, until_round, seen_at}
use Rattle.tt_world.specs.EventLaws.{EachRound, next_start, is_last_round, is_check_at, ChecksAtEnd, ChecksMonitor}
use Rattle.tt_world.specs.RunLaws.{ChecksLaw}
use Rattle.tt_world.proofs.Parts.{GoesOnBefore}
use Rattle.tt_world.proofs.Ends.{are_bounded, last_is}
use Rattle.tt_world.proofs.Through.{each_more}
use Rattle.tt_world.proofs.Forward.{last_stamp_at}
use Rattle.tt_world.proofs.Violations.{violations, error_hooks}
use Rattle.tt_world.proofs.RoundFolds.{ByLast, OfLast, OfRound, each_has, last_start}
use Rattle.tt_world.proofs.RoundChecks.{rows_of, Monitored, Has, Finally, checks_ended}
use Rattle.tt_world.proofs.CheckEnds.{SameEnds, seen_ends}

-- ---- laws of each round

-- a family of laws at once
all_or : {X : Type 0} (P : X → RoundStart → Type 0) (o : Option RoundStart) → ((x : X) → IfSome o (P x))
    → IfSome o (λ round. (x : X) → P x round)
all_or P None h = tt
all_or P (Some round) h = h

each_all : {X : Type 0} (P : X → RoundStart → List Event → Type 0) (es : List Event) → ((x : X) → EachRound (P x) es)
    → EachRound (λ round rest. (x : X) → P x round rest) es
each_all P [] h = tt
each_all P (e ∷ es) h =
    (all_or (λ x round. P x round es) (round_of e) (λ x. (h x).0), each_all P es (λ x. (h x).1))

-- ---- a round

module _ (c : ConfigParts) (t : ℕ) (seen : List Event) (status : Status) (end : ℕ) (round : RoundStart)
    (kept : List Event) where
  abbrev Here : Bool → ℕ → Type 0
  Here last stop = ChecksAtEnd c last status (λ is_due. kept ≡ rows_of c t seen round is_due) (stop - round.start)

  -- the last round and any other round in the same way
  alike : (last : Bool) (stop : ℕ) → (last ≡ true → stop ≡ end)
      → ByLast last (Finally c t seen end status round kept) (Has c t seen round stop kept)
      → Monitored c t seen round stop (Here last stop) kept
  alike true stop e p = subst (λ (x : ℕ). Monitored c t seen round x (Here true x) kept) (sym (e refl)) p
  alike false stop e p = p

-- ---- a schedule

module _ (c : ConfigParts) (s : ScriptParts) (rules : IsConfig c) (script : IsScript c s) where
  abbrev n : ℕ
  n = last_instant c s

  abbrev es : List Event
  es = schedule c s

  last : IsLast c s n
  last = last_is c s (are_bounded c s rules script)

  -- an instant before which the run always goes on is not after the last one
  not_after : (k : ℕ) → GoesOnBefore c s k → k ≤ n
  not_after k g =
      ⊎_elim (λ (l : n < k). absurd (false≢true (sym (g n l) ∙ last.ends))) (λ (m : k ≤ n). m) (cases_lt n k)

  -- at each tick each round has the checks of its points
  abbrev IsMonitored : ℕ → RoundStart → List Event → Type 0
  IsMonitored t round rest =
      let kept = filter (is_check_at t) (until_round rest) in
      let stop = next_start (last_stamp es) rest in
      let seen = seen_at t es in
      Monitored c t seen round stop (Here c t seen (status_of es) n round kept (is_last_round rest) stop) kept

  abbrev IsMonitoredEver : RoundStart → List Event → Type 0
  IsMonitoredEver round rest = (t : ℕ) → IsMonitored t round rest

  at_tick : (t : ℕ) → EachRound (IsMonitored t) es
  unfolding schedule
  at_tick t =
      let seen = seen_at t es in
      let bounded = are_bounded c s rules script in
      let same : (k : ℕ) → GoesOnBefore c s k → t ≡ k → SameEnds seen (events_before c s k) =
      λ k g e.
      subst (λ (u : ℕ). SameEnds (seen_at u es) (events_before c s k)) (sym e)
      (seen_ends c s rules script k (not_after k g)) in
      let p = checks_ended c t seen s rules bounded same n last in
      let stamp : last_stamp es ≡ n = last_stamp_at n es p.last in
      let test = is_check_at t in
      let L = Finally c t seen n (status_of es) in
      let end = last_stamp es in
      let each : EachRound (λ round rest. OfRound test (Has c t seen) L end round [] rest) es =
      each_has test (Has c t seen) L end None es p.over (subst (OfLast test (Has c t seen) L end) (sym p.now) p.due) in
      each_more (λ round rest. OfRound test (Has c t seen) L end round [] rest) (IsMonitored t)
      (λ round rest q.
      alike c t seen (status_of es) n round (filter test (until_round rest)) (is_last_round rest)
      (next_start end rest) (λ e. last_start end rest e ∙ stamp) q)
      es each

  monitor : ChecksMonitor c es
  monitor =
      let each = each_all IsMonitored es at_tick in
      record {
        checks = each_more IsMonitoredEver _ (λ round rest h t a b. (h t).at a b) es each;
        at_end = each_more IsMonitoredEver _
            (λ round rest h. (h (next_start (last_stamp es) rest)).here refl) es each;
        others = each_more IsMonitoredEver _
            (λ round rest h t o.
            ⊎_elim (λ (a : t < round.start). (h t).early a)
            (λ (a : next_start (last_stamp es) rest < t). (h t).late a) o)
            es each;
        violation = violations c s rules script;
        hook = error_hooks c s rules script;
      }

pub checks_law : ChecksLaw
checks_law c s rules script = monitor c s rules script
