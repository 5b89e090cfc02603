-- The ends of the routine of a source, by their stamps.
use Rattle.std.proofs.Common.{ℕ, zero, suc, ◌≡◌, ◌≤◌, ◌+◌, List, [], ◌∷◌, ◌++◌, Bool, true, false, refl, ap, sym, ◌∙◌, subst, arith, append_assoc, append-nil, ⊎_elim}
use Rattle.std.specs.Prelude.{◌==◌, ◌&&◌, ◌||◌, cond}
use Rattle.std.proofs.lemmas.Bool.{cond_both, cases_Bool, false≢true, false_from_ne_true}
use Rattle.tt_base.specs.declared.event.Event.{Event}
use Rattle.tt_base.specs.declared.event.Event.TheVariants.{Enable, Arrive, Accept, Run, End}
use Rattle.tt_base.specs.declared.event.Owner.{Owner}
use Rattle.tt_world.specs.declared.config.ConfigParts.{ConfigParts}
use Rattle.tt_world.specs.declared.script.ScriptParts.{ScriptParts}
use Rattle.tt_world.specs.World.{World, Source, IsrSource, OisrSource}
use Rattle.tt_world.specs.ConfigRules.{IsConfig}
use Rattle.tt_world.specs.ScriptRules.{IsScript}
use Rattle.tt_world.specs.Moved.{is_over, preceded, event_if}
use Rattle.tt_world.specs.Opening.{opening}
use Rattle.tt_world.specs.Gates.{source_owner}
use Rattle.tt_world.specs.Runners.{runner_of, owner_of, same_owner}
use Rattle.tt_world.specs.Step.{runner_tick, is_somebody, run_line, tick_over, step}
use Rattle.tt_world.specs.Schedule.{instant, instant_at, world_at, events_before, last_instant, schedule}
use Rattle.tt_world.specs.Status.{stamp_of}
use Rattle.tt_world.specs.Readings.{seen_at, has_ended}
use Rattle.tt_world.specs.EventLaws.{SourceSeen, nothing_seen, seen_next, source_seen}
use Rattle.tt_world.proofs.Parts.{OfRun, Anything, LeadsTo, led_on, followed_at, GoesOnBefore}
use Rattle.tt_world.proofs.Emits.{Of, all_more, event_if_all}
use Rattle.tt_world.proofs.Owners.{owner_same}
use Rattle.tt_world.proofs.Stamps.{IsAt, MuteAt, AtTick, EndsAtTick, StillAt, each_of, opening_at_tick, run_at, served_still}
use Rattle.tt_world.proofs.OwnerLaws.{before, seen_now}
use Rattle.tt_world.proofs.EndsSeen.{is_end, NoEnd, ended_more, ended_same, other_end}
use Rattle.tt_world.proofs.SeenRuns.{told_at}
use Rattle.tt_world.proofs.CheckEnds.{opening_no_end, still_end}
use Rattle.tt_world.proofs.SourceEvents.{seen_of, source_more, own_owner}

-- where no end comes after the last acceptance of a source, none has a later stamp
abbrev pub UnendedBy : Source → SourceSeen → List Event → Type 0
UnendedBy x q es = q.accepted ≡ true → q.ended ≡ false → has_ended q.at (source_owner x) es ≡ false

abbrev pub Unended : Source → List Event → Type 0
Unended x es = UnendedBy x (seen_of x es) es

module _ (x : Source) (T : ℕ) where
  -- no end so far is later than the tick
  abbrev NoneLate : List Event → Type 0
  NoneLate es = has_ended T (source_owner x) es ≡ false

  next_unended : (q : SourceSeen) (es : List Event) (e : Event) → stamp_of e ≡ T → is_end e ≡ false → NoneLate es
      → UnendedBy x q es → UnendedBy x (seen_next (source_owner x) q e) es
  next_unended q es (Accept at source) t n late p =
      cond_both (same_owner source (source_owner x)) _ _ (λ (r : SourceSeen). UnendedBy x r es)
      (λ _ _ _. ap (λ (k : ℕ). has_ended k (source_owner x) es) t ∙ late) (λ _. p)
  next_unended q es (Arrive at source) t n late p =
      cond_both (same_owner source (source_owner x)) _ _ (λ (r : SourceSeen). UnendedBy x r es) (λ _. p) (λ _. p)
  next_unended q es (End at who) t n late p = cc
  next_unended q es (Enable at isr) t n late p = enabled_unended x p
    where
      enabled_unended : (y : Source) → UnendedBy y q es
          → UnendedBy y (seen_next (source_owner y) q (Enable at isr)) es
      enabled_unended (IsrSource i) p =
          cond_both (i.0 == isr.0) _ _ (λ (r : SourceSeen). UnendedBy (IsrSource i) r es) (λ _. p) (λ _. p)
      enabled_unended (OisrSource i) p = p
  next_unended q es e t n late p = p

  one_unended : (es : List Event) (e : Event) → stamp_of e ≡ T → is_end e ≡ false → NoneLate es → Unended x es
      → Unended x (es ++ e ∷ [])
  unfolding source_seen
  one_unended es e t n late p =
      let who = source_owner x in
      let q = seen_next who (seen_of x es) e in
      subst (λ (r : SourceSeen). UnendedBy x r (es ++ e ∷ [])) (sym (source_more who nothing_seen es (e ∷ [])))
      (λ a f. ended_same q.at who es (e ∷ []) (n, tt) ∙ next_unended (seen_of x es) es e t n late p a f)

  -- events of the tick without an end
  pub more_unended : (es fs : List Event) → Of (IsAt T) fs → Of NoEnd fs → NoneLate es → Unended x es
      → Unended x (es ++ fs)
  more_unended es [] t n late p = subst (Unended x) (sym (append-nil es)) p
  more_unended es (e ∷ fs) t n late p =
      subst (Unended x) (append_assoc es (e ∷ []) fs)
      (more_unended (es ++ e ∷ []) fs t.1 n.1 (ended_same T (source_owner x) es (e ∷ []) (n.0, tt) ∙ late)
      (one_unended es e t.0 n.0 late p))

-- an end
end_unended : (x : Source) (es : List Event) (b : Bool) (t : ℕ) (who : Owner) → Unended x es
    → Unended x (es ++ event_if b (End t who))
unfolding source_seen
end_unended x es false t who p = subst (Unended x) (sym (append-nil es)) p
end_unended x es true t who p =
    let own = source_owner x in
    let fs = End t who ∷ [] in
    let q = seen_of x es in
    ⊎_elim
    (λ (same : same_owner who own ≡ true).
    let z : seen_of x (es ++ fs) ≡ record q { ended = true } = source_more own nothing_seen es fs
    ∙ ap (λ (b : Bool). cond b (record q { ended = true }) q) same in
    λ a f. absurd (false≢true (sym f ∙ ap (λ (r : SourceSeen). r.ended) z)))
    (λ (ne : same_owner who own ≡ false).
    let z : seen_of x (es ++ fs) ≡ q = source_more own nothing_seen es fs
    ∙ ap (λ (b : Bool). cond b (record q { ended = true }) q) ne in
    let other : same_owner own who ≡ false = false_from_ne_true (same_owner own who)
    (λ (e : same_owner own who ≡ true). false≢true
    (sym ne ∙ ap (λ (o : Owner). same_owner o own) (sym (owner_same own who e)) ∙ own_owner x)) in
    subst (λ (r : SourceSeen). UnendedBy x r (es ++ fs)) (sym z)
    (λ a f. ended_more q.at own es fs ∙ ap (λ (b : Bool). has_ended q.at own es || b)
    (other_end q.at t own who true other)
    ∙ ap (λ (b : Bool). b || false) (p a f)))
    (cases_Bool (same_owner who own))

module _ (c : ConfigParts) (s : ScriptParts) where
  -- a tick before its end
  now_at : (w : World) → let r = runner_of c w in let who = owner_of c w r in
      let fs = run_line w who ++ (runner_tick c s r who w).move.events in Of (IsAt w.tick) fs × Of NoEnd fs
  now_at w =
      let r = runner_of c w in
      let who = owner_of c w r in
      let line = run_line w who in
      let fs = (runner_tick c s r who w).move.events in
      let still = served_still c s w r who in (
        all_more (IsAt w.tick) line fs (each_of (MuteAt w.tick) (IsAt w.tick) (λ e q. q.0) line (run_at w who))
            (each_of (StillAt w.tick) (IsAt w.tick) (λ e q. q.0) fs still),
        all_more NoEnd line fs (event_if_all NoEnd _ (Run w.tick who) refl)
            (each_of (StillAt w.tick) NoEnd (λ e q. still_end e q.1) fs still),
      )

  module _ (x : Source) where
    abbrev EndsKnown : OfRun
    EndsKnown w es = Unended x es

    now_unended : (T : ℕ) (w : World) (es : List Event) → w.tick ≡ T → has_ended T (source_owner x) es ≡ false
        → Unended x es
        → Unended x (es ++ (run_line w (owner_of c w (runner_of c w))
        ++ (runner_tick c s (runner_of c w) (owner_of c w (runner_of c w)) w).move.events))
    now_unended T w es t late p =
        let now = now_at w in
        more_unended x w.tick es _ now.0 now.1
        (subst (λ (k : ℕ). has_ended k (source_owner x) es ≡ false) (sym t) late) p

    step_unended : (T : ℕ) (w : World) (es : List Event) → w.tick ≡ T → has_ended T (source_owner x) es ≡ false
        → Unended x es → LeadsTo EndsKnown Anything es (step c s w)
    unfolding step
    step_unended T w es t late p =
        let r = runner_of c w in
        let who = owner_of c w r in
        let tick = runner_tick c s r who w in
        followed_at EndsKnown Anything es (preceded (run_line w who) tick.move)
        (tick_over who (is_somebody r && tick.ended)) (λ _. tt)
        (λ on. end_unended x (es ++ (run_line w who ++ tick.move.events)) (is_somebody r && tick.ended)
        (tick.move.world.tick + 1) who (now_unended T w es t late p))

    opened_unended : (T : ℕ) (w : World) (es : List Event) → w.tick ≡ T → has_ended T (source_owner x) es ≡ false
        → is_over (opening c s w).end ≡ false → Unended x es
        → ((opening c s w).world.tick ≡ T) × (has_ended T (source_owner x) (es ++ (opening c s w).events) ≡ false)
        × Unended x (es ++ (opening c s w).events)
    opened_unended T w es t late on p =
        let o = opening c s w in
        let at = led_on (AtTick c s T) (EndsAtTick c s T) [] o on (opening_at_tick c s T w t) in
        let none = opening_no_end c s w in (
          at.0,
          ended_same T (source_owner x) es o.events none ∙ late,
          more_unended x T es o.events (each_of (MuteAt T) (IsAt T) (λ e q. q.0) o.events at.1) none late p,
        )

    instant_unended : (T : ℕ) (w : World) (es : List Event) → w.tick ≡ T → has_ended T (source_owner x) es ≡ false
        → Unended x es → LeadsTo EndsKnown Anything es (instant c s w)
    unfolding instant
    instant_unended T w es t late p =
        let o = opening c s w in
        followed_at EndsKnown Anything es o (step c s) (λ _. tt)
        (λ on.
        let h = opened_unended T w es t late on p in
        step_unended T o.world (es ++ o.events) h.0 h.1 h.2)

module _ (c : ConfigParts) (s : ScriptParts) (rules : IsConfig c) (script : IsScript c s) (x : Source) where
  unended_at : (n : ℕ) → GoesOnBefore c s n → Unended x (events_before c s n)
  unfolding world_at events_before instant_at source_seen
  unended_at zero g = λ a. cc
  unended_at (suc n) g =
      let h : GoesOnBefore c s n = λ j l. g j (omega arith) in
      let told = told_at c s rules n h in
      led_on (EndsKnown c s x) Anything (events_before c s n) (instant c s (world_at c s n)) (g n (omega arith))
      (instant_unended c s x n (world_at c s n) (events_before c s n) told.tick (told.late (source_owner x))
      (unended_at n h))

  -- the same for the events of a tick that the run takes
  pub unended_seen : (u : ℕ) → u ≤ last_instant c s → is_over (opening c s (world_at c s u)).end ≡ false
      → Unended x (seen_at u (schedule c s))
  unended_seen u l on =
      let g = before c s rules script u l in
      let told = told_at c s rules u g in
      let es = events_before c s u in
      let o = opening c s (world_at c s u) in
      let h = opened_unended c s x u (world_at c s u) es told.tick (told.late (source_owner x)) on (unended_at u g) in
      subst (Unended x) (sym (seen_now c s rules script u l on))
      (now_unended c s x u o.world (es ++ o.events) h.0 h.1 h.2)
