-- The law of interrupts.
use Rattle.std.proofs.Common.{ℕ, zero, suc, ◌≡◌, ◌<◌, ◌≤◌, List, [], ◌++◌, true, false, refl, ap, sym, ◌∙◌, subst, arith, length, get_or, map, ⊎_elim, inl, inr}
use Rattle.std.specs.Prelude.{All}
use Rattle.std.specs.List.{range_with_len}
use Rattle.std.proofs.lemmas.List.{length-replicate, get_or-replicate}
use Rattle.std.proofs.lemmas.List.FromFn.{length-range_with_len, get_or-range_with_len}
use Rattle.std.proofs.lemmas.List.Elements.{All-append, All-map, All-from_get_or}
use Rattle.tt_base.specs.declared.event.Event.{Event}
use Rattle.task_lang.specs.declared.syntax.Stmt.{Stmt}
use Rattle.tt_world.specs.declared.config.ConfigParts.{ConfigParts}
use Rattle.tt_world.specs.declared.script.ScriptParts.{ScriptParts}
use Rattle.tt_world.specs.World.{World, Source, IsrSource, OisrSource}
use Rattle.tt_world.specs.ConfigRules.{IsConfig}
use Rattle.tt_world.specs.ScriptRules.{IsScript}
use Rattle.tt_world.specs.Gates.{sources}
use Rattle.tt_world.specs.Opening.{opening}
use Rattle.tt_world.specs.Runners.{is_done, runner_of, owner_of}
use Rattle.tt_world.specs.Step.{runner_tick, run_line}
use Rattle.tt_world.specs.Schedule.{first_world, instant, instant_at, world_at, events_before, last_instant, schedule}
use Rattle.tt_world.specs.Readings.{seen_at}
use Rattle.tt_world.specs.EventLaws.{IsTaken, SourceSeen, nothing_seen, source_seen, WaitsFor, SourceLaw}
use Rattle.tt_world.specs.RunLaws.{InterruptsLaw}
use Rattle.tt_world.proofs.Parts.{Phase, LeadsTo, instant_leads, led_on, led_over, GoesOnBefore}
use Rattle.tt_world.proofs.Ends.{are_bounded, last_is}
use Rattle.tt_world.proofs.OwnerLaws.{before, seen_now, taken}
use Rattle.tt_world.proofs.SourceEvents.{Admits, Waits, Stands, lists_of, seen_of, seen_same, admitted_at}
use Rattle.tt_world.proofs.SourceParts.{Exists, Known, EachAdmitted, is_tried, opening_keeps, opening_known}
use Rattle.tt_world.proofs.SourceTicks.{silent_now, step_known}
use Rattle.tt_world.proofs.SourceEnds.{unended_seen}

-- ---- each source exists

numbers_low : (k : ℕ) → All (λ n. n < k) (range_with_len 0 k)
numbers_low k = All-from_get_or (λ n. n < k) (range_with_len 0 k) 0
    (λ i l. let n = length-range_with_len 0 k in let z = get_or-range_with_len 0 k i 0 (omega arith) in omega arith)

all_exist : (c : ConfigParts) → All (Exists c) (sources c)
all_exist c =
    let isr : ℕ → Source = λ (number : ℕ). IsrSource (record { 0 = number }) in
    let oisr : ℕ → Source = λ (number : ℕ). OisrSource (record { 0 = number }) in
    let isrs = range_with_len 0 (length c.isrs) in
    let oisrs = range_with_len 0 (length c.oisrs) in
    All-append (Exists c) (map isr isrs) (map oisr oisrs)
    (All-map (Exists c) isr isrs (numbers_low (length c.isrs)))
    (All-map (Exists c) oisr oisrs (numbers_low (length c.oisrs)))

-- before tick 0 nothing was seen of a source
first_stands : (c : ConfigParts) (s : ScriptParts) (x : Source) → Exists c x
    → Stands x (lists_of (first_world c s)) nothing_seen
first_stands c s (IsrSource i) l =
    let k = length c.isrs in
    let a = length-replicate k true in
    let b = length-replicate k false in
    let d = length-replicate {A = List Stmt} k [] in (
      (omega arith, get_or-replicate k i.0 true false l),
      (
        (omega arith, get_or-replicate k i.0 false false l),
        (omega arith, ap is_done (get_or-replicate k i.0 [] [] l)),
      ),
    )
first_stands c s (OisrSource i) l =
    let k = length c.oisrs in
    let b = length-replicate k false in
    let d = length-replicate {A = List Stmt} k [] in (
      (omega arith, get_or-replicate k i.0 false false l),
      (omega arith, ap is_done (get_or-replicate k i.0 [] [] l)),
    )

module _ (c : ConfigParts) (s : ScriptParts) (rules : IsConfig c) (script : IsScript c s) (x : Source)
    (exists : Exists c x) (k : ℕ) (within : k < length (sources c)) (d : Source) (is : x ≡ get_or (sources c) k d) where
  instant_known : (w : World) (es : List Event) → Known x false w es
      → LeadsTo (Known x false) (EachAdmitted x) es (instant c s w)
  instant_known w es p =
      instant_leads c s (λ (phase : Phase). Known x (is_tried phase)) (EachAdmitted x)
      (opening_keeps c s rules x exists k within d is) (Known x false) (step_known c s x) w es p

  known_at : (n : ℕ) → GoesOnBefore c s n → Known x false (world_at c s n) (events_before c s n)
  unfolding world_at events_before instant_at source_seen
  known_at zero g = record { admits = tt; few = omega arith; stands = first_stands c s x exists; waits = λ a. cc }
  known_at (suc n) g =
      led_on (Known x false) (EachAdmitted x) (events_before c s n) (instant c s (world_at c s n)) (g n (omega arith))
      (instant_known (world_at c s n) (events_before c s n) (known_at n (λ j l. g j (omega arith))))

  all_admitted : Admits x nothing_seen (schedule c s)
  unfolding schedule events_before instant_at
  all_admitted =
      let n = last_instant c s in
      let last = last_is c s (are_bounded c s rules script) in
      led_over (Known x false) (EachAdmitted x) (events_before c s n) (instant c s (world_at c s n)) last.ends
      (instant_known (world_at c s n) (events_before c s n) (known_at n last.first))

  waiting : (u : ℕ) → IsTaken (schedule c s) u → 1 ≤ (seen_of x (seen_at u (schedule c s))).waiting
      → WaitsFor x (seen_at u (schedule c s))
  waiting u t l =
      let h = taken c s rules script u t in
      let w = world_at c s u in
      let es = events_before c s u in
      let o = opening c s w in
      let ds = es ++ o.events in
      let who = owner_of c o.world (runner_of c o.world) in
      let now = run_line o.world who ++ (runner_tick c s (runner_of c o.world) who o.world).move.events in
      let known = led_on (Known x true) (EachAdmitted x) es o h.1
      (opening_known c s rules x exists k within d is w es (known_at u (before c s rules script u h.0))) in
      let same : seen_of x (seen_at u (schedule c s)) ≡ seen_of x ds =
      ap (seen_of x) (seen_now c s rules script u h.0 h.1) ∙ seen_same x ds now (silent_now c s x o.world) in
      ⊎_elim
      (λ (e : ((seen_of x (seen_at u (schedule c s))).accepted ≡ true)
      × ((seen_of x (seen_at u (schedule c s))).ended ≡ false)).
      inl (e.0, e.1, unended_seen c s rules script x u h.0 h.1 e.0 e.1))
      (λ e. inr e)
      (subst (λ (q : SourceSeen). 1 ≤ q.waiting → Waits x q) (sym same) (known.waits refl) l)

  source_law : SourceLaw (schedule c s) x
  source_law = record {
    accepts = λ first after at e.
        admitted_at x nothing_seen first after at (subst (Admits x nothing_seen) e all_admitted);
    waits = waiting;
  }

-- interrupts wait for the end of their routine or for an enable, and for nothing else
pub interrupts_law : InterruptsLaw
interrupts_law c s rules script k d l =
    source_law c s rules script (get_or (sources c) k d) (all_exist c k d l) k l d refl
