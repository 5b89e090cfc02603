-- The arrivals of an instant, taken one by one.
use Rattle.std.proofs.Common.{ℕ, zero, suc, ◌≡◌, ◌≢◌, ◌<◌, ◌≤◌, ◌+◌, ◌-◌, ◌⊎◌, inl, inr, Bool, true, false, List, [], ◌∷◌, length, take, drop, get_or, refl, sym, ap, ◌∙◌, subst, arith}
use Rattle.std.specs.Prelude.{Option, None, Some, ◌==◌, find, map, option_map, slice_get, if◌then◌else◌}
use Rattle.std.specs.List.{list_all, list_any}
use Rattle.std.specs.Option.{ForSome}
use Rattle.std.proofs.lemmas.Bool.{and_parts, cases_lt}
use Rattle.std.proofs.lemmas.List.{get_or_default}
use Rattle.std.proofs.Common.{length-set}
use Rattle.tt_base.specs.declared.event.Event.{Event}
use Rattle.tt_base.specs.declared.event.Event.TheVariants.{Arrive, Merge}
use Rattle.tt_world.specs.declared.config.ConfigParts.{ConfigParts}
use Rattle.tt_world.specs.declared.script.ScriptParts.{ScriptParts}
use Rattle.tt_world.specs.World.{World, Source, IsrSource, OisrSource}
use Rattle.tt_world.specs.ScriptRules.{IsScript, ticks_ascend}
use Rattle.tt_world.specs.Moved.{Gives, IsTelling, goes_on, chain}
use Rattle.tt_world.specs.Gates.{sources, source_owner, arrivals_of, is_held, arrived, arrival, arrivals}
use Rattle.tt_world.proofs.Moves.{gives_begin, gives_more, gives_all}
use Rattle.isr_window.specs.declared.gates.Arrived.{Arrived}
use Rattle.isr_window.specs.Window.{Window, left_at, held_at, is_next, is_due, first_due, least_next, next_tick, new_window, taking}
use Rattle.isr_window.specs.Arrived.{arrived_at}
use Rattle.isr_window.specs.Ticks.{ticks_from}
use Rattle.isr_window.specs.Played.{with_window, no_source, source_at, AreSourcesOf, AreLeftFrom, Arriving, arrival_event}
use Rattle.isr_window.proofs.Firsts.{IsFrom, is_from, is_not_at, for_some, both_from, from_both, each_from, from_each}
use Rattle.isr_window.proofs.TickLists.{among_is_next, first_from, from_all, from_jump, from_passed, from_taken}
use Rattle.isr_window.proofs.Places.{IsSource, IsFirst, first_found, none_found, all_sources_are, source_is, other_source, length-sources, isr_at, oisr_at}
use Rattle.isr_window.proofs.Silent.{chain_silent, gives_this, gives_past}
use Rattle.isr_window.proofs.Windows.{left_other, left_same, is_held_is, holding_is, held_stays}

-- ---- the ticks of a source ascend

each_ascends : (lists : List (List ℕ)) → list_all (ticks_ascend 0) lists ≡ true → (k : ℕ)
    → ticks_ascend 0 (get_or lists k []) ≡ true
each_ascends [] up k = refl
each_ascends (ticks ∷ rest) up zero = (and_parts (ticks_ascend 0 ticks) (list_all (ticks_ascend 0) rest) up).0
each_ascends (ticks ∷ rest) up (suc k) =
    each_ascends rest (and_parts (ticks_ascend 0 ticks) (list_all (ticks_ascend 0) rest) up).1 k

arrivals_ascend : (c : ConfigParts) (s : ScriptParts) → IsScript c s → (x : Source)
    → ticks_ascend 0 (arrivals_of s x) ≡ true
arrivals_ascend c s rules (IsrSource isr) = each_ascends s.arrivals.isrs rules.isrs_ascending isr.0
arrivals_ascend c s rules (OisrSource oisr) = each_ascends s.arrivals.oisrs rules.oisrs_ascending oisr.0

-- ---- the arrivals to come

-- before tick 0 all arrivals of the script are to come
pub new_left : (c : ConfigParts) (s : ScriptParts) → IsScript c s → AreLeftFrom c s 0 (new_window s.arrivals)
new_left c s rules = record { left = λ k below. all (source_at c k) }
  where
    all : (x : Source) → left_at (new_window s.arrivals) x ≡ ticks_from 0 (arrivals_of s x)
    all (IsrSource isr) =
        sym (from_all 0 0 (arrivals_of s (IsrSource isr)) (omega arith) (arrivals_ascend c s rules (IsrSource isr)))
    all (OisrSource oisr) =
        sym (from_all 0 0 (arrivals_of s (OisrSource oisr)) (omega arith) (arrivals_ascend c s rules (OisrSource oisr)))

-- where the next arrival is not before a tick, the next one at each source is not
pub each_next : (now : ℕ) (g : Window) → IsFrom now (next_tick g) → (x : Source)
    → IsFrom now (slice_get (left_at g x) 0)
each_next now g from (IsrSource isr) =
    each_from now g.isrs_left (from_both now (least_next g.isrs_left) (least_next g.oisrs_left) from).0 isr.0
each_next now g from (OisrSource oisr) =
    each_from now g.oisrs_left (from_both now (least_next g.isrs_left) (least_next g.oisrs_left) from).1 oisr.0

-- where the next arrival at each source is not before a tick, the least of them is not
next_from : (c : ConfigParts) (now : ℕ) (g : Window) → AreSourcesOf c g
    → ((k : ℕ) → k < length (sources c) → IsFrom now (slice_get (left_at g (source_at c k)) 0))
    → IsFrom now (next_tick g)
next_from c now g are each =
    let all = length-sources c in
    both_from now (least_next g.isrs_left) (least_next g.oisrs_left)
    (from_each now g.isrs_left (λ k below.
    let same = are.isrs in
    let here : k < length c.isrs = omega arith in
    subst (λ (x : Source). IsFrom now (slice_get (left_at g x) 0)) (isr_at c k here) (each k (omega arith))))
    (from_each now g.oisrs_left (λ k below.
    let same = are.oisrs in
    let here : k < length c.oisrs = omega arith in
    subst (λ (x : Source). IsFrom now (slice_get (left_at g x) 0)) (oisr_at c k here)
    (each (length c.isrs + k) (omega arith))))

-- where no arrival is due before a later tick, those to come are those from that tick on
pub left_jump : (c : ConfigParts) (s : ScriptParts) (now until : ℕ) (g : Window) → IsScript c s → now ≤ until
    → AreLeftFrom c s now g → ForSome (next_tick g) (λ tick. until ≤ tick) → AreLeftFrom c s until g
left_jump c s now until g rules order left free = record {
  left = λ k below.
      left.left k below
      ∙ from_jump now until 0 (arrivals_of s (source_at c k)) order (arrivals_ascend c s rules (source_at c k))
      (for_some until (slice_get (ticks_from now (arrivals_of s (source_at c k))) 0)
      (subst (λ (ticks : List ℕ). IsFrom until (slice_get ticks 0)) (left.left k below)
      (each_next until g (is_from until (next_tick g) free) (source_at c k))));
}

-- ---- the part of a source

-- whether it has an arrival now
has_arrival : (c : ConfigParts) (s : ScriptParts) (w : World) (g : Window) (x : Source) → IsScript c s
    → left_at g x ≡ ticks_from w.tick (arrivals_of s x)
    → list_any (λ (tick : ℕ). tick == w.tick) (arrivals_of s x) ≡ is_due w.tick g x
has_arrival c s w g x rules left =
    among_is_next w.tick 0 (arrivals_of s x) (arrivals_ascend c s rules x) ∙ sym (ap (is_next w.tick) left)

no_arrival : (s : ScriptParts) (w : World) (x : Source)
    → list_any (λ (tick : ℕ). tick == w.tick) (arrivals_of s x) ≡ false → arrival s x w ≡ goes_on w []
unfolding arrival
no_arrival s w x none = ap (λ b. if b then arrived (is_held w x) x w else goes_on w []) none

an_arrival : (s : ScriptParts) (w : World) (g : Window) (x : Source)
    → list_any (λ (tick : ℕ). tick == w.tick) (arrivals_of s x) ≡ true → with_window w g ≡ w
    → arrival s x w ≡ goes_on (with_window w (taking (Some x) g)) (arrival_event w.tick (arrived_at g x) ∷ [])
unfolding arrival
an_arrival s w g x some seen =
    ap (λ b. if b then arrived (is_held w x) x w else goes_on w []) some
    ∙ ap (λ (v : World). arrived (is_held v x) x v) (sym seen)
    ∙ ap (λ held. arrived held x (with_window w g)) (is_held_is w g x)
    ∙ by_held (held_at g x) refl
  where
    by_held : (held : Bool) → held_at g x ≡ held
        → arrived held x (with_window w g) ≡ goes_on (with_window w (taking (Some x) g))
        (arrival_event w.tick (record { source = source_owner x; merged = held }) ∷ [])
    by_held false is = ap (λ (v : World). goes_on v (Arrive w.tick (source_owner x) ∷ [])) (holding_is w g x)
    by_held true is = ap (λ (v : World). goes_on v (Merge w.tick (source_owner x) ∷ [])) (held_stays w g x is)

-- ---- the loop

-- a test does not both pass and fail
pub true_is_not_false : true ≡ false → ⊥
true_is_not_false e = cc

-- a tick is not among those after it
later_is_not : (now : ℕ) (ticks : List ℕ) → is_next now (ticks_from (now + 1) ticks) ≡ false
later_is_not now ticks =
    is_not_at now (slice_get (ticks_from (now + 1) ticks) 0)
    (is_from (now + 1) (slice_get (ticks_from (now + 1) ticks) 0) (λ first e. first_from (now + 1) ticks first e))

-- the one that was found
pub found_some : {X Y : Type 0} (f : X → Y) (found : Option X) (y : Y) → Some y ≡ option_map f found
    → (x : X) × (found ≡ Some x) × (y ≡ f x)
found_some f None y e = absurd cc
found_some f (Some x) y e = let same : y ≡ f x = cc in (x, refl, same)

-- nothing was found
pub found_nothing : {X Y : Type 0} (f : X → Y) (found : Option X) → None ≡ option_map f found → found ≡ None
found_nothing f None e = refl
found_nothing f (Some x) e = absurd cc

are_taking : (c : ConfigParts) (g : Window) (x : Source) → AreSourcesOf c g → AreSourcesOf c (taking (Some x) g)
are_taking c g (IsrSource isr) are = record {
  isrs = length-set g.isrs_left isr.0 (drop 1 (get_or g.isrs_left isr.0 [])) ∙ are.isrs;
  oisrs = are.oisrs;
  isrs_held = length-set g.isrs_held isr.0 true ∙ are.isrs_held;
  oisrs_held = are.oisrs_held;
}
are_taking c g (OisrSource oisr) are = record {
  isrs = are.isrs;
  oisrs = length-set g.oisrs_left oisr.0 (drop 1 (get_or g.oisrs_left oisr.0 [])) ∙ are.oisrs;
  isrs_held = are.isrs_held;
  oisrs_held = length-set g.oisrs_held oisr.0 true ∙ are.oisrs_held;
}

module _ {L : Type 0} {Told : L → List Event → L → Type 0} where
  -- no arrival before this tick is to come
  pub arriving_from : (c : ConfigParts) (s : ScriptParts) (a b : L) (u w : World) (g : Window)
      → Arriving Told c s a b u w g → ForSome (next_tick g) (λ tick. w.tick ≤ tick)
  arriving_from c s a b u w g at =
      for_some w.tick (next_tick g) (next_from c w.tick g at.are (λ k below. by_order k below (cases_lt k at.place)))
    where
      by_order : (k : ℕ) → k < length (sources c) → (k < at.place) ⊎ (at.place ≤ k)
          → IsFrom w.tick (slice_get (left_at g (source_at c k)) 0)
      by_order k below (inl before) =
          is_from w.tick (slice_get (left_at g (source_at c k)) 0)
          (λ tick e. let later = first_from (w.tick + 1) (arrivals_of s (source_at c k)) tick
          (sym (ap (λ ts. slice_get ts 0) (at.taken k before)) ∙ e) in omega arith)
      by_order k below (inr after) =
          is_from w.tick (slice_get (left_at g (source_at c k)) 0)
          (λ tick e. first_from w.tick (arrivals_of s (source_at c k)) tick
          (sym (ap (λ ts. slice_get ts 0) (at.left k after below)) ∙ e))

  -- a source that was passed has no arrival now
  taken_not_due : (c : ConfigParts) (s : ScriptParts) (a b : L) (u w : World) (g : Window)
      (at : Arriving Told c s a b u w g) (k : ℕ) → k < at.place → is_due w.tick g (source_at c k) ≡ false
  taken_not_due c s a b u w g at k before =
      ap (is_next w.tick) (at.taken k before) ∙ later_is_not (w.tick) (arrivals_of s (source_at c k))

  -- the first source with an arrival is not before the place that was reached
  pub first_after : (c : ConfigParts) (s : ScriptParts) (a b : L) (u w : World) (g : Window) (x : Source)
      (at : Arriving Told c s a b u w g) (first : IsFirst (is_due w.tick g) (sources c) no_source x)
      → at.place ≤ first.place
  first_after c s a b u w g x at first = by_order (cases_lt first.place at.place)
    where
      by_order : (first.place < at.place) ⊎ (at.place ≤ first.place) → at.place ≤ first.place
      by_order (inl before) =
          absurd
          (true_is_not_false (sym first.passes ∙ ap (is_due w.tick g) (sym first.is)
          ∙ taken_not_due c s a b u w g at first.place before))
      by_order (inr after) = after

-- at its end all arrivals of this tick were played
pub record Arrivals {L : Type 0} (Told : L → List Event → L → Type 0) (c : ConfigParts) (s : ScriptParts) (a b : L)
    (u w : World) (g next : Window) : Type 0 where
  pub gives : Gives Told a b w None (arrivals c s u)
  pub same : next ≡ g
  pub left : AreLeftFrom c s (w.tick + 1) g

module _ {L : Type 0} {Told : L → List Event → L → Type 0} (telling : IsTelling Told) where
  -- at its start the arrivals from this tick on are to come
  pub arriving_begin : (c : ConfigParts) (s : ScriptParts) (a : L) (w : World) (g : Window) → with_window w g ≡ w
      → AreSourcesOf c g → AreLeftFrom c s w.tick g → Arriving Told c s a a w w g
  arriving_begin c s a w g seen are left = record {
    place = 0;
    within = omega arith;
    gives = gives_begin telling (arrival s) (sources c) a w;
    seen = seen;
    are = are;
    taken = λ before below. absurd (omega arith);
    left = λ after from below. left.left after below;
  }

  -- the sources before a place were played, where none of them has an arrival
  passed_to : (c : ConfigParts) (s : ScriptParts) (a b : L) (u w : World) (g : Window) (to : ℕ) → IsScript c s
      → (at : Arriving Told c s a b u w g) → at.place ≤ to → to ≤ length (sources c)
      → ((k : ℕ) → k < to → is_due w.tick g (source_at c k) ≡ false)
      → Gives Told a b w None (chain (map (arrival s) (take to (sources c))) u)
  passed_to c s a b u w g to rules at from within none =
      let same : at.place + (to - at.place) ≡ to = omega arith in
      subst (λ k. Gives Told a b w None (chain (map (arrival s) (take k (sources c))) u)) same
      (gives_past telling (arrival s) (sources c) no_source at.place (to - at.place) a b u w (omega arith)
      (λ k after below.
      no_arrival s w (source_at c k)
      (has_arrival c s w g (source_at c k) rules (at.left k after (omega arith)) ∙ none k (omega arith)))
      at.gives)

  -- an arrival that the code took at a source is the one that its part plays
  arriving_at : (c : ConfigParts) (s : ScriptParts) (a b d : L) (u w : World) (g : Window) (x : Source)
      → IsScript c s → Arriving Told c s a b u w g → IsFirst (is_due w.tick g) (sources c) no_source x
      → Told b (arrival_event w.tick (arrived_at g x) ∷ []) d
      → Arriving Told c s a d u (with_window w (taking (Some x) g)) (taking (Some x) g)
  arriving_at c s a b d u w g x rules at first told = record {
    place = first.place + 1;
    within = let within = first.within in omega arith;
    gives =
        gives_more telling (arrival s) (sources c) first.place x a b d u w (with_window w next) first.within
        (get_or_default (sources c) first.place x no_source first.within ∙ first.is)
        (passed_to c s a b u w g first.place rules at after_place
        (let within = first.within in omega arith) first.before)
        (gives_this b d (with_window w next) (arrival_event w.tick (arrived_at g x) ∷ []) (arrival s x w)
        (an_arrival s w g x some at.seen) told);
    seen = refl;
    are = are_taking c g x at.are;
    taken = λ before below. taken before below (cases_lt before first.place);
    left = λ after from below.
        left_other g x (source_at c after) (other after below (omega arith))
        ∙ at.left after (let here = after_place in omega arith) below;
  }
    where
      next : Window
      next = taking (Some x) g

      after_place : at.place ≤ first.place
      after_place = first_after c s a b u w g x at first

      left_here : left_at g x ≡ ticks_from w.tick (arrivals_of s x)
      left_here = subst (λ (y : Source). left_at g y ≡ ticks_from w.tick (arrivals_of s y)) first.is
          (at.left first.place after_place first.within)

      some : list_any (λ (tick : ℕ). tick == w.tick) (arrivals_of s x) ≡ true
      some = has_arrival c s w g x rules left_here ∙ first.passes

      other : (k : ℕ) → k < length (sources c) → k ≢ first.place → source_at c k ≢ x
      other k below differ same = other_source c k first.place below first.within differ (same ∙ sym first.is)

      passed : (k : ℕ) → k < first.place → (k < at.place) ⊎ (at.place ≤ k)
          → left_at g (source_at c k) ≡ ticks_from (w.tick + 1) (arrivals_of s (source_at c k))
      passed k before (inl gone) = at.taken k gone
      passed k before (inr after) =
          let within = first.within in
          let here = at.left k after (omega arith) in
          here
          ∙ from_passed w.tick 0 (arrivals_of s (source_at c k)) (arrivals_ascend c s rules (source_at c k))
          (sym (ap (is_next w.tick) here) ∙ first.before k before)

      taken_here : left_at next x ≡ ticks_from (w.tick + 1) (arrivals_of s x)
      taken_here =
          left_same c g x at.are (subst (IsSource c) first.is (source_is c first.place first.within))
          ∙ ap (drop 1) left_here
          ∙ from_taken w.tick 0 (arrivals_of s x) (arrivals_ascend c s rules x)
          (sym (ap (is_next w.tick) left_here) ∙ first.passes)

      taken : (k : ℕ) → k < first.place + 1 → (k < first.place) ⊎ (first.place ≤ k)
          → left_at next (source_at c k) ≡ ticks_from (w.tick + 1) (arrivals_of s (source_at c k))
      taken k below (inl before) =
          let within = first.within in
          left_other g x (source_at c k) (other k (omega arith) (omega arith)) ∙ passed k before (cases_lt k at.place)
      taken k below (inr after) =
          let same : k ≡ first.place = omega arith in
          subst (λ (y : Source). left_at next y ≡ ticks_from (w.tick + 1) (arrivals_of s y))
          (sym (ap (source_at c) same ∙ first.is)) taken_here

  -- after an arrival was taken
  pub arriving_more : (c : ConfigParts) (s : ScriptParts) (a b d : L) (u w : World) (g next : Window)
      (taken : Arrived) → IsScript c s → Arriving Told c s a b u w g
      → Some taken ≡ option_map (arrived_at g) (first_due w.tick g) → next ≡ taking (first_due w.tick g) g
      → Told b (arrival_event w.tick taken ∷ []) d → Arriving Told c s a d u (with_window w next) next
  arriving_more c s a b d u w g next taken rules at answer next_is told =
      let found = found_some (arrived_at g) (first_due w.tick g) taken answer in
      let first = first_found (is_due w.tick g) (sources c) no_source found.0
      (ap (find (is_due w.tick g)) (sym (all_sources_are c g at.are)) ∙ found.1) in
      let next_too : next ≡ taking (Some found.0) g = next_is ∙ ap (λ o. taking o g) found.1 in
      subst (λ (v : Window). Arriving Told c s a d u (with_window w v) v) (sym next_too)
      (arriving_at c s a b d u w g found.0 rules at first
      (subst (λ (arrived : Arrived). Told b (arrival_event w.tick arrived ∷ []) d) found.2 told))

  -- after the last arrival of this tick
  pub arriving_end : (c : ConfigParts) (s : ScriptParts) (a b : L) (u w : World) (g next : Window) → IsScript c s
      → Arriving Told c s a b u w g → None ≡ option_map (arrived_at g) (first_due w.tick g)
      → next ≡ taking (first_due w.tick g) g → Arrivals Told c s a b u w g next
  unfolding arrivals
  arriving_end c s a b u w g next rules at answer next_is =
      let nothing = found_nothing (arrived_at g) (first_due w.tick g) answer in
      let none = none_found (is_due w.tick g) (sources c) no_source
      (ap (find (is_due w.tick g)) (sym (all_sources_are c g at.are)) ∙ nothing) in
      record {
        gives =
            gives_all (arrival s) (sources c) (length (sources c)) a b u w (omega arith)
            (passed_to c s a b u w g (length (sources c)) rules at at.within (omega arith) none);
        same = next_is ∙ ap (λ o. taking o g) nothing;
        left = record { left = λ k below. passed none k below (cases_lt k at.place) };
      }
    where
      passed : ((k : ℕ) → k < length (sources c) → is_due w.tick g (source_at c k) ≡ false) → (k : ℕ)
          → k < length (sources c) → (k < at.place) ⊎ (at.place ≤ k)
          → left_at g (source_at c k) ≡ ticks_from (w.tick + 1) (arrivals_of s (source_at c k))
      passed none k below (inl gone) = at.taken k gone
      passed none k below (inr after) =
          let here = at.left k after below in
          here
          ∙ from_passed w.tick 0 (arrivals_of s (source_at c k)) (arrivals_ascend c s rules (source_at c k))
          (sym (ap (is_next w.tick) here) ∙ none k below)

-- where the next arrival comes later, this tick has none
pub arrivals_silent : (c : ConfigParts) (s : ScriptParts) (w : World) (g : Window) → IsScript c s
    → AreLeftFrom c s w.tick g → ForSome (next_tick g) (λ tick. w.tick + 1 ≤ tick) → arrivals c s w ≡ goes_on w []
unfolding arrivals
arrivals_silent c s w g rules left later =
    chain_silent (arrival s) (sources c) no_source w
    (λ k below.
    no_arrival s w (source_at c k)
    (has_arrival c s w g (source_at c k) rules (left.left k below)
    ∙ is_not_at w.tick (slice_get (left_at g (source_at c k)) 0)
    (each_next (w.tick + 1) g (is_from (w.tick + 1) (next_tick g) later) (source_at c k))))
