-- The acceptances of an instant, one by one.
use Rattle.std.proofs.Common.{ℕ, ◌≡◌, ◌≢◌, ◌<◌, ◌≤◌, ◌+◌, ◌-◌, ◌⊎◌, inl, inr, Bool, true, false, List, [], ◌∷◌, length, length-set, take, refl, sym, ap, ◌∙◌, subst, arith}
use Rattle.std.specs.Prelude.{None, Some, ◌&&◌, not, find, map, option_map, if◌then◌else◌}
use Rattle.std.proofs.lemmas.Bool.{cases_lt, cases_eq}
use Rattle.std.proofs.lemmas.List.{get_or_default, get_or-set_other}
use Rattle.tt_base.specs.declared.event.Event.{Event}
use Rattle.tt_base.specs.declared.event.Event.TheVariants.{Accept}
use Rattle.tt_base.specs.declared.event.Owner.{Owner}
use Rattle.tt_base.specs.declared.event.Owner.TheVariants as owner
use Rattle.tt_world.specs.declared.config.ConfigParts.{ConfigParts}
use Rattle.tt_world.specs.World.{World, Source, IsrSource, OisrSource}
use Rattle.tt_world.specs.Moved.{Gives, IsTelling, goes_on, chain}
use Rattle.tt_world.specs.Rows.{routine_of}
use Rattle.tt_world.specs.Runners.{is_done, left_of, leaving}
use Rattle.tt_world.specs.Gates.{sources, source_owner, source_runner, is_held, is_enabled, holding, disabling, is_accepted, acceptance, acceptances}
use Rattle.tt_world.proofs.Moves.{gives_begin, gives_more, gives_all}
use Rattle.isr_window.specs.Busy.{BusySources, is_busy}
use Rattle.isr_window.specs.Window.{Window, held_at, enabled_at, is_ready, first_ready, accepting}
use Rattle.isr_window.specs.Played.{with_window, no_source, source_at, AreSourcesOf, AreUnfinished, Accepting, begun}
use Rattle.isr_window.proofs.Places.{IsSource, IsFirst, first_found, none_found, all_sources_are, source_is, other_source}
use Rattle.isr_window.proofs.Silent.{chain_silent, gives_this, gives_past}
use Rattle.isr_window.proofs.Windows.{held_other, held_same, enabled_other, is_held_is, is_enabled_is, accepting_is}
use Rattle.isr_window.proofs.Arrivals.{found_some, found_nothing, true_is_not_false}

-- ---- the part of a source

-- an interrupt can be accepted where the code says that it is ready
pub accepted_is : (c : ConfigParts) (busy : BusySources) (w : World) (g : Window) (k : ℕ) → with_window w g ≡ w
    → AreUnfinished c busy w g → k < length (sources c)
    → is_accepted w (source_at c k) ≡ is_ready busy g (source_at c k)
accepted_is c busy w g k seen unfinished below =
    ap (λ (v : World). is_held v x && (is_enabled v x && is_done (left_of w (source_runner x)))) (sym seen)
    ∙ ap (λ held. held && (is_enabled (with_window w g) x && is_done (left_of w (source_runner x)))) (is_held_is w g x)
    ∙ ap (λ enabled. held_at g x && (enabled && is_done (left_of w (source_runner x)))) (is_enabled_is w g x)
    ∙ by_held (held_at g x) (enabled_at g x) (is_done (left_of w (source_runner x))) (is_busy busy (source_owner x))
    (unfinished.flags k below)
  where
    x : Source
    x = source_at c k

    by_held : (held enabled done is : Bool) → (held ≡ true → is ≡ not done)
        → (held && (enabled && done)) ≡ (held && (enabled && not is))
    by_held false enabled done is flags = refl
    by_held true enabled false is flags = ap (λ b. enabled && not b) (sym (flags refl))
    by_held true enabled true is flags = ap (λ b. enabled && not b) (sym (flags refl))

-- the part of a source whose interrupt cannot be accepted
pub not_accepted : (c : ConfigParts) (w : World) (x : Source) → is_accepted w x ≡ false
    → acceptance c x w ≡ goes_on w []
unfolding acceptance
not_accepted c w x none =
    ap (λ b. if b then goes_on (leaving (disabling (holding w x false) x) (source_runner x) (routine_of c x))
    (Accept w.tick (source_owner x) ∷ []) else goes_on w []) none

-- the routine of a source begins
pub begun_is : (c : ConfigParts) (x : Source) (w : World)
    → leaving w (source_runner x) (routine_of c x) ≡ begun c (source_owner x) w
begun_is c (IsrSource isr) w = refl
begun_is c (OisrSource oisr) w = refl

an_acceptance : (c : ConfigParts) (w : World) (g : Window) (x : Source) → is_accepted w x ≡ true → with_window w g ≡ w
    → acceptance c x w ≡ goes_on (begun c (source_owner x) (with_window w (accepting (Some x) g)))
    (Accept w.tick (source_owner x) ∷ [])
unfolding acceptance
an_acceptance c w g x some seen =
    ap (λ b. if b then goes_on (leaving (disabling (holding w x false) x) (source_runner x) (routine_of c x))
    (Accept w.tick (source_owner x) ∷ []) else goes_on w []) some
    ∙ ap (λ (v : World). goes_on (leaving (disabling (holding v x false) x) (source_runner x) (routine_of c x))
    (Accept w.tick (source_owner x) ∷ [])) (sym seen)
    ∙ ap (λ (v : World). goes_on (leaving v (source_runner x) (routine_of c x)) (Accept w.tick (source_owner x) ∷ []))
    (accepting_is w g x)
    ∙ ap (λ (v : World). goes_on v (Accept w.tick (source_owner x) ∷ []))
    (begun_is c x (with_window w (accepting (Some x) g)))

-- ---- another source

ready_other : (busy : BusySources) (g : Window) (x y : Source) → y ≢ x
    → is_ready busy (accepting (Some x) g) y ≡ is_ready busy g y
ready_other busy g x y differ =
    ap (λ held. held && (enabled_at (accepting (Some x) g) y && not (is_busy busy (source_owner y))))
    (held_other g x y differ)
    ∙ ap (λ enabled. held_at g y && (enabled && not (is_busy busy (source_owner y)))) (enabled_other g x y differ)

runner_other : (c : ConfigParts) (w : World) (x y : Source) → y ≢ x
    → left_of (begun c (source_owner x) w) (source_runner y) ≡ left_of w (source_runner y)
runner_other c w (IsrSource x) (IsrSource y) differ =
    get_or-set_other w.isrs x.0 y.0 (routine_of c (IsrSource x)) []
    (λ same. differ (ap (λ n. IsrSource (record { 0 = n })) same))
runner_other c w (IsrSource x) (OisrSource y) differ = refl
runner_other c w (OisrSource x) (IsrSource y) differ = refl
runner_other c w (OisrSource x) (OisrSource y) differ =
    get_or-set_other w.oisrs x.0 y.0 (routine_of c (OisrSource x)) []
    (λ same. differ (ap (λ n. OisrSource (record { 0 = n })) same))

same_lists : (w : World) (g : Window) (x : Source)
    → left_of (with_window w g) (source_runner x) ≡ left_of w (source_runner x)
same_lists w g (IsrSource x) = refl
same_lists w g (OisrSource x) = refl

begun_seen : (c : ConfigParts) (who : Owner) (w : World) (g : Window)
    → with_window (begun c who (with_window w g)) g ≡ begun c who (with_window w g)
begun_seen c (owner.Isr isr) w g = refl
begun_seen c (owner.Oisr oisr) w g = refl
begun_seen c _ w g = refl

are_accepting : (c : ConfigParts) (g : Window) (x : Source) → AreSourcesOf c g → AreSourcesOf c (accepting (Some x) g)
are_accepting c g (IsrSource isr) are = record {
  isrs = are.isrs;
  oisrs = are.oisrs;
  isrs_held = length-set g.isrs_held isr.0 false ∙ are.isrs_held;
  oisrs_held = are.oisrs_held;
}
are_accepting c g (OisrSource oisr) are = record {
  isrs = are.isrs;
  oisrs = are.oisrs;
  isrs_held = are.isrs_held;
  oisrs_held = length-set g.oisrs_held oisr.0 false ∙ are.oisrs_held;
}

-- ---- the loop

module _ {L : Type 0} {Told : L → List Event → L → Type 0} where
  ready_after : (c : ConfigParts) (a b : L) (u w : World) (g : Window) (busy : BusySources) (x : Source)
      (at : Accepting Told c a b u w g busy) (first : IsFirst (is_ready busy g) (sources c) no_source x)
      → at.place ≤ first.place
  ready_after c a b u w g busy x at first = by_order (cases_lt first.place at.place)
    where
      by_order : (first.place < at.place) ⊎ (at.place ≤ first.place) → at.place ≤ first.place
      by_order (inl before) =
          absurd
          (true_is_not_false (sym first.passes ∙ ap (is_ready busy g) (sym first.is) ∙ at.accepted first.place before))
      by_order (inr after) = after

-- at its end nothing can be accepted
pub record Acceptances {L : Type 0} (Told : L → List Event → L → Type 0) (c : ConfigParts) (a b : L) (u w : World)
    (g next : Window) : Type 0 where
  pub gives : Gives Told a b w None (acceptances c u)
  pub same : next ≡ g
  pub none : (place : ℕ) → place < length (sources c) → is_accepted w (source_at c place) ≡ false

module _ {L : Type 0} {Told : L → List Event → L → Type 0} (telling : IsTelling Told) where
  -- at its start no source was passed
  pub accepting_begin : (c : ConfigParts) (a : L) (w : World) (g : Window) (busy : BusySources)
      → with_window w g ≡ w → AreSourcesOf c g → AreUnfinished c busy w g → Accepting Told c a a w w g busy
  accepting_begin c a w g busy seen are unfinished = record {
    place = 0;
    within = omega arith;
    gives = gives_begin telling (acceptance c) (sources c) a w;
    seen = seen;
    are = are;
    unfinished = unfinished;
    accepted = λ before below. absurd (omega arith);
  }

  -- the sources before a place were played, where no interrupt of these can be accepted
  passed_to : (c : ConfigParts) (a b : L) (u w : World) (g : Window) (busy : BusySources) (to : ℕ)
      (at : Accepting Told c a b u w g busy) → at.place ≤ to → to ≤ length (sources c)
      → ((k : ℕ) → k < to → is_ready busy g (source_at c k) ≡ false)
      → Gives Told a b w None (chain (map (acceptance c) (take to (sources c))) u)
  passed_to c a b u w g busy to at from within none =
      let same : at.place + (to - at.place) ≡ to = omega arith in
      subst (λ k. Gives Told a b w None (chain (map (acceptance c) (take k (sources c))) u)) same
      (gives_past telling (acceptance c) (sources c) no_source at.place (to - at.place) a b u w (omega arith)
      (λ k after below.
      not_accepted c w (source_at c k) (accepted_is c busy w g k at.seen at.unfinished (omega arith)
      ∙ none k (omega arith)))
      at.gives)

  -- an acceptance by the code is the one that its part plays
  accepting_at : (c : ConfigParts) (a b d : L) (u w : World) (g : Window) (busy : BusySources) (x : Source)
      → Accepting Told c a b u w g busy → IsFirst (is_ready busy g) (sources c) no_source x
      → Told b (Accept w.tick (source_owner x) ∷ []) d
      → Accepting Told c a d u (begun c (source_owner x) (with_window w (accepting (Some x) g))) (accepting (Some x) g)
      busy
  accepting_at c a b d u w g busy x at first told = record {
    place = first.place + 1;
    within = let within = first.within in omega arith;
    gives =
        gives_more telling (acceptance c) (sources c) first.place x a b d u w
        (begun c (source_owner x) (with_window w next)) first.within
        (get_or_default (sources c) first.place x no_source first.within ∙ first.is)
        (passed_to c a b u w g busy first.place at (ready_after c a b u w g busy x at first)
        (let within = first.within in omega arith) first.before)
        (gives_this b d (begun c (source_owner x) (with_window w next)) (Accept w.tick (source_owner x) ∷ [])
        (acceptance c x w) (an_acceptance c w g x some at.seen) told);
    seen = begun_seen c (source_owner x) w next;
    are = are_accepting c g x at.are;
    unfinished = record { flags = λ k below held. unfinished k below held (cases_eq k first.place) };
    accepted = λ k below. accepted k below (cases_lt k first.place);
  }
    where
      next : Window
      next = accepting (Some x) g

      some : is_accepted w x ≡ true
      some =
          ap (is_accepted w) (sym first.is)
          ∙ accepted_is c busy w g first.place at.seen at.unfinished first.within
          ∙ ap (is_ready busy g) first.is
          ∙ first.passes

      other : (k : ℕ) → k < length (sources c) → k ≢ first.place → source_at c k ≢ x
      other k below differ same = other_source c k first.place below first.within differ (same ∙ sym first.is)

      free : held_at next x ≡ false
      free = held_same c g x at.are (subst (IsSource c) first.is (source_is c first.place first.within))

      unfinished : (k : ℕ) → k < length (sources c) → held_at next (source_at c k) ≡ true
          → (k ≡ first.place) ⊎ (k ≢ first.place)
          → is_busy busy (source_owner (source_at c k)) ≡ not
          (is_done (left_of (begun c (source_owner x) (with_window w next)) (source_runner (source_at c k))))
      unfinished k below held (inl same) =
          absurd
          (true_is_not_false (sym held ∙ ap (λ j. held_at next (source_at c j)) same ∙ ap (held_at next) first.is
          ∙ free))
      unfinished k below held (inr differ) =
          at.unfinished.flags k below (sym (held_other g x (source_at c k) (other k below differ)) ∙ held)
          ∙ ap (λ left. not (is_done left))
          (sym (runner_other c (with_window w next) x (source_at c k) (other k below differ)
          ∙ same_lists w next (source_at c k)))

      accepted : (k : ℕ) → k < first.place + 1 → (k < first.place) ⊎ (first.place ≤ k)
          → is_ready busy next (source_at c k) ≡ false
      accepted k below (inl before) =
          let within = first.within in
          ready_other busy g x (source_at c k) (other k (omega arith) (omega arith)) ∙ first.before k before
      accepted k below (inr after) =
          let same : k ≡ first.place = omega arith in
          ap (is_ready busy next) (ap (source_at c) same ∙ first.is)
          ∙ ap (λ held. held && (enabled_at next x && not (is_busy busy (source_owner x)))) free

  -- after an acceptance
  pub accepting_more : (c : ConfigParts) (a b d : L) (u w : World) (g next : Window) (busy : BusySources)
      (who : Owner) → Accepting Told c a b u w g busy → Some who ≡ option_map source_owner (first_ready busy g)
      → next ≡ accepting (first_ready busy g) g → Told b (Accept w.tick who ∷ []) d
      → Accepting Told c a d u (begun c who (with_window w next)) next busy
  accepting_more c a b d u w g next busy who at answer next_is told =
      let found = found_some source_owner (first_ready busy g) who answer in
      let first = first_found (is_ready busy g) (sources c) no_source found.0
      (ap (find (is_ready busy g)) (sym (all_sources_are c g at.are)) ∙ found.1) in
      let next_too : next ≡ accepting (Some found.0) g = next_is ∙ ap (λ o. accepting o g) found.1 in
      subst (λ (v : Window). Accepting Told c a d u (begun c who (with_window w v)) v busy) (sym next_too)
      (subst (λ (name : Owner). Accepting Told c a d u
      (begun c name (with_window w (accepting (Some found.0) g))) (accepting (Some found.0) g) busy) (sym found.2)
      (accepting_at c a b d u w g busy found.0 at first
      (subst (λ (name : Owner). Told b (Accept w.tick name ∷ []) d) found.2 told)))

  -- after the last acceptance of this tick
  pub accepting_end : (c : ConfigParts) (a b : L) (u w : World) (g next : Window) (busy : BusySources)
      → Accepting Told c a b u w g busy → None ≡ option_map source_owner (first_ready busy g)
      → next ≡ accepting (first_ready busy g) g → Acceptances Told c a b u w g next
  unfolding acceptances
  accepting_end c a b u w g next busy at answer next_is =
      let nothing = found_nothing source_owner (first_ready busy g) answer in
      let none = none_found (is_ready busy g) (sources c) no_source
      (ap (find (is_ready busy g)) (sym (all_sources_are c g at.are)) ∙ nothing) in
      record {
        gives =
            gives_all (acceptance c) (sources c) (length (sources c)) a b u w (omega arith)
            (passed_to c a b u w g busy (length (sources c)) at at.within (omega arith) none);
        same = next_is ∙ ap (λ o. accepting o g) nothing;
        none = λ k below. accepted_is c busy w g k at.seen at.unfinished below ∙ none k below;
      }

-- where nothing can be accepted, the acceptances do nothing
pub acceptances_silent : (c : ConfigParts) (w : World)
    → ((place : ℕ) → place < length (sources c) → is_accepted w (source_at c place) ≡ false)
    → acceptances c w ≡ goes_on w []
unfolding acceptances
acceptances_silent c w none =
    chain_silent (acceptance c) (sources c) no_source w (λ k below. not_accepted c w (source_at c k) (none k below))
