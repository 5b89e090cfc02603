-- The parts of an opening, for one source of interrupts.
use Rattle.std.proofs.Common.{ℕ, ◌≡◌, ◌<◌, ◌+◌, ◌-◌, List, [], ◌∷◌, ◌++◌, Bool, true, false, Option, None, Some, refl, ap, sym, ◌∙◌, subst, eqb, arith, length, get_or, ⊎_elim}
use Rattle.std.specs.Prelude.{◌==◌, not, cond, slice_set}
use Rattle.std.specs.List.{list_any}
use Rattle.std.proofs.lemmas.List.Elements.{All-get_or}
use Rattle.std.proofs.lemmas.Bool.{cond_both, cases_Bool, ltb-false, eqb-true, eqb-false, ne_eqb, or_right}
use Rattle.tt_base.specs.declared.event.Event.{Event}
use Rattle.tt_base.specs.declared.event.Event.TheVariants.{OsStart, Round, Enable, Arrive, Merge, Accept}
use Rattle.tt_world.specs.declared.config.Enable.{Enable as EnableRow}
use Rattle.tt_world.specs.declared.config.ConfigParts.{ConfigParts}
use Rattle.tt_world.specs.declared.script.ScriptParts.{ScriptParts}
use Rattle.tt_world.specs.declared.world.Point.{Point}
use Rattle.tt_world.specs.World.{World, Source, IsrSource, OisrSource}
use Rattle.tt_world.specs.ConfigRules.{IsConfig, IsIsr, IsOisr}
use Rattle.tt_world.specs.Moved.{Moved, is_over}
use Rattle.tt_world.specs.Rows.{offset_of, mode_of, enables_at, entry_at, no_isr, no_oisr, routine_of}
use Rattle.tt_world.specs.Correction.{is_length}
use Rattle.tt_world.specs.Monitoring.{monitored, is_at, is_at_end}
use Rattle.tt_world.specs.Rounds.{head, latch, next_round, round_end}
use Rattle.tt_world.specs.Gates.{enable, enables, arrived, arrival, arrivals, is_accepted, acceptance, acceptances, sources, arrivals_of, is_held, holding, source_owner}
use Rattle.tt_world.specs.Opening.{checks, activated, activation, opening}
use Rattle.tt_world.specs.Runners.{is_done, same_owner}
use Rattle.tt_world.specs.EventLaws.{nothing_seen}
use Rattle.tt_world.proofs.Parts.{OfRun, OfEnd, Phase, Accepted, Activated, OpeningKeeps, Alone, Anything, LeadsTo, Leads, leads_by, led_on, still_leads, followed_leads, chain_each, chain_at, opening_leads}
use Rattle.tt_world.proofs.Keeps.{monitored_holds}
use Rattle.tt_world.proofs.Emits.{Of, OfHooks, monitored_all, latch_all, next_round_all, activated_all}
use Rattle.tt_world.proofs.Unended.{some_undone}
use Rattle.tt_world.proofs.SourceEvents.{SaysNothing, Admits, SourceFacts, SourceLists, Stands, lists_of, seen_of, own_owner, source_same, IsOther, other_held, other_accepted, own_held, own_arrived, own_accepted, just_accepted, admitted, refused, admits_more, admits_silent, facts_silent, facts_one, accepting, StandsAt, is_open, here, there}

-- the source exists
abbrev pub Exists : ConfigParts → Source → Type 0
Exists c (IsrSource i) = i.0 < length c.isrs
Exists c (OisrSource i) = i.0 < length c.oisrs

-- whether the sources have been tried
abbrev pub is_tried : Phase → Bool
is_tried Accepted = true
is_tried Activated = true
is_tried _ = false

-- what is known of a source; the flag says whether it is known that nothing of it can be accepted
abbrev pub Known : Source → Bool → OfRun
Known x tried w es = SourceFacts x tried (lists_of w) es

-- where a run ends, each acceptance of a source was admitted
abbrev pub EachAdmitted : Source → OfEnd
EachAdmitted x end w es = Admits x nothing_seen es

pub silent_hooks : (x : Source) → OfHooks (SaysNothing x)
silent_hooks x = record {
  error = λ _ _. (λ _. refl, refl);
  out = λ _ _ _. (λ _. refl, refl);
  hook = λ _. (λ _. refl, refl);
  shutdown = λ _. (λ _. refl, refl);
}

module _ (c : ConfigParts) (s : ScriptParts) (rules : IsConfig c) (x : Source) (exists : Exists c x) where
  -- a part that says nothing of the source and leaves the lists as they were
  pub silent_leads : (b : Bool) (w : World) (es : List Event) (m : Moved) → Known x b w es → Of (SaysNothing x) m.events
      → (is_over m.end ≡ false → lists_of m.world ≡ lists_of w) → LeadsTo (Known x b) (EachAdmitted x) es m
  silent_leads b w es m p q same =
      leads_by (Known x b) (EachAdmitted x) es m
      (λ on. facts_silent x b (lists_of w) (lists_of m.world) es m.events p q
      (subst (λ (l : SourceLists). Stands x l (seen_of x es)) (sym (same on))))
      (λ _. admits_more x nothing_seen es m.events p.admits (admits_silent x (seen_of x es) m.events q))

  latch_same : (w : World) → lists_of (latch c w).world ≡ lists_of w
  unfolding latch
  latch_same w = cond_both (eqb (offset_of w) (c.round - c.adjust)) _ _
      (λ (m : Moved). lists_of m.world ≡ lists_of w) (λ _. refl) (λ _. refl)

  next_same : (w : World) → lists_of (next_round s w).world ≡ lists_of w
  unfolding next_round
  next_same w = cond_both (eqb w.number s.rounds) _ _
      (λ (m : Moved). lists_of m.world ≡ lists_of w) (λ _. refl) (λ _. refl)

  activated_same : (entry : Option ℕ) (w : World) → lists_of (activated c entry w).world ≡ lists_of w
  activated_same None w = refl
  activated_same (Some entry) w = refl

  monitored_known : (b : Bool) (is_due : Point → Bool)
      → Leads (Known x b) (Known x b) (EachAdmitted x) (monitored c is_due)
  monitored_known b is_due w es p =
      let Same : World → Type 0 = λ (v : World). lists_of v ≡ lists_of w in
      let m = monitored c is_due w in
      silent_leads b w es m p
      (monitored_all (SaysNothing x) (silent_hooks x) c is_due (λ _ _ _. (λ _. refl, refl)) w)
      (λ on. led_on (Alone Same) Anything es m on (monitored_holds Same c is_due w es (λ _. refl)))

  next_known : Leads (Known x false) (Known x false) (EachAdmitted x) (next_round s)
  next_known w es p =
      silent_leads false w es (next_round s w) p
      (next_round_all (SaysNothing x) s (λ _. (λ _. refl, refl)) (λ _ _ _. (λ _. refl, refl)) w) (λ _. next_same w)

  round_end_known : Leads (Known x false) (Known x false) (EachAdmitted x) (round_end c s)
  unfolding round_end
  round_end_known w es p =
      cond_both (is_length w.latched (offset_of w)) _ _ (LeadsTo (Known x false) (EachAdmitted x) es)
      (λ _. followed_leads (Known x false) (Known x false) (EachAdmitted x) es (monitored c (is_at_end (offset_of w)) w)
      (next_round s)
      (monitored_known false (is_at_end (offset_of w)) w es p) next_known)
      (λ _. still_leads (Known x false) (EachAdmitted x) es w p)

  head_known : (w : World) (es : List Event) → w.tick ≡ 0 → Known x false w es
      → LeadsTo (Known x false) (EachAdmitted x) es (head s w)
  unfolding head
  head_known w es z p = facts_silent x false (lists_of w) (lists_of w) es
      (OsStart w.tick s.start ∷ Round w.tick 1 s.start ∷ []) p
      ((λ _. refl, refl), ((λ _. refl, refl), tt)) (λ q. q)

  -- ---- enables

  enable_of : (y : Source) (row : EnableRow) (w : World) (es : List Event) → SourceFacts y false (lists_of w) es
      → SourceFacts y false (lists_of (enable row w).world) (es ++ Enable w.tick row.isr ∷ [])
  unfolding enable
  enable_of (OisrSource i) row w es p =
      facts_silent (OisrSource i) false (lists_of w) _ es (Enable w.tick row.isr ∷ []) p ((λ _. refl, refl), tt)
      (λ q. q)
  enable_of (IsrSource i) row w es p =
      let y = IsrSource i in
      let q = seen_of y es in
      let more = record w { isrs_enabled = slice_set w.isrs_enabled row.isr.0 true } in
      ⊎_elim
      (λ (e : (i.0 == row.isr.0) ≡ true).
      let z : i.0 ≡ row.isr.0 = eqb-true i.0 row.isr.0 e in
      facts_one y false false (lists_of w) (lists_of more) es (Enable w.tick row.isr) (record q { enabled = true }) p
      (ap (λ (b : Bool). cond b (record q { enabled = true }) q) e) (λ a. cc) p.few (
        subst (λ (n : ℕ). StandsAt (slice_set w.isrs_enabled n true) i.0 false (is_open (record q { enabled = true })))
            z
            (here w.isrs_enabled i.0 false _ true _ p.stands.0 (sym (or_right (not q.accepted) true refl))),
        p.stands.1,
      )
      (λ a. cc))
      (λ (e : (i.0 == row.isr.0) ≡ false).
      facts_silent y false (lists_of w) (lists_of more) es (Enable w.tick row.isr ∷ []) p
      ((λ r. ap (λ (b : Bool). cond b (record r { enabled = true }) r) e, refl), tt)
      (λ h. (there w.isrs_enabled i.0 false row.isr.0 _ true (swapped i.0 row.isr.0 e) h.0, h.1)))
      (cases_Bool (i.0 == row.isr.0))
    where
      swapped : (a b : ℕ) → (a == b) ≡ false → (b == a) ≡ false
      swapped a b e = ne_eqb b a (λ z. eqb-false a b e (sym z))

  enable_known : (row : EnableRow) → Leads (Known x false) (Known x false) (EachAdmitted x) (enable row)
  unfolding enable
  enable_known row w es p = enable_of x row w es p

  -- ---- arrivals

  own_arrives : (w : World) (es : List Event) → is_held w x ≡ false → Known x false w es
      → Known x false (holding w x true) (es ++ Arrive w.tick (source_owner x) ∷ [])
  own_arrives w es e p =
      let q = seen_of x es in
      let none = ltb-false 0 q.waiting (sym (own_held x w q p.stands) ∙ e) in
      facts_one x false false (lists_of w) (lists_of (holding w x true)) es (Arrive w.tick (source_owner x))
      (record q { waiting = q.waiting + 1 }) p
      (ap (λ (b : Bool). cond b (record q { waiting = q.waiting + 1 }) q) (own_owner x)) (λ a. cc) (omega arith)
      (own_arrived x w q p.stands) (λ a. cc)

  arrived_known : (held : Bool) (y : Source) (w : World) (es : List Event) → is_held w y ≡ held → Known x false w es
      → LeadsTo (Known x false) (EachAdmitted x) es (arrived held y w)
  arrived_known true y w es e p =
      facts_silent x false (lists_of w) (lists_of w) es (Merge w.tick (source_owner y) ∷ []) p
      ((λ _. refl, refl), tt) (λ q. q)
  arrived_known false y w es e p =
      ⊎_elim
      (λ (same : same_owner (source_owner y) (source_owner x) ≡ true).
      let z = sym (source_same y x same) in
      subst (λ (y : Source). is_held w y ≡ false
      → Known x false (holding w y true) (es ++ Arrive w.tick (source_owner y) ∷ [])) z
      (λ (none : is_held w x ≡ false). own_arrives w es none p) e)
      (λ (ne : same_owner (source_owner y) (source_owner x) ≡ false).
      facts_silent x false (lists_of w) (lists_of (holding w y true)) es (Arrive w.tick (source_owner y) ∷ []) p
      ((λ r. ap (λ (b : Bool). cond b (record r { waiting = r.waiting + 1 }) r) ne, refl), tt)
      (other_held y x w true (seen_of x es) ne))
      (cases_Bool (same_owner (source_owner y) (source_owner x)))

  arrival_known : (y : Source) → Leads (Known x false) (Known x false) (EachAdmitted x) (arrival s y)
  unfolding arrival
  arrival_known y w es p =
      cond_both (list_any (λ (tick : ℕ). tick == w.tick) (arrivals_of s y)) _ _
      (LeadsTo (Known x false) (EachAdmitted x) es)
      (λ _. arrived_known (is_held w y) y w es refl p) (λ _. still_leads (Known x false) (EachAdmitted x) es w p)

  -- ---- acceptances

  -- the routine of a source that exists has a statement
  body_some : (y : Source) → Exists c y → is_done (routine_of c y) ≡ false
  body_some (IsrSource i) l =
      some_undone _ (All-get_or (IsIsr c) c.isrs i.0 no_isr l rules.isrs).routine.some
  body_some (OisrSource i) l =
      some_undone _ (All-get_or (IsOisr c) c.oisrs i.0 no_oisr l rules.oisrs).routine.some

  -- its own acceptance, or none
  own_accepts : (b d : Bool) → Leads (Known x b) (Known x d) (EachAdmitted x) (acceptance c x)
  unfolding acceptance
  own_accepts b d w es p =
      let q = seen_of x es in
      cond_both (is_accepted w x) _ _ (LeadsTo (Known x d) (EachAdmitted x) es)
      (λ a.
      facts_one x b d (lists_of w) (lists_of (accepting w x (routine_of c x))) es (Accept w.tick (source_owner x))
      (just_accepted w.tick) p (ap (λ (b : Bool). cond b (just_accepted w.tick) q) (own_owner x))
      (λ _. admitted x w q p.few a p.stands) (omega arith)
      (own_accepted x w (routine_of c x) w.tick q (body_some x exists) p.stands)
      (λ _ l. absurd (omega arith)))
      (λ a. still_leads (Known x d) (EachAdmitted x) es w
      (record { admits = p.admits; few = p.few; stands = p.stands; waits = λ _. refused x w q a p.stands }))

  other_accepts : (b : Bool) (y : Source) → IsOther y x
      → Leads (Known x b) (Known x b) (EachAdmitted x) (acceptance c y)
  unfolding acceptance
  other_accepts b y ne w es p =
      cond_both (is_accepted w y) _ _ (LeadsTo (Known x b) (EachAdmitted x) es)
      (λ _.
      facts_silent x b (lists_of w) (lists_of (accepting w y (routine_of c y))) es
      (Accept w.tick (source_owner y) ∷ []) p
      ((λ r. ap (λ (b : Bool). cond b (just_accepted w.tick) r) ne, ne), tt)
      (other_accepted y x w (routine_of c y) (seen_of x es) ne))
      (λ _. still_leads (Known x b) (EachAdmitted x) es w p)

  acceptance_known : (b : Bool) (y : Source) → Leads (Known x b) (Known x b) (EachAdmitted x) (acceptance c y)
  acceptance_known b y =
      ⊎_elim
      (λ (same : same_owner (source_owner y) (source_owner x) ≡ true).
      subst (λ (y : Source). Leads (Known x b) (Known x b) (EachAdmitted x) (acceptance c y))
      (sym (source_same y x same))
      (own_accepts b b))
      (λ (ne : same_owner (source_owner y) (source_owner x) ≡ false). other_accepts b y ne)
      (cases_Bool (same_owner (source_owner y) (source_owner x)))

  module _ (k : ℕ) (within : k < length (sources c)) (d : Source) (is : x ≡ get_or (sources c) k d) where
    acceptances_known : Leads (Known x false) (Known x true) (EachAdmitted x) (acceptances c)
    unfolding acceptances
    acceptances_known =
        chain_at (Known x false) (Known x true) (EachAdmitted x) (acceptance c) (sources c) k d within
        (acceptance_known false)
        (subst (λ (y : Source). Leads (Known x false) (Known x true) (EachAdmitted x) (acceptance c y)) is
        (own_accepts false true))
        (acceptance_known true)

    pub opening_keeps : OpeningKeeps c s (λ (phase : Phase). Known x (is_tried phase)) (EachAdmitted x)
    unfolding checks enables arrivals activation
    opening_keeps = record {
      head_is = head_known;
      latch_is = λ w es p. silent_leads false w es (latch c w) p
          (latch_all (SaysNothing x) c (λ _ _. (λ _. refl, refl)) w) (λ _. latch_same w);
      round_end_is = round_end_known;
      checks_are = λ w es p. monitored_known false (is_at (offset_of w)) w es p;
      enables_are = λ w es p. chain_each (Known x false) (EachAdmitted x) enable
          (enables_at (offset_of w) (mode_of c w).enables) enable_known w es p;
      arrivals_are = chain_each (Known x false) (EachAdmitted x) (arrival s) (sources c) arrival_known;
      acceptances_are = acceptances_known;
      activation_is = λ w es p.
          let entry = entry_at (offset_of w) (mode_of c w).activations in
          silent_leads true w es (activated c entry w) p
          (activated_all (SaysNothing x) c entry (λ _ _. (λ _. refl, refl)) w) (λ _. activated_same entry w);
    }

    -- an opening keeps what is known of a source; after it nothing of the source can be accepted
    pub opening_known : (w : World) (es : List Event) → Known x false w es
        → LeadsTo (Known x true) (EachAdmitted x) es (opening c s w)
    opening_known w es p =
        opening_leads c s (λ (phase : Phase). Known x (is_tried phase)) (EachAdmitted x) opening_keeps w es p
