-- The rule for laws of a run: what holds of the world and of the events so far, part after part and instant after
-- instant.
use Rattle.std.proofs.Common.{ℕ, zero, suc, ◌≡◌, ◌<◌, ◌+◌, List, [], ◌∷◌, ◌++◌, length, get_or, Bool, true, false, refl, ap, sym, ◌∙◌, subst, eqb, arith, append_assoc, append-nil}
use Rattle.std.specs.Prelude.{map}
use Rattle.std.proofs.lemmas.Bool.{cond_both, eqb-true, false≢true}
use Rattle.tt_base.specs.declared.event.Event.{Event}
use Rattle.tt_world.specs.declared.config.ConfigParts.{ConfigParts}
use Rattle.tt_world.specs.declared.script.ScriptParts.{ScriptParts}
use Rattle.tt_world.specs.World.{World}
use Rattle.tt_world.specs.Moved.{Moved, goes_on, is_over, continued, followed, chain}
use Rattle.tt_world.specs.Rounds.{head, latch, round_end}
use Rattle.tt_world.specs.Gates.{enables, arrivals, acceptances}
use Rattle.tt_world.specs.Opening.{checks, activation, due, first_parts, later_parts, opening}
use Rattle.tt_world.specs.Step.{step}
use Rattle.tt_world.specs.Schedule.{instant, instant_at, world_at, events_between, ends_at}
use Rattle.tt_world.specs.Moved.{Outcome}

-- what holds of the world and of the events so far where the run goes on
abbrev pub OfRun : Type 1
OfRun = World → List Event → Type 0

-- what holds of the outcome, the last world and all events where the run ends
abbrev pub OfEnd : Type 1
OfEnd = Outcome → World → List Event → Type 0

abbrev pub by_end : Bool → Type 0 → Type 0 → Type 0
by_end false P Q = P
by_end true P Q = Q

-- after these events and a part: P where the run goes on, else Q
abbrev pub LeadsTo : OfRun → OfEnd → List Event → Moved → Type 0
LeadsTo P Q es m = by_end (is_over m.end) (P m.world (es ++ m.events)) (Q m.end m.world (es ++ m.events))

-- one case where the run goes on, and one where it is over
by_cases : (over : Bool) (A B : Type 0) → (over ≡ false → A) → (over ≡ true → B) → by_end over A B
by_cases false A B a b = a refl
by_cases true A B a b = b refl

pub leads_by : (P : OfRun) (Q : OfEnd) (es : List Event) (m : Moved)
    → (is_over m.end ≡ false → P m.world (es ++ m.events)) → (is_over m.end ≡ true → Q m.end m.world (es ++ m.events))
    → LeadsTo P Q es m
leads_by P Q es m p q = by_cases (is_over m.end) _ _ p q

on_from : (over : Bool) (A B : Type 0) → over ≡ false → by_end over A B → A
on_from false A B e p = p
on_from true A B e p = cc

over_from : (over : Bool) (A B : Type 0) → over ≡ true → by_end over A B → B
over_from false A B e p = cc
over_from true A B e p = p

pub led_on : (P : OfRun) (Q : OfEnd) (es : List Event) (m : Moved) → is_over m.end ≡ false → LeadsTo P Q es m
    → P m.world (es ++ m.events)
led_on P Q es m e p = on_from (is_over m.end) _ _ e p

pub led_over : (P : OfRun) (Q : OfEnd) (es : List Event) (m : Moved) → is_over m.end ≡ true → LeadsTo P Q es m
    → Q m.end m.world (es ++ m.events)
led_over P Q es m e p = over_from (is_over m.end) _ _ e p

-- a part that does nothing
pub still_leads : (P : OfRun) (Q : OfEnd) (es : List Event) (w : World) → P w es → LeadsTo P Q es (goes_on w [])
still_leads P Q es w p = subst (P w) (sym (append-nil es)) p

-- one part after another
continued_leads : (P R : OfRun) (Q : OfEnd) (es : List Event) (over : Bool) (m : Moved) (next : World → Moved)
    → is_over m.end ≡ over → by_end over (P m.world (es ++ m.events)) (Q m.end m.world (es ++ m.events))
    → ((v : World) (ds : List Event) → P v ds → LeadsTo R Q ds (next v)) → LeadsTo R Q es (continued over m next)
continued_leads P R Q es false m next e p h =
    subst (λ xs. by_end (is_over (next m.world).end) (R (next m.world).world xs)
    (Q (next m.world).end (next m.world).world xs)) (append_assoc es m.events (next m.world).events)
    (h m.world (es ++ m.events) p)
continued_leads P R Q es true m next e p h =
    by_cases (is_over m.end) _ _ (λ f. absurd (false≢true (sym f ∙ e))) (λ _. p)

pub followed_leads : (P R : OfRun) (Q : OfEnd) (es : List Event) (m : Moved) (next : World → Moved) → LeadsTo P Q es m
    → ((v : World) (ds : List Event) → P v ds → LeadsTo R Q ds (next v)) → LeadsTo R Q es (followed m next)
unfolding followed
followed_leads P R Q es m next p h = continued_leads P R Q es (is_over m.end) m next refl p h

-- the next part follows where the run goes on, and finds this world and these events
continued_at : (R : OfRun) (Q : OfEnd) (es : List Event) (over : Bool) (m : Moved) (next : World → Moved)
    → is_over m.end ≡ over → (is_over m.end ≡ true → Q m.end m.world (es ++ m.events))
    → (is_over m.end ≡ false → LeadsTo R Q (es ++ m.events) (next m.world)) → LeadsTo R Q es (continued over m next)
continued_at R Q es false m next e q h =
    subst (λ xs. by_end (is_over (next m.world).end) (R (next m.world).world xs)
    (Q (next m.world).end (next m.world).world xs)) (append_assoc es m.events (next m.world).events) (h e)
continued_at R Q es true m next e q h = by_cases (is_over m.end) _ _ (λ f. absurd (false≢true (sym f ∙ e))) q

pub followed_at : (R : OfRun) (Q : OfEnd) (es : List Event) (m : Moved) (next : World → Moved)
    → (is_over m.end ≡ true → Q m.end m.world (es ++ m.events))
    → (is_over m.end ≡ false → LeadsTo R Q (es ++ m.events) (next m.world)) → LeadsTo R Q es (followed m next)
unfolding followed
followed_at R Q es m next q h = continued_at R Q es (is_over m.end) m next refl q h

-- a part after which the run goes on
continued_on : (over : Bool) (m : Moved) (next : World → Moved) → is_over m.end ≡ over
    → is_over (continued over m next).end ≡ false → is_over m.end ≡ false
continued_on false m next e f = e
continued_on true m next e f = f

pub followed_on : (m : Moved) (next : World → Moved) → is_over (followed m next).end ≡ false → is_over m.end ≡ false
unfolding followed
followed_on m next f = continued_on (is_over m.end) m next refl f

pub followed_events : (m : Moved) (next : World → Moved) → is_over m.end ≡ false
    → (followed m next).events ≡ m.events ++ (next m.world).events
unfolding followed
followed_events m next e = ap (λ b. (continued b m next).events) e

-- a part leads from P to R
abbrev pub Leads : OfRun → OfRun → OfEnd → (World → Moved) → Type 0
Leads P R Q part = (w : World) (es : List Event) → P w es → LeadsTo R Q es (part w)

pub chain_none : (P : OfRun) (Q : OfEnd) → Leads P P Q (chain [])
unfolding chain
chain_none P Q w es p = still_leads P Q es w p

pub chain_more : (P R S : OfRun) (Q : OfEnd) (part : World → Moved) (parts : List (World → Moved)) → Leads P R Q part
    → Leads R S Q (chain parts) → Leads P S Q (chain (part ∷ parts))
unfolding chain
chain_more P R S Q part parts h k w es p = followed_leads R S Q es (part w) (chain parts) (h w es p) k

-- parts that all keep P
pub chain_each : {X : Type 0} (P : OfRun) (Q : OfEnd) (part : X → World → Moved) (xs : List X)
    → ((x : X) → Leads P P Q (part x)) → Leads P P Q (chain (map part xs))
chain_each P Q part [] h = chain_none P Q
chain_each P Q part (x ∷ xs) h = chain_more P P P Q (part x) (map part xs) (h x) (chain_each P Q part xs h)

-- parts that all keep P and all keep R, of which one leads from P to R
pub chain_at : {X : Type 0} (P R : OfRun) (Q : OfEnd) (part : X → World → Moved) (xs : List X) (k : ℕ) (d : X)
    → k < length xs → ((x : X) → Leads P P Q (part x)) → Leads P R Q (part (get_or xs k d))
    → ((x : X) → Leads R R Q (part x)) → Leads P R Q (chain (map part xs))
chain_at P R Q part [] k d l each one later = absurd (omega arith)
chain_at P R Q part (x ∷ xs) zero d l each one later =
    chain_more P R R Q (part x) (map part xs) one (chain_each R Q part xs later)
chain_at P R Q part (x ∷ xs) (suc k) d l each one later =
    chain_more P P R Q (part x) (map part xs) (each x) (chain_at P R Q part xs k d (omega arith) each one later)

-- where an instant is: before its opening, and after each part of it
pub data Phase : Type 0 where
  Before : Phase
  Latched : Phase
  Begun : Phase
  Checked : Phase
  Enabled : Phase
  Arrived : Phase
  Accepted : Phase
  Activated : Phase

-- a fact for each part of an opening
pub record OpeningKeeps (c : ConfigParts) (s : ScriptParts) (P : Phase → OfRun) (Q : OfEnd) : Type 0 where
  pub head_is : (w : World) (es : List Event) → w.tick ≡ 0 → P Before w es → LeadsTo (P Begun) Q es (head s w)
  pub latch_is : Leads (P Before) (P Latched) Q (latch c)
  pub round_end_is : Leads (P Latched) (P Begun) Q (round_end c s)
  pub checks_are : Leads (P Begun) (P Checked) Q (checks c)
  pub enables_are : Leads (P Checked) (P Enabled) Q (enables c)
  pub arrivals_are : Leads (P Enabled) (P Arrived) Q (arrivals c s)
  pub acceptances_are : Leads (P Arrived) (P Accepted) Q (acceptances c)
  pub activation_is : Leads (P Accepted) (P Activated) Q (activation c)

module _ (c : ConfigParts) (s : ScriptParts) (P : Phase → OfRun) (Q : OfEnd) (k : OpeningKeeps c s P Q) where
  -- a part, and those after it
  link : (a b : Phase) (part : World → Moved) (parts : List (World → Moved)) → Leads (P a) (P b) Q part
      → Leads (P b) (P Activated) Q (chain parts) → Leads (P a) (P Activated) Q (chain (part ∷ parts))
  link a b part parts h rest = chain_more (P a) (P b) (P Activated) Q part parts h rest

  pub due_leads : Leads (P Begun) (P Activated) Q (chain (due c s))
  due_leads =
      link Begun Checked (checks c) _ k.checks_are (link Checked Enabled (enables c) _ k.enables_are
      (link Enabled Arrived (arrivals c s) _ k.arrivals_are (link Arrived Accepted (acceptances c) _ k.acceptances_are
      (link Accepted Activated (activation c) [] k.activation_is (chain_none (P Activated) Q)))))

  later_leads : Leads (P Before) (P Activated) Q (chain (later_parts c s))
  later_leads =
      link Before Latched (latch c) (round_end c s ∷ due c s) k.latch_is
      (link Latched Begun (round_end c s) (due c s) k.round_end_is due_leads)

  first_leads : (w : World) (es : List Event) → w.tick ≡ 0 → P Before w es
      → LeadsTo (P Activated) Q es (chain (first_parts c s) w)
  unfolding chain
  first_leads w es z p = followed_leads (P Begun) (P Activated) Q es (head s w) (chain (due c s))
      (k.head_is w es z p) due_leads

  pub opening_leads : (w : World) (es : List Event) → P Before w es → LeadsTo (P Activated) Q es (opening c s w)
  unfolding opening
  opening_leads w es p =
      cond_both (eqb w.tick 0) _ _ (LeadsTo (P Activated) Q es) (λ e. first_leads w es (eqb-true w.tick 0 e) p)
      (λ _. later_leads w es p)

  pub instant_leads : (R : OfRun) → Leads (P Activated) R Q (step c s) → (w : World) (es : List Event) → P Before w es
      → LeadsTo R Q es (instant c s w)
  unfolding instant
  instant_leads R h w es p = followed_leads (P Activated) R Q es (opening c s w) (step c s) (opening_leads w es p) h

-- no instant before n ends the run
abbrev pub GoesOnBefore : ConfigParts → ScriptParts → ℕ → Type 0
GoesOnBefore c s n = (k : ℕ) → k < n → ends_at c s k ≡ false

-- what each instant keeps, from instant m on: P says it of the number of instants passed, the world, and the events
-- since m
module _ (c : ConfigParts) (s : ScriptParts) (P : ℕ → OfRun) (Q : OfEnd) (m : ℕ)
    (each : (k : ℕ) → GoesOnBefore c s (m + k) → P k (world_at c s (m + k)) (events_between c s m k)
    → LeadsTo (P (k + 1)) Q (events_between c s m k) (instant c s (world_at c s (m + k)))) where
  next_kept : (k : ℕ) → P k (world_at c s (m + k)) (events_between c s m k) → GoesOnBefore c s (m + suc k)
      → P (suc k) (world_at c s (m + suc k)) (events_between c s m (suc k))
  unfolding events_between instant_at world_at
  next_kept k p g =
      let z : suc (m + k) ≡ m + suc k = omega arith in
      let y : k + 1 ≡ suc k = omega arith in
      let led = led_on (P (k + 1)) Q (events_between c s m k) (instant c s (world_at c s (m + k)))
      (g (m + k) (omega arith)) (each k (λ j l. g j (omega arith)) p) in
      subst (λ (j : ℕ). P (suc k) (world_at c s j) (events_between c s m (suc k))) z
      (subst (λ (j : ℕ). P j (world_at c s (suc (m + k))) (events_between c s m (suc k))) y led)

  pub kept_from : P 0 (world_at c s m) [] → (k : ℕ) → GoesOnBefore c s (m + k)
      → P k (world_at c s (m + k)) (events_between c s m k)
  unfolding events_between
  kept_from first zero g = let z : m ≡ m + 0 = omega arith in subst (λ (j : ℕ). P 0 (world_at c s j) []) z first
  kept_from first (suc k) g = next_kept k (kept_from first k (λ j l. g j (omega arith))) g

-- an invariant of the world alone
abbrev pub Alone : (World → Type 0) → OfRun
Alone P w es = P w

abbrev pub Anything : OfEnd
Anything end w es = Unit {0}

-- the run does not end
abbrev pub Never : OfEnd
Never end w es = ⊥

-- what each instant keeps holds at each instant of a run
module _ (c : ConfigParts) (s : ScriptParts) (P : World → Type 0) (first : P (world_at c s 0))
    (each : (w : World) (es : List Event) → P w → LeadsTo (Alone P) Anything es (instant c s w)) where
  pub kept_at : (n : ℕ) → GoesOnBefore c s n → P (world_at c s n)
  kept_at n g =
      let z : 0 + n ≡ n = omega arith in
      subst (λ (j : ℕ). P (world_at c s j)) z
      (kept_from c s (λ _. Alone P) Anything 0 (λ k _ p. each (world_at c s (0 + k)) (events_between c s 0 k) p) first n
      (λ k l. g k (omega arith)))
