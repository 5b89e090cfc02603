-- What is unfinished according to the events: after an event that begins it, after its end, and after any other event.
use Rattle.std.proofs.Common.{ℕ, ◌≡◌, ◌<◌, ◌≤◌, List, [], ◌∷◌, ◌++◌, Bool, true, false, Option, None, Some, refl, ap, sym, ◌∙◌, append-nil}
use Rattle.std.specs.Prelude.{◌&&◌, ◌||◌, not, cond, flat_map, filter}
use Rattle.std.proofs.lemmas.Grind.{flat_map-append}
use Rattle.std.proofs.lemmas.List.Folds.{list_any-append}
use Rattle.std.proofs.lemmas.List.Elements.{filter-append}
use Rattle.std.proofs.lemmas.Bool.{lt-ltb, le-ltb}
use Rattle.tt_base.specs.declared.number.TaskNo.{TaskNo}
use Rattle.tt_base.specs.declared.number.IsrNo.{IsrNo}
use Rattle.tt_base.specs.declared.number.ModeNo.{ModeNo}
use Rattle.tt_base.specs.declared.event.Event.{Event}
use Rattle.tt_base.specs.declared.event.Event.TheVariants.{Round, Accept, Activate, End}
use Rattle.tt_base.specs.declared.event.Owner.{Owner}
use Rattle.tt_base.specs.declared.event.Owner.TheVariants as owner
use Rattle.tt_world.specs.Runners.{same_owner}
use Rattle.tt_world.specs.Status.{stamp_of}
use Rattle.tt_world.specs.Readings.{RoundStart, round_of, after_if, after_round, present_round, is_end_after, has_ended, task_if, isr_if}
use Rattle.tt_world.proofs.Emits.{Of}

-- ---- one kind of things that begin and end

-- whether an event ends something
abbrev pub ends : Event → Bool
ends (End at who) = true
ends event = false

abbrev pub open_if : {X : Type 0} → (X → Owner) → (at : ℕ) → List Event → Option X → List X
open_if who at seen None = []
open_if who at seen (Some x) = cond (has_ended at (who x) seen) [] (x ∷ [])

no_end : (at : ℕ) (who : Owner) (e : Event) → ends e ≡ false → is_end_after at who e ≡ false
no_end at who (End t other) n = cc
no_end at who e n = refl

or_false : (a : Bool) → a || false ≡ a
or_false true = refl
or_false false = refl

ended_more : (at : ℕ) (who : Owner) (es : List Event) (e : Event)
    → has_ended at who (es ++ e ∷ []) ≡ (has_ended at who es || is_end_after at who e)
ended_more at who es e = list_any-append (is_end_after at who) es (e ∷ [])
    ∙ ap (λ (b : Bool). has_ended at who es || b) (or_false (is_end_after at who e))

-- an event whose stamp is not later than the tick is no end after it
early_end : (at : ℕ) (who : Owner) (e : Event) → stamp_of e ≤ at → is_end_after at who e ≡ false
early_end at who (End t other) l = ap (λ (b : Bool). same_owner who other && b) (le-ltb at t l)
    ∙ and_false (same_owner who other)
  where
    and_false : (a : Bool) → a && false ≡ false
    and_false true = refl
    and_false false = refl
early_end at who e l = refl

pub none_ended : (at : ℕ) (who : Owner) (es : List Event) → Of (λ e. stamp_of e ≤ at) es → has_ended at who es ≡ false
none_ended at who [] p = refl
none_ended at who (e ∷ es) p = ap (λ (b : Bool). b || has_ended at who es) (early_end at who e p.0)
    ∙ none_ended at who es p.1

module _ {X : Type 0} (who : X → Owner) (item : Event → Option X) where
  abbrev pub unended : (seen : List Event) → List Event → List X
  unended seen es = flat_map (λ (e : Event). open_if who (stamp_of e) seen (item e)) es

  same_if : (at : ℕ) (seen more : List Event) (o : Option X)
      → ((x : X) → has_ended at (who x) more ≡ has_ended at (who x) seen)
      → open_if who at more o ≡ open_if who at seen o
  same_if at seen more None h = refl
  same_if at seen more (Some x) h = ap (λ (b : Bool). cond b [] (x ∷ [])) (h x)

  pub same_unended : (seen more es : List Event)
      → ((at : ℕ) (x : X) → has_ended at (who x) more ≡ has_ended at (who x) seen) → unended more es ≡ unended seen es
  same_unended seen more [] h = refl
  same_unended seen more (e ∷ es) h =
      ap (λ (xs : List X). xs ++ unended more es) (same_if (stamp_of e) seen more (item e) (h (stamp_of e)))
      ∙ ap (λ (xs : List X). open_if who (stamp_of e) seen (item e) ++ xs) (same_unended seen more es h)

  -- an event that ends nothing changes nothing
  pub still_unended : (seen es : List Event) (e : Event) → ends e ≡ false
      → unended (seen ++ e ∷ []) es ≡ unended seen es
  still_unended seen es e n =
      same_unended seen (seen ++ e ∷ []) es
      (λ at x. ended_more at (who x) seen e
      ∙ ap (λ (b : Bool). has_ended at (who x) seen || b) (no_end at (who x) e n)
      ∙ or_false (has_ended at (who x) seen))

  -- one more event that begins nothing
  pub more_none : (seen es : List Event) (e : Event) → item e ≡ None → unended seen (es ++ e ∷ []) ≡ unended seen es
  more_none seen es e n =
      flat_map-append (λ (d : Event). open_if who (stamp_of d) seen (item d)) es (e ∷ [])
      ∙ ap (λ (o : Option X). unended seen es ++ (open_if who (stamp_of e) seen o ++ [])) n
      ∙ append-nil (unended seen es)

  -- one more event that begins something
  pub more_some : (seen es : List Event) (e : Event) (x : X) → item e ≡ Some x → Of (λ d. stamp_of d ≤ stamp_of e) seen
      → unended seen (es ++ e ∷ []) ≡ unended seen es ++ x ∷ []
  more_some seen es e x n p =
      flat_map-append (λ (d : Event). open_if who (stamp_of d) seen (item d)) es (e ∷ [])
      ∙ ap (λ (o : Option X). unended seen es ++ (open_if who (stamp_of e) seen o ++ [])) n
      ∙ ap (λ (b : Bool). unended seen es ++ (cond b [] (x ∷ []) ++ [])) (none_ended (stamp_of e) (who x) seen p)

  abbrev pub remains : Owner → X → Bool
  remains other x = not (same_owner (who x) other)

  if_remains : (a b : Bool) (x : X) → cond (a || b) [] (x ∷ []) ≡ cond a [] (cond (not b) (x ∷ []) [])
  if_remains true b x = refl
  if_remains false true x = refl
  if_remains false false x = refl

  filter_if : (a : Bool) (other : Owner) (x : X)
      → filter (remains other) (cond a [] (x ∷ [])) ≡ cond a [] (cond (remains other x) (x ∷ []) [])
  filter_if true other x = refl
  filter_if false other x = refl

  -- an end that comes after all that began ends what its owner began
  end_if : (at t : ℕ) (other : Owner) (seen : List Event) (o : Option X) → at < t
      → open_if who at (seen ++ End t other ∷ []) o ≡ filter (remains other) (open_if who at seen o)
  end_if at t other seen None l = refl
  end_if at t other seen (Some x) l =
      let now : is_end_after at (who x) (End t other) ≡ same_owner (who x) other =
      ap (λ (b : Bool). same_owner (who x) other && b) (lt-ltb at t l) ∙ and_true (same_owner (who x) other) in
      ap (λ (b : Bool). cond b [] (x ∷ []))
      (ended_more at (who x) seen (End t other) ∙ ap (λ (b : Bool). has_ended at (who x) seen || b) now)
      ∙ if_remains (has_ended at (who x) seen) (same_owner (who x) other) x
      ∙ sym (filter_if (has_ended at (who x) seen) other x)
    where
      and_true : (a : Bool) → a && true ≡ a
      and_true true = refl
      and_true false = refl

  pub end_unended : (seen es : List Event) (t : ℕ) (other : Owner) → Of (λ e. stamp_of e < t) es
      → unended (seen ++ End t other ∷ []) es ≡ filter (remains other) (unended seen es)
  end_unended seen [] t other p = refl
  end_unended seen (e ∷ es) t other p =
      ap (λ (xs : List X). xs ++ unended (seen ++ End t other ∷ []) es) (end_if (stamp_of e) t other seen (item e) p.0)
      ∙ ap (λ (xs : List X). filter (remains other) (open_if who (stamp_of e) seen (item e)) ++ xs)
      (end_unended seen es t other p.1)
      ∙ sym (filter-append (remains other) (open_if who (stamp_of e) seen (item e)) (unended seen es))

-- ---- tasks and routines

abbrev pub task_item : Event → Option TaskNo
task_item (Activate at task) = Some task
task_item event = None

abbrev pub isr_item : Event → Option IsrNo
isr_item (Accept at (owner.Isr isr)) = Some isr
isr_item event = None

task_same : (seen : List Event) (e : Event) → task_if seen e ≡ open_if owner.Task (stamp_of e) seen (task_item e)
task_same seen (Activate at task) = refl
task_same seen e = refl

isr_same : (seen : List Event) (e : Event) → isr_if seen e ≡ open_if owner.Isr (stamp_of e) seen (isr_item e)
isr_same seen (Accept at (owner.Isr isr)) = refl
isr_same seen e = refl

flat_same : {X : Type 0} (f g : Event → List X) → ((e : Event) → f e ≡ g e) → (es : List Event)
    → flat_map f es ≡ flat_map g es
flat_same f g h [] = refl
flat_same f g h (e ∷ es) = ap (λ xs. xs ++ flat_map f es) (h e) ∙ ap (λ xs. g e ++ xs) (flat_same f g h es)

-- the tasks and the routines that are unfinished according to these events
abbrev pub tasks_of : List Event → List TaskNo
tasks_of es = unended owner.Task task_item es (present_round es)

abbrev pub isrs_of : List Event → List IsrNo
isrs_of es = unended owner.Isr isr_item es es

pub tasks_are : (es : List Event) → flat_map (task_if es) (present_round es) ≡ tasks_of es
tasks_are es = flat_same (task_if es) (λ e. open_if owner.Task (stamp_of e) es (task_item e)) (task_same es)
    (present_round es)

pub isrs_are : (es : List Event) → flat_map (isr_if es) es ≡ isrs_of es
isrs_are es = flat_same (isr_if es) (λ e. open_if owner.Isr (stamp_of e) es (isr_item e)) (isr_same es) es

-- ---- the present round

if_more : (o : Option RoundStart) (kept es : List Event) (e : Event)
    → after_if o kept es ++ e ∷ [] ≡ after_if o (kept ++ e ∷ []) (es ++ e ∷ [])
if_more None kept es e = refl
if_more (Some round) kept es e = refl

if_of : (E : Event → Type 0) (o : Option RoundStart) (kept es : List Event) → Of E kept → Of E es
    → Of E (after_if o kept es)
if_of E None kept es p q = p
if_of E (Some round) kept es p q = q

pub round_more : (kept es : List Event) (e : Event) → round_of e ≡ None
    → after_round (kept ++ e ∷ []) (es ++ e ∷ []) ≡ after_round kept es ++ e ∷ []
unfolding after_round
round_more kept [] e n = ap (λ o. after_if o (kept ++ e ∷ []) []) n
round_more kept (d ∷ es) e n =
    ap (λ (xs : List Event). after_round xs (es ++ e ∷ [])) (sym (if_more (round_of d) kept es e))
    ∙ round_more (after_if (round_of d) kept es) es e n

pub round_new : (kept es : List Event) (e : Event) (r : _) → round_of e ≡ Some r → after_round kept (es ++ e ∷ []) ≡ []
unfolding after_round
round_new kept [] e r n = ap (λ o. after_if o kept []) n
round_new kept (d ∷ es) e r n = round_new (after_if (round_of d) kept (es ++ e ∷ [])) es e r n

-- what holds of all events holds of those of the present round
pub of_round : (E : Event → Type 0) (kept es : List Event) → Of E kept → Of E es → Of E (after_round kept es)
unfolding after_round
of_round E kept [] p q = p
of_round E kept (d ∷ es) p q = of_round E (after_if (round_of d) kept es) es (if_of E (round_of d) kept es p q.1) q.1

-- ---- what an event changes

abbrev pub is_plain : Event → Bool
is_plain (Round at number mode) = false
is_plain (Accept at (owner.Isr isr)) = false
is_plain (Activate at task) = false
is_plain (End at who) = false
is_plain event = true

plain_end : (e : Event) → is_plain e ≡ true → ends e ≡ false
plain_end (End at who) n = cc
plain_end e n = refl

plain_task : (e : Event) → is_plain e ≡ true → task_item e ≡ None
plain_task (Activate at task) n = cc
plain_task e n = refl

plain_isr : (e : Event) → is_plain e ≡ true → isr_item e ≡ None
plain_isr (Accept at (owner.Isr isr)) n = cc
plain_isr e n = refl

plain_round : (e : Event) → is_plain e ≡ true → round_of e ≡ None
plain_round (Round at number mode) n = cc
plain_round e n = refl

-- an event of neither kind
tasks_quiet : (es : List Event) (e : Event) → round_of e ≡ None → ends e ≡ false → task_item e ≡ None
    → tasks_of (es ++ e ∷ []) ≡ tasks_of es
tasks_quiet es e r n i =
    ap (λ (xs : List Event). unended owner.Task task_item (es ++ e ∷ []) xs) (round_more es es e r)
    ∙ more_none owner.Task task_item (es ++ e ∷ []) (present_round es) e i
    ∙ still_unended owner.Task task_item es (present_round es) e n

isrs_quiet : (es : List Event) (e : Event) → ends e ≡ false → isr_item e ≡ None → isrs_of (es ++ e ∷ []) ≡ isrs_of es
isrs_quiet es e n i = more_none owner.Isr isr_item (es ++ e ∷ []) es e i ∙ still_unended owner.Isr isr_item es es e n

pub tasks_plain : (es : List Event) (e : Event) → is_plain e ≡ true → tasks_of (es ++ e ∷ []) ≡ tasks_of es
tasks_plain es e n = tasks_quiet es e (plain_round e n) (plain_end e n) (plain_task e n)

pub isrs_plain : (es : List Event) (e : Event) → is_plain e ≡ true → isrs_of (es ++ e ∷ []) ≡ isrs_of es
isrs_plain es e n = isrs_quiet es e (plain_end e n) (plain_isr e n)

pub tasks_round : (es : List Event) (at number : ℕ) (mode : ModeNo) → tasks_of (es ++ Round at number mode ∷ []) ≡ []
tasks_round es at number mode =
    ap (λ (xs : List Event). unended owner.Task task_item (es ++ Round at number mode ∷ []) xs)
    (round_new (es ++ Round at number mode ∷ []) es (Round at number mode) _ refl)

pub isrs_round : (es : List Event) (at number : ℕ) (mode : ModeNo)
    → isrs_of (es ++ Round at number mode ∷ []) ≡ isrs_of es
isrs_round es at number mode = isrs_quiet es (Round at number mode) refl refl

pub tasks_activate : (es : List Event) (at : ℕ) (task : TaskNo) → Of (λ e. stamp_of e ≤ at) es
    → tasks_of (es ++ Activate at task ∷ []) ≡ tasks_of es ++ task ∷ []
tasks_activate es at task p =
    let e = Activate at task in
    ap (λ (xs : List Event). unended owner.Task task_item (es ++ e ∷ []) xs) (round_more es es e refl)
    ∙ still_unended owner.Task task_item es (present_round es ++ e ∷ []) e refl
    ∙ more_some owner.Task task_item es (present_round es) e task refl p

pub isrs_activate : (es : List Event) (at : ℕ) (task : TaskNo) → isrs_of (es ++ Activate at task ∷ []) ≡ isrs_of es
isrs_activate es at task = isrs_quiet es (Activate at task) refl refl

pub tasks_accept : (es : List Event) (at : ℕ) (source : Owner) → tasks_of (es ++ Accept at source ∷ []) ≡ tasks_of es
tasks_accept es at source = tasks_quiet es (Accept at source) refl refl refl

pub isrs_accept : (es : List Event) (at : ℕ) (isr : IsrNo) → Of (λ e. stamp_of e ≤ at) es
    → isrs_of (es ++ Accept at (owner.Isr isr) ∷ []) ≡ isrs_of es ++ isr ∷ []
isrs_accept es at isr p =
    let e = Accept at (owner.Isr isr) in
    still_unended owner.Isr isr_item es (es ++ e ∷ []) e refl ∙ more_some owner.Isr isr_item es es e isr refl p

pub tasks_end : (es : List Event) (t : ℕ) (who : Owner) → Of (λ e. stamp_of e < t) es
    → tasks_of (es ++ End t who ∷ []) ≡ filter (λ (x : TaskNo). not (same_owner (owner.Task x) who)) (tasks_of es)
tasks_end es t who p =
    let e = End t who in
    ap (λ (xs : List Event). unended owner.Task task_item (es ++ e ∷ []) xs) (round_more es es e refl)
    ∙ more_none owner.Task task_item (es ++ e ∷ []) (present_round es) e refl
    ∙ end_unended owner.Task task_item es (present_round es) t who (of_round (λ e. stamp_of e < t) es es p p)

pub isrs_end : (es : List Event) (t : ℕ) (who : Owner) → Of (λ e. stamp_of e < t) es
    → isrs_of (es ++ End t who ∷ []) ≡ filter (λ (x : IsrNo). not (same_owner (owner.Isr x) who)) (isrs_of es)
isrs_end es t who p =
    more_none owner.Isr isr_item (es ++ End t who ∷ []) es (End t who) refl
    ∙ end_unended owner.Isr isr_item es es t who p
