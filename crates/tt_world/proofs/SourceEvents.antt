-- What events say of a source of interrupts, and what the world has of it.
use Rattle.std.proofs.Common.{ℕ, ◌≡◌, ◌<◌, ◌≤◌, ◌+◌, List, [], ◌∷◌, ◌++◌, Bool, true, false, refl, ap, sym, ◌∙◌, subst, arith, length, get_or, ◌⊎◌, ⊎_elim, inl, inr, get_or-set_same, get_or-set_other}
use Rattle.std.specs.Prelude.{◌==◌, ◌&&◌, ◌||◌, not, nat_lt, slice_set}
use Rattle.std.proofs.lemmas.List.{length-set}
use Rattle.std.proofs.lemmas.Bool.{false≢true, eqb-true, eqb-false, eq-eqb, ltb-true, lt-ltb, or_right, and_cases}
use Rattle.tt_base.specs.declared.event.Event.{Event}
use Rattle.tt_base.specs.declared.event.Event.TheVariants.{Accept}
use Rattle.tt_base.specs.declared.event.Owner.{Owner}
use Rattle.task_lang.specs.declared.syntax.Stmt.{Stmt}
use Rattle.tt_world.specs.declared.world.Runner.{Runner}
use Rattle.tt_world.specs.declared.world.Runner.TheVariants as runner
use Rattle.tt_world.specs.World.{World, Source, IsrSource, OisrSource}
use Rattle.tt_world.specs.Runners.{is_done, left_of, leaving, same_owner}
use Rattle.tt_world.specs.Gates.{source_owner, source_runner, is_held, holding, is_enabled, disabling, is_accepted}
use Rattle.tt_world.specs.EventLaws.{is_accept_of, is_gated, SourceSeen, nothing_seen, seen_next, source_seen, IsAdmitted}
use Rattle.tt_world.proofs.TableRows.{both_left, both_right}
use Rattle.tt_world.proofs.Emits.{Of}

-- ---- events

-- an event that says nothing of a source
abbrev pub SaysNothing : Source → Event → Type 0
SaysNothing x e =
    ((q : SourceSeen) → seen_next (source_owner x) q e ≡ q) × (is_accept_of (source_owner x) e ≡ false)

-- what these events say of a source
abbrev pub seen_of : Source → List Event → SourceSeen
seen_of x es = source_seen (source_owner x) nothing_seen es

pub source_more : (who : Owner) (q : SourceSeen) (es fs : List Event)
    → source_seen who q (es ++ fs) ≡ source_seen who (source_seen who q es) fs
unfolding source_seen
source_more who q [] fs = refl
source_more who q (e ∷ es) fs = source_more who (seen_next who q e) es fs

silent_seen : (x : Source) (q : SourceSeen) (es : List Event) → Of (SaysNothing x) es
    → source_seen (source_owner x) q es ≡ q
unfolding source_seen
silent_seen x q [] p = refl
silent_seen x q (e ∷ es) p = ap (λ r. source_seen (source_owner x) r es) (p.0.0 q) ∙ silent_seen x q es p.1

-- events that say nothing of a source do not change what was said of it
pub seen_same : (x : Source) (es fs : List Event) → Of (SaysNothing x) fs → seen_of x (es ++ fs) ≡ seen_of x es
seen_same x es fs p = source_more (source_owner x) nothing_seen es fs ∙ silent_seen x (seen_of x es) fs p

-- each acceptance of a source was admitted
abbrev pub Admits : Source → SourceSeen → List Event → Type 0
Admits x q [] = Unit {0}
Admits x q (e ∷ es) =
    (is_accept_of (source_owner x) e ≡ true → IsAdmitted x q) × Admits x (seen_next (source_owner x) q e) es

pub admits_more : (x : Source) (q : SourceSeen) (es fs : List Event) → Admits x q es
    → Admits x (source_seen (source_owner x) q es) fs → Admits x q (es ++ fs)
unfolding source_seen
admits_more x q [] fs p r = r
admits_more x q (e ∷ es) fs p r = (p.0, admits_more x (seen_next (source_owner x) q e) es fs p.1 r)

pub admits_silent : (x : Source) (q : SourceSeen) (es : List Event) → Of (SaysNothing x) es → Admits x q es
admits_silent x q [] p = tt
admits_silent x q (e ∷ es) p =
    (λ a. absurd (false≢true (sym p.0.1 ∙ a)), subst (λ r. Admits x r es) (sym (p.0.0 q)) (admits_silent x q es p.1))

pub own_owner : (x : Source) → same_owner (source_owner x) (source_owner x) ≡ true
own_owner (IsrSource i) = eq-eqb i.0 i.0 refl
own_owner (OisrSource i) = eq-eqb i.0 i.0 refl

-- the same for each place at which there is an acceptance
pub admitted_at : (x : Source) (q : SourceSeen) (before after : List Event) (at : ℕ)
    → Admits x q (before ++ Accept at (source_owner x) ∷ after)
    → IsAdmitted x (source_seen (source_owner x) q before)
unfolding source_seen
admitted_at x q [] after at p = p.0 (own_owner x)
admitted_at x q (e ∷ before) after at p = admitted_at x (seen_next (source_owner x) q e) before after at p.1

-- ---- sources

pub source_same : (y x : Source) → same_owner (source_owner y) (source_owner x) ≡ true → y ≡ x
source_same (IsrSource i) (IsrSource j) e = ap (λ (n : ℕ). IsrSource (record { 0 = n })) (eqb-true i.0 j.0 e)
source_same (OisrSource i) (OisrSource j) e = ap (λ (n : ℕ). OisrSource (record { 0 = n })) (eqb-true i.0 j.0 e)
source_same (IsrSource i) (OisrSource j) e = cc
source_same (OisrSource i) (IsrSource j) e = cc

-- the lists of a world that have its sources and their routines
pub record SourceLists : Type 0 where
  pub isrs_enabled : List Bool
  pub isrs_held : List Bool
  pub isrs : List (List Stmt)
  pub oisrs_held : List Bool
  pub oisrs : List (List Stmt)

abbrev pub lists_of : World → SourceLists
lists_of w = record {
  isrs_enabled = w.isrs_enabled;
  isrs_held = w.isrs_held;
  isrs = w.isrs;
  oisrs_held = w.oisrs_held;
  oisrs = w.oisrs;
}

-- with this left of a runner
abbrev pub lists_left : Runner → SourceLists → List Stmt → SourceLists
lists_left (runner.Isr i) l after = record l { isrs = slice_set l.isrs i.0 after }
lists_left (runner.Oisr i) l after = record l { oisrs = slice_set l.oisrs i.0 after }
lists_left r l after = l

-- this value is at a place of a list
abbrev pub StandsAt : {X : Type 0} → List X → ℕ → X → X → Type 0
StandsAt xs i d v = (i < length xs) × (get_or xs i d ≡ v)

-- at a place of a list there is a body, and this says whether nothing is left of it
abbrev pub IsDoneAt : List (List Stmt) → ℕ → Bool → Type 0
IsDoneAt xs i b = (i < length xs) × (is_done (get_or xs i []) ≡ b)

-- whether the source is open, and whether its routine is not unfinished, by what is seen
abbrev pub is_open : SourceSeen → Bool
is_open q = not q.accepted || q.enabled

abbrev pub is_free : SourceSeen → Bool
is_free q = not q.accepted || q.ended

-- the world has of a source what was seen of it
abbrev pub Stands : Source → SourceLists → SourceSeen → Type 0
Stands (IsrSource i) l q =
    StandsAt l.isrs_enabled i.0 false (is_open q) × (StandsAt l.isrs_held i.0 false (nat_lt 0 q.waiting)
    × IsDoneAt l.isrs i.0 (is_free q))
Stands (OisrSource i) l q =
    StandsAt l.oisrs_held i.0 false (nat_lt 0 q.waiting) × IsDoneAt l.oisrs i.0 (is_free q)

module _ {X : Type 0} (xs : List X) (i : ℕ) (d : X) where
  pub here : (v u t : X) → StandsAt xs i d v → u ≡ t → StandsAt (slice_set xs i u) i d t
  here v u t p e = let l = p.0 in let n = length-set xs i u in
      (omega arith, get_or-set_same xs i u d p.0 ∙ e)

  pub there : (j : ℕ) (v u : X) → (j == i) ≡ false → StandsAt xs i d v → StandsAt (slice_set xs j u) i d v
  there j v u ne p = let l = p.0 in let n = length-set xs j u in
      (omega arith, get_or-set_other xs j i u d (λ e. eqb-false j i ne (sym e)) ∙ p.1)

module _ (xs : List (List Stmt)) (i : ℕ) where
  done_here : (b t : Bool) (u : List Stmt) → IsDoneAt xs i b → is_done u ≡ t → IsDoneAt (slice_set xs i u) i t
  done_here b t u p e = let l = p.0 in let n = length-set xs i u in
      (omega arith, ap is_done (get_or-set_same xs i u [] p.0) ∙ e)

  done_there : (j : ℕ) (b : Bool) (u : List Stmt) → (j == i) ≡ false → IsDoneAt xs i b
      → IsDoneAt (slice_set xs j u) i b
  done_there j b u ne p = let l = p.0 in let n = length-set xs j u in
      (omega arith, ap is_done (get_or-set_other xs j i u [] (λ e. eqb-false j i ne (sym e))) ∙ p.1)

-- ---- what is done to another source

abbrev pub IsOther : Source → Source → Type 0
IsOther y x = same_owner (source_owner y) (source_owner x) ≡ false

pub other_held : (y x : Source) (w : World) (v : Bool) (q : SourceSeen) → IsOther y x → Stands x (lists_of w) q
    → Stands x (lists_of (holding w y v)) q
other_held (IsrSource i) (IsrSource j) w v q ne p = (p.0, (there w.isrs_held j.0 false i.0 _ v ne p.1.0, p.1.1))
other_held (IsrSource i) (OisrSource j) w v q ne p = p
other_held (OisrSource i) (IsrSource j) w v q ne p = p
other_held (OisrSource i) (OisrSource j) w v q ne p = (there w.oisrs_held j.0 false i.0 _ v ne p.0, p.1)

pub other_left : (y x : Source) (l : SourceLists) (after : List Stmt) (q : SourceSeen) → IsOther y x → Stands x l q
    → Stands x (lists_left (source_runner y) l after) q
other_left (IsrSource i) (IsrSource j) l after q ne p = (p.0, (p.1.0, done_there l.isrs j.0 i.0 _ after ne p.1.1))
other_left (IsrSource i) (OisrSource j) l after q ne p = p
other_left (OisrSource i) (IsrSource j) l after q ne p = p
other_left (OisrSource i) (OisrSource j) l after q ne p = (p.0, done_there l.oisrs j.0 i.0 _ after ne p.1)

-- the world after an acceptance
abbrev pub accepting : World → Source → List Stmt → World
accepting w y body = leaving (disabling (holding w y false) y) (source_runner y) body

pub other_accepted : (y x : Source) (w : World) (body : List Stmt) (q : SourceSeen) → IsOther y x
    → Stands x (lists_of w) q → Stands x (lists_of (accepting w y body)) q
other_accepted (IsrSource i) (IsrSource j) w body q ne p = (
  there w.isrs_enabled j.0 false i.0 _ false ne p.0,
  (there w.isrs_held j.0 false i.0 _ false ne p.1.0, done_there w.isrs j.0 i.0 _ body ne p.1.1),
)
other_accepted (IsrSource i) (OisrSource j) w body q ne p = p
other_accepted (OisrSource i) (IsrSource j) w body q ne p = p
other_accepted (OisrSource i) (OisrSource j) w body q ne p =
    (there w.oisrs_held j.0 false i.0 _ false ne p.0, done_there w.oisrs j.0 i.0 _ body ne p.1)

-- ---- what is done to the source

pub own_held : (x : Source) (w : World) (q : SourceSeen) → Stands x (lists_of w) q
    → is_held w x ≡ nat_lt 0 q.waiting
own_held (IsrSource i) w q p = p.1.0.1
own_held (OisrSource i) w q p = p.0.1

pub own_arrived : (x : Source) (w : World) (q : SourceSeen) → Stands x (lists_of w) q
    → Stands x (lists_of (holding w x true)) (record q { waiting = q.waiting + 1 })
own_arrived (IsrSource i) w q p =
    (p.0, (here w.isrs_held i.0 false _ true _ p.1.0 (sym (lt-ltb 0 (q.waiting + 1) (omega arith))), p.1.1))
own_arrived (OisrSource i) w q p =
    (here w.oisrs_held i.0 false _ true _ p.0 (sym (lt-ltb 0 (q.waiting + 1) (omega arith))), p.1)

-- what is seen of a source at its acceptance
abbrev pub just_accepted : ℕ → SourceSeen
just_accepted at = record { waiting = 0; accepted = true; ended = false; enabled = false; at = at }

pub own_accepted : (x : Source) (w : World) (body : List Stmt) (at : ℕ) (q : SourceSeen) → is_done body ≡ false
    → Stands x (lists_of w) q → Stands x (lists_of (accepting w x body)) (just_accepted at)
own_accepted (IsrSource i) w body at q some p = (
  here w.isrs_enabled i.0 false _ false _ p.0 refl,
  (here w.isrs_held i.0 false _ false _ p.1.0 refl, done_here w.isrs i.0 _ false body p.1.1 some),
)
own_accepted (OisrSource i) w body at q some p =
    (here w.oisrs_held i.0 false _ false _ p.0 refl, done_here w.oisrs i.0 _ false body p.1 some)

pub own_ended : (x : Source) (l : SourceLists) (after : List Stmt) (q : SourceSeen) → is_done after ≡ true
    → Stands x l q → Stands x (lists_left (source_runner x) l after) (record q { ended = true })
own_ended (IsrSource i) l after q d p =
    (p.0, (p.1.0, done_here l.isrs i.0 _ _ after p.1.1 (d ∙ sym (or_right (not q.accepted) true refl))))
own_ended (OisrSource i) l after q d p =
    (p.0, done_here l.oisrs i.0 _ _ after p.1 (d ∙ sym (or_right (not q.accepted) true refl)))

pub own_left : (x : Source) (w : World) (after : List Stmt) (q : SourceSeen)
    → is_done (left_of w (source_runner x)) ≡ false → is_done after ≡ false → Stands x (lists_of w) q
    → Stands x (lists_left (source_runner x) (lists_of w) after) q
own_left (IsrSource i) w after q u d p =
    (p.0, (p.1.0, done_here w.isrs i.0 _ _ after p.1.1 (d ∙ sym u ∙ p.1.1.1)))
own_left (OisrSource i) w after q u d p = (p.0, done_here w.oisrs i.0 _ _ after p.1 (d ∙ sym u ∙ p.1.1))

-- ---- what an acceptance needs

or_given : (a b : Bool) → (not a || b) ≡ true → a ≡ true → b ≡ true
or_given true b e f = e
or_given false b e f = cc

not_or : (a b : Bool) → (not a || b) ≡ false → (a ≡ true) × (b ≡ false)
not_or true b e = (refl, e)
not_or false b e = cc

-- an interrupt that is accepted was admitted
pub admitted : (x : Source) (w : World) (q : SourceSeen) → q.waiting ≤ 1 → is_accepted w x ≡ true
    → Stands x (lists_of w) q → IsAdmitted x q
admitted x w q few a p =
    let rest = is_enabled w x && is_done (left_of w (source_runner x)) in
    let held = ltb-true 0 q.waiting (sym (own_held x w q p) ∙ both_left (is_held w x) rest a) in
    let others : rest ≡ true = both_right (is_held w x) rest a in
    record {
      one = omega arith;
      ended = or_given q.accepted q.ended
          (free x p (both_right (is_enabled w x) (is_done (left_of w (source_runner x))) others));
      enabled = λ was gated. opened x p (both_left (is_enabled w x) (is_done (left_of w (source_runner x))) others)
          gated was;
    }
  where
    free : (x : Source) → Stands x (lists_of w) q → is_done (left_of w (source_runner x)) ≡ true → is_free q ≡ true
    free (IsrSource i) p d = sym p.1.1.1 ∙ d
    free (OisrSource i) p d = sym p.1.1 ∙ d

    opened : (x : Source) → Stands x (lists_of w) q → is_enabled w x ≡ true → is_gated x ≡ true → q.accepted ≡ true
        → q.enabled ≡ true
    opened (IsrSource i) p e gated was = or_given q.accepted q.enabled (sym p.0.1 ∙ e) was
    opened (OisrSource i) p e gated was = cc

-- what is seen of a source that has an interrupt waiting: its routine has not ended, or it was not enabled
abbrev pub Waits : Source → SourceSeen → Type 0
Waits x q =
    ((q.accepted ≡ true) × (q.ended ≡ false)) ⊎ ((is_gated x ≡ true) × (q.accepted ≡ true) × (q.enabled ≡ false))

-- an interrupt that waits and is not accepted waits for an end or for an enable
pub refused : (x : Source) (w : World) (q : SourceSeen) → is_accepted w x ≡ false → Stands x (lists_of w) q
    → 1 ≤ q.waiting → Waits x q
refused x w q a p l =
    let done = is_done (left_of w (source_runner x)) in
    let held : is_held w x ≡ true = own_held x w q p ∙ lt-ltb 0 q.waiting (omega arith) in
    let others : (is_enabled w x && done) ≡ false =
    ap (λ (b : Bool). b && (is_enabled w x && done)) (sym held) ∙ a in
    ⊎_elim (λ (e : is_enabled w x ≡ false). closed x p e) (λ (d : done ≡ false). unfinished x p d)
    (and_cases (is_enabled w x) done others)
  where
    closed : (x : Source) → Stands x (lists_of w) q → is_enabled w x ≡ false → Waits x q
    closed (IsrSource i) p e =
        let z = not_or q.accepted q.enabled (sym p.0.1 ∙ e) in inr (refl, z.0, z.1)
    closed (OisrSource i) p e = cc

    unfinished : (x : Source) → Stands x (lists_of w) q → is_done (left_of w (source_runner x)) ≡ false
        → Waits x q
    unfinished (IsrSource i) p d = let z = not_or q.accepted q.ended (sym p.1.1.1 ∙ d) in inl (z.0, z.1)
    unfinished (OisrSource i) p d = let z = not_or q.accepted q.ended (sym p.1.1 ∙ d) in inl (z.0, z.1)

-- ---- the facts of a source

-- for a source, where `tried` says whether it is known that nothing of it can be accepted: each acceptance so far was
-- admitted, and the world has what was seen
pub record SourceFacts (x : Source) (tried : Bool) (l : SourceLists) (es : List Event) : Type 0 where
  pub admits : Admits x nothing_seen es
  pub few : (seen_of x es).waiting ≤ 1
  pub stands : Stands x l (seen_of x es)
  pub waits : tried ≡ true → 1 ≤ (seen_of x es).waiting → Waits x (seen_of x es)

pub facts_silent : (x : Source) (b : Bool) (l k : SourceLists) (es fs : List Event) → SourceFacts x b l es
    → Of (SaysNothing x) fs → (Stands x l (seen_of x es) → Stands x k (seen_of x es)) → SourceFacts x b k (es ++ fs)
facts_silent x b l k es fs f q keeps =
    let z = sym (seen_same x es fs q) in
    record {
      admits = admits_more x nothing_seen es fs f.admits (admits_silent x (seen_of x es) fs q);
      few = subst (λ (r : SourceSeen). r.waiting ≤ 1) z f.few;
      stands = subst (Stands x k) z (keeps f.stands);
      waits = subst (λ (r : SourceSeen). b ≡ true → 1 ≤ r.waiting → Waits x r) z f.waits;
    }

-- after one event, after which this is seen
pub facts_one : (x : Source) (b d : Bool) (l k : SourceLists) (es : List Event) (e : Event) (q : SourceSeen)
    → SourceFacts x b l es → seen_next (source_owner x) (seen_of x es) e ≡ q
    → (is_accept_of (source_owner x) e ≡ true → IsAdmitted x (seen_of x es)) → q.waiting ≤ 1 → Stands x k q
    → (d ≡ true → 1 ≤ q.waiting → Waits x q) → SourceFacts x d k (es ++ e ∷ [])
unfolding source_seen
facts_one x b d l k es e q f is a few stands waits =
    let z : q ≡ seen_of x (es ++ e ∷ []) = sym (source_more (source_owner x) nothing_seen es (e ∷ []) ∙ is) in
    record {
      admits = admits_more x nothing_seen es (e ∷ []) f.admits (a, tt);
      few = subst (λ (r : SourceSeen). r.waiting ≤ 1) z few;
      stands = subst (Stands x k) z stands;
      waits = subst (λ (r : SourceSeen). d ≡ true → 1 ≤ r.waiting → Waits x r) z waits;
    }
