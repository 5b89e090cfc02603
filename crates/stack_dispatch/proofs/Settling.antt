-- The OSEK subsystem over a tick of an owner: what is left of each, and that it settles again.
use Rattle.std.proofs.Common.{ℕ, zero, suc, ◌≡◌, ◌≢◌, List, [], ◌∷◌, Bool, true, false, Option, None, Some, IfSome, refl, ap, sym, ◌∙◌, subst, length, ⊎_elim}
use Rattle.std.specs.Prelude.{not, ◌↔◌, IsTrue, slice_index_or, slice_set}
use Rattle.std.specs.Option.{is_some}
use Rattle.std.proofs.lemmas.Bool.{cases_eq, false≢true}
use Rattle.std.proofs.lemmas.List.{map-set, set-set, set_comm, set-get_or, get_or-set_other}
use Rattle.std.proofs.lemmas.List.Elements.{All-set}
use Rattle.tt_base.specs.declared.event.Owner.{Owner}
use Rattle.tt_base.specs.declared.event.Owner.TheVariants as owner
use Rattle.task_lang.specs.declared.syntax.Stmt.{Stmt}
use Rattle.task_lang.specs.declared.tick.Effect.{Effect}
use Rattle.tt_world.specs.Runners.{is_done}
use Rattle.round_end.specs.Round.{Round}
use Rattle.osek_idle.specs.Subsystem.{Subsystem, Setup, left_in, lefts, is_ready, owner_left, owner_leaving, readied, suspended, finished, IsSettled}
use Rattle.osek_idle.proofs.Picking.{AreSettled, left_at, ready_at}
use Rattle.stack_dispatch.specs.Effects.{effected, MayDo, HaveSome, finished_at}
use Rattle.stack_dispatch.proofs.Performing.{Makes, Nothing, Readies, Ends, Chains, Restarts, effect_makes}

abbrev States : Type 0
States = List (Option (List Stmt))

set_settled : (xs : States) (n : ℕ) (x : Option (List Stmt)) → IfSome x (λ left. left ≢ []) → AreSettled xs
    → AreSettled (slice_set xs n x)
set_settled xs n x h all = All-set (λ (state : Option (List Stmt)). IfSome state (λ left. left ≢ [])) xs n x h all

-- ---- one of them

twice : (b : Bool) → not (not b) ≡ b
twice true = refl
twice false = refl

-- nothing is left exactly of those that are not ready
pub done_at : (states : States) (n : ℕ) → AreSettled states
    → is_done (slice_index_or (lefts states) n []) ≡ not (is_ready states n)
done_at states n settled =
    sym (twice (is_done (slice_index_or (lefts states) n []))) ∙ ap not (sym (ready_at states n settled))

some_one : (state : Option (List Stmt)) → left_in state ≢ [] → is_some state ≡ true
some_one None some = absurd (some refl)
some_one (Some left) some = refl

-- one of which something is left is ready
pub some_ready : (states : States) (n : ℕ) → left_in (slice_index_or states n None) ≢ [] → is_ready states n ≡ true
some_ready states n some = some_one (slice_index_or states n None) some

-- who is ready stays the same where one that is ready goes on
pub ready_set : (xs : States) (n m : ℕ) (left : List Stmt) → is_ready xs n ≡ true
    → is_ready (slice_set xs n (Some left)) m ≡ is_ready xs m
ready_set [] n m left h = cc
ready_set (x ∷ xs) zero zero left h = sym h
ready_set (x ∷ xs) zero (suc m) left h = refl
ready_set (x ∷ xs) (suc n) zero left h = refl
ready_set (x ∷ xs) (suc n) (suc m) left h = ready_set xs n m left h

left_set : (xs : States) (n : ℕ) (left : List Stmt) → is_ready xs n ≡ true
    → left_in (slice_index_or (slice_set xs n (Some left)) n None) ≡ left
left_set [] n left h = cc
left_set (x ∷ xs) zero left h = refl
left_set (x ∷ xs) (suc n) left h = left_set xs n left h

-- what is left where one is set
pub lefts_set : (tasks : States) (n : ℕ) (state : Option (List Stmt))
    → lefts (slice_set tasks n state) ≡ slice_set (lefts tasks) n (left_in state)
lefts_set tasks n state = map-set left_in tasks n state

-- the removal of one of which nothing is left changes nothing of what is left
spent : (xs : States) (n : ℕ) → left_in (slice_index_or xs n None) ≡ [] → lefts (slice_set xs n None) ≡ lefts xs
spent xs n none =
    lefts_set xs n None
    ∙ ap (slice_set (lefts xs) n) (sym (left_at xs n ∙ none))
    ∙ set-get_or (lefts xs) n []

-- ---- an owner

-- the owner is ready, where it is an OSEK task, or unfinished, where it is a routine
abbrev pub Readied : Owner → Subsystem → Type 0
Readied (owner.Osek task) sub = is_ready sub.tasks task.0 ≡ true
Readied (owner.Oisr oisr) sub = is_ready sub.routines oisr.0 ≡ true
Readied _ sub = Unit {0}

-- an owner of which something is left is ready
pub owner_ready : (who : Owner) (sub : Subsystem) → owner_left sub (Some who) ≢ [] → Readied who sub
owner_ready (owner.Osek task) sub some = some_ready sub.tasks task.0 some
owner_ready (owner.Oisr oisr) sub some = some_ready sub.routines oisr.0 some
owner_ready who sub some = tt

-- it is still ready after a tick of it
pub owner_stays : (who : Owner) (sub : Subsystem) (left : List Stmt) → Readied who sub
    → Readied who (owner_leaving (Some who) left sub)
owner_stays (owner.Osek task) sub left h = ready_set sub.tasks task.0 task.0 left h ∙ h
owner_stays (owner.Oisr oisr) sub left h = ready_set sub.routines oisr.0 oisr.0 left h ∙ h
owner_stays who sub left h = tt

owner_left_then : (who : Owner) (sub : Subsystem) (left : List Stmt) → Readied who sub → owner_left sub (Some who) ≢ []
    → owner_left (owner_leaving (Some who) left sub) (Some who) ≡ left
owner_left_then (owner.Osek task) sub left h some = left_set sub.tasks task.0 left h
owner_left_then (owner.Oisr oisr) sub left h some = left_set sub.routines oisr.0 left h
owner_left_then who sub left h some = absurd (some refl)

-- one of which something is left stays settled
pub leaving_settled : (who : Owner) (sub : Subsystem) (left : List Stmt) → left ≢ [] → IsSettled sub
    → IsSettled (owner_leaving (Some who) left sub)
leaving_settled (owner.Osek task) sub left some h = record
    { tasks = set_settled sub.tasks task.0 (Some left) some h.tasks; routines = h.routines }
leaving_settled (owner.Oisr oisr) sub left some h = record
    { tasks = h.tasks; routines = set_settled sub.routines oisr.0 (Some left) some h.routines }
leaving_settled who sub left some h = h

-- all but the owner stay settled
finished_settled : (who : Owner) (sub : Subsystem) (left : List Stmt) → IsSettled sub
    → IsSettled (finished who (owner_leaving (Some who) left sub))
finished_settled (owner.Osek task) sub left h = record {
  tasks = subst AreSettled (sym (set-set sub.tasks task.0 (Some left) None))
      (set_settled sub.tasks task.0 None tt h.tasks);
  routines = h.routines;
}
finished_settled (owner.Oisr oisr) sub left h = record {
  tasks = h.tasks;
  routines = subst AreSettled (sym (set-set sub.routines oisr.0 (Some left) None))
      (set_settled sub.routines oisr.0 None tt h.routines);
}
finished_settled (owner.Task t) sub left h = h
finished_settled who sub left h = h

-- ---- services

readied_settled : (body : List Stmt) (task : ℕ) (sub : Subsystem) → body ≢ [] → IsSettled sub
    → IsSettled (readied body task sub)
readied_settled body task sub some h = record
    { tasks = set_settled sub.tasks task (Some body) some h.tasks; routines = h.routines }

suspended_settled : (task : ℕ) (sub : Subsystem) → IsSettled sub → IsSettled (suspended task sub)
suspended_settled task sub h = record { tasks = set_settled sub.tasks task None tt h.tasks; routines = h.routines }

-- a task is made ready where all but one are settled
ready_but_one : (xs : States) (p t : ℕ) (body : List Stmt) → body ≢ [] → AreSettled (slice_set xs p None)
    → AreSettled (slice_set (slice_set xs t (Some body)) p None)
ready_but_one xs p t body some h =
    ⊎_elim
    (λ (e : t ≡ p). subst AreSettled (ap (λ n. slice_set (slice_set xs n (Some body)) p None) (sym e))
    (subst AreSettled (sym (set-set xs p (Some body) None)) h))
    (λ (e : t ≢ p). subst AreSettled (sym (set_comm xs t p (Some body) None e))
    (set_settled (slice_set xs p None) t (Some body) some h))
    (cases_eq t p)

finished_readied : (who : Owner) (sub : Subsystem) (t : ℕ) (body : List Stmt) → body ≢ []
    → IsSettled (finished who sub) → IsSettled (finished who (readied body t sub))
finished_readied (owner.Osek p) sub t body some h = record
    { tasks = ready_but_one sub.tasks p.0 t body some h.tasks; routines = h.routines }
finished_readied (owner.Oisr p) sub t body some h = record
    { tasks = set_settled sub.tasks t (Some body) some h.tasks; routines = h.routines }
finished_readied who sub t body some h = readied_settled body t sub some h

-- a caller that chains to itself is ready again
self_readied : (p t : ℕ) (sub : Subsystem) (body : List Stmt) → p ≡ t → body ≢ [] → IsSettled (suspended p sub)
    → IsSettled (readied body t sub)
self_readied p t sub body e some h = record {
  tasks = subst (λ (n : ℕ). AreSettled (slice_set sub.tasks n (Some body))) e
      (subst AreSettled (set-set sub.tasks p None (Some body))
      (set_settled (slice_set sub.tasks p None) p (Some body) some h.tasks));
  routines = h.routines;
}

module _ {body : ℕ → List Stmt} {count : ℕ} (all : HaveSome body count) {sub : Subsystem} where
  -- where all are settled, they are so after an effect
  pub made_settled : {who : Owner} {after : Subsystem} {ends : Bool} → Makes body count sub who after ends
      → IsSettled sub → IsSettled after
  made_settled (Nothing who) h = h
  made_settled (Readies who task l idle) h = readied_settled (body task) task sub (all task l) h
  made_settled (Ends task) h = suspended_settled task.0 sub h
  made_settled (Chains task next l) h =
      suspended_settled task.0 (readied (body next) next sub) (readied_settled (body next) next sub (all next l) h)
  made_settled (Restarts task next l same) h = readied_settled (body next) next sub (all next l) h

  -- where all but the owner are settled, and nothing is left of it, all are so after its end
  made_end : {who : Owner} {after : Subsystem} {ends : Bool} → Makes body count sub who after ends
      → IsSettled (finished who sub) → IsSettled (finished_at who true ends after)
  made_end (Nothing who) h = h
  made_end (Readies who task l idle) h = finished_readied who sub task (body task) (all task l) h
  made_end (Ends task) h = h
  made_end (Chains task next l) h = finished_readied (owner.Osek task) sub next (body next) (all next l) h
  made_end (Restarts task next l same) h = self_readied task.0 next sub (body next) same (all next l) h

module _ (body : ℕ → List Stmt) (now : ℕ) (r : Round) (setup : Setup) (all : HaveSome body (length setup.tasks)) where
  not_ended : (who : Owner) (ends : Bool) (sub : Subsystem) → finished_at who false ends sub ≡ sub
  not_ended who true sub = refl
  not_ended who false sub = refl

  -- after a tick of an owner, its effect, and the owner's end, all are settled again
  pub settles : (who : Owner) (es : List Effect) (sub : Subsystem) (left : List Stmt) (ended : Bool)
      → (IsTrue ended ↔ (left ≡ []))
      → MayDo now who es r setup → IsSettled sub
      → IsSettled (finished_at who ended (effected body now who es r (owner_leaving (Some who) left sub)).ends
      (effected body now who es r (owner_leaving (Some who) left sub)).subsystem)
  settles who es sub left true is may h =
      made_end all (effect_makes body now r setup (owner_leaving (Some who) left sub) who es may)
      (finished_settled who sub left h)
  settles who es sub left false is may h =
      let x = effected body now who es r (owner_leaving (Some who) left sub) in
      subst IsSettled (sym (not_ended who x.ends x.subsystem))
      (made_settled all (effect_makes body now r setup (owner_leaving (Some who) left sub) who es may)
      (leaving_settled who sub left (λ none. false≢true (is.1 none)) h))

-- ---- what is left after the end of an owner of which nothing is left

other_task : (xs : States) (p t : ℕ) (body : List Stmt) → is_ready xs p ≡ true → is_ready xs t ≡ false
    → left_in (slice_index_or (slice_set xs t (Some body)) p None) ≡ left_in (slice_index_or xs p None)
other_task xs p t body ready idle =
    let differ : p ≢ t = λ e. let both : true ≡ false = sym ready ∙ ap (is_ready xs) e ∙ idle in cc in
    ap left_in (get_or-set_other xs t p (Some body) None differ)

ready_left : (who : Owner) (sub : Subsystem) (t : ℕ) (body : List Stmt) → Readied who sub → is_ready sub.tasks t ≡ false
    → owner_left (readied body t sub) (Some who) ≡ owner_left sub (Some who)
ready_left (owner.Osek p) sub t body ready idle = other_task sub.tasks p.0 t body ready idle
ready_left who sub t body ready idle = refl

-- an effect that does not end its owner leaves it as it is
made_left : {body : ℕ → List Stmt} {count : ℕ} {sub after : Subsystem} {who : Owner} {ends : Bool}
    → Makes body count sub who after ends → Readied who sub → ends ≡ false
    → owner_left after (Some who) ≡ owner_left sub (Some who)
made_left (Nothing who) ready e = refl
made_left {body} {sub = sub} (Readies who task l idle) ready e = ready_left who sub task (body task) ready idle
made_left makes ready e = cc

-- the same is left of each task and of each routine
pub record SameLefts (after before : Subsystem) : Type 0 where
  pub tasks : lefts after.tasks ≡ lefts before.tasks
  pub routines : lefts after.routines ≡ lefts before.routines

-- the end of an owner of which nothing is left changes nothing of what is left
spent_end : (who : Owner) (sub : Subsystem) → owner_left sub (Some who) ≡ [] → SameLefts (finished who sub) sub
spent_end (owner.Osek p) sub none = record { tasks = spent sub.tasks p.0 none; routines = refl }
spent_end (owner.Oisr p) sub none = record { tasks = refl; routines = spent sub.routines p.0 none }
spent_end who sub none = record { tasks = refl; routines = refl }

end_at : (who : Owner) (ended ends : Bool) (sub : Subsystem)
    → (ended ≡ true → ends ≡ false → owner_left sub (Some who) ≡ [])
    → SameLefts (finished_at who ended ends sub) sub
end_at who ended true sub h = record { tasks = refl; routines = refl }
end_at who true false sub h = spent_end who sub (h refl refl)
end_at who false false sub h = record { tasks = refl; routines = refl }

module _ (body : ℕ → List Stmt) (now : ℕ) (r : Round) (setup : Setup) (who : Owner) (es : List Effect) (sub : Subsystem)
    (left : List Stmt) (ended : Bool) (is : IsTrue ended ↔ (left ≡ [])) (may : MayDo now who es r setup)
    (some : owner_left sub (Some who) ≢ []) where
  -- what is left of the tasks and the routines after the end of the owner is what the effect left
  pub end_leaves : SameLefts
      (finished_at who ended (effected body now who es r (owner_leaving (Some who) left sub)).ends
      (effected body now who es r (owner_leaving (Some who) left sub)).subsystem)
      (effected body now who es r (owner_leaving (Some who) left sub)).subsystem
  end_leaves =
      let ready = owner_ready who sub some in
      end_at who ended _ _
      (λ e f. made_left (effect_makes body now r setup (owner_leaving (Some who) left sub) who es may)
      (owner_stays who sub left ready) f
      ∙ owner_left_then who sub left ready some ∙ is.0 e)
