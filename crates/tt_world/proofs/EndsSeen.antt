-- Nothing is left of an activation exactly where its task has an end later than its offset.
use Rattle.std.proofs.Common.{ℕ, ◌≡◌, ◌<◌, ◌≤◌, List, [], ◌∷◌, ◌++◌, Bool, true, false, Option, None, Some, refl, ap, ◌∙◌}
use Rattle.std.specs.Prelude.{◌&&◌, ◌||◌, nat_lt}
use Rattle.std.proofs.lemmas.Bool.{cond_both, eq-eqb, lt-ltb, le-ltb}
use Rattle.tt_base.specs.declared.number.TaskNo.{TaskNo}
use Rattle.tt_base.specs.declared.event.Call.{Call}
use Rattle.tt_base.specs.declared.event.Call.TheVariants as call
use Rattle.tt_base.specs.declared.event.Event.{Event}
use Rattle.tt_base.specs.declared.event.Event.TheVariants.{End}
use Rattle.tt_base.specs.declared.event.Owner.{Owner}
use Rattle.tt_base.specs.declared.event.Owner.TheVariants as owner
use Rattle.task_lang.specs.declared.syntax.Stmt.{Stmt}
use Rattle.task_lang.specs.declared.tick.Effect.{Effect}
use Rattle.task_lang.specs.declared.tick.Effect.TheVariants as effect
use Rattle.tt_world.specs.declared.config.ConfigParts.{ConfigParts}
use Rattle.tt_world.specs.declared.script.ScriptParts.{ScriptParts}
use Rattle.tt_world.specs.declared.world.Runner.TheVariants as runner
use Rattle.tt_world.specs.World.{World, Job}
use Rattle.tt_world.specs.Moved.{Moved, is_over, event_if}
use Rattle.tt_world.specs.Runners.{is_done, with_left, same_owner}
use Rattle.tt_world.specs.Services.{Answer, synced, service, is_suspended, is_shutdown}
use Rattle.tt_world.specs.Step.{effected}
use Rattle.tt_world.specs.Readings.{is_end_after, has_ended}
use Rattle.tt_world.proofs.Keeps.{service_answers}
use Rattle.tt_world.proofs.Emits.{Of}

-- ---- ends in a list

or_three : (a b d : Bool) → a || (b || d) ≡ (a || b) || d
or_three true b d = refl
or_three false b d = refl

pub ended_more : (from : ℕ) (who : Owner) (es fs : List Event)
    → has_ended from who (es ++ fs) ≡ has_ended from who es || has_ended from who fs
ended_more from who [] fs = refl
ended_more from who (e ∷ es) fs = ap (λ (b : Bool). is_end_after from who e || b) (ended_more from who es fs)
    ∙ or_three (is_end_after from who e) (has_ended from who es) (has_ended from who fs)

abbrev pub is_end : Event → Bool
is_end (End at who) = true
is_end event = false

abbrev pub NoEnd : Event → Type 0
NoEnd e = is_end e ≡ false

other_event : (from : ℕ) (who : Owner) (e : Event) → is_end e ≡ false → is_end_after from who e ≡ false
other_event from who (End at other) n = cc
other_event from who event n = refl

pub none_ended : (from : ℕ) (who : Owner) (fs : List Event) → Of NoEnd fs → has_ended from who fs ≡ false
none_ended from who [] p = refl
none_ended from who (e ∷ fs) p = ap (λ (b : Bool). b || has_ended from who fs) (other_event from who e p.0)
    ∙ none_ended from who fs p.1

or_false : (a : Bool) → a || false ≡ a
or_false true = refl
or_false false = refl

pub ended_same : (from : ℕ) (who : Owner) (es fs : List Event) → Of NoEnd fs
    → has_ended from who (es ++ fs) ≡ has_ended from who es
ended_same from who es fs p = ended_more from who es fs
    ∙ ap (λ (b : Bool). has_ended from who es || b) (none_ended from who fs p) ∙ or_false (has_ended from who es)

-- the end of another owner
pub other_end : (from at : ℕ) (who other : Owner) (b : Bool) → same_owner who other ≡ false
    → has_ended from who (event_if b (End at other)) ≡ false
other_end from at who other true n = ap (λ (x : Bool). (x && nat_lt from at) || false) n
other_end from at who other false n = refl

-- its own end, at a later tick
pub own_end : (from at : ℕ) (task : TaskNo) → from < at
    → has_ended from (owner.Task task) (End at (owner.Task task) ∷ []) ≡ true
own_end from at task l = ap (λ (x : Bool). (x && nat_lt from at) || false) (eq-eqb task.0 task.0 refl)
    ∙ ap (λ (x : Bool). x || false) (lt-ltb from at l)

-- an end that is not later
pub early_end : (from at : ℕ) (who other : Owner) (b : Bool) → at ≤ from
    → has_ended from who (event_if b (End at other)) ≡ false
early_end from at who other true l = ap (λ (x : Bool). (same_owner who other && x) || false) (le-ltb from at l)
    ∙ and_none (same_owner who other)
  where
    and_none : (a : Bool) → (a && false) || false ≡ false
    and_none true = refl
    and_none false = refl
early_end from at who other false l = refl

-- ---- a tick of an activation ends it where nothing is left of it, and only there

module _ (c : ConfigParts) (s : ScriptParts) where
  ends_left : (q : ℕ) (k : Call) (left : List Stmt) (w : World)
      → ((service c s (runner.Job q) k left w).ends || is_done (service c s (runner.Job q) k left w).left) ≡ is_done
      (service c s (runner.Job q) k left w).left
  unfolding service
  ends_left q (call.Switch mode) left w = refl
  ends_left q call.Sync left w = of_sync _
    where
      of_sync : (o : Option ℕ) → ((synced c o w left).ends || is_done (synced c o w left).left) ≡ is_done
          (synced c o w left).left
      of_sync None = refl
      of_sync (Some global) = refl
  ends_left q call.Shutdown left w = refl
  ends_left q (call.Activate task) left w =
      cond_both (is_suspended w task) _ _ (λ (a : Answer). (a.ends || is_done a.left) ≡ is_done a.left) (λ _. refl)
      (λ _. refl)
  ends_left q (call.Chain task) left w =
      cond_both (is_suspended w task) _ _ (λ (a : Answer). (a.ends || is_done a.left) ≡ is_done a.left) (λ _. refl)
      (λ _. refl)
  ends_left q call.Terminate left w = refl

  pub record ActTick (q : ℕ) (w v : World) (ended : Bool) : Type 0 where
    pub after : List Stmt
    pub acts : v.jobs ≡ with_left w.jobs q after
    pub ends : ended ≡ is_done after

  pub act_tick : (q : ℕ) (who : Owner) (effects : List Effect) (left : List Stmt) (w v : World) → v.jobs ≡ w.jobs
      → is_over (effected c s (runner.Job q) who effects left v).move.end ≡ false
      → ActTick q w (effected c s (runner.Job q) who effects left v).move.world
      (effected c s (runner.Job q) who effects left v).ended
  act_tick q who [] left w v d on = record {
    after = left;
    acts = ap (λ (xs : List Job). with_left xs q left) d;
    ends =
        refl;
  }
  act_tick q who (effect.Out value ∷ rest) left w v d on =
      record { after = left; acts = ap (λ (xs : List Job). with_left xs q left) d; ends = refl }
  act_tick q who (effect.Service k ∷ rest) left w v d on =
      let answer = service c s (runner.Job q) k left v in
      let h = (service_answers c s (runner.Job q) k left v).world in
      cond_both (is_shutdown k) _ _ (λ (m : Moved). is_over m.end ≡ false
      → ActTick q w m.world (answer.ends || is_done answer.left)) (λ _ on. cc)
      (λ _ on. record {
        after = answer.left;
        acts = ap (λ (xs : List Job). with_left xs q answer.left) (ap (λ (x : World). x.jobs) h.is ∙ d);
        ends = ends_left q k left v;
      })
      on
