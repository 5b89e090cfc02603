-- Ticks of an owner in idle time, as the code takes them.
use Rattle.std.proofs.Common.{ℕ, ◌≡◌, ◌≢◌, List, [], ◌∷◌, Bool, true, false, Option, Some, refl, ap, sym, ◌∙◌, subst, length}
use Rattle.std.specs.Prelude.{ℤ, ◌||◌, ◌↔◌, IsTrue}
use Rattle.tt_base.specs.declared.event.Owner.{Owner}
use Rattle.task_lang.specs.declared.syntax.Stmt.{Stmt}
use Rattle.task_lang.specs.declared.tick.Effect.{Effect}
use Rattle.task_lang.specs.Tick.{State, supply_of, state_of, ticks}
use Rattle.task_machine.specs.Stored.{Store}
use Rattle.tt_world.specs.Runners.{is_done}
use Rattle.round_end.specs.Round.{Round}
use Rattle.osek_idle.specs.Subsystem.{Subsystem, Setup, lefts, finished, owner_left, owner_leaving, IsSettled}
use Rattle.stack_dispatch.specs.declared.took.Did.{Did}
use Rattle.stack_dispatch.specs.Effects.{Effected, effected, MayDo, HaveSome, GaveIdle, finished_at, idle_ticks}
use Rattle.stack_dispatch.proofs.Settling.{end_leaves, settles}

-- an owner that no service has ended, and of which nothing is left
pub finish_is : (who : Owner) (ended ends : Bool) (sub : Subsystem) → ended ≡ true → ends ≡ false
    → finished who sub ≡ finished_at who ended ends sub
finish_is who true false sub e f = refl
finish_is who false ends sub e f = cc
finish_is who true true sub e f = cc

-- what followed from an effect, by its parts
pub parts_are : (e : Effected) (d : Did) (q : Round) (s : Subsystem) (b : Bool) → d ≡ e.did → q ≡ e.round
    → s ≡ e.subsystem → b ≡ e.ends
    → (let x : Effected = record { did = d; round = q; subsystem = s; ends = b } in x) ≡ e
parts_are e d q s b did round subsystem ends = rw (did, round, subsystem, ends) refl

-- whether nothing is left
pub done_from : (ended : Bool) (left : List Stmt) → (IsTrue ended ↔ (left ≡ [])) → ended ≡ is_done left
done_from true [] is = refl
done_from false [] is = is.1 refl
done_from false (front ∷ rest) is = refl
done_from true (front ∷ rest) is = let none : front ∷ rest ≡ [] = is.0 refl in cc

-- k ticks of the owner who is picked
pub record Ticked (who : Owner) (k : ℕ) (env : Store) (sub sub1 : Subsystem) (o : Option Owner) (vars : List ℤ)
    (cursors : List ℕ) (effects : List Effect) : Type 0 where
  pub picks : o ≡ Some who
  pub ticked : state_of (owner_left sub1 o) vars cursors effects
      ≡ ticks (supply_of env.demands env.values) k (state_of (owner_left sub o) env.vars env.cursors [])

module _ {who : Owner} {k : ℕ} {env : Store} {sub sub1 : Subsystem} {o : Option Owner} {vars : List ℤ}
    {cursors : List ℕ} {effects : List Effect} (h : Ticked who k env sub sub1 o vars cursors effects) where
  -- the ticks are those of the owner
  pub tick_is : state_of (owner_left sub1 (Some who)) vars cursors effects ≡ idle_ticks k who env sub
  tick_is =
      subst (λ (x : Option Owner). state_of (owner_left sub1 x) vars cursors effects
      ≡ ticks (supply_of env.demands env.values) k (state_of (owner_left sub x) env.vars env.cursors [])) h.picks h.ticked

  -- so are its effects
  pub effects_are : effects ≡ (idle_ticks k who env sub).effects
  effects_are = ap (λ (st : State). st.effects) tick_is

  -- a call that the owner may make may also be made after the ticks
  pub may_still : (now : ℕ) (r : Round) (setup setup1 : Setup) → setup1 ≡ setup
      → MayDo now who (idle_ticks k who env sub).effects r setup
      → MayDo now who effects r setup1
  may_still now r setup setup1 same may =
      subst (λ (x : Setup). MayDo now who effects r x) (sym same)
      (subst (λ (es : List Effect). MayDo now who es r setup) (sym effects_are) may)

  module _ (others : sub1 ≡ owner_leaving o (owner_left sub1 o) sub) where
    left_is : owner_left sub1 (Some who) ≡ (idle_ticks k who env sub).left
    left_is = ap (λ (st : State). st.left) tick_is

    sub_is : sub1 ≡ owner_leaving (Some who) (idle_ticks k who env sub).left sub
    sub_is =
        subst (λ (x : Option Owner). sub1 ≡ owner_leaving x (owner_left sub1 x) sub) h.picks others
        ∙ ap (λ (l : List Stmt). owner_leaving (Some who) l sub) left_is

    module _ (body body1 : ℕ → List Stmt) (same : body1 ≡ body) (now : ℕ) (r : Round) (ended : Bool)
        (ended_is : IsTrue ended ↔ (owner_left sub1 o ≡ [])) (x : Effected)
        (x_is : x ≡ effected body1 now who effects r sub1)
        (final : Subsystem) (final_is : final ≡ finished_at who ended x.ends x.subsystem) where
      E : Effected
      E = effected body now who (idle_ticks k who env sub).effects r
          (owner_leaving (Some who) (idle_ticks k who env sub).left sub)

      x_made : x ≡ E
      unfolding E
      x_made =
          x_is
          ∙ ap (λ (b : ℕ → List Stmt). effected b now who effects r sub1) same
          ∙ ap (λ (es : List Effect). effected body now who es r sub1) effects_are
          ∙ ap (λ (z : Subsystem). effected body now who (idle_ticks k who env sub).effects r z) sub_is

      final_made : final ≡ finished_at who ended E.ends E.subsystem
      unfolding E
      final_made = final_is ∙ ap (λ (y : Effected). finished_at who ended y.ends y.subsystem) x_made

      none_left : IsTrue ended ↔ ((idle_ticks k who env sub).left ≡ [])
      none_left =
          let same_left : owner_left sub1 o ≡ (idle_ticks k who env sub).left =
          ap (owner_left sub1) h.picks ∙ left_is in
          (λ t. sym same_left ∙ ended_is.0 t, λ e. ended_is.1 (same_left ∙ e))

      -- what followed from the effect is what the ticks give, and the subsystem is settled again
      pub gave : (setup : Setup) → HaveSome body (length setup.tasks)
          → MayDo now who (idle_ticks k who env sub).effects r setup → IsSettled sub → owner_left sub (Some who) ≢ []
          → (over : Bool) → over ≡ (x.ends || ended)
          → GaveIdle body now who (idle_ticks k who env sub) r sub (record { did = x.did; ended = over }) x.round final
          × IsSettled final
      unfolding E
      gave setup all may settled some over over_is =
          let left = (idle_ticks k who env sub).left in
          let es = (idle_ticks k who env sub).effects in
          let then_left = end_leaves body now r setup who es sub left ended none_left may some in (
            record {
              did = ap (λ (y : Effected). y.did) x_made;
              ended = over_is ∙ ap (λ (y : Effected). y.ends || ended) x_made
                  ∙ ap (λ (b : Bool). E.ends || b) (done_from ended _ none_left);
              round_is = ap (λ (y : Effected). y.round) x_made;
              tasks = ap (λ (y : Subsystem). lefts y.tasks) final_made ∙ then_left.tasks;
              routines = ap (λ (y : Subsystem). lefts y.routines) final_made ∙ then_left.routines;
            },
            subst IsSettled (sym final_made) (settles body now r setup all who es sub left ended none_left may settled),
          )
