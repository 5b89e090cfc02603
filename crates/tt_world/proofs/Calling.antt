-- Which services a runner calls: those that its kind of owner may call.
use Rattle.std.proofs.Common.{ℕ, ◌≡◌, List, [], ◌∷◌, Bool, true, sym, ◌∙◌}
use Rattle.std.specs.Prelude.{ℤ, ◌&&◌}
use Rattle.std.proofs.lemmas.Bool.{and_parts}
use Rattle.task_lang.specs.declared.syntax.Stmt.{Stmt, out-Stmt}
use Rattle.task_lang.specs.declared.syntax.Stmt.TheOpen.{Stmt-F}
use Rattle.task_lang.specs.declared.syntax.Stmt.TheFolds.{map-Stmt, fold_out-Stmt}
use Rattle.task_lang.specs.declared.tick.Effect.{Effect}
use Rattle.task_lang.specs.declared.tick.Effect.TheVariants as effect
use Rattle.task_lang.specs.declared.allowed.OwnerKind.{OwnerKind}
use Rattle.task_lang.specs.Allowed.{is_allowed, may_call}
use Rattle.task_lang.specs.Limits.{each_of, each_in, inner_pass}
use Rattle.task_lang.specs.Tick.{Supply, state_of, tick, tick_by}

-- each service that is called may be called by this kind of owner
abbrev pub EffectsAllowed : OwnerKind → List Effect → Type 0
EffectsAllowed kind [] = Unit {0}
EffectsAllowed kind (effect.Out value ∷ rest) = EffectsAllowed kind rest
EffectsAllowed kind (effect.Service k ∷ rest) = (may_call kind k ≡ true) × EffectsAllowed kind rest

module _ (kind : OwnerKind) (supply : Supply) (vars : List ℤ) (cursors : List ℕ) where
  tick_allowed : (left : List Stmt) (front : Stmt-F Stmt) (rest : List Stmt)
      → is_allowed kind (map-Stmt Stmt Bool (each_of (is_allowed kind)) front) ≡ true
      → EffectsAllowed kind (tick_by supply (state_of left vars cursors []) front rest).effects
  tick_allowed left (Stmt-F.Service k) rest h = (h, tt)
  tick_allowed left front rest h = tt

  -- a tick of a list that is allowed calls what is allowed
  pub effects_allowed : (left : List Stmt) → each_in (is_allowed kind) left ≡ true
      → EffectsAllowed kind (tick supply (state_of left vars cursors [])).effects
  unfolding tick
  effects_allowed [] h = tt
  effects_allowed (front ∷ rest) h =
      let test = is_allowed {A = Bool} kind in
      let here = sym (fold_out-Stmt Bool (λ y. test y && inner_pass y) front)
      ∙ (and_parts (each_of test front) _ h).0 in
      tick_allowed (front ∷ rest) (out-Stmt front) rest
      (and_parts (test (map-Stmt Stmt Bool (each_of test) (out-Stmt front))) _ here).0
