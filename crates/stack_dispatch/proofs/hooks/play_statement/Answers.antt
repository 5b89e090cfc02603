use Rattle.std.proofs.Common.{rules, ◌≡◌, List, [], ◌∷◌, ℤ, w32, to_z, of_z, ap, sym, ◌∙◌, subst}
use Rattle.std.specs.Prelude.{slice_set}
use Rattle.task_lang.specs.Value.{value_of}
use Rattle.tt_base.specs.declared.event.Event.{Event}
use Rattle.tt_base.specs.declared.event.Event.TheVariants.{Out}
use Rattle.stack_dispatch.specs.Told.{Tells}
use Rattle.stack_dispatch.proofs.Playing.{set_by, out_by, with_vars}
use Rattle.stack_dispatch.proofs.hooks.play_statement.Goals as goal

pub returns-in-Set-clause-env : goal.returns-in-Set-clause-env
returns-in-Set-clause-env g c =
    let env = c.args.env.now in
    let z : to_z w32 (of_z w32 c.value-assigned.result) ≡ c.value-assigned.result = search rules in
    let value = z ∙ c.value-assigned.ensures ∙ ap (λ (vars : List ℤ). value_of vars c.in-Set.expr) c.vars.ensures in
    c.set_var.ensures
    ∙ ap (with_vars env) (ap (slice_set env.vars c.in-Set.var.0) value
    ∙ sym (set_by env.vars c.args.stmt.now c.in-Set.var c.in-Set.expr c.in-Set.is))

pub returns-in-Out-clause-told : goal.returns-in-Out-clause-told
returns-in-Out-clause-told g c =
    let env = c.args.env.now in
    let z : to_z w32 (of_z w32 c.value.result) ≡ c.value.result = search rules in
    let value = z ∙ c.value.ensures ∙ ap (λ (vars : List ℤ). value_of vars c.in-Out.expr) c.vars-in-Out.ensures in
    subst (λ (es : List Event). Tells g.R.Recorder c.args.log.now es c.tell.new.self)
    (ap (λ v. Out c.args.at c.args.hook v ∷ []) value
    ∙ sym (out_by c.args.at c.args.hook env.vars c.args.stmt.now c.in-Out.expr c.in-Out.is))
    c.tell.ensures
