use Rattle.std.proofs.Common.{◌++◌, List, ap, ◌∙◌}
use Rattle.std.specs.Prelude.{map}
use Rattle.std.proofs.lemmas.Result.{IfOk-weaker}
use Rattle.tt_world.specs.declared.config.TaskDef.{TaskDef}
use Rattle.tt_world.specs.declared.config.IsrDef.{IsrDef}
use Rattle.tt_world.specs.declared.config.OsekDef.{OsekDef}
use Rattle.tt_world.specs.declared.config.OisrDef.{OisrDef}
use Rattle.stack_dispatch.proofs.Firsts.{four_joined}
use Rattle.stack_dispatch.proofs.programs.codes_of.Goals as goal

pub returns : goal.returns
returns c =
    IfOk-weaker c.add-4.result _ _
    (λ codes e. four_joined c.new-codes.result c.in_ok-codes.codes c.in_ok-codes-2.codes c.in_ok-codes-3.codes codes
    (map (λ (task : TaskDef). task.body) c.args.config.now.tasks)
    (map (λ (isr : IsrDef). isr.body) c.args.config.now.isrs)
    (map (λ (task : OsekDef). task.body) c.args.config.now.oseks)
    (map (λ (oisr : OisrDef). oisr.body) c.args.config.now.oisrs)
    c.new-codes.ensures
    (c.in_ok-codes.ensures ∙ ap
    (λ (xs : List TaskDef). c.new-codes.result ++ map (λ (task : TaskDef). task.body) xs) c.as_slice.ensures)
    (c.in_ok-codes-2.ensures ∙ ap
    (λ (xs : List IsrDef). c.in_ok-codes.codes ++ map (λ (isr : IsrDef). isr.body) xs) c.as_slice-2.ensures)
    (c.in_ok-codes-3.ensures ∙ ap
    (λ (xs : List OsekDef). c.in_ok-codes-2.codes ++ map (λ (task : OsekDef). task.body) xs) c.as_slice-3.ensures)
    (e ∙ ap (λ (xs : List OisrDef). c.in_ok-codes-3.codes ++ map (λ (oisr : OisrDef). oisr.body) xs)
    c.as_slice-4.ensures))
    c.add-4.ensures
