use Rattle.std.proofs.Common.{◌<◌, ◌∙◌, ap, sym, length, arith}
use Rattle.tt_base.specs.declared.names.NameKind.TheVariants as Kind
use Rattle.tt_base.specs.Names.{get_name, names_of}
use Rattle.osektime_core.proofs.LoadTexts.{name_more, none_within}
use Rattle.osektime_core.proofs.load.task_names.Goals as goal
use Rattle.osektime_core.proofs.load.task_names.Goals.{in-Some+in_ok-push, in_default}

pub loop-number-preserved : goal.loop-number-preserved
unfolding get_name
loop-number-preserved c =
    let names = names_of Kind.Task c.args.names.now in
    let within : c.loop-number.number < length names = omega arith in
    elim c.match-get.branch [
      | in-Some+in_ok-push w ↦
          name_more names c.loop-number.list.items _ c.loop-number.number w.in-Some.name within
          (sym c.get.ensures ∙ w.in-Some.is) c.loop-number.invariant
          (ap (λ list. list.items) w.list-is ∙ w.in_ok-push.ensures.items)
      | in_default w ↦
          absurd (none_within names c.loop-number.number within (sym c.get.ensures ∙ w.in_default.is))
    ]
