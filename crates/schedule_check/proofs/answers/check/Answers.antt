use Rattle.std.proofs.Common.{◌<◌, length, sym, ap, ◌∙◌, arith, below_more}
use Rattle.std.specs.Prelude.{is_some}
use Rattle.tt_world.specs.declared.config.ConfigParts.{ConfigParts}
use Rattle.schedule_check.specs.Responses.{late_entry}
use Rattle.schedule_check.proofs.Answering.{table_is, is_table, answer_no, answer_yes}
use Rattle.schedule_check.proofs.answers.check.Goals as goal

pub late_entry-requires : goal.late_entry-requires
late_entry-requires c =
    let config = c.args.config.now in
    let n = c.loop-number.number in
    let test = c.loop-number-test.true in
    let end = c.len-number-end.ensures ∙ ap (λ (p : ConfigParts). length p.modes) c.parts.ensures.same in
    let l : n < length config.modes = omega arith in
    is_table config n c.get.result.now l
    (table_is config n c.get.result.now c.args.tables.now c.requires l c.get.ensures)

pub returns-in-Some : goal.returns-in-Some
returns-in-Some c =
    let config = c.args.config.now in
    let n = c.loop-number.number in
    let test = c.loop-number-test.true in
    let end = c.len-number-end.ensures ∙ ap (λ (p : ConfigParts). length p.modes) c.parts.ensures.same in
    let l : n < length config.modes = omega arith in
    let is = table_is config n c.get.result.now c.args.tables.now c.requires l c.get.ensures in
    answer_no config n c.in-Some.entry l c.loop-number.invariant
    (sym (ap (λ table. late_entry config table.mode) is) ∙ sym c.late_entry.ensures ∙ c.in-Some.is)

pub loop-number-preserved : goal.loop-number-preserved
loop-number-preserved c =
    let config = c.args.config.now in
    let n = c.loop-number.number in
    let test = c.loop-number-test.true in
    let end = c.len-number-end.ensures ∙ ap (λ (p : ConfigParts). length p.modes) c.parts.ensures.same in
    let l : n < length config.modes = omega arith in
    let is = table_is config n c.get.result.now c.args.tables.now c.requires l c.get.ensures in
    below_more _ _ c.loop-number.invariant
    (ap (λ o. is_some o)
    (sym (ap (λ table. late_entry config table.mode) is) ∙ sym c.late_entry.ensures ∙ c.in_default.is))

pub returns : goal.returns
returns c =
    let config = c.args.config.now in
    let n = c.loop-number.number in
    let test = c.loop-number-test.false in
    let end = c.len-number-end.ensures ∙ ap (λ (p : ConfigParts). length p.modes) c.parts.ensures.same in
    answer_yes config n (omega arith) c.loop-number.invariant
