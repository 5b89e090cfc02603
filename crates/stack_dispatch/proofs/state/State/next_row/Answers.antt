use Rattle.std.proofs.Common.{ℕ, ◌+◌, Some, None, ap, sym, ◌∙◌, subst, arith}
use Rattle.std.specs.Prelude.{min}
use Rattle.tt_world.specs.declared.config.ModeDef.{ModeDef}
use Rattle.round_table.specs.ExpiryPoints.{IsFree}
use Rattle.round_table.specs.TableRows.{TableRows}
use Rattle.stack_dispatch.specs.State.{RunState}
use Rattle.stack_dispatch.proofs.Foreseen.{rows_free}
use Rattle.stack_dispatch.proofs.NextDue.{row_or_most}
use Rattle.stack_dispatch.proofs.state.State.next_row.Goals as goal

pub returns-in-Some-clause-free : goal.returns-in-Some-clause-free
returns-in-Some-clause-free c =
    let mode = ap (λ (t : TableRows). t.mode) c.table-table.ensures in
    let here = c.offset.ensures in
    let start = c.start.ensures.value ∙ ap (λ (z : RunState). z.world.start) c.self.view_is in
    rows_free c.args.config.now c.args.self.now.world (Some c.in-Some.offset) c.saturating_add.result
    (λ between l m. subst (λ (d : ModeDef). IsFree between d) mode (c.in-Some.ensures.free between (omega arith) m))
    (omega arith)

pub returns-in-None-clause-free : goal.returns-in-None-clause-free
returns-in-None-clause-free c =
    let mode = ap (λ (t : TableRows). t.mode) c.table-table.ensures in
    let here = c.offset.ensures in
    rows_free c.args.config.now c.args.self.now.world None _
    (λ between l m. subst (λ (d : ModeDef). IsFree between d) mode (c.in-None.ensures.free between (omega arith) m)) tt

pub returns-in-Some-clause-later : goal.returns-in-Some-clause-later
returns-in-Some-clause-later c =
    let here = c.offset.ensures in
    let ahead = c.in-Some.ensures.ahead in
    let start = c.start.ensures.value ∙ ap (λ (z : RunState). z.world.start) c.self.view_is in
    omega (arith, here, ahead.0, start, c.requires.started, c.requires.number, c.saturating_add.ensures)

pub returns-in-Some-clause-due : goal.returns-in-Some-clause-due
returns-in-Some-clause-due c = λ s.
    let mode = ap (λ (t : TableRows). t.mode) c.table-table.ensures in
    let start = c.start.ensures.value ∙ ap (λ (z : RunState). z.world.start) c.self.view_is in
    row_or_most c.args.config.now s c.args.self.now.world c.table-table.result.now c.offset.result c.in-Some.offset
    c.saturating_add.result 18446744073709551615 mode (sym c.in-Some.ensures.least)
    (c.saturating_add.ensures ∙ ap (λ (n : ℕ). min (n + c.in-Some.offset) 18446744073709551615) start)
