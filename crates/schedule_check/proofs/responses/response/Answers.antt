use Rattle.std.proofs.Common.{◌+◌, ap, sym, ◌∙◌, arith}
use Rattle.tt_world.specs.declared.config.Activation.{Activation}
use Rattle.schedule_check.specs.Counts.{Window}
use Rattle.schedule_check.specs.Demand.{demand}
use Rattle.schedule_check.specs.Responses.{response}
use Rattle.schedule_check.proofs.Rows.{row_bounds}
use Rattle.schedule_check.proofs.Searching.{none_later, found, nothing}
use Rattle.schedule_check.proofs.responses.response.Goals as goal

pub returns-then-demand-end : goal.returns-then-demand-end
returns-then-demand-end c =
    let config = c.args.config.now in
    let mode = c.args.table.now.mode in
    let row = c.activation-row.result in
    let end = c.loop-end.end in
    let is = c.demand-demand.ensures
    ∙ ap (λ (w : Window). demand w.parts w.mode w.from w.to)
    (c.extend.ensures ∙ ap (λ (w : Window). record w { to = end }) c.loop-end.invariant.window) in
    found config mode row end c.demand-demand.result c.loop-end.invariant.none
    c.loop-end.invariant.later c.loop-end-test.true is c.if-demand-end.true
    ∙ ap (response config mode) c.activation-row.ensures

pub returns-then-demand-row : goal.returns-then-demand-row
returns-then-demand-row c =
    let config = c.args.config.now in
    let mode = c.args.table.now.mode in
    let row = c.activation-row.result in
    let end = c.loop-end.end in
    let is = c.demand-demand.ensures
    ∙ ap (λ (w : Window). demand w.parts w.mode w.from w.to)
    (c.extend.ensures ∙ ap (λ (w : Window). record w { to = end }) c.loop-end.invariant.window) in
    let over = c.if-demand-end.false in
    let past = c.if-demand-row.true in
    let later = c.loop-end.invariant.later in
    let early = c.loop-end-test.true in
    nothing config mode row (row.offset + c.demand-demand.result)
    (none_later config mode row end c.demand-demand.result c.loop-end.invariant.none later is over)
    (omega arith) (omega arith)
    ∙ ap (response config mode) c.activation-row.ensures

pub loop-end-preserved : goal.loop-end-preserved
loop-end-preserved c =
    let config = c.args.config.now in
    let mode = c.args.table.now.mode in
    let row = c.activation-row.result in
    let end = c.loop-end.end in
    let moved = c.extend.ensures ∙ ap (λ (w : Window). record w { to = end }) c.loop-end.invariant.window in
    let is = c.demand-demand.ensures ∙ ap (λ (w : Window). demand w.parts w.mode w.from w.to) moved in
    let to = ap (λ (w : Window). w.to) moved in
    let over = c.if-demand-end.false in
    let later = c.loop-end.invariant.later in
    record {
      later = omega arith;
      grown = omega arith;
      window = moved ∙ ap (λ t. record { parts = config; mode = mode; from = row.offset; to = t }) (sym to);
      none = none_later config mode row end c.demand-demand.result c.loop-end.invariant.none later is over;
    }

pub returns : goal.returns
returns c =
    let config = c.args.config.now in
    let mode = c.args.table.now.mode in
    let bounds = row_bounds config c.parts.ensures.rules c.args.table.now c.requires.table c.args.entry
    c.requires.entry in
    let offset = ap (λ (r : Activation). r.offset) c.activation-row.ensures in
    let deadline = ap (λ (r : Activation). r.deadline) c.activation-row.ensures in
    let early = bounds.0 in
    let past = c.loop-end-test.false in
    nothing config mode c.activation-row.result c.loop-end.end c.loop-end.invariant.none (omega arith) (omega arith)
    ∙ ap (response config mode) c.activation-row.ensures
