use Rattle.std.proofs.Common.{◌≡◌, ap}
use Rattle.tt_world.specs.declared.config.Activation.{Activation}
use Rattle.tt_world.specs.Rows.{row_of}
use Rattle.schedule_check.specs.TablesOf.{IsTableOf}
use Rattle.schedule_check.proofs.Rows.{row_bounds}
use Rattle.osektime_core.proofs.check.put_response.Goals as goal

pub demand-requires-clause-later : goal.demand-requires-clause-later
demand-requires-clause-later c =
    let table = c.args.table.now in
    let of : IsTableOf c.args.config.now table =
    record { mode = c.args.mode.0; within = c.requires.mode; is = c.requires.table } in
    let bounds = (row_bounds c.args.config.now c.requires.rules table of c.args.entry c.requires.entry).0 in
    let same : c.activation-deadline.result.deadline ≡ (row_of table.mode c.args.entry).deadline =
    ap (λ (row : Activation). row.deadline) c.activation-deadline.ensures in
    rw same bounds
