use Rattle.std.proofs.Common.{map, append_assoc}
use Rattle.tt_world.specs.declared.config.Activation.{Activation}
use Rattle.tt_world.specs.declared.config.Enable.{Enable}
use Rattle.tt_world.specs.Points.{stringent_deadlines}
use Rattle.round_table.proofs.checks.offsets_in.Goals as goal

pub returns : goal.returns
returns c =
    let mode = c.args.mode.now in
    rw (
      c.in_ok-put_deadlines.ensures,
      c.in_ok-put_offsets-2.ensures,
      c.in_ok-put_offsets.ensures,
      c.new-offsets.ensures.items,
      c.as_slice-3.ensures,
      c.as_slice-2.ensures,
      c.as_slice.ensures,
    )
    (append_assoc (map (λ (row : Activation). row.offset) mode.activations)
    (map (λ (row : Enable). row.offset) mode.enables)
    (stringent_deadlines mode.activations))
