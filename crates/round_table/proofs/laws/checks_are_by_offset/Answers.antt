use Rattle.std.proofs.Common.{◌<◌, ◌+◌, length, ap, arith}
use Rattle.std.proofs.lemmas.List.FromFn.{get_or-range_with_len, length-range_with_len}
use Rattle.std.proofs.lemmas.List.Kept.{AllPairs-filter}
use Rattle.tt_world.specs.Rows.{no_row}
use Rattle.round_table.specs.DueRows.{entries_of}
use Rattle.round_table.specs.TableLaws.{offset_at, point_at}
use Rattle.round_table.proofs.RowOrder.{activation_pairs, increases}
use Rattle.round_table.proofs.laws.checks_are_by_offset.Goals as goal

pub returns : goal.returns
returns _ c mode rules is_due =
    increases (offset_at mode) (λ entry later. offset_at mode entry < offset_at mode later) 0 _
    (λ entry later less. less)
    (AllPairs-filter (λ entry later. offset_at mode entry < offset_at mode later)
    (λ entry. is_due (point_at mode entry)) (entries_of mode)
    (λ i j d lt l.
    let n = length mode.activations in
    let within : j < n = omega (arith, length-range_with_len 0 n) in
    let one = ap (offset_at mode) (get_or-range_with_len 0 n i d (omega arith)) in
    let other = ap (offset_at mode) (get_or-range_with_len 0 n j d within) in
    let up = (activation_pairs 0 mode.activations rules.ascending).1 (0 + i) (0 + j) no_row (omega arith)
    (omega arith) in
    omega arith))
