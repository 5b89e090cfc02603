use Rattle.std.proofs.Common.{◌≡◌, ◌++◌, ◌+◌, ◌-◌, ◌≤◌}
use Rattle.std.specs.Prelude.{unwrap_or, IfSome}
use Rattle.osektime_core.specs.TableText.{lines_at, texts_below}
use Rattle.osektime_core.proofs.table.put_offsets.Given as goal

-- the lines of the offsets before the next one, of all where there is none
abbrev pub invariant-loop-next : goal.invariant-loop-next
invariant-loop-next l = record {
  text : l.text.items ≡ l.fn.text.items
      ++ texts_below (lines_at l.names l.table.mode) (unwrap_or l.next (l.table.limit + 1));
  within : IfSome l.next (λ offset. offset ≤ l.table.limit);
}

abbrev pub decreases-loop-next : goal.decreases-loop-next
decreases-loop-next l = (l.table.limit + 1) - unwrap_or l.next (l.table.limit + 1)
