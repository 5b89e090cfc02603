use Rattle.std.proofs.Common.{◌≡◌, ◌+◌, ◌-◌, ◌<◌, refl, length, List, ap, ◌∙◌, arith}
use Rattle.std.specs.Prelude.{max}
use Rattle.tt_world.specs.declared.config.Activation.{Activation}
use Rattle.tt_world.specs.Rows.{row_of}
use Rattle.schedule_check.specs.Measures.{weight_of}
use Rattle.schedule_check.specs.Windows.{open_at, largest}
use Rattle.schedule_check.proofs.Largest.{larger, largest_more}
use Rattle.schedule_check.proofs.Sweeping.{few_rows, item_is, next_is, opens, place_rises, step, most_here}
use Rattle.schedule_check.proofs.windows.most_in.Goals as goal

pub overflow_add-opened : goal.overflow_add-opened
overflow_add-opened c =
    let few = few_rows c.args.parts.now c.requires.rules c.args.table.now c.requires.table
    (weight_of c.args.measure c.args.parts.now) in
    let rows = ap (λ (xs : List Activation). length xs) c.activations-row-items.ensures in
    let test = c.loop-row-test.true in
    let bounded = c.loop-row.invariant.bounded in
    let one = c.weight_of-opened.ensures.bounded in
    omega arith

pub loop-row-init : goal.loop-row-init
unfolding largest
loop-row-init c = record {
  opened = refl;
  bounded = omega arith;
  closed = refl;
  early = λ j a b. omega arith;
  most = refl;
  small = omega arith;
}

pub checked_between-closed-requires-clause-order : goal.checked_between-closed-requires-clause-order
checked_between-closed-requires-clause-order c =
    let parts = c.args.parts.now in
    let table = c.args.table.now in
    let w = weight_of c.args.measure parts in
    let j = c.loop-row.row-index in
    let rows = ap (λ (xs : List Activation). length xs) c.activations-row-items.ensures in
    let test = c.loop-row-test.true in
    let l : j < length table.mode.activations = omega arith in
    let row = item_is parts c.requires.rules table c.requires.table w j _ c.activations-row-items.result.now
    c.activations-row-items.ensures test in
    let next = next_is parts c.requires.rules table c.requires.table w j _ c.due-next.result row
    c.due-next.ensures.exact in
    let early = c.loop-row.invariant.early j (omega arith) l in
    omega arith

pub checked_between-closed-requires-clause-small : goal.checked_between-closed-requires-clause-small
checked_between-closed-requires-clause-small c =
    let parts = c.args.parts.now in
    let table = c.args.table.now in
    let w = weight_of c.args.measure parts in
    let j = c.loop-row.row-index in
    let rows = ap (λ (xs : List Activation). length xs) c.activations-row-items.ensures in
    let test = c.loop-row-test.true in
    let l : j < length table.mode.activations = omega arith in
    let row = item_is parts c.requires.rules table c.requires.table w j _ c.activations-row-items.result.now
    c.activations-row-items.ensures test in
    let next = next_is parts c.requires.rules table c.requires.table w j _ c.due-next.result row
    c.due-next.ensures.exact in
    let whole = step parts c.requires.rules table c.requires.table w j _ c.loop-row.opened c.weight_of-opened.result
    c.due-next.result.checks_to l row c.loop-row.invariant.opened c.weight_of-opened.ensures.exact next in
    let few = few_rows parts c.requires.rules table c.requires.table w in
    let bounded = c.loop-row.invariant.bounded in
    let one = c.weight_of-opened.ensures.bounded in
    omega arith

pub overflow_add-closed : goal.overflow_add-closed
overflow_add-closed c =
    let parts = c.args.parts.now in
    let table = c.args.table.now in
    let w = weight_of c.args.measure parts in
    let j = c.loop-row.row-index in
    let rows = ap (λ (xs : List Activation). length xs) c.activations-row-items.ensures in
    let test = c.loop-row-test.true in
    let l : j < length table.mode.activations = omega arith in
    let row = item_is parts c.requires.rules table c.requires.table w j _ c.activations-row-items.result.now
    c.activations-row-items.ensures test in
    let next = next_is parts c.requires.rules table c.requires.table w j _ c.due-next.result row
    c.due-next.ensures.exact in
    let whole = step parts c.requires.rules table c.requires.table w j _ c.loop-row.opened c.weight_of-opened.result
    c.due-next.result.checks_to l row c.loop-row.invariant.opened c.weight_of-opened.ensures.exact next in
    let few = few_rows parts c.requires.rules table c.requires.table w in
    let bounded = c.loop-row.invariant.bounded in
    let one = c.weight_of-opened.ensures.bounded in
    let closed = c.loop-row.invariant.closed in
    let more = c.checked_between-closed.ensures in
    omega arith

pub overflow_sub-opened : goal.overflow_sub-opened
overflow_sub-opened c =
    let parts = c.args.parts.now in
    let table = c.args.table.now in
    let w = weight_of c.args.measure parts in
    let j = c.loop-row.row-index in
    let rows = ap (λ (xs : List Activation). length xs) c.activations-row-items.ensures in
    let test = c.loop-row-test.true in
    let l : j < length table.mode.activations = omega arith in
    let row = item_is parts c.requires.rules table c.requires.table w j _ c.activations-row-items.result.now
    c.activations-row-items.ensures test in
    let next = next_is parts c.requires.rules table c.requires.table w j _ c.due-next.result row
    c.due-next.ensures.exact in
    let whole = step parts c.requires.rules table c.requires.table w j _ c.loop-row.opened c.weight_of-opened.result
    c.due-next.result.checks_to l row c.loop-row.invariant.opened c.weight_of-opened.ensures.exact next in
    let few = few_rows parts c.requires.rules table c.requires.table w in
    let bounded = c.loop-row.invariant.bounded in
    let one = c.weight_of-opened.ensures.bounded in
    let closed = c.loop-row.invariant.closed in
    let more = c.checked_between-closed.ensures in
    omega arith

pub loop-row-preserved : goal.loop-row-preserved
loop-row-preserved c =
    let parts = c.args.parts.now in
    let table = c.args.table.now in
    let w = weight_of c.args.measure parts in
    let j = c.loop-row.row-index in
    let rows = ap (λ (xs : List Activation). length xs) c.activations-row-items.ensures in
    let test = c.loop-row-test.true in
    let l : j < length table.mode.activations = omega arith in
    let row = item_is parts c.requires.rules table c.requires.table w j _ c.activations-row-items.result.now
    c.activations-row-items.ensures test in
    let next = next_is parts c.requires.rules table c.requires.table w j _ c.due-next.result row
    c.due-next.ensures.exact in
    let whole = step parts c.requires.rules table c.requires.table w j _ c.loop-row.opened c.weight_of-opened.result
    c.due-next.result.checks_to l row c.loop-row.invariant.opened c.weight_of-opened.ensures.exact next in
    let few = few_rows parts c.requires.rules table c.requires.table w in
    let bounded = c.loop-row.invariant.bounded in
    let one = c.weight_of-opened.ensures.bounded in
    let closed = c.loop-row.invariant.closed in
    let more = c.checked_between-closed.ensures in
    let now : c.max-most.result ≡ max c.loop-row.most
    ((c.loop-row.opened + c.weight_of-opened.result) - (c.loop-row.closed + c.checked_between-closed.result)) =
    c.max-most.ensures ∙ larger _ _ in
    let most = c.loop-row.invariant.small in
    record {
      opened = opens parts c.requires.rules table c.requires.table w j _ c.loop-row.opened c.weight_of-opened.result l
          row
          c.loop-row.invariant.opened c.weight_of-opened.ensures.exact;
      bounded = omega arith;
      closed = omega arith;
      early = λ i a b.
          let rise = place_rises parts c.requires.rules table c.requires.table w j i (omega arith) b in
          omega arith;
      most = now ∙ largest_more (λ i. open_at w parts table.mode (row_of table.mode i).offset) j c.loop-row.most _
          c.loop-row.invariant.most (omega arith);
      small = omega arith;
    }

pub returns-clause-exact : goal.returns-clause-exact
returns-clause-exact c =
    let rows = ap (λ (xs : List Activation). length xs) c.activations-row-items.ensures in
    let past = c.loop-row-test.false in
    let all = c.loop-row.auto.row-index-end in
    let end : c.loop-row.row-index ≡ length c.args.table.now.mode.activations = omega arith in
    c.loop-row.invariant.most
    ∙ ap (largest (λ j. open_at (weight_of c.args.measure c.args.parts.now) c.args.parts.now c.args.table.now.mode
    (row_of c.args.table.now.mode j).offset)) end
    ∙ most_here c.args.parts.now c.requires.rules c.args.table.now c.requires.table
    (weight_of c.args.measure c.args.parts.now)
