use Rattle.std.proofs.Common.{◌≡◌, ℕ, Bool, true, false, Option, None, Some, sym, ap, arith}
use Rattle.std.specs.Prelude.{is_none, is_some, not}
use Rattle.tt_world.specs.Rows.{row_of}
use Rattle.schedule_check.specs.Responses.{response, late_entry}
use Rattle.schedule_check.proofs.Leasts.{least_is, least_none}
use Rattle.schedule_check.proofs.answers.late_entry.Goals as goal

-- a result that is none
none_here : (o : Option ℕ) (b : Bool) → is_some o ≡ not b → b ≡ true → (other : Option ℕ) → o ≡ other
    → is_none other ≡ true
none_here None b e t other same = ap (λ q. is_none q) (sym same)
none_here (Some x) true e t other same = cc
none_here (Some x) false e t other same = cc

pub returns-then-is_none : goal.returns-then-is_none
unfolding late_entry
returns-then-is_none c =
    let n = c.entries-entry-end.ensures in
    let lt = c.loop-entry-test.true in
    sym (least_is (λ entry. is_none
    (response c.args.config.now c.args.table.now.mode (row_of c.args.table.now.mode entry)))
    0 _ c.loop-entry.entry (omega arith) (omega arith)
    (none_here c.response.result c.is_none.result c.is_none.ensures c.if-is_none.true _ c.response.ensures)
    (λ j a b. c.loop-entry.invariant j b))

pub returns : goal.returns
unfolding late_entry
returns c =
    let n = c.entries-entry-end.ensures in
    let ge = c.loop-entry-test.false in
    sym (least_none (λ entry. is_none
    (response c.args.config.now c.args.table.now.mode (row_of c.args.table.now.mode entry)))
    0 _ (λ j a b. c.loop-entry.invariant j (omega arith)))
