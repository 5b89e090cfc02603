use Rattle.std.proofs.Common.{suc, ◌≡◌, ◌++◌, [], ◌∷◌, ap, sym, ◌∙◌, rules}
use Rattle.round_table.specs.declared.due.Due.{Due}
use Rattle.round_table.specs.Below.{below}
use Rattle.round_table.proofs.Limits.{past_free}
use Rattle.round_table.proofs.MergedPoints.{places_first, fewer, one_more, complete}
use Rattle.round_table.proofs.merging.CheckedMode.expiry_points.Goals as goal

pub loop-offset-init : goal.loop-offset-init
unfolding below
loop-offset-init c = (0, places_first c.args.self.now, c.new-points.ensures.items)

pub loop-offset-smaller : goal.loop-offset-smaller
loop-offset-smaller c =
    let now = c.loop-offset.invariant in
    fewer c.args.self.now c.next_offset.ensures.order now.0 c.loop-offset.places now.1 c.in-Some.offset
    (sym c.in-Some.ensures.next)
    c.places_after-after.result c.places_after-after.ensures

pub loop-offset-preserved : goal.loop-offset-preserved
loop-offset-preserved c =
    let now = c.loop-offset.invariant in
    let place = c.in-Some.offset in
    let pushed : c.push.new.self.items
    ≡ c.loop-offset.points.items ++ record { offset = place; due = c.due_between-due.result } ∷ [] =
    search rules in (
      suc place,
      c.places_after-after.ensures,
      pushed
          ∙ ap (λ (due : Due). c.loop-offset.points.items ++ record { offset = place; due = due } ∷ [])
          c.due_between-due.ensures
          ∙ one_more c.args.self.now c.next_offset.ensures.order now.0 c.loop-offset.places now.1 place
          (sym c.in-Some.ensures.next)
          c.places_after-after.result c.places_after-after.ensures 0 c.loop-offset.points.items now.2,
    )

pub returns : goal.returns
returns c limit within =
    let now = c.loop-offset.invariant in
    now.2 ∙ complete c.args.self.now c.next_offset.ensures.order now.0 c.loop-offset.places now.1 limit
    (past_free limit c.args.self.now.mode within)
    (sym c.in_default.is ∙ c.next_offset.ensures.next)
