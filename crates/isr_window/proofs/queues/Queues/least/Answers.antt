use Rattle.std.proofs.Common.{◌<◌, ◌≤◌, ◌+◌, length, drop, ap, sym, ◌∙◌, arith}
use Rattle.std.proofs.lemmas.List.{drop_all}
use Rattle.isr_window.specs.Window.{lesser, least_next}
use Rattle.isr_window.proofs.Firsts.{least_more, lesser-none}
use Rattle.isr_window.proofs.queues.Queues.least.Goals as goal

pub loop-number-preserved : goal.loop-number-preserved
loop-number-preserved c =
    let lists = c.args.self.now in
    let here : c.loop-number.number < length lists = omega arith in
    ap (λ least. lesser least (least_next (drop (c.loop-number.number + 1) lists)))
    (c.lesser-least.ensures ∙ ap (lesser c.loop-number.least) c.next.ensures)
    ∙ least_more c.loop-number.least lists c.loop-number.number here
    ∙ c.loop-number.invariant

pub returns : goal.returns
unfolding least_next
returns c =
    let lists = c.args.self.now in
    let all : length lists ≤ c.loop-number.number = omega arith in
    sym (lesser-none c.loop-number.least)
    ∙ ap (λ ls. lesser c.loop-number.least (least_next ls)) (sym (drop_all c.loop-number.number lists all))
    ∙ c.loop-number.invariant
