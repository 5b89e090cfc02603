use Rattle.std.proofs.Common.{ℕ, ◌<◌, length, get_or, [], sym, ◌∙◌, ap, arith}
use Rattle.isr_window.specs.Window.{is_at, is_next}
use Rattle.isr_window.proofs.Firsts.{passes_here, fails_here}
use Rattle.isr_window.proofs.queues.Queues.first_at.Goals as goal

pub returns-then-is_at : goal.returns-then-is_at
returns-then-is_at c =
    let lists = c.args.self.now in
    let here : c.loop-number.number < length lists = omega arith in
    sym (c.loop-number.invariant
    ∙ passes_here (λ (number : ℕ). is_next c.args.now (get_or lists number [])) c.loop-number.number (length lists) here
    (ap (is_at c.args.now) (sym c.next.ensures) ∙ sym c.is_at.ensures ∙ c.if-is_at.true))

pub loop-number-preserved : goal.loop-number-preserved
loop-number-preserved c =
    let lists = c.args.self.now in
    let here : c.loop-number.number < length lists = omega arith in
    c.loop-number.invariant
    ∙ fails_here (λ (number : ℕ). is_next c.args.now (get_or lists number [])) c.loop-number.number (length lists) here
    (ap (is_at c.args.now) (sym c.next.ensures) ∙ sym c.is_at.ensures ∙ c.if-is_at.false)
