use Rattle.std.proofs.Common.{◌<◌, false, length, get_or, sym, ap, ◌∙◌, arith, Bool}
use Rattle.std.specs.Prelude.{◌&&◌, not}
use Rattle.isr_window.specs.Numbers.{is_ready_in}
use Rattle.isr_window.proofs.Firsts.{passes_here, fails_here, none_passes}
use Rattle.isr_window.proofs.gates.first_ready.Goals as goal

pub returns-then-are_clear : goal.returns-then-are_clear
returns-then-are_clear c =
    let held = c.args.held.now in
    let enabled = c.args.enabled.now in
    let busy = c.args.busy.now in
    sym (none_passes (is_ready_in held enabled busy) 0 (length held)
    (λ number. ap (λ (flag : Bool). flag && (get_or enabled number false && not (get_or busy number false)))
    (c.are_clear.ensures c.if-are_clear.true number)))

pub returns-then-is_ready : goal.returns-then-is_ready
returns-then-is_ready c =
    let held = c.args.held.now in
    let here : c.loop-number.number < length held = omega arith in
    sym (c.loop-number.invariant
    ∙ passes_here (is_ready_in held c.args.enabled.now c.args.busy.now) c.loop-number.number (length held) here
    (sym c.is_ready.ensures ∙ c.if-is_ready.true))

pub loop-number-preserved : goal.loop-number-preserved
loop-number-preserved c =
    let held = c.args.held.now in
    let here : c.loop-number.number < length held = omega arith in
    c.loop-number.invariant
    ∙ fails_here (is_ready_in held c.args.enabled.now c.args.busy.now) c.loop-number.number (length held) here
    (sym c.is_ready.ensures ∙ c.if-is_ready.false)
