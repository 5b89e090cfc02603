use Rattle.std.proofs.Common.{ℕ, length, [], get_or, sym, ◌∙◌, arith}
use Rattle.isr_window.specs.Window.{is_next}
use Rattle.isr_window.proofs.Firsts.{found_below}
use Rattle.isr_window.proofs.gates.take_first.Goals as goal

pub take-requires : goal.take-requires
take-requires c =
    let lists = c.args.left.now in
    let below = found_below (λ (number : ℕ). is_next c.args.now (get_or lists number [])) 0
    (length lists) c.in_ok-number.number (sym c.first_at.ensures ∙ c.in_ok-number.was) in
    omega arith

pub put-requires : goal.put-requires
put-requires c =
    let lists = c.args.left.now in
    let below = found_below (λ (number : ℕ). is_next c.args.now (get_or lists number [])) 0
    (length lists) c.in_ok-number.number (sym c.first_at.ensures ∙ c.in_ok-number.was) in
    omega arith
