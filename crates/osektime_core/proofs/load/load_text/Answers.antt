use Rattle.std.proofs.Common.{ℕ, List, ◌++◌, ap, ◌∙◌}
use Rattle.std.specs.Prelude.{codes}
use Rattle.tt_world.specs.Status.{status_by}
use Rattle.osektime_core.specs.LoadText.{end_line, load_text, number_line}
use Rattle.osektime_core.proofs.LoadTexts.{seven_joined}
use Rattle.osektime_core.proofs.load.load_text.Goals as goal

pub returns : goal.returns
unfolding load_text
returns c =
    let report = c.args.report.now in
    let rounds = c.in_ok-put_number-2.ensures
    ∙ ap (λ (n : ℕ). c.put_number.new.text.items ++ number_line (codes "rounds") n) c.from.ensures in
    let end = c.in_ok-put_end.ensures
    ∙ ap (λ (tasks : List (List ℕ)). c.put_bounded-2.new.text.items
    ++ end_line tasks (status_by report.end report.ticks)) c.as_slice.ensures.value in
    seven_joined _ _ _ _ _ _ _ _ _ _ _ _ _ _ _ c.new-text.ensures.items c.in_ok-put_number.ensures rounds
    c.in_ok-put_number-3.ensures c.in_ok-put_number-4.ensures c.in_ok-put_bounded.ensures c.in_ok-put_bounded-2.ensures
    end
