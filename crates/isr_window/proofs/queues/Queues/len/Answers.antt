use Rattle.std.proofs.Common.{length, sym, ap, ◌∙◌}
use Rattle.isr_window.proofs.Taken.{length_untaken}
use Rattle.isr_window.proofs.queues.Queues.len.Goals as goal

pub returns : goal.returns
returns c =
    ap length c.as_slice.ensures
    ∙ sym (length_untaken c.self.inside.taken c.self.inside.lists)
    ∙ ap length c.self.view_is
