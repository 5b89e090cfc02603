use Rattle.std.proofs.Common.{rules, ◌∙◌}
use Rattle.trace_text.proofs.Fronts.{front_copied}
use Rattle.trace_text.proofs.line_buffer.LineBuffer.front_of_name.Goals as goal

pub returns : goal.returns
returns c =
    front_copied c.self.inside.bytes c.copy_from_slice.new.self _ _ c.self.inside.len _ c.args.len (search rules)
    (search rules) c.self.view_is (c.copy_from_slice.ensures.after ∙ c.as_slice.ensures)
