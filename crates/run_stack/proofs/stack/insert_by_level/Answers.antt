use Rattle.std.proofs.Common.{ap, ◌∙◌}
use Rattle.std.specs.List.{insert, prefix_len}
use Rattle.run_stack.specs.Frames.{is_lower}
use Rattle.run_stack.proofs.Lists.{by_level_is}
use Rattle.run_stack.proofs.stack.insert_by_level.Goals as goal

pub returns : goal.returns
returns c =
    c.insert.ensures.items
    ∙ ap (λ place. insert c.args.frames.now.items place c.args.new)
    (c.count_lower-place.ensures.value ∙ ap (prefix_len (is_lower c.args.new.level)) c.as_slice.ensures.value)
    ∙ by_level_is c.args.new c.args.frames.now.items
