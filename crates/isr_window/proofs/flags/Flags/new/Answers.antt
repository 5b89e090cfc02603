use Rattle.std.proofs.Common.{ap, ◌∙◌, ◌*◌}
use Rattle.std.proofs.lemmas.List.{take-replicate}
use Rattle.isr_window.proofs.Counted.{set_in_new}
use Rattle.isr_window.proofs.flags.Flags.new.Goals as goal

pub invariant_of-result : goal.invariant_of-result
invariant_of-result c = record {
  few = c.requires;
  counted = ap (λ n. c.args.len * n) c.from.ensures ∙ set_in_new c.args.len 16 c.args.value c.requires;
}

pub returns : goal.returns
returns c = take-replicate c.args.len 16 c.args.value c.requires
