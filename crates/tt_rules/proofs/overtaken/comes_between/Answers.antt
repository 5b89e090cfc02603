use Rattle.std.proofs.Common.{Bor, length, ap, sym, ◌∙◌}
use Rattle.std.specs.Prelude.{nat_lt}
use Rattle.tt_rules.specs.ActivationKeys.{Key, comes_between_key}
use Rattle.tt_rules.proofs.ActivationLemmas.{range-between, some-filter, none_passes, comes_between-none, key-upto, first-some}
use Rattle.tt_rules.proofs.overtaken.comes_between.Goals as goal

pub returns-then-deadline-offset : goal.returns-then-deadline-offset
returns-then-deadline-offset c =
    sym (none_passes (comes_between_key (c.args.mode, c.args.task, c.args.offset) c.args.deadline) c.args.keys.now.keys
    (λ other. comes_between-none c.args.mode c.args.task c.args.offset c.args.deadline other c.if-deadline-offset.true))

pub range-between-requires : goal.range-between-requires
range-between-requires c = key-upto c.args.mode c.args.task c.args.offset c.args.deadline c.if-deadline-offset.false

pub returns : goal.returns
returns c =
    c.is_some.ensures
    ∙ first-some (λ (key : Bor Key). key.now) c.next.result c.range-between.result c.next.new.self c.next.ensures.steps
    ∙ ap (λ keys. nat_lt 0 (length keys)) (c.range-between.ensures.between tt)
    ∙ sym (some-filter _ (comes_between_key (c.args.mode, c.args.task, c.args.offset) c.args.deadline)
    c.args.keys.now.keys (range-between c.args.mode c.args.task c.args.offset c.args.deadline))
