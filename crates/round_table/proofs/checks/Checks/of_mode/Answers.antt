use Rattle.std.proofs.Common.{rules}
use Rattle.std.proofs.lemmas.List.Sorted.{IsNonDecreasingBy-from_sort_by_key, answers_always}
use Rattle.round_table.specs.declared.checks.Check.{Check}
use Rattle.round_table.proofs.CheckOrder.{in_order}
use Rattle.round_table.proofs.checks.Checks.of_mode.Goals as goal

pub returns-clause-due : goal.returns-clause-due
returns-clause-due c = record {
  ascending = IsNonDecreasingBy-from_sort_by_key (λ (check : Check). check.offset) _ c.in_ok-sort_by_key.ensures.sorted
      (λ a r q k. search rules);
  entries =
      in_order c.args.mode.now _ _ c.in_ok-checks.ensures.due
      (c.in_ok-sort_by_key.ensures.stable (λ (check : Check). check.offset) (answers_always _ _ _ (λ f a r g h. search rules)));
}
