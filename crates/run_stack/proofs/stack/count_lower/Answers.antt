use Rattle.std.proofs.Common.{rules}
use Rattle.std.proofs.lemmas.List.Sums.{prefix_len-le-length}
use Rattle.run_stack.proofs.stack.count_lower.Goals as goal

pub returns-clause-within : goal.returns-clause-within
returns-clause-within c = search (rules, prefix_len-le-length)
