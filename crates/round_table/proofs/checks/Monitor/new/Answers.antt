use Rattle.std.proofs.Common.{List, ℕ, subst}
use Rattle.std.specs.List.Sorted.{IsPermutation}
use Rattle.std.proofs.lemmas.List.Sorted.{IsNonDecreasingBy-from_sort}
use Rattle.round_table.proofs.checks.Monitor.new.Goals as goal

pub invariant_of-result : goal.invariant_of-result
invariant_of-result c =
    let sorted = c.sort_unstable.new.self.items in
    record {
      all = subst (λ (offsets : List ℕ). IsPermutation offsets sorted) c.in_ok-offsets.ensures
          c.sort_unstable.ensures.permutation;
      ascending = IsNonDecreasingBy-from_sort (λ n. n) sorted c.sort_unstable.ensures.sorted;
    }
