use Rattle.std.proofs.Common.{ℕ, suc, ◌≡◌, arith, rules}
use Rattle.std.specs.Prelude.{nat_le, nat_lt}
use Rattle.std.proofs.lemmas.Bool.Decides.{nat_tests}
use Rattle.std.proofs.lemmas.List.Sorted.{IsPartitionPoint-from_clause, IsPartitionedBy-ltb}
use Rattle.round_table.proofs.Cutting.{cut_from}
use Rattle.round_table.proofs.rows.up_to.Goals as goal

pub returns : goal.returns
returns g c =
    cut_from (λ row. nat_lt (g.T.Row.at row) (suc c.args.offset)) c.args.rows.now _ c.partition_point.ensures.bound
    (IsPartitionPoint-from_clause
    (λ row. nat_lt (g.T.Row.at row) (suc c.args.offset)) c.args.rows.now _ c.partition_point.ensures.partitioned
    (IsPartitionedBy-ltb g.T.Row.at c.args.rows.now (suc c.args.offset) c.requires) (λ a r f k. search (rules, same)))
  where
    same : (n m : ℕ) → nat_le n m ≡ nat_lt n (suc m)
    same n m = grind (arith, nat_tests)
