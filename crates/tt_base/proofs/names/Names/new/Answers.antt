use Rattle.tt_base.proofs.IndexLemmas.{IsIndexed-new}
use Rattle.tt_base.proofs.names.Names.new.Goals as goal

pub invariant_of-result : goal.invariant_of-result
invariant_of-result c = IsIndexed-new _ _ _ c.new.ensures.items (cc) c.new-9.ensures.empty
