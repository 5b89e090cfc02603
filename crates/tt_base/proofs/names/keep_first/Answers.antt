use Rattle.std.proofs.Common.{◌≡◌, None, arith}
use Rattle.std.proofs.lemmas.Grind.{common_steps}
use Rattle.std.specs.HashMap.{get}
use Rattle.std.specs.Str.{bytes_eq}
use Rattle.tt_base.proofs.IndexLemmas.{KeepsFirst-new}
use Rattle.tt_base.proofs.names.keep_first.Goals as goal

pub returns-clause-ok : goal.returns-clause-ok
returns-clause-ok c =
    let absent : get bytes_eq c.args.index.now c.args.name ≡ None = grind (arith, common_steps) in
    KeepsFirst-new c.args.index.now c.insert.new.self c.args.name c.args.which absent c.in_ok-insert.ensures.updates
