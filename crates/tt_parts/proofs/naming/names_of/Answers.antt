use Rattle.std.proofs.Common.{◌≡◌, ◌+◌, List, ◌∷◌, ◌++◌, drop, arith}
use Rattle.std.proofs.lemmas.Bool.Decides.{nat_tests}
use Rattle.std.proofs.lemmas.Grind.{common_steps}
use Rattle.std.proofs.lemmas.List.{map-append}
use Rattle.std.proofs.lemmas.List.Elements.{filter-append}
use Rattle.tt_base.specs.Names.{count_of}
use Rattle.tt_base.specs.declared.names.NameKind.{NameKind}
use Rattle.tt_base.specs.declared.names.NameEntry.{NameEntry}
use Rattle.tt_parts.specs.Located.{parts}
use Rattle.tt_parts.proofs.naming.names_of.Goals as goal

count_of-append : (kind : NameKind) (names more : List NameEntry)
    → count_of kind (names ++ more) ≡ count_of kind names + count_of kind more
count_of-append kind names more = grind (arith, common_steps, filter-append, map-append)

-- one more name of a kind is one more
count_of-first : (entry : NameEntry) (more : List NameEntry)
    → count_of entry.kind (entry ∷ more) ≡ count_of entry.kind more + 1
count_of-first entry more = grind (arith, common_steps, nat_tests)

pub add-requires : goal.add-requires
add-requires c =
    let entry = c.at-item.result.part in
    let more = parts (drop (c.loop-at.at-index + 1) c.args.entries.now) in
    let joined = count_of-append entry.kind c.loop-at.names (entry ∷ more) in
    let first = count_of-first entry more in
    grind (arith, common_steps, c.loop-at.invariant, c.requires entry.kind, joined, first)

pub returns : goal.returns
returns c = grind (arith, common_steps, c.loop-at.invariant)
