use Rattle.std.proofs.Common.{◌∙◌, ap}
use Rattle.std.specs.Prelude.{slice_get, option_and_then}
use Rattle.tt_base.specs.NameIndex.{name_at}
use Rattle.tt_base.specs.Names.{get_name, names_of, kind_of, number_of}
use Rattle.tt_base.proofs.IndexLemmas.{list_of_kind, name_of_number}
use Rattle.tt_base.proofs.names.Names.get.Goals as goal

pub returns : goal.returns
unfolding get_name
returns c =
    let names = c.self.inside.entries.items in
    let number = c.number.result in
    c.name_of_number.ensures
    ∙ ap (λ es. option_and_then (name_at es) (slice_get c.deref-2.result.now number)) c.deref.ensures.value
    ∙ ap (λ ps. option_and_then (name_at names) (slice_get ps number)) c.deref-2.ensures.value
    ∙ name_of_number names _ _ number (list_of_kind names _ _ c.self.invariant c.kind.result _ _ c.index.ensures)
    ∙ ap (λ n. slice_get (names_of c.kind.result names) n) c.number.ensures
    ∙ ap (λ k. slice_get (names_of k names) (number_of c.args.which)) c.kind.ensures
    ∙ ap (λ es. slice_get (names_of (kind_of c.args.which) es) (number_of c.args.which)) c.self.view_is
