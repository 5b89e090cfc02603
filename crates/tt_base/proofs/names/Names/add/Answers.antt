use Rattle.std.proofs.Common.{◌≡◌, [], ◌∷◌, ◌++◌, length, arith, ap, ◌∙◌, refl}
use Rattle.tt_base.specs.Names.{count_of, declared}
use Rattle.tt_base.specs.declared.names.NameEntry.{NameEntry}
use Rattle.tt_base.proofs.IndexLemmas.{len_of_kind, places_of-set_same, IsIndexed-same, IsIndexed-push, found-push}
use Rattle.tt_base.proofs.names.Names.add.Goals as goal

pub overflow_cast-len : goal.overflow_cast-len
overflow_cast-len c =
    let counted = c.len.ensures ∙ len_of_kind _ _ _ c.self.invariant c.args.kind _ _ c.index-row.ensures in
    let few = c.requires in
    omega (arith, counted, few, ap (count_of c.args.kind) c.self.view_is)

pub invariant_of-self-in_err-reserve-2 : goal.invariant_of-self-in_err-reserve-2
invariant_of-self-in_err-reserve-2 c =
    IsIndexed-same _ _ _ _ _ _ c.reserve.ensures.items (places_of-set_same _ _ _ _ c.reserve-2.ensures.items)
    refl c.self.invariant

pub invariant_of-self-in_err-keep_first : goal.invariant_of-self-in_err-keep_first
invariant_of-self-in_err-keep_first c =
    IsIndexed-same _ _ _ _ _ _ c.reserve.ensures.items (places_of-set_same _ _ _ _ c.reserve-2.ensures.items)
    c.in_err-keep_first.ensures.err c.self.invariant

-- the number is the count of the kind's names
numbered : (c : goal.After-push_reserved-2)
    → c.numbered-which.result ≡ declared c.args.kind (count_of c.args.kind c.self.inside.entries.items)
numbered c =
    let counted = c.len.ensures ∙ len_of_kind _ _ _ c.self.invariant c.args.kind _ _ c.index-row.ensures in
    c.numbered-which.ensures ∙ ap (declared c.args.kind) counted

pub returns-clause-which : goal.returns-clause-which
returns-clause-which c = numbered c ∙ ap (λ names. declared c.args.kind (count_of c.args.kind names)) c.self.view_is

pub invariant_of-self-2 : goal.invariant_of-self-2
invariant_of-self-2 c =
    let entry : NameEntry = record { kind = c.args.kind; name = c.args.name } in
    let reserved = places_of-set_same _ _ _ _ c.reserve-2.ensures.items in
    let indexed = IsIndexed-same _ _ _ _ _ c.self.inside.index refl reserved refl c.self.invariant in
    let last = c.len-2.ensures ∙ c.reserve.new.self.ok.0 ∙ ap length c.reserve.ensures.items in
    IsIndexed-same _ _ _ _ c.keep_first.new.index _
    (c.push_reserved-2.ensures.items ∙ ap (λ names. names ++ entry ∷ []) c.reserve.ensures.items) refl refl
    (IsIndexed-push _ _ c.self.inside.index c.keep_first.new.index entry indexed _ _ _ c.index-row.ensures
    c.len-2.result last c.push_reserved.ensures.items
    (found-push _ _ c.self.inside.index c.keep_first.new.index entry indexed c.numbered-which.result (numbered c)
    c.in_ok-keep_first.ensures.ok))
