use Rattle.std.proofs.Common.{◌≡◌, ℕ, true, List, [], ◌∷◌, rules, refl}
use Rattle.tt_base.specs.Name.{is_name}
use Rattle.tt_base.proofs.Padding.{held, padded}
use Rattle.tt_base.proofs.name.Name.new.Goals as goal

abbrev sixteen : List ℕ
sixteen = 0 ∷ 0 ∷ 0 ∷ 0 ∷ 0 ∷ 0 ∷ 0 ∷ 0 ∷ 0 ∷ 0 ∷ 0 ∷ 0 ∷ 0 ∷ 0 ∷ 0 ∷ 0 ∷ []

pub invariant_of-result : goal.invariant_of-result
invariant_of-result c =
    let named : is_name c.args.text.now ≡ true = cc in
    let copied : c.copy_from_slice.new.self ≡ c.args.text.now = search (rules, c.copy_from_slice.ensures.after) in
    rw copied (padded c.args.text.now sixteen refl named)

pub returns : goal.returns
returns c =
    let named : is_name c.args.text.now ≡ true = cc in
    let copied : c.copy_from_slice.new.self ≡ c.args.text.now = search (rules, c.copy_from_slice.ensures.after) in
    (named, rw copied (held c.args.text.now sixteen refl named))
