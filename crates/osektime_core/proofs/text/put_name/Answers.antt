use Rattle.std.proofs.Common.{◌≡◌, ◌++◌, [], List, ℕ, Option, None, Some, ap, sym, ◌∙◌, append-nil}
use Rattle.std.specs.Prelude.{unwrap_or}
use Rattle.std.proofs.lemmas.Result.{on_ok_weaker}
use Rattle.tt_base.specs.declared.names.NameEntry.{NameEntry}
use Rattle.tt_base.specs.declared.names.Declared.{Declared}
use Rattle.tt_base.specs.Names.{get_name, name_of}
use Rattle.osektime_core.proofs.text.put_name.Goals as goal

-- the text of a thing's name, by what looking it up gives
found : (names : List NameEntry) (which : Declared) (looked_up : Option (List ℕ)) → looked_up ≡ get_name names which
    → unwrap_or looked_up [] ≡ name_of names which
unfolding name_of
found names which looked_up is = ap (λ o. unwrap_or o []) is

pub returns-in-Some : goal.returns-in-Some
returns-in-Some c =
    on_ok_weaker c.put_bytes.result (λ e. e ∙ ap (λ x. c.args.text.now.items ++ x) (c.as_bytes.ensures.text
    ∙ found c.args.names.now c.args.which (Some c.in-Some.name) (sym c.in-Some.is ∙ c.get.ensures))) c.put_bytes.ensures

pub returns-in-None : goal.returns-in-None
returns-in-None c =
    sym (append-nil c.args.text.now.items)
    ∙ ap (λ x. c.args.text.now.items ++ x) (found c.args.names.now c.args.which None (sym c.in-None.is ∙ c.get.ensures))
