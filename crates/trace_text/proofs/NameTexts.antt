-- The text of a thing's name.
use Rattle.std.proofs.Common.{◌≡◌, List, [], ℕ, Option, ap}
use Rattle.std.specs.Prelude.{unwrap_or}
use Rattle.tt_base.specs.declared.names.NameEntry.{NameEntry}
use Rattle.tt_base.specs.declared.names.Declared.{Declared}
use Rattle.tt_base.specs.Names.{get_name, name_of}

-- by what the look-up gives
pub found : (names : List NameEntry) (which : Declared) (looked_up : Option (List ℕ)) → looked_up ≡ get_name names which
    → unwrap_or looked_up [] ≡ name_of names which
unfolding name_of
found names which looked_up is = ap (λ o. unwrap_or o []) is
