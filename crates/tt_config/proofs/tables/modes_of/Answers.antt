use Rattle.std.proofs.Common.{◌≡◌, ℕ, List, [], ◌∷◌, map, refl, ap, ◌∙◌, arith, rules}
use Rattle.std.specs.Prelude.{flat_map}
use Rattle.std.proofs.lemmas.Bool.Decides.{nat_tests}
use Rattle.std.proofs.lemmas.Grind.{flat_map-append}
use Rattle.std.proofs.lemmas.Simd.{map-map}
use Rattle.tt_parts.specs.declared.entries.Entry.{Entry}
use Rattle.tt_parts.specs.declared.entries.Entry.TheVariants as entry
use Rattle.tt_rules.specs.Order.{ascending, below}
use Rattle.tt_rules.specs.Tables.{activation_in, enable_in, is_earlier, is_enabled_earlier, mode_with}
use Rattle.tt_config.specs.Lists.{at_number, given}
use Rattle.tt_config.specs.Tables.{activation_of, enable_of, entry_place, mode_of_entries}
use Rattle.tt_parts.specs.Located.{parts}
use Rattle.tt_config.proofs.tables.modes_of.Goals as goal

module _ (mode : ℕ) where
  own_activation : (x : Entry) → flat_map activation_of (at_number mode (entry_place x)) ≡ activation_in mode x
  own_activation (entry.Activates m a) = grind (arith, nat_tests)
  own_activation (entry.Enables m e) = grind (arith, nat_tests)

  own_enable : (x : Entry) → flat_map enable_of (at_number mode (entry_place x)) ≡ enable_in mode x
  own_enable (entry.Activates m a) = grind (arith, nat_tests)
  own_enable (entry.Enables m e) = grind (arith, nat_tests)

  own : {B : Type 0} (f g : Entry → List B) → ((x : Entry) → flat_map f (at_number mode (entry_place x)) ≡ g x)
      → (xs : List Entry) → flat_map f (given entry_place xs mode) ≡ flat_map g xs
  own f g same [] = refl
  own f g same (x ∷ xs) = grind (arith, flat_map-append, same x, own f g same xs)

  own_table : (xs : List Entry) → mode_of_entries (given entry_place xs mode) ≡ mode_with xs mode
  own_table xs =
      let acts = own activation_of (activation_in mode) own_activation xs in
      let ens = own enable_of (enable_in mode) own_enable xs in
      λ i. record { activations = ascending is_earlier (acts i); enables = ascending is_enabled_earlier (ens i) }

pub returns : goal.returns
returns c =
    let xs = parts c.args.entries.now in
    c.in_ok-tables.ensures ∙ ap (map mode_of_entries) (c.in_ok-lists.ensures entry_place (search rules))
    ∙ map-map mode_of_entries (given entry_place xs) (below c.args.modes)
    ∙ (λ i. map (λ mode. own_table mode xs i) (below c.args.modes))
