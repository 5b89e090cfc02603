use Rattle.std.proofs.Common.{◌≡◌, take}
use Rattle.std.specs.Prelude.{flat_map}
use Rattle.tt_config.specs.Tables.{activation_of, enable_of}
use Rattle.tt_config.proofs.tables.mode_of_entries.Given as goal

-- the activations and the enables so far
abbrev pub invariant-loop-entry : goal.invariant-loop-entry
invariant-loop-entry l = record {
  activations : l.activations.items ≡ flat_map activation_of (take l.entry-index l.entries);
  enables : l.enables.items ≡ flat_map enable_of (take l.entry-index l.entries);
}
