use Rattle.std.proofs.Common.{◌≡◌, drop}
use Rattle.std.specs.List.{list_all}
use Rattle.tt_base.specs.Name.{is_name_byte}
use Rattle.tt_base.proofs.name.is_rest_of_name.Given as goal

-- the bytes that are left decide
abbrev pub invariant-loop-byte : goal.invariant-loop-byte
invariant-loop-byte l = list_all is_name_byte (drop l.byte-index l.rest) ≡ list_all is_name_byte l.rest
