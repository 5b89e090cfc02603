use Rattle.std.proofs.Common.{◌≡◌, ◌-◌, ◌/◌, ap, sym, ◌∙◌, length, rules}
use Rattle.std.specs.Int.{from_le_bytes, leading_zeros, w128}
use Rattle.tt_base.specs.Name.{name_in, number_of_name}
use Rattle.tt_base.proofs.NameLength.{length_is}
use Rattle.tt_base.proofs.name.Name.len.Goals as goal

pub returns-clause-value : goal.returns-clause-value
unfolding number_of_name
returns-clause-value c =
    let number : c.from_le_bytes.result ≡ number_of_name (name_in c.self.inside.bytes) =
    search (rules, c.from_le_bytes.ensures) ∙ ap (from_le_bytes w128) (sym c.self.invariant.whole) in
    ap (λ n. 16 - leading_zeros w128 n / 8) number
    ∙ length_is (name_in c.self.inside.bytes) c.self.invariant.named ∙ ap length c.self.view_is
