use Rattle.std.proofs.Common.{List, ℕ, ap, ◌∙◌, subst}
use Rattle.std.specs.Prelude.{nat_lt, slice_get}
use Rattle.std.specs.List.Sorted.{IsPermutation}
use Rattle.std.proofs.lemmas.Iterator.Adapters.{option_map_id}
use Rattle.tt_world.specs.declared.config.ModeDef.{ModeDef}
use Rattle.tt_world.specs.Points.{offsets_in}
use Rattle.round_table.specs.Cuts.{IsCut}
use Rattle.round_table.proofs.Leasts.{least_at}
use Rattle.round_table.proofs.checks.Monitor.least_from.Goals as goal

pub returns : goal.returns
returns c =
    let offsets = c.self.inside.offsets.items in
    let place = c.before-2.result in
    c.offset_at.ensures ∙ option_map_id _ ∙ ap (λ xs. slice_get xs place) c.deref.ensures.value
    ∙ least_at c.args.from (offsets_in c.args.self.now) offsets place
    (subst (λ (m : ModeDef). IsPermutation (offsets_in m) offsets) c.self.view_is c.self.invariant.all)
    c.self.invariant.ascending
    (subst (λ (xs : List ℕ). IsCut (λ x. nat_lt x c.args.from) xs place) c.deref-2.ensures.value c.before-2.ensures)
