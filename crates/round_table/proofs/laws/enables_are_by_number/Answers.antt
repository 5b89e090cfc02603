use Rattle.std.proofs.Common.{◌≡◌, ◌<◌, Bool, get_or, ⊎_elim, arith}
use Rattle.std.specs.Prelude.{◌==◌, filter}
use Rattle.std.proofs.lemmas.Bool.{eqb-true}
use Rattle.std.proofs.lemmas.List.Elements.{filter_passes}
use Rattle.std.proofs.lemmas.List.Kept.{AllPairs-filter}
use Rattle.tt_world.specs.declared.config.Enable.{Enable}
use Rattle.round_table.proofs.RowOrder.{IsBefore, before_cases, enable_pairs, increases}
use Rattle.round_table.proofs.laws.enables_are_by_number.Goals as goal

pub returns : goal.returns
returns _ c mode rules offset =
    let at : Enable → Bool = λ row. row.offset == offset in
    let here = filter_passes at mode.enables in
    increases (λ (row : Enable). row.isr.0) (λ row later. row.isr.0 < later.isr.0)
    (record { offset = 0; isr = record { 0 = 0 } }) (filter at mode.enables) (λ row later less. less)
    (λ i j d lt l.
    let one = eqb-true _ offset (here i d (omega arith)) in
    let other = eqb-true _ offset (here j d l) in
    ⊎_elim (λ (less : (get_or (filter at mode.enables) i d).offset < (get_or (filter at mode.enables) j d).offset).
    absurd (omega arith))
    (λ (tied : ((get_or (filter at mode.enables) i d).offset ≡ (get_or (filter at mode.enables) j d).offset)
    × ((get_or (filter at mode.enables) i d).isr.0 < (get_or (filter at mode.enables) j d).isr.0)). tied.1)
    (before_cases _ _ (AllPairs-filter IsBefore at mode.enables
    (enable_pairs mode.enables rules.enables_ascending) i j d lt l)))
