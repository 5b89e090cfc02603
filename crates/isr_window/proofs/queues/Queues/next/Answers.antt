use Rattle.std.proofs.Common.{ℕ, ◌<◌, List, [], length, get_or, ap, sym, ◌∙◌, subst}
use Rattle.std.specs.Prelude.{slice_get}
use Rattle.std.proofs.lemmas.List.{get_or_default}
use Rattle.isr_window.proofs.Taken.{next_untaken, length_untaken}
use Rattle.isr_window.proofs.queues.Queues.next.Goals as goal

pub returns : goal.returns
returns c =
    let number = c.args.number in
    let lists = c.self.inside.lists in
    let taken = get_or c.self.inside.taken number 0 in
    let below : number < length lists =
    subst (λ n. number < n) (ap length (sym c.self.view_is) ∙ length_untaken c.self.inside.taken lists) c.requires in
    c.tick_at.ensures
    ∙ ap (λ (xs : List ℕ). slice_get xs taken)
    (c.as_slice-ticks.ensures ∙ c.index-as_slice-number.is
    ∙ ap (λ (all : List (List ℕ)). get_or all number c.index-as_slice-number.result) c.as_slice.ensures
    ∙ get_or_default lists number c.index-as_slice-number.result [] below)
    ∙ sym (next_untaken c.self.inside.taken lists number)
    ∙ ap (λ (all : List (List ℕ)). slice_get (get_or all number []) 0) c.self.view_is
