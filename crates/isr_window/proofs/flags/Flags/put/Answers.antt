use Rattle.std.proofs.Common.{◌<◌, ◌≤◌, length, sym, ap, ◌∙◌, arith, set}
use Rattle.std.proofs.lemmas.List.{length-take-le}
use Rattle.std.proofs.Math.Seq.{take-set-lt}
use Rattle.isr_window.proofs.Counted.{set_in_put}
use Rattle.isr_window.proofs.flags.Flags.put.Goals as goal

pub invariant_of-self : goal.invariant_of-self
invariant_of-self c =
    let flags = c.self.inside.flags in
    let len = c.self.inside.len in
    let few : len ≤ length flags = omega arith in
    let here : c.args.number < len = rw (sym (length-take-le len flags few), c.self.view_is) c.requires in
    record {
      few = c.self.invariant.few;
      counted =
          omega (
            arith,
            set_in_put flags len c.args.number c.args.value here few,
            c.from.ensures,
            c.from-2.ensures,
            c.self.invariant.counted,
          );
    }

pub returns : goal.returns
returns c =
    let flags = c.self.inside.flags in
    let len = c.self.inside.len in
    let few : len ≤ length flags = omega arith in
    let here : c.args.number < len = rw (sym (length-take-le len flags few), c.self.view_is) c.requires in
    take-set-lt len flags c.args.number c.args.value here
    ∙ ap (λ fs. set fs c.args.number c.args.value) c.self.view_is
