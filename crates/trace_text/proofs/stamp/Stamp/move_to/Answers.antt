-- The last two digits are changed in place.
use Rattle.std.proofs.Common.{rules, arith}
use Rattle.trace_text.proofs.Digits.{moved}
use Rattle.trace_text.proofs.stamp.Stamp.move_to.Goals as goal

pub overflow_sub-self : goal.overflow_sub-self
overflow_sub-self c =
    (moved c.self.inside.text c.self.inside.len c.self.inside.at c.self.inside.hundreds c.args.at
    (search rules) c.self.invariant (omega arith) (omega arith) (omega arith) (omega arith)).0

pub overflow_sub-self-then-at-self-lt100 : goal.overflow_sub-self-then-at-self-lt100
overflow_sub-self-then-at-self-lt100 c =
    let two = (moved c.self.inside.text c.self.inside.len c.self.inside.at c.self.inside.hundreds c.args.at
    (search rules) c.self.invariant (omega arith) (omega arith) (omega arith) (omega arith)).0 in
    omega (arith, two)

pub invariant_of-self : goal.invariant_of-self
invariant_of-self c =
    (moved c.self.inside.text c.self.inside.len c.self.inside.at c.self.inside.hundreds c.args.at
    (search rules) c.self.invariant (omega arith) (omega arith) (omega arith) (omega arith)).1
